-- The table's entries: none is above 1, and no cosine and sine together are above 3 / 2. Computed tests.
use mathlib.Core.Path.{◌≡◌, ap}
use mathlib.Core.Bool.{Bool}
use mathlib.Core.List.{List, [], ◌∷◌}
use Prim.Native.Nat.{ℕ, ◌+◌, ◌-◌, ◌*◌, ◌≤◌}
use native.Mathlib.Omega.{arith}
use lib.Dec.{T, leb, leb→le}
use Rattle.spectrum.specs.Table.{unit, entry}
use lib.ListN.{get_or}
use Rattle.spectrum.specs.Words.{row_of}
use Rattle.spectrum.proofs.Tests.{all, at}

small : ℕ → Bool
small j = leb (2 * (entry j + entry (32 - j))) (3 * unit)

tests : T (all 33 small)
unfolding all small entry
tests = tt

little : ℕ → Bool
little j = leb (entry j) unit

each : T (all 33 little)
unfolding all little entry
each = tt

-- the cosine and the sine of j / 128 turns, j up to 32
pub entries_most : (j : ℕ) → j ≤ 32 → 2 * (entry j + entry (32 - j)) ≤ 3 * unit
unfolding small
entries_most j l = leb→le _ _ (at 33 small tests j (omega arith))

-- and each of them
pub entry_most : (j : ℕ) → j ≤ 32 → entry j ≤ unit
unfolding little
entry_most j l = leb→le _ _ (at 33 little each j (omega arith))

-- the four numbers of a row
pub record Row (j c s z y : ℕ) : Type 0 where
  pub cosine : c ≡ 8 * entry j
  pub sine : s ≡ 8 * entry (32 - j)
  pub both : z + (entry j + entry (32 - j)) ≡ 2 * unit
  pub other : y + entry j ≡ 2 * unit + entry (32 - j)

pub row : {j c s z y : ℕ} → j ≤ 32 → (c ∷ s ∷ z ∷ y ∷ []) ≡ row_of j → Row j c s z y
unfolding row_of
row {j} l e = record {
  cosine = ap (λ (r : List ℕ). get_or r 0 0) e;
  sine = ap (λ (r : List ℕ). get_or r 1 0) e;
  both = omega (arith, ap (λ (r : List ℕ). get_or r 2 0) e, entries_most j l);
  other = omega (arith, ap (λ (r : List ℕ). get_or r 3 0) e, entry_most j l);
}
