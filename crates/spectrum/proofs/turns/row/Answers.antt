-- `spectrum::turns::row` meets its contract: the offsets from the cosine and the sine. Assumes nothing.
use mathlib.Core.Path.{◌≡◌}
use mathlib.Core.List.{[], ◌∷◌}
use Prim.Native.Nat.{ℕ, ◌+◌, ◌-◌, ◌*◌, ◌/◌, ◌^◌}
use native.Mathlib.Omega.{arith}
use Rattle.spectrum.specs.Table.{entry}
use Rattle.spectrum.specs.Words.{row_of}
use Rattle.spectrum.proofs.turns.row.Goals as goal

-- a row is made of its cosine and its sine
made : (j c s : ℕ) → c ≡ 8 * entry j → s ≡ 8 * entry (32 - j)
    → (c ∷ s ∷ (2 ^ 62 - (c / 8 + s / 8)) ∷ (2 ^ 62 + s / 8 - c / 8) ∷ []) ≡ row_of j
unfolding row_of
made j c s p q =
    let cosine : c / 8 ≡ entry j = omega arith in
    let sine : s / 8 ≡ entry (32 - j) = omega arith in
    rw (cosine, sine, p, q)

pub returns : goal.returns
returns c = made c.args.j c.cosine-c.result c.cosine-s.result c.cosine-c.ensures c.cosine-s.ensures
