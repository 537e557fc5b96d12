-- Samples by their patterns. Assumes nothing.
use mathlib.Core.Path.{◌≡◌, sym}
use mathlib.Core.Logic.{inl, inr}
use mathlib.Core.List.{List}
use Prim.Native.Nat.{ℕ, ◌^◌, ◌≤◌, ◌<◌}
use native.Mathlib.Nat.{le_trans, le_of_eq, lt_of_lt_of_le}
use native.Mathlib.Omega.{arith}
use lib.Dec.{T, lit<}
use lib.Ieee.{Float, binary32, fits}
use Rattle.units.proofs.Naturals.{le-or-lt}
use Rattle.units.proofs.Patterns.{finite_below}
use Rattle.spectrum.specs.Transform.{at}
use Rattle.spectrum.specs.Floats.{digits_in, place_in, size_in, size_bits, Largest}
use Rattle.spectrum.proofs.Sizes.{size_of, size_mono}
use Rattle.path.specs.Path.{Sample, Samples}
use Rattle.path.specs.Ready.{Small, AllSmall}
use Rattle.path.proofs.Products.{small_size}

past_one : 2 ^ 149 < size_in 1065353217
unfolding digits_in place_in
past_one = lit< tt

pub small_of : (x : Float) → Sample x → Small x
small_of x h = record { number = h.number; bits = elim (le-or-lt (size_bits x) 1065353216) [ inl l ↦ l | inr l ↦ absurd (wrong (lt_of_lt_of_le past_one (le_trans (size_mono 1065353217 (size_bits x) l) (le_of_eq (sym (size_of x h.number))))) h.small) ] }
  where
    wrong : {a b : ℕ} → a < b → b ≤ a → ⊥
    wrong p q = omega arith

pub sample_of : (x : Float) → Small x → Sample x
sample_of x h = record { number = h.number; small = small_size x h }

pub small_by : (x : Float) → T (fits binary32 x) → size_bits x ≤ 1065353216 → Small x
small_by x f l = record { number = finite_below x f (omega arith); bits = l }

-- a largest pattern above that of 1 is that of no sample
pub too_large : (xs : List Float) (m : ℕ) → Largest xs 128 m → 1065353216 < m → ¬ ((i : ℕ) → i < 128 → Sample (at xs i))
too_large xs m h l all = let (i, b, e) = h.there (λ z. omega arith) in wrong (small_of (at xs i) (all i b)).bits e
  where
    wrong : {b : ℕ} → b ≤ 1065353216 → b ≡ m → ⊥
    wrong p q = omega arith

-- all of them, by their patterns and as numbers
pub samples_of : (xs ws : List Float) → AllSmall xs ws → Samples xs ws
samples_of xs ws h = record { sound = λ i l. sample_of _ (h.samples i l); window = λ i l. sample_of _ (h.window i l) }

pub all_small : (xs ws : List Float) → Samples xs ws → AllSmall xs ws
all_small xs ws h = record { samples = λ i l. small_of _ (h.sound i l); window = λ i l. small_of _ (h.window i l) }
