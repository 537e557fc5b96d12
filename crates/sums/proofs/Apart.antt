-- |x - y| of whole numbers: what it bounds, and what bounds it. Assumes nothing.
use mathlib.Core.Path.{◌≡◌, ap}
use mathlib.Core.Logic.{inl, inr}
use Prim.Native.Nat.{ℕ, ◌+◌, ◌*◌, ◌≤◌}
use native.Mathlib.Omega.{arith}
use Rattle.units.proofs.Naturals.{le-or-lt}
use Rattle.units.proofs.Near.{Near}
use Rattle.sums.specs.Sum.{apart}

-- x and y are |x - y| apart
pub near_apart : (x y : ℕ) → Near x y (apart x y)
unfolding apart
near_apart x y = omega arith

-- and no further than any bound
pub apart_least : {x y d : ℕ} → Near x y d → apart x y ≤ d
unfolding apart
apart_least h = omega arith

-- the same where both are multiplied by w
pub apart-scaled : (x y w d : ℕ) → Near (x * w) (y * w) d → apart x y * w ≤ d
unfolding apart
apart-scaled x y w d h = elim (le-or-lt x y) [
  | inl l ↦
      let e : y ≡ x + apart x y = omega arith in
      let f : y * w ≡ (x + apart x y) * w = ap (λ (n : ℕ). n * w) e in
      omega arith
  | inr l ↦
      let e : x ≡ y + apart x y = omega arith in
      let f : x * w ≡ (y + apart x y) * w = ap (λ (n : ℕ). n * w) e in
      omega arith
]
