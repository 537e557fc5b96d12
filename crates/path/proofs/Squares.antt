-- Squares of whole numbers, and a sum of two of them with something added. Assumes nothing.
use mathlib.Core.Logic.{inl, inr}
use Prim.Native.Nat.{ℕ, suc, ◌+◌, ◌*◌, ◌≤◌, ◌<◌}
use native.Mathlib.Nat.{mul-le-mul, mul-le-mul_right}
use native.Mathlib.Omega.{arith}
use Rattle.units.proofs.Naturals.{le-or-lt}
use Rattle.spectrum.specs.Transform.{square}

pub squared : {a b : ℕ} → a ≤ b → square a ≤ square b
squared h = mul-le-mul h h

pub unsquared : (a b : ℕ) → square a ≤ square b → a ≤ b
unsquared a b h = elim (le-or-lt a b) [ inl l ↦ l | inr l ↦ absurd (larger l (mul-le-mul l l)) ]
  where
    larger : b < a → suc b * suc b ≤ a * a → ⊥
    larger l m = omega arith

-- a vector that is e longer in both parts is at most 2 e longer
pub lengthened : (x y t e : ℕ) → square x + square y ≤ square t → square (x + e) + square (y + e) ≤ square (t + 2 * e)
lengthened x y t e h = omega (arith, mul-le-mul_right e (part x y h), mul-le-mul_right e (part y x (turned h)))
  where
    turned : square x + square y ≤ square t → square y + square x ≤ square t
    turned h = omega arith

    part : (x y : ℕ) → square x + square y ≤ square t → x ≤ t
    part x y h = unsquared x t (omega arith)
