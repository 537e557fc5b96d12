-- The sign of a float decides which of P and N is its size. Assumes nothing.
use mathlib.Core.Path.{◌≡◌, refl, ap, subst}
use mathlib.Core.Logic.{◌⊎◌, inl, inr}
use mathlib.Core.Bool.{Bool, true, false, cond}
use Prim.Native.Nat.{ℕ, ◌+◌, ◌<◌}
use native.Mathlib.Omega.{arith}
use lib.Ieee.{Float}
use Rattle.units.specs.Units.{mag, negative, P, N}

-- either P is the size and N is 0, or the other way round
pub sides : (x : Float) → ((P x ≡ mag x) × (N x ≡ 0)) ⊎ ((P x ≡ 0) × (N x ≡ mag x))
sides x = go (negative x) (mag x)
  where
    go : (s : Bool) (m : ℕ) → ((cond s 0 m ≡ m) × (cond s m 0 ≡ 0)) ⊎ ((cond s 0 m ≡ 0) × (cond s m 0 ≡ m))
    go true m = inr (refl, refl)
    go false m = inl (refl, refl)

pub one_sided : (x : Float) → (P x ≡ 0) ⊎ (N x ≡ 0)
one_sided x = elim (sides x) [ inl h ↦ inr h.1 | inr h ↦ inl h.0 ]

pub size-sum : (x : Float) → P x + N x ≡ mag x
size-sum x = elim (sides x) [ inl h ↦ omega arith | inr h ↦ omega arith ]

pub plus_of_lem : (x : Float) → negative x ≡ false → P x ≡ mag x
plus_of_lem x e = ap (λ (s : Bool). cond s 0 (mag x)) e

pub minus_of_lem : (x : Float) → negative x ≡ false → N x ≡ 0
minus_of_lem x e = ap (λ (s : Bool). cond s (mag x) 0) e

-- a float that is not zero and has nothing below zero carries the sign +
pub sign_plus : (x : Float) → N x ≡ 0 → 0 < mag x → negative x ≡ false
sign_plus x e h = go (negative x) (mag x) e h
  where
    go : (s : Bool) (m : ℕ) → cond s m 0 ≡ 0 → 0 < m → s ≡ false
    go true m e h = absurd (let k : 0 < 0 = subst (λ (n : ℕ). 0 < n) e h in omega arith)
    go false m e h = refl

-- two floats that are one number, and not zero, have one sign and one size
pub one_side : (x y : Float) → P x + N y ≡ P y + N x → 0 < mag x → (negative x ≡ negative y) × (mag x ≡ mag y)
one_side x y e h = go (negative x) (negative y) (mag x) (mag y) e h
  where
    go : (s t : Bool) (m n : ℕ) → cond s 0 m + cond t n 0 ≡ cond t 0 n + cond s m 0 → 0 < m → (s ≡ t) × (m ≡ n)
    go false false m n e h = (refl, omega arith)
    go true true m n e h = (refl, omega arith)
    go false true m n e h = absurd (omega arith)
    go true false m n e h = absurd (omega arith)
