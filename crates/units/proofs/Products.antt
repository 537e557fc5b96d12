-- Products of f32. The exact product is a whole number of units of 2 ^ -298, so below the normal range digits are lost: the standard model has half a unit of 2 ^ -149 besides.
use mathlib.Core.Path.{◌≡◌, sym, ap₂, ◌∙◌}
use Prim.Native.Nat.{ℕ, ◌+◌, ◌*◌, ◌^◌}
use native.Mathlib.Nat.{mul_assoc, mul-pos, mul-mul-mul_comm}
use native.Mathlib.Omega.{arith}
use mathlib.Core.Bool.{Bool, true, false, cond}
use lib.Dec.{T, eqb}
use lib.Pow.{pow_pos}
use lib.Ieee.{Float, nan, inf, fin, unlike, up, down, binary32, mul}
use lib.Ieee.Fits.{down_pos}
use lib.Ieee.Scale.{finite}
use Rattle.units.specs.Units.{mag, negative, P, N, Number}
use Rattle.units.proofs.Near.{Near}
use Rattle.units.proofs.Size.{mag_exact}
use Rattle.units.proofs.Result.{Rounds, rounds_of, rounds_near}

-- the size of the product, on the side of its sign
sides : (s t : Bool) (x y : ℕ)
    → cond s 0 x * cond t 0 y + cond s x 0 * cond t y 0 + cond (unlike s t) (x * y) 0 ≡ cond (unlike s t) 0 (x * y) + (cond s 0 x * cond t y 0 + cond s x 0 * cond t 0 y)
sides false false x y = omega arith
sides false true x y = omega arith
sides true false x y = omega arith
sides true true x y = omega arith

-- the product of two finite floats, as an exact number rounded
pub mul_rounds : (x y : Float) → Number x → Number y → Rounds (mul binary32 x y) (P x * P y + N x * N y) (P x * N y + N x * P y) (2 ^ 149)
unfolding mul negative
mul_rounds nan y h k = absurd h.is_finite
mul_rounds (inf s) y h k = absurd h.is_finite
mul_rounds (fin s m e) nan h k = absurd k.is_finite
mul_rounds (fin s m e) (inf t) h k = absurd k.is_finite
mul_rounds (fin s m e) (fin t n d) h k =
    let x = mag (fin s m e) in
    let y = mag (fin t n d) in
    rounds_of (unlike s t) (m * up e * (n * up d)) (down e * down d) (cond s 0 x * cond t 0 y + cond s x 0 * cond t y 0) (cond s 0 x * cond t y 0 + cond s x 0 * cond t 0 y) (2 ^ 149) (x * y)
    (mul-pos (down_pos e) (down_pos d)) (pow_pos 149) (cross (m * up e) (n * up d) (down e) (down d) x y (2 ^ 149) (mag_exact s m e h.fits32) (mag_exact t n d k.fits32)) (sides s t x y)
  where
    cross : (a b p q x y u : ℕ) → x * p ≡ a * u → y * q ≡ b * u → a * b * u * u ≡ x * y * (p * q)
    cross a b p q x y u f g = mul_assoc (a * b) u u ∙ mul-mul-mul_comm a b u u ∙ ap₂ (λ (v w : ℕ). v * w) (sym f) (sym g) ∙ mul-mul-mul_comm x p y q

neither : (b s : Bool) → T (finite (cond b nan (inf s))) → ⊥
neither true s h = h
neither false s h = h

-- a product is finite only where both of its factors are
pub mul_operands : (x y : Float) → T (finite (mul binary32 x y)) → T (finite x) × T (finite y)
unfolding mul
mul_operands nan y t = absurd t
mul_operands (inf s) nan t = absurd t
mul_operands (inf s) (inf u) t = absurd t
mul_operands (inf s) (fin u n d) t = absurd (neither (eqb n 0) (unlike s u) t)
mul_operands (fin s m e) nan t = absurd t
mul_operands (fin s m e) (inf u) t = absurd (neither (eqb m 0) (unlike s u) t)
mul_operands (fin s m e) (fin u n d) t = (tt, tt)

-- ---- the standard model
-- a finite product is at most one part in 2 ^ 24 of the exact one off, and half a unit, which is 2 ^ 148 of the exact product's units
pub mul_near : (x y : Float) → Number x → Number y → T (finite (mul binary32 x y))
    → Near ((P (mul binary32 x y) * 2 ^ 149 + (P x * N y + N x * P y)) * 2 ^ 24) ((N (mul binary32 x y) * 2 ^ 149 + (P x * P y + N x * N y)) * 2 ^ 24) (mag x * mag y + 2 ^ 172)
mul_near x y h k t =
    rounds_near (mul binary32 x y) (P x * P y + N x * N y) (P x * N y + N x * P y) (2 ^ 149) (mag x * mag y) (pow_pos 149) (mul_rounds x y h k) t (whole (negative x) (negative y) (mag x) (mag y))
  where
    whole : (s u : Bool) (a b : ℕ) → Near (cond s 0 a * cond u 0 b + cond s a 0 * cond u b 0) (cond s 0 a * cond u b 0 + cond s a 0 * cond u 0 b) (a * b)
    whole false false a b = omega arith
    whole false true a b = omega arith
    whole true false a b = omega arith
    whole true true a b = omega arith

-- ---- order, infinite results included
