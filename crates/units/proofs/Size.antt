-- A finite f32 is a whole number of units: `mag` divides without a remainder, so it is the size of the float and not a size rounded down.
use mathlib.Core.Path.{◌≡◌, sym, ap, ◌∙◌}
use Prim.Native.Nat.{ℕ, zero, suc, ◌+◌, ◌-◌, ◌*◌, ◌/◌, ◌%◌, ◌^◌, ◌≤◌, ◌<◌}
use native.Mathlib.Nat.{lt_irrefl, zero-mul, zero-div, mul-one, mul_comm, mul_assoc, mul_right_comm, mul-lt-mul_of_pos_right, sub-add_cancel, div-eq_of_eq-mul_left, div-lt_iff_lt-mul}
use mathlib.Core.Bool.{Bool, not, ◌&&◌}
use lib.IntN.{ℤ, pos, negsuc}
use lib.Dec.{T, leb, ltb, eqb, leb→le, ltb→lt}
use lib.Pow.{pow-add, pow_pos}
use lib.Ieee.{Float, nan, inf, fin, up, down, binary32, fits, is_nan}
use lib.Ieee.Fits.{down_pos, and_l, and_r}
use lib.Ieee.Exact.{HasValue}
use lib.Ieee.Scale.{finite}
use Rattle.units.specs.Units.{mag, negative, Number}
use Rattle.units.proofs.Naturals.{pow_back}

-- ---- what fitting says of a number that is not zero
module _ (s : Bool) (m : ℕ) (e : ℤ) (f : T (fits binary32 (fin s (suc m) e))) where
  digits : suc m < 2 ^ 24
  unfolding fits
  digits =
      let a = eqb (suc m % 2) 1 in
      let b = ltb (suc m) (2 ^ 24) in
      let c = leb (down e) (2 ^ 149) in
      ltb→lt (suc m) (2 ^ 24) (and_r a b (and_l (a && b) c (and_l (a && b && c) (ltb (suc m * up e) (2 ^ 128 * down e)) f)))

  fine : down e ≤ 2 ^ 149
  unfolding fits
  fine =
      let a = eqb (suc m % 2) 1 && ltb (suc m) (2 ^ 24) in
      let c = leb (down e) (2 ^ 149) in
      leb→le (down e) (2 ^ 149) (and_r a c (and_l (a && c) (ltb (suc m * up e) (2 ^ 128 * down e)) f))

  bounded : suc m * up e < 2 ^ 128 * down e
  unfolding fits
  bounded =
      let a = eqb (suc m % 2) 1 && ltb (suc m) (2 ^ 24) && leb (down e) (2 ^ 149) in
      ltb→lt (suc m * up e) (2 ^ 128 * down e) (and_r a (ltb (suc m * up e) (2 ^ 128 * down e)) f)

-- ---- 2 ^ e is a whole number of units where it is one unit at least
-- how many digits a float with this exponent has below its significand, counted from the unit
abbrev pub place : ℤ → ℕ
place (pos k) = k + 149
place (negsuc k) = 149 - suc k

place_is : (e : ℤ) → down e ≤ 2 ^ 149 → up e * 2 ^ 149 ≡ 2 ^ place e * down e
place_is (pos k) h = sym (pow-add 2 k 149) ∙ sym (mul-one (2 ^ (k + 149)))
place_is (negsuc k) h =
    mul_comm 1 (2 ^ 149) ∙ mul-one (2 ^ 149) ∙ ap (λ (x : ℕ). 2 ^ x) (sym (sub-add_cancel (pow_back (suc k) 149 h))) ∙ pow-add 2 (149 - suc k) (suc k)

whole : (m : ℕ) (e : ℤ) → down e ≤ 2 ^ 149 → m * up e * 2 ^ 149 ≡ m * 2 ^ place e * down e
whole m e h = mul_assoc m (up e) (2 ^ 149) ∙ ap (λ (x : ℕ). m * x) (place_is e h) ∙ sym (mul_assoc m (2 ^ place e) (down e))

-- a size as digits and a power of two: a finite f32 that fits is m * 2 ^ place e units
pub mag_place : (s : Bool) (m : ℕ) (e : ℤ) → T (fits binary32 (fin s m e)) → mag (fin s m e) ≡ m * 2 ^ place e
unfolding mag
mag_place s zero e f = none
  where
    none : 0 * up e * 2 ^ 149 / down e ≡ 0 * 2 ^ place e
    none = simp (zero-mul, zero-div)
mag_place s (suc m) e f = div-eq_of_eq-mul_left (down_pos e) (whole (suc m) e (fine s m e f))

-- the division in `mag` has no remainder
pub mag_exact : (s : Bool) (m : ℕ) (e : ℤ) → T (fits binary32 (fin s m e)) → mag (fin s m e) * down e ≡ m * up e * 2 ^ 149
mag_exact s zero e f = rw mag_place (simp zero-mul)
mag_exact s (suc m) e f = rw mag_place (sym (whole (suc m) e (fine s m e f)))

-- a float that is a units of 2 ^ -149 with the sign s has the size a and the sign s
pub value-mag : (x : Float) (s : Bool) (a : ℕ) → HasValue x s a (2 ^ 149) → (mag x ≡ a) × (negative x ≡ s)
unfolding mag negative
value-mag nan s a h = absurd h
value-mag (inf t) s a h = absurd h
value-mag (fin t m e) s a h = (div-eq_of_eq-mul_left (down_pos e) h.1, h.0)

under : (s : Bool) (m : ℕ) (e : ℤ) → m * up e < 2 ^ 128 * down e → mag (fin s m e) < 2 ^ 277
unfolding mag
under s m e h = (div-lt_iff_lt-mul (down_pos e)).1 (rw (← mul_right_comm (2 ^ 128) (down e) (2 ^ 149)) (mul-lt-mul_of_pos_right h (pow_pos 149)))

-- a finite f32 is below 2 ^ 277 units, the size that an infinity counts as
pub mag-lt : (x : Float) → Number x → mag x < 2 ^ 277
mag-lt nan n = absurd n.is_finite
mag-lt (inf s) n = absurd n.is_finite
mag-lt (fin s zero e) n = rw (mag_place s zero e n.fits32, zero-mul) (pow_pos 277)
mag-lt (fin s (suc m) e) n = under s (suc m) e (bounded s m e n.fits32)

-- a finite f32 has at most 24 binary digits, wherever they stand
pub mag_digits : (x : Float) → Number x → (q : ℕ) × (j : ℕ) × (q < 2 ^ 24) × (mag x ≡ q * 2 ^ j)
mag_digits nan n = absurd n.is_finite
mag_digits (inf s) n = absurd n.is_finite
mag_digits (fin s zero e) n = (0, place e, pow_pos 24, mag_place s zero e n.fits32)
mag_digits (fin s (suc m) e) n = (suc m, place e, digits s m e n.fits32, mag_place s (suc m) e n.fits32)

-- of the floats that are no NaN, the ones below 2 ^ 277 units are the finite ones
pub finite_of_mag : (x : Float) → T (fits binary32 x) → T (not (is_nan x)) → mag x < 2 ^ 277 → Number x
unfolding mag is_nan
finite_of_mag nan f t h = absurd t
finite_of_mag (inf s) f t h = absurd (lt_irrefl (2 ^ 277) h)
finite_of_mag (fin s m e) f t h = record { fits32 = f; is_finite = tt }

-- what is finite is no NaN
pub finite_real : (x : Float) → T (finite x) → T (not (is_nan x))
unfolding is_nan
finite_real nan t = t
finite_real (inf s) t = tt
finite_real (fin s m e) t = tt
