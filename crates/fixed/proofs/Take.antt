-- Taking a float above zero apart by its bit pattern: from 2 ^ 23 on the pattern holds the exponent and the digits, below it the pattern is the number of units.
-- Assumes nothing.
use mathlib.Core.Path.{◌≡◌, refl, sym, ap, ◌∙◌, subst, subst₂}
use mathlib.Core.Logic.{◌⊎◌, inl, inr}
use mathlib.Core.Bool.{Bool, true, false, not, true≢false}
use Prim.Native.Nat.{ℕ, suc, ◌+◌, ◌-◌, ◌*◌, ◌/◌, ◌%◌, ◌^◌, ◌≤◌, ◌<◌}
use native.Mathlib.Nat.{le_trans, le_of_eq, zero-add, lt_of_le_of_lt, lt_of_lt_of_le, not-le_of_lt, mul_assoc, mul_comm, mul-div_cancel, le_of_mul-le-mul_right, lt_of_mul-lt-mul_right, mod-eq_of_lt, mul-le-mul_right, mul-lt-mul_of_pos_right}
use native.Mathlib.Omega.{arith}
use lib.Dec.{T}
use lib.Pow.{pow-add, pow_pos, pow_mono}
use lib.Count.{count_leading_zeros, leading_top}
use lib.Ieee.{Float, nan, inf, fin, binary32, is_nan, ne, to_bits, size}
use lib.Ieee.Compare.{differs_from_itself, nan_differs}
use lib.Ieee.Digits.{size-lt, size-le}
use Rattle.units.specs.Units.{mag, negative, Number}
use Rattle.units.proofs.Naturals.{le-or-lt, pow_back_lt}
use Rattle.units.proofs.Size.{mag-lt}
use Rattle.units.proofs.Bits.{sign_bit, pattern_subnormal, pattern_normal}
use Rattle.units.specs.Units.{Positive}
use Rattle.fixed.specs.Parts.{Apart, exponent, significand}

pub no_nan : (x : Float) → Number x → T (not (is_nan x))
unfolding is_nan
no_nan nan h = absurd h.is_finite
no_nan (inf s) h = absurd h.is_finite
no_nan (fin s m e) h = tt

-- what equals itself is no NaN, and what differs from itself no number
pub equal_to_itself : (x : Float) → ne x x ≡ false → T (not (is_nan x))
unfolding is_nan
equal_to_itself nan e = true≢false (sym nan_differs ∙ e)
equal_to_itself (inf s) e = tt
equal_to_itself (fin s m k) e = tt

pub no_number : (x : Float) → ne x x ≡ true → ¬ Number x
no_number x e h = (subst Number (differs_from_itself x (subst T (sym e) tt)) h).is_finite

-- what `is_nan` tells is the one NaN, and no number
pub the_nan : (x : Float) → is_nan x ≡ true → x ≡ nan
unfolding is_nan
the_nan nan e = refl
the_nan (inf s) e = absurd (true≢false (sym e))
the_nan (fin s m k) e = absurd (true≢false (sym e))

pub nan_is_none : (x : Float) → is_nan x ≡ true → ¬ Number x
nan_is_none x e h = (subst Number (the_nan x e) h).is_finite

-- ---- below 2 ^ 23: the digits are shifted up to the 24th place
module _ (b : ℕ) (above : 0 < b) (low : b < 2 ^ 23) where
  abbrev shift : ℕ
  shift = count_leading_zeros 32 b - 8

  -- b has j + 1 digits, and is shifted by 23 - j
  place : (j : ℕ) × (j + shift ≡ 23) × (2 ^ j ≤ b) × (b < 2 ^ suc j) × (8 ≤ count_leading_zeros 32 b)
  place =
      let (j, e, l, h) = leading_top 32 b above (lt_of_lt_of_le low (pow_mono {i = 23} {j = 32} (omega arith))) in
      let j<23 : j < 23 = pow_back_lt j 23 (lt_of_le_of_lt l low) in
      (j, omega arith, l, h, omega arith)

  leading : 8 ≤ count_leading_zeros 32 b
  leading = place.4

  shift_small : shift ≤ 23
  shift_small = let (j, e, l, h, z) = place in omega arith

  shifted_least : 2 ^ 23 ≤ b * 2 ^ shift
  shifted_least = let (j, e, l, h, z) = place in le_trans (le_of_eq (ap (λ (n : ℕ). 2 ^ n) (sym e) ∙ pow-add 2 j shift)) (mul-le-mul_right (2 ^ shift) l)

  shifted_digits : b * 2 ^ shift < 2 ^ 24
  shifted_digits =
      let (j, e, l, h, z) = place in
      let c : suc j + shift ≡ 24 = omega arith in
      lt_of_lt_of_le (mul-lt-mul_of_pos_right h (pow_pos shift)) (le_of_eq (sym (pow-add 2 (suc j) shift) ∙ ap (λ (n : ℕ). 2 ^ n) c))

  apart_units : (x : Float) → mag x ≡ b → Apart x (b * 2 ^ shift % 4294967296) (24 - shift)
  apart_units x u =
      let small = shift_small in
      let whole : b * 2 ^ shift % 4294967296 ≡ b * 2 ^ shift = mod-eq_of_lt (lt_of_lt_of_le shifted_digits (pow_mono {i = 24} {j = 32} (omega arith))) in
      let e : 24 ≡ shift + (24 - shift) = omega arith in
      subst (λ (m : ℕ). Apart x m (24 - shift)) (sym whole)
      (record {
        same = ap (λ (n : ℕ). n * 2 ^ 24) u ∙ ap (λ (n : ℕ). b * 2 ^ n) e ∙ ap (λ (n : ℕ). b * n) (pow-add 2 shift (24 - shift)) ∙ sym (mul_assoc b (2 ^ shift) (2 ^ (24 - shift)));
        least = shifted_least;
        digits = shifted_digits;
        low = omega arith;
        high = omega arith;
      })

-- ---- the pattern of a float above zero
module _ (x : Float) (p : Positive x) where
  abbrev b : ℕ
  b = to_bits binary32 x

  plain : (n : ℕ) → sign_bit (negative x) + n ≡ n
  plain n = ap (λ (s : Bool). sign_bit s + n) p.sign ∙ zero-add n

  low_is : b < 2 ^ 23 → mag x ≡ b
  low_is h = go (le-or-lt (2 ^ 23) (mag x))
    where
      go : (2 ^ 23 ≤ mag x) ⊎ (mag x < 2 ^ 23) → mag x ≡ b
      go (inl l) =
          let t = pattern_normal x p.number l in
          let e : b ≡ t.k * 8388608 + t.m = t.bits ∙ plain (t.k * 8388608 + t.m) in
          absurd (not-le_of_lt h (omega (arith, t.least)))
      go (inr l) = sym (pattern_subnormal x p.number l ∙ plain (mag x))

  units_above : b < 2 ^ 23 → 0 < b
  units_above h = lt_of_lt_of_le p.above (le_of_eq (low_is h))

  pub leading_low : b < 2 ^ 23 → 8 ≤ count_leading_zeros 32 b
  leading_low h = leading b (units_above h) h

  pub apart_low : b < 2 ^ 23 → Apart x (b * 2 ^ (count_leading_zeros 32 b - 8) % 4294967296) (24 - (count_leading_zeros 32 b - 8))
  apart_low h = apart_units b (units_above h) h x (low_is h)

  exponent_in : (k m : ℕ) → 2 ^ 23 ≤ m → m * 2 ^ k < 2 ^ 277 → k < 254
  exponent_in k m l h =
      let c : 23 + k < 277 = pow_back_lt (23 + k) 277 (lt_of_le_of_lt (le_trans (le_of_eq (pow-add 2 23 k)) (mul-le-mul_right (2 ^ k) l)) h) in
      omega arith

  pub apart_high : 2 ^ 23 ≤ b → Apart x (b % 8388608 + 8388608) (b / 8388608 + 23)
  apart_high h = go (le-or-lt (2 ^ 23) (mag x))
    where
      go : (2 ^ 23 ≤ mag x) ⊎ (mag x < 2 ^ 23) → Apart x (b % 8388608 + 8388608) (b / 8388608 + 23)
      go (inl l) =
          let t = pattern_normal x p.number l in
          let k = t.k in
          let m = t.m in
          let least : 8388608 ≤ m = t.least in
          let digits : m < 16777216 = t.digits in
          let e : b ≡ k * 8388608 + m = t.bits ∙ plain (k * 8388608 + m) in
          let q : b / 8388608 + 23 ≡ k + 24 = omega arith in
          let r : b % 8388608 + 8388608 ≡ m = omega arith in
          let kk : k < 254 = exponent_in k m least (lt_of_le_of_lt (le_of_eq (sym t.units)) (mag-lt x p.number)) in
          subst₂ (λ (a c : ℕ). Apart x a c) (sym r) (sym q)
          (record {
            same = ap (λ (n : ℕ). n * 2 ^ 24) t.units ∙ mul_assoc m (2 ^ k) (2 ^ 24) ∙ ap (λ (n : ℕ). m * n) (sym (pow-add 2 k 24));
            least = least;
            digits = digits;
            low = omega arith;
            high = omega arith;
          })
      go (inr l) = absurd (not-le_of_lt l (le_trans h (le_of_eq (pattern_subnormal x p.number l ∙ plain (mag x)))))

-- ---- the parts of a float are its own: two ways to take it apart agree
pub unique : (x : Float) (m e : ℕ) → Apart x m e → (e ≡ exponent x) × (m ≡ significand x)
unfolding exponent significand
unique x m e a = (is_size, sym (ap (λ (n : ℕ). n / 2 ^ size (mag x)) a.same ∙ ap (λ (n : ℕ). m * 2 ^ e / 2 ^ n) (sym is_size) ∙ mul-div_cancel m (pow_pos e)))
  where
    upper : mag x < 2 ^ e
    upper = lt_of_mul-lt-mul_right (2 ^ 24) (lt_of_le_of_lt (le_of_eq a.same) (lt_of_lt_of_le (mul-lt-mul_of_pos_right a.digits (pow_pos e)) (le_of_eq (mul_comm (2 ^ 24) (2 ^ e)))))

    lower : 2 ^ (e - 1) ≤ mag x
    lower =
        let l = a.low in
        let c : 23 + e ≡ e - 1 + 24 = omega arith in
        le_of_mul-le-mul_right
        (le_trans (le_of_eq (sym (pow-add 2 (e - 1) 24) ∙ ap (λ (n : ℕ). 2 ^ n) (sym c) ∙ pow-add 2 23 e)) (le_trans (mul-le-mul_right (2 ^ e) a.least) (le_of_eq (sym a.same))))
        (pow_pos 24)

    is_size : e ≡ size (mag x)
    is_size =
        let l = a.low in
        let h : size (mag x) ≤ e = size-le (mag x) e upper in
        let k : e - 1 < size (mag x) = pow_back_lt (e - 1) (size (mag x)) (lt_of_le_of_lt lower (size-lt (mag x))) in
        omega arith

-- every float above zero is its significand times a power of two
pub own : (x : Float) → Positive x → Apart x (significand x) (exponent x)
own x p = go (le-or-lt (2 ^ 23) (to_bits binary32 x))
  where
    by : (m e : ℕ) → Apart x m e → Apart x (significand x) (exponent x)
    by m e a = let (f, d) = unique x m e a in subst₂ (λ (n k : ℕ). Apart x n k) d f a

    go : (2 ^ 23 ≤ to_bits binary32 x) ⊎ (to_bits binary32 x < 2 ^ 23) → Apart x (significand x) (exponent x)
    go (inl h) = by _ _ (apart_high x p h)
    go (inr h) = by _ _ (apart_low x p h)
