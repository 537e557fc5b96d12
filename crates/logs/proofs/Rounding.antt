-- Rounding: the pattern of the float that is made of a logarithm in fixed point, n steps of 2 ^ -54
-- from log2 1, and of 24 digits. Assumes nothing.
use Rattle.std.proofs.Common.{◌≡◌, ℕ, ◌+◌, ◌-◌, ◌*◌, ◌/◌, ◌%◌, ◌^◌, ◌<◌, ◌≤◌, Bool, true, false, cond, ltb}
use Rattle.std.proofs.Common.{sym, refl, ap, ◌∙◌, subst, inl, inr, le_trans, mul-le-mul_right}
use Rattle.std.proofs.Common.{eq-zero-or-pos, arith, lit≤, le-ltb, lt-ltb, eq-eqb, ne_eqb}
use lib.Count.{count_leading_zeros}
use lib.Ieee.{binary32, of_bits, to_bits}
use Rattle.units.proofs.Bits.{Is, sign_bit, put, no_nan}
use Rattle.units.proofs.Patterns.{pattern_back}
use Rattle.fixed.specs.Rounded.{Normal, nearest_digits}
use Rattle.fixed.proofs.Rounding as fixed
use Rattle.logs.proofs.Told.{width_most}
use Rattle.logs.specs.Value.{log_of_one, sign_of, distance_of, first_word, width_of, is_left_open}
use Rattle.logs.specs.Value.{is_above, fraction_of, settled_digits, log2_digits, rounded_bits}

-- clear from log2 1 on
pub sign_above : (w : ℕ) → log_of_one ≤ w → sign_of w ≡ 0
unfolding sign_of
sign_above w h = rw (le-ltb w log_of_one h)

-- set below
pub sign_below : (w : ℕ) → w < log_of_one → sign_of w ≡ 2147483648
unfolding sign_of
sign_below w h = rw (lt-ltb w log_of_one h)

-- ---- the sign's bit
-- one bit
pub sign_few : (w : ℕ) → sign_of w ≤ 2147483648
unfolding sign_of
sign_few w = either (ltb w log_of_one) _ _ (omega arith) (omega arith)
  where
    either : (s : Bool) (a b : ℕ) → a ≤ 2147483648 → b ≤ 2147483648 → cond s a b ≤ 2147483648
    either true a b h k = h
    either false a b h k = k

-- ---- 24 digits
abbrev pub zeros_of : ℕ → ℕ
zeros_of w = count_leading_zeros 64 (distance_of w)

abbrev pub digits_at : ℕ → ℕ → ℕ
digits_at b w = log2_digits b w (first_word (distance_of w)) (zeros_of w)

-- no more than 24, or a carry
pub digits_few : (b w u z : ℕ) → u < 4294967296 → log2_digits b w u z ≤ 2 ^ 24
unfolding log2_digits settled_digits
digits_few b w u z h =
    either (is_left_open u (width_of z))
    (u / 256 + cond (ltb w log_of_one) (cond (is_above b (fraction_of w u z)) 0 1)
    (cond (is_above b (fraction_of w u z)) 1 0))
    ((u / 128 + 1) / 2) (one (ltb w log_of_one) (is_above b (fraction_of w u z))) (omega arith)
  where
    either : (o : Bool) (x y : ℕ) → x ≤ 2 ^ 24 → y ≤ 2 ^ 24 → cond o x y ≤ 2 ^ 24
    either true x y k l = k
    either false x y k l = l

    one : (s k : Bool) → u / 256 + cond s (cond k 0 1) (cond k 1 0) ≤ 2 ^ 24
    one true true = omega arith
    one true false = omega arith
    one false true = omega arith
    one false false = omega arith

-- the first word is one
pub first_fits : (n : ℕ) → 0 < n → n < 2 ^ 64 → first_word n < 4294967296
unfolding first_word
first_fits n pos h = let p = fixed.placed n pos h in omega (arith, p.high)

-- ---- the pattern
module _ (b w : ℕ) where
  -- of log2 1
  pub none_bits : distance_of w ≡ 0 → rounded_bits b w ≡ 0
  unfolding rounded_bits
  none_bits h = rw (eq-eqb (distance_of w) 0 h) refl

  module _ (pos : 0 < distance_of w) where
    -- of any other
    pub some_bits : rounded_bits b w ≡ sign_bit (ltb w log_of_one) + ((135 - zeros_of w) * 8388608 + digits_at b w)
    unfolding rounded_bits sign_of
    some_bits = rw (ne_eqb (distance_of w) 0 (λ e. omega arith)) refl

    below_infinity : distance_of w < 2 ^ 64 → (135 - zeros_of w) * 8388608 + digits_at b w < 255 * 8388608
    below_infinity h =
        omega (arith, digits_few b w (first_word (distance_of w)) (zeros_of w) (first_fits (distance_of w) pos h))

    -- it is the float of its digits
    pub is_float : distance_of w < 2 ^ 64 → 2 ^ 23 ≤ digits_at b w
        → Is (of_bits binary32 (rounded_bits b w)) (ltb w log_of_one) (digits_at b w * 2 ^ (135 - zeros_of w))
    is_float h least =
        rw some_bits (put (ltb w log_of_one) (digits_at b w) (135 - zeros_of w) (inr least)
        (digits_few b w (first_word (distance_of w)) (zeros_of w) (first_fits (distance_of w) pos h))
        (below_infinity h))

  -- it fits a word, and is that of its float
  pub rounded_back : w < 2 ^ 63 → to_bits binary32 (of_bits binary32 (rounded_bits b w)) ≡ rounded_bits b w
  rounded_back h = elim (eq-zero-or-pos (distance_of w)) [
    | inl z ↦ rw (none_bits z) (pattern_back 0 (omega arith) (no_nan false 0 (omega arith)))
    | inr l ↦
        rw (some_bits l) (pattern_back _
        (fits (ltb w log_of_one) _ (below_infinity l (omega arith)))
        (no_nan (ltb w log_of_one) _ (below_infinity l (omega arith))))
  ]
    where
      fits : (s : Bool) (k : ℕ) → k < 255 * 8388608 → sign_bit s + k < 4294967296
      fits true k h = omega arith
      fits false k h = omega arith

-- ---- a whole number of ones, c of them
module _ (n c : ℕ) (pos : 0 < n) (few : n < 2 ^ 63) (e : n ≡ c * 2 ^ 54) where
  -- is told by its first digits
  pub whole_shut : (z : ℕ) → is_left_open (first_word n) (width_of z) ≡ false
  unfolding is_left_open first_word
  whole_shut z = le-ltb _ _ (none (2 ^ count_leading_zeros 64 n) (width_of z) (width_most z))
    where
      none : (Z h : ℕ) → h ≤ 8 → 2 * h ≤ (n * Z / 4294967296 % 256 + 128 + h) % 256
      none Z h l =
          let k : n * Z / 4294967296 ≡ c * Z * 16384 * 256 = omega (arith, ap (λ (i : ℕ). i * Z) e) in omega arith

  -- and is exact
  pub whole_units : (first_word n / 128 + 1) / 2 * 2 ^ (135 - count_leading_zeros 64 n) ≡ c * 2 ^ 149
  unfolding first_word nearest_digits
  whole_units =
      over ((n * 2 ^ count_leading_zeros 64 n / 4294967296 / 128 + 1) / 2 * 2 ^ (135 - count_leading_zeros 64 n))
      (2 ^ 95)
      (ap (λ (i : ℕ). i * 2 ^ 40) units ∙ fixed.whole_units n 135 (omega arith) (normal n) c 54 e (omega arith))
    where
      normal : (n : ℕ) → Normal n 135
      normal n = record { least = λ h. le_trans (lit≤ tt) (mul-le-mul_right (2 ^ 135) h); most = omega arith }

      cut : (N : ℕ) → (N / 4294967296 / 128 + 1) / 2 ≡ (N / 549755813888 + 1) / 2
      cut N = omega arith

      units : (n * 2 ^ count_leading_zeros 64 n / 4294967296 / 128 + 1) / 2 * 2 ^ (135 - count_leading_zeros 64 n)
          ≡ fixed.units_of n 135
      units = rw (cut (n * 2 ^ count_leading_zeros 64 n)) (sym (fixed.some_units n 135 pos))

      over : (u d : ℕ) → u * 2 ^ 40 ≡ n * (d * 2 ^ 40) → u ≡ c * (2 ^ 54 * d)
      over u d h = omega (arith, ap (λ (i : ℕ). i * d) e)

-- the parts put together
pub together : (b w n m e d : ℕ) {r : ℕ} → n ≡ distance_of w
    → (m ≡ n * 2 ^ count_leading_zeros 64 n / 4294967296) × (e ≡ count_leading_zeros 64 n)
    → d ≡ log2_digits b w m e → 0 < n → r ≡ sign_of w + ((135 - e) * 8388608 + d) → r ≡ rounded_bits b w
unfolding sign_of first_word
together b w n m e d q (s, t) v pos p = p ∙ rw (v, s, t, q) (sym (some_bits b w (subst (λ (i : ℕ). 0 < i) q pos)))
