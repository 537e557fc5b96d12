-- Rounding with ties to even: the digits are the nearest whole number, and the float put together is n * 2 ^ (e - 40) units rounded as the float unit rounds. Assumes nothing.
use mathlib.Core.Path.{◌≡◌, refl, sym, ap, ◌∙◌, subst}
use mathlib.Core.Logic.{inl, inr}
use mathlib.Core.Bool.{Bool}
use Prim.Native.Nat.{ℕ, suc, ◌+◌, ◌-◌, ◌*◌, ◌/◌, ◌%◌, ◌^◌, ◌≤◌, ◌<◌}
use native.Mathlib.Nat.{le_trans, le_of_eq, eq-zero-or-pos, mul-one, mul_assoc, mul-pos, mul-le-mul_right, mul-lt-mul_of_pos_right, not-le_of_lt, pow-suc}
use native.Mathlib.Omega.{arith}
use lib.Pow.{pow-add, pow_pos}
use lib.Count.{count_leading_zeros}
use lib.Dec.{lit<}
use borrow.Author.Tests.{eq-eqb}
use lib.Ieee.{binary32, of_bits}
use lib.Ieee.Nearest.{closest, closest_same}
use Rattle.units.proofs.Round.{rnd}
use Rattle.units.proofs.Nearest.{rnd_at}
use Rattle.units.proofs.Ties.{closest_only}
use Rattle.units.proofs.Bits.{Is, sign_bit, put}
use Rattle.fixed.specs.Rounded.{Normal, even_digits, even_bits}
use Rattle.fixed.proofs.Rounding.{Placed, placed, few_zeros, some}

-- the digits are the whole number nearest to m / 2 ^ 39: with w whole ones, a tie is w and a half, and the digit t that is added decides
pub even_digits_lem : (m : ℕ) → even_digits m ≡ closest m (2 ^ 39)
unfolding even_digits
even_digits_lem m =
    closest_only m (2 ^ 39) (even_digits m) (lit< tt)
    (record { half = record { at_most = omega arith; at_least = omega arith }; tie_up = up (m / 549755813888) (m / 549755813888 % 2) (even_digits m) refl refl refl; tie_down = down (m / 549755813888) (m / 549755813888 % 2) (even_digits m) refl refl refl })
  where
    whole : (w t S : ℕ) → w ≡ m / 549755813888 → S ≡ (m + 274877906943 + t) / 549755813888 → 2 * (S * 2 ^ 39) ≡ 2 * m + 2 ^ 39 → S ≡ w + 1
    whole w t S a c e = omega arith

    odd : (t S : ℕ) → S ≡ (m + 274877906943 + t) / 549755813888 → 2 * (S * 2 ^ 39) ≡ 2 * m + 2 ^ 39 → 1 ≤ t
    odd t S c e = omega arith

    next : (w t S : ℕ) → t ≡ w % 2 → S ≡ w + 1 → 1 ≤ t → S % 2 ≡ 0
    next w t S b f g = omega arith

    up : (w t S : ℕ) → w ≡ m / 549755813888 → t ≡ w % 2 → S ≡ (m + 274877906943 + t) / 549755813888 → 2 * (S * 2 ^ 39) ≡ 2 * m + 2 ^ 39 → S % 2 ≡ 0
    up w t S a b c e = next w t S b (whole w t S a c e) (odd t S c e)

    whole_down : (w S : ℕ) → w ≡ m / 549755813888 → 2 * m ≡ 2 * (S * 2 ^ 39) + 2 ^ 39 → S ≡ w
    whole_down w S a e = omega arith

    none : (t S : ℕ) → S ≡ (m + 274877906943 + t) / 549755813888 → 2 * m ≡ 2 * (S * 2 ^ 39) + 2 ^ 39 → t ≡ 0
    none t S c e = omega arith

    same : (w t S : ℕ) → t ≡ w % 2 → S ≡ w → t ≡ 0 → S % 2 ≡ 0
    same w t S b f g = omega arith

    down : (w t S : ℕ) → w ≡ m / 549755813888 → t ≡ w % 2 → S ≡ (m + 274877906943 + t) / 549755813888 → 2 * m ≡ 2 * (S * 2 ^ 39) + 2 ^ 39 → S % 2 ≡ 0
    down w t S a b c e = same w t S b (whole_down w S a e) (none t S c e)

-- ---- a number n of 64 - z digits, at most 63
module _ (n e z : ℕ) (p : Placed n z) (few : z ≤ e) (less : n < 2 ^ 63) where
  -- at least one zero leads
  pub one-zero : 1 ≤ z
  one-zero = elim (eq-zero-or-pos z) [ inl h ↦ absurd (not-le_of_lt less (le_trans p.low (le_of_eq (ap (λ (i : ℕ). n * 2 ^ i) h ∙ mul-one n)))) | inr h ↦ h ]

  abbrev m : ℕ
  m = n * 2 ^ (z - 1)

  doubled : m * 2 ≡ n * 2 ^ z
  doubled = mul_assoc n (2 ^ (z - 1)) 2 ∙ ap (λ (i : ℕ). n * i) (sym (pow-suc 2 (z - 1)) ∙ ap (λ (i : ℕ). 2 ^ i) (sub-add-one one-zero))
    where
      sub-add-one : {k : ℕ} → 1 ≤ k → suc (k - 1) ≡ k
      sub-add-one h = omega arith

  pub shifted_low : 2 ^ 62 ≤ m
  shifted_low = let a = p.low in let b = doubled in omega arith

  pub shifted_high : m < 2 ^ 63
  shifted_high = let a = p.high in let b = doubled in omega arith

  abbrev S : ℕ
  S = even_digits m

  digits_least : 2 ^ 23 ≤ S
  unfolding even_digits
  digits_least = let a = shifted_low in omega arith

  digits_most : S ≤ 2 ^ 24
  unfolding even_digits
  digits_most = let a = shifted_high in omega arith

  -- they are those of n * 2 ^ (e - 40) rounded
  rounded : S * 2 ^ (e - z) ≡ rnd (n * 2 ^ e) (2 ^ 40)
  rounded = ap (λ (q : ℕ). q * 2 ^ (e - z)) (even_digits_lem m ∙ closest_same m (2 ^ 39) (n * 2 ^ e) (2 ^ 40 * 2 ^ (e - z)) (lit< tt) (mul-pos (pow_pos 40) (pow_pos (e - z))) (same (2 ^ (e - z)) exact)) ∙ sym (rnd_at (n * 2 ^ e) (2 ^ 40) (e - z) (pow_pos 40) (top (2 ^ (e - z)) (pow_pos (e - z)) exact) (λ h. bottom (2 ^ (e - z)) exact))
    where
      exact : n * 2 ^ e ≡ m * 2 * 2 ^ (e - z)
      exact = let h : e ≡ z + (e - z) = omega arith in ap (λ (i : ℕ). n * 2 ^ i) h ∙ ap (λ (i : ℕ). n * i) (pow-add 2 z (e - z)) ∙ sym (mul_assoc n (2 ^ z) (2 ^ (e - z))) ∙ ap (λ (i : ℕ). i * 2 ^ (e - z)) (sym doubled)

      same : {x : ℕ} (g : ℕ) → x ≡ m * 2 * g → m * (2 ^ 40 * g) ≡ x * 2 ^ 39
      same g h = omega arith

      top : {x : ℕ} (g : ℕ) → 0 < g → x ≡ m * 2 * g → x < 2 ^ 24 * g * 2 ^ 40
      top g pos h = let a : m * g < 2 ^ 63 * g = mul-lt-mul_of_pos_right shifted_high pos in omega arith

      bottom : {x : ℕ} (g : ℕ) → x ≡ m * 2 * g → 2 ^ 23 * g * 2 ^ 40 ≤ x
      bottom g h = let a : 2 ^ 62 * g ≤ m * g = mul-le-mul_right g shifted_low in omega arith

  -- the pattern, with the sign s
  pub even_put : e ≤ 252 → (s : Bool) → Is (of_bits binary32 (sign_bit s + ((e - z) * 8388608 + S))) s (rnd (n * 2 ^ e) (2 ^ 40))
  even_put top s =
      let h = digits_most in
      let o = one-zero in
      subst (λ (u : ℕ). Is (of_bits binary32 (sign_bit s + ((e - z) * 8388608 + S))) s u) rounded (put s S (e - z) (inr digits_least) h (omega arith))

  -- lies below the infinity's
  pub even_below : e ≤ 252 → (e - z) * 8388608 + S < 255 * 8388608
  even_below top = let h = digits_most in let o = one-zero in omega arith

-- ---- the same of the function, for n above 0
module _ (n e : ℕ) (pos : 0 < n) (less : n < 2 ^ 63) (h : Normal n e) where
  pub even_zeros : Placed n (count_leading_zeros 64 n)
  even_zeros = placed n pos (omega arith)

  pub even_few : count_leading_zeros 64 n ≤ e
  even_few = few_zeros n (count_leading_zeros 64 n) e even_zeros (h.least pos)

  some_bits : even_bits n e ≡ (e - count_leading_zeros 64 n) * 8388608 + even_digits (n * 2 ^ (count_leading_zeros 64 n - 1))
  unfolding even_bits
  some_bits = rw (some n e pos)

  pub even_is : (s : Bool) → Is (of_bits binary32 (sign_bit s + even_bits n e)) s (rnd (n * 2 ^ e) (2 ^ 40))
  even_is s = rw some_bits (even_put n e (count_leading_zeros 64 n) even_zeros even_few less h.most s)

  pub bits_below : even_bits n e < 255 * 8388608
  bits_below = rw some_bits (even_below n e (count_leading_zeros 64 n) even_zeros even_few less h.most)

-- of 0 it is the pattern of +0
pub even_zero : (n e : ℕ) → n ≡ 0 → even_bits n e ≡ 0
unfolding even_bits
even_zero n e h = rw (eq-eqb n 0 h)
