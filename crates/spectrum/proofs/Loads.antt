-- A float as a word, and the largest pattern of a frame.
use mathlib.Core.Path.{◌≡◌, refl, ap, ◌∙◌}
use mathlib.Core.Bool.{Bool, true, false, cond, not}
use Prim.Native.Nat.{ℕ, ◌+◌, ◌-◌, ◌*◌, ◌/◌, ◌%◌, ◌^◌, ◌≤◌, ◌<◌}
use native.Mathlib.Nat.{le_trans, le_of_eq, lt_of_le_of_lt, mul_comm, mul-le-mul_right, mul-lt-mul_of_pos_right, lt_of_lt_of_le, div-lt_iff_lt-mul}
use native.Mathlib.Omega.{arith}
use lib.Pow.{pow-add, pow_pos}
use lib.Dec.{T}
use lib.Ieee.{Float, nan, inf, fin, binary32, to_bits, is_nan}
use Rattle.units.specs.Units.{mag, negative, Number}
use Rattle.units.proofs.Naturals.{pow_back_lt}
use Rattle.units.proofs.Patterns.{packed_of}
use Rattle.spectrum.specs.Table.{unit}
use Rattle.spectrum.specs.Floats.{place_in, size_in, word_of}
use Rattle.spectrum.proofs.Sizes.{high_digits}

-- ---- a number is no NaN
pub no_nan : (x : Float) → Number x → T (not (is_nan x))
unfolding is_nan
no_nan nan n = n.is_finite
no_nan (inf s) n = tt
no_nan (fin s m e) n = tt

-- ---- the word
pub quotient_small : (m e : ℕ) → m < 2 ^ e → m * 2 ^ 53 / 2 ^ e < 2 ^ 53
quotient_small m e h = (div-lt_iff_lt-mul (pow_pos e)).1 (lt_of_lt_of_le (mul-lt-mul_of_pos_right h (pow_pos 53)) (le_of_eq (mul_comm (2 ^ e) (2 ^ 53))))

module _ (x : Float) (n : Number x) (e : ℕ) where
  sign : (s : Bool) → negative x ≡ s → to_bits binary32 x / 2147483648 ≡ cond s 1 0
  sign s h = (packed_of x n).top_bit ∙ ap (λ (b : Bool). cond b 1 0) h

  pub word_plus : to_bits binary32 x < 2147483648 → unit + mag x * 2 ^ 53 / 2 ^ e ≡ word_of e x
  unfolding word_of
  word_plus h = go (negative x) refl
    where
      go : (s : Bool) → negative x ≡ s → unit + mag x * 2 ^ 53 / 2 ^ e ≡ cond (negative x) (unit - mag x * 2 ^ 53 / 2 ^ e) (unit + mag x * 2 ^ 53 / 2 ^ e)
      go true g = absurd (wrong (sign true g))
        where
          wrong : to_bits binary32 x / 2147483648 ≡ 1 → ⊥
          wrong f = omega arith
      go false g = rw g refl

  pub word_minus : 2147483648 ≤ to_bits binary32 x → unit - mag x * 2 ^ 53 / 2 ^ e ≡ word_of e x
  unfolding word_of
  word_minus h = go (negative x) refl
    where
      go : (s : Bool) → negative x ≡ s → unit - mag x * 2 ^ 53 / 2 ^ e ≡ cond (negative x) (unit - mag x * 2 ^ 53 / 2 ^ e) (unit + mag x * 2 ^ 53 / 2 ^ e)
      go false g = absurd (wrong (sign false g))
        where
          wrong : to_bits binary32 x / 2147483648 ≡ 0 → ⊥
          wrong f = omega arith
      go true g = rw g refl

-- a normal size below 2 ^ e has its place below e
pub place_most : (b e : ℕ) → 8388608 ≤ b → size_in b < 2 ^ e → place_in b ≤ e
place_most b e l h = below (pow_back_lt (23 + place_in b) e (lt_of_le_of_lt (le_trans (le_of_eq (pow-add 2 23 (place_in b))) (mul-le-mul_right (2 ^ place_in b) (rw (high_digits b l) (least)))) h))
  where
    least : 2 ^ 23 ≤ b % 8388608 + 8388608
    least = omega arith

    below : 23 + place_in b < e → place_in b ≤ e
    below g = omega arith
