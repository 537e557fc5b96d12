-- The size that a pattern stands for, how many digits it has, and what is left of it in units of a frame.
use mathlib.Core.Path.{◌≡◌, refl, sym, ap, ap₂, ◌∙◌}
use mathlib.Core.Logic.{inl, inr}
use Prim.Native.Nat.{ℕ, suc, ◌+◌, ◌-◌, ◌*◌, ◌/◌, ◌%◌, ◌^◌, ◌≤◌, ◌<◌}
use native.Mathlib.Nat.{le_trans, le_of_eq, lt_of_le_of_lt, lt_of_lt_of_le, mul_assoc, mul_comm, mul-one, pow-suc, eq-zero-or-pos, mul-le-mul_right, mul-lt-mul_of_pos_right, lt_of_mul-lt-mul_right, div-eq_of_lt, mul-div_cancel, mul-div-mul_right, mod-eq_of_lt}
use native.Mathlib.Omega.{arith}
use lib.Pow.{pow-add, pow_pos, pow_mono}
use lib.Count.{count_leading_zeros, leading_of_zero, leading_top}
use borrow.Author.Tests.{lt-ltb, le-ltb}
use lib.Ieee.{Float}
use Rattle.units.specs.Units.{mag, Number}
use Rattle.units.proofs.Naturals.{le-or-lt}
use Rattle.units.proofs.Patterns.{Shape, packed, packed_le, packed_of}
use Rattle.spectrum.specs.Floats.{digits_in, place_in, size_in, size_bits, Scale}

-- ---- digits and places
pub low_digits : (b : ℕ) → b < 8388608 → digits_in b ≡ b
unfolding digits_in
low_digits b h = rw (lt-ltb b 8388608 h) refl

pub high_digits : (b : ℕ) → 8388608 ≤ b → digits_in b ≡ b % 8388608 + 8388608
unfolding digits_in
high_digits b h = rw (le-ltb b 8388608 h) refl

pub low_place : (b : ℕ) → b < 8388608 → place_in b ≡ 0
unfolding place_in
low_place b h = omega arith

pub digits_few : (b : ℕ) → digits_in b < 2 ^ 24
digits_few b = elim (le-or-lt 8388608 b) [ inl h ↦ rw (high_digits b h) (omega arith) | inr h ↦ rw (low_digits b h) (omega arith) ]

shape_in : (b : ℕ) → Shape (digits_in b) (place_in b)
unfolding place_in
shape_in b = record {
  few = digits_few b;
  first = elim (le-or-lt 8388608 b) [ inl h ↦ inr (rw (high_digits b h) (omega arith)) | inr h ↦ inl (low_place b h) ];
}

packed_in : (b : ℕ) → packed (digits_in b) (place_in b) ≡ b
unfolding place_in
packed_in b = elim (le-or-lt 8388608 b) [ inl h ↦ rw (high_digits b h) (omega arith) | inr h ↦ rw (low_digits b h) (omega arith) ]

-- a larger pattern is a larger size
pub size_mono : (b b' : ℕ) → b ≤ b' → size_in b ≤ size_in b'
size_mono b b' h = packed_le (digits_in b) (place_in b) (digits_in b') (place_in b') (shape_in b) (shape_in b') (le_trans (le_of_eq (packed_in b)) (le_trans h (le_of_eq (sym (packed_in b')))))

-- a float's size is that of its pattern
pub size_of : (x : Float) → Number x → mag x ≡ size_in (size_bits x)
unfolding place_in
size_of x n = let p = packed_of x n in p.units ∙ ap₂ (λ m k. m * 2 ^ k) (digits p.m p.k p.shape p.size_bits_lem) (place p.m p.k p.shape p.size_bits_lem)
  where
    digits : (m k : ℕ) → Shape m k → size_bits x ≡ packed m k → m ≡ digits_in (size_bits x)
    digits m k s e = elim (le-or-lt 8388608 m) [
      | inl h ↦ sym (high_digits (size_bits x) (omega arith) ∙ rest h)
      | inr h ↦ elim s.first [ inl z ↦ sym (low_digits (size_bits x) (omega arith) ∙ alone z) | inr l ↦ absurd (both l h) ]
    ]
      where
        rest : 8388608 ≤ m → size_bits x % 8388608 + 8388608 ≡ m
        rest h = let few : m < 16777216 = s.few in omega arith

        alone : k ≡ 0 → size_bits x ≡ m
        alone z = omega arith

        both : 2 ^ 23 ≤ m → m < 8388608 → ⊥
        both l h = omega arith

    place : (m k : ℕ) → Shape m k → size_bits x ≡ packed m k → k ≡ place_in (size_bits x)
    place m k s e = elim s.first [ inl z ↦ let few : m < 16777216 = s.few in omega arith | inr l ↦ let few : m < 16777216 = s.few in let l' : 8388608 ≤ m = l in omega arith ]

-- ---- how many digits a size has
pub low_scale : (m : ℕ) → m < 8388608 → Scale m (32 - count_leading_zeros 32 m)
low_scale m h = elim (eq-zero-or-pos m) [ inl z ↦ none z | inr p ↦ some p ]
  where
    alone : size_in m ≡ m
    alone = ap₂ (λ d k. d * 2 ^ k) (low_digits m h) (low_place m h) ∙ mul-one m

    none : m ≡ 0 → Scale m (32 - count_leading_zeros 32 m)
    none z = rw (z, leading_of_zero 32) (record { above = rw (z) at (lt_of_le_of_lt (le_of_eq alone) (nought z)); below = λ n. absurd (n refl); none = λ z. refl; high = omega arith })
      where
        nought : m ≡ 0 → m < 1
        nought z = omega arith

    some : 0 < m → Scale m (32 - count_leading_zeros 32 m)
    some p =
        let (j, e, l, u) = leading_top 32 m p (omega arith) in
        let f : 32 - count_leading_zeros 32 m ≡ suc j = omega arith in
        rw f (record { above = rw alone u; below = λ n. rw alone (le_trans (le_of_eq (pow-suc 2 j)) (twice (2 ^ j) l)); none = λ z. absurd (omega arith); high = omega arith })
      where
        twice : (x : ℕ) → x ≤ m → x * 2 ≤ 2 * m
        twice x l = omega arith

pub high_scale : (m : ℕ) → 8388608 ≤ m → m < 2071986176 → Scale m (m / 8388608 + 23)
unfolding place_in
high_scale m l h = record {
  above = rw (high_digits m l) (lt_of_lt_of_le (mul-lt-mul_of_pos_right most (pow_pos (m / 8388608 - 1))) (le_of_eq (sym (pow-add 2 24 (m / 8388608 - 1)) ∙ ap (λ (n : ℕ). 2 ^ n) up)));
  below = λ n. rw (high_digits m l) (le_trans (le_of_eq (ap (λ (n : ℕ). 2 ^ n) (sym up) ∙ pow-add 2 24 (m / 8388608 - 1))) (twice (2 ^ (m / 8388608 - 1))));
  none = λ z. absurd (omega arith);
  high = omega arith;
}
  where
    most : m % 8388608 + 8388608 < 2 ^ 24
    most = omega arith

    up : 24 + (m / 8388608 - 1) ≡ m / 8388608 + 23
    up = omega arith

    twice : (x : ℕ) → 2 ^ 24 * x ≤ 2 * ((m % 8388608 + 8388608) * x)
    twice x = omega (arith, mul-le-mul_right x (least))
      where
        least : 8388608 ≤ m % 8388608 + 8388608
        least = omega arith

-- ---- digits shifted to their place
module _ (m k e : ℕ) (few : m < 2 ^ 24) where
  raised : m * 2 ^ k * 2 ^ 53 ≡ m * 2 ^ (k + 53)
  raised = mul_assoc m (2 ^ k) (2 ^ 53) ∙ ap (λ (n : ℕ). m * n) (sym (pow-add 2 k 53))

  power : (i j n : ℕ) → n ≡ i + j → 2 ^ n ≡ 2 ^ i * 2 ^ j
  power i j n s = ap (λ (n : ℕ). 2 ^ n) s ∙ pow-add 2 i j

  pub shifted_left : m * 2 ^ k < 2 ^ e → e ≤ k + 53 → m * 2 ^ (k + 53 - e) % 2 ^ 64 ≡ m * 2 ^ k * 2 ^ 53 / 2 ^ e
  shifted_left small l =
      mod-eq_of_lt (lt_of_lt_of_le below (pow_mono {i = 53} {j = 64} (omega arith)))
      ∙ sym (ap (λ (n : ℕ). n / 2 ^ e) (raised ∙ whole) ∙ mul-div_cancel (m * 2 ^ (k + 53 - e)) (pow_pos e))
    where
      whole : m * 2 ^ (k + 53) ≡ m * 2 ^ (k + 53 - e) * 2 ^ e
      whole = ap (λ (n : ℕ). m * n) (power (k + 53 - e) e (k + 53) (omega arith)) ∙ sym (mul_assoc m (2 ^ (k + 53 - e)) (2 ^ e))

      below : m * 2 ^ (k + 53 - e) < 2 ^ 53
      below = lt_of_mul-lt-mul_right (2 ^ e) (lt_of_le_of_lt (le_of_eq (sym whole ∙ sym raised)) (lt_of_lt_of_le (mul-lt-mul_of_pos_right small (pow_pos 53)) (le_of_eq (mul_comm (2 ^ e) (2 ^ 53)))))

  pub shifted_right : k + 53 ≤ e → m / 2 ^ (e - (k + 53)) ≡ m * 2 ^ k * 2 ^ 53 / 2 ^ e
  shifted_right l = sym (ap₂ ◌/◌ raised (power (e - (k + 53)) (k + 53) e (omega arith)) ∙ mul-div-mul_right m (2 ^ (e - (k + 53))) (pow_pos (k + 53)))

  pub shifted_out : k + 53 + 64 ≤ e → 0 ≡ m * 2 ^ k * 2 ^ 53 / 2 ^ e
  shifted_out l = sym (div-eq_of_lt (lt_of_le_of_lt (le_of_eq raised) (lt_of_lt_of_le (mul-lt-mul_of_pos_right few (pow_pos (k + 53))) (le_trans (le_of_eq (sym (pow-add 2 24 (k + 53)))) (pow_mono {i = 24 + (k + 53)} {j = e} (omega arith))))))

-- no digits, no pattern
pub size-zero : (b : ℕ) → size_in b ≡ 0 → b ≡ 0
size-zero b h = elim (le-or-lt 8388608 b) [ inl l ↦ absurd (some (digits_in b) (2 ^ place_in b) (rw (high_digits b l) (least l)) (pow_pos (place_in b)) h) | inr l ↦ sym (low_digits b l) ∙ none (digits_in b) (2 ^ place_in b) (pow_pos (place_in b)) h ]
  where
    least : 8388608 ≤ b → 1 ≤ b % 8388608 + 8388608
    least l = omega arith

    some : (d p : ℕ) → 1 ≤ d → 0 < p → d * p ≡ 0 → ⊥
    some d p l k h = omega (arith, mul-le-mul_right p l)

    none : (d p : ℕ) → 0 < p → d * p ≡ 0 → d ≡ 0
    none d p k h = elim (eq-zero-or-pos d) [ inl z ↦ z | inr l ↦ absurd (some d p l k h) ]
