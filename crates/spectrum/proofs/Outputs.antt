-- A word's value as a float: n units of 2 ^ (e - 53) are rounded to 24 digits, or to a whole unit of 2 ^ -149. Assumes nothing.
use mathlib.Core.Path.{◌≡◌, refl, sym, ap, ◌∙◌, subst}
use mathlib.Core.Logic.{inl, inr}
use mathlib.Core.Bool.{Bool}
use Prim.Native.Nat.{ℕ, ◌+◌, ◌-◌, ◌*◌, ◌/◌, ◌^◌, ◌≤◌, ◌<◌}
use native.Mathlib.Nat.{le_trans, le_of_eq, lt_of_le_of_lt, lt_of_lt_of_le, eq-zero-or-pos, mul_assoc, zero-mul, zero-add, mul-le-mul_left, mul-le-mul_right, mul-lt-mul_of_pos_right, lt_of_mul-lt-mul_right, div-lt_iff_lt-mul, div-mul-le_self, lt-div-mul-add}
use native.Mathlib.Omega.{arith}
use lib.Pow.{pow-add, pow_pos, pow_mono}
use lib.Count.{count_leading_zeros, leading_length}
use borrow.Author.Tests.{lt-ltb, le-ltb, le-leb, lt-leb}
use lib.Ieee.{binary32, of_bits}
use Rattle.units.proofs.Naturals.{le-or-lt, pow_back_lt}
use Rattle.units.proofs.Bits.{Is, sign_bit, put}
use Rattle.fixed.specs.Rounded.{Normal, nearest_bits}
use Rattle.fixed.proofs.Rounding.{units_of, placed, near_most, near_least, is_units, bits_fit, zero_bits, zero_units}
use Rattle.spectrum.specs.Floats.{half_up, size_bits_of}

-- ---- what the tests say of n
module _ (n e : ℕ) (few : n < 2 ^ 60) (high : e ≤ 269) where
  abbrev z : ℕ
  z = count_leading_zeros 64 n

  pub zeros_least : 4 ≤ z
  zeros_least =
      let (m, s, a, b) = leading_length 64 n (lt_of_lt_of_le few (pow_mono {i = 60} {j = 64} (omega arith))) in
      let l : m < 61 = pow_back_lt m 61 (lt_of_le_of_lt b (under few)) in
      omega arith
    where
      under : n < 2 ^ 60 → 2 * n + 1 < 2 ^ 61
      under h = omega arith

  short : n * 16 < 2 ^ 64
  short = scaled few
    where
      scaled : n < 2 ^ 60 → n * 16 < 2 ^ 64
      scaled h = omega arith

  power : (i j k : ℕ) → k ≡ i + j → 2 ^ k ≡ 2 ^ i * 2 ^ j
  power i j k s = ap (λ (n : ℕ). 2 ^ n) s ∙ pow-add 2 i j

  -- enough digits
  module _ (enough : z + 13 ≤ e) where
    pub at_least_17 : 17 ≤ e
    at_least_17 = omega (arith, zeros_least)

    pub normal : Normal (n * 16) (e - 17)
    normal = record { least = λ p. least (above p); most = omega arith }
      where
        above : 0 < n * 16 → 0 < n
        above p = omega arith

        least : 0 < n → 2 ^ 63 ≤ n * 16 * 2 ^ (e - 17)
        least p =
            le_trans (placed n p (lt_of_lt_of_le few (pow_mono {i = 60} {j = 64} (omega arith)))).low
            (le_trans (mul-le-mul_left n (pow_mono {i = z} {j = 4 + (e - 17)} (omega (arith, at_least_17)))) (le_of_eq (ap (λ (x : ℕ). n * x) (pow-add 2 4 (e - 17)) ∙ sym (mul_assoc n 16 (2 ^ (e - 17))))))

    pub bits_normal : size_bits_of e n ≡ nearest_bits (n * 16) (e - 17)
    unfolding size_bits_of
    bits_normal = rw (le-leb (z + 13) e enough) refl

  -- or few
  module _ (rest : e < z + 13) where
    -- n 2 ^ (e - 53) is below 2 ^ 23
    pub few_units : n * 2 ^ e < 2 ^ 76
    few_units = elim (eq-zero-or-pos n) [
      | inl h ↦ rw (h, zero-mul) (pow_pos 76)
      | inr p ↦
          lt_of_le_of_lt (le_trans (mul-le-mul_left n (pow_mono {i = e} {j = z + 12} (omega arith))) (le_of_eq (ap (λ (x : ℕ). n * x) (pow-add 2 z 12) ∙ sym (mul_assoc n (2 ^ z) (2 ^ 12)))))
          (lt_of_lt_of_le (mul-lt-mul_of_pos_right (placed n p (lt_of_lt_of_le few (pow_mono {i = 60} {j = 64} (omega arith)))).high (pow_pos 12)) (le_of_eq (sym (pow-add 2 64 12))))
    ]

    pub bits_cut : e < 53 → size_bits_of e n ≡ half_up (n / 2 ^ (52 - e))
    unfolding size_bits_of
    bits_cut l = rw (lt-leb (z + 13) e rest, lt-ltb e 53 l) refl

    pub bits_whole : 53 ≤ e → size_bits_of e n ≡ n * 2 ^ (e - 53)
    unfolding size_bits_of
    bits_whole l = rw (lt-leb (z + 13) e rest, le-ltb e 53 l) refl

    whole_of : e < 53 → 2 ^ 52 ≡ 2 ^ (52 - e) * 2 ^ e
    whole_of l = power (52 - e) e 52 (omega arith)

    pub cut_most : e < 53 → n / 2 ^ (52 - e) < 2 ^ 24
    cut_most l = (div-lt_iff_lt-mul (pow_pos (52 - e))).1 (lt_of_mul-lt-mul_right (2 ^ e) (lt_of_lt_of_le few_units (le_of_eq (pow-add 2 24 52 ∙ ap (λ (x : ℕ). 2 ^ 24 * x) (whole_of l) ∙ sym (mul_assoc (2 ^ 24) (2 ^ (52 - e)) (2 ^ e))))))

    same : 53 ≤ e → n * 2 ^ e ≡ n * 2 ^ (e - 53) * 2 ^ 53
    same l = ap (λ (x : ℕ). n * x) (power (e - 53) 53 e (omega arith)) ∙ sym (mul_assoc n (2 ^ (e - 53)) (2 ^ 53))

    pub whole_most : 53 ≤ e → n * 2 ^ (e - 53) < 2 ^ 23
    whole_most l = lt_of_mul-lt-mul_right (2 ^ 53) (lt_of_le_of_lt (le_of_eq (sym (same l))) (lt_of_lt_of_le few_units (le_of_eq (pow-add 2 23 53))))

  -- the pattern is below that of the infinity
  pub bits_below : size_bits_of e n < 255 * 8388608
  bits_below = elim (le-or-lt (z + 13) e) [
    | inl a ↦ rw (bits_normal a) (bits_fit (n * 16) (e - 17) short (normal a))
    | inr a ↦ elim (le-or-lt 53 e) [
      | inl l ↦ rw (bits_whole a l) (lt_of_lt_of_le (whole_most a l) (small))
      | inr l ↦ rw (bits_cut a l) (halved (n / 2 ^ (52 - e)) (cut_most a l))
    ]
  ]
    where
      small : 2 ^ 23 ≤ 255 * 8388608
      small = omega arith

      halved : (q : ℕ) → q < 2 ^ 24 → half_up q < 255 * 8388608
      halved q h = omega arith

-- ---- what float it is
-- 2 ^ 53 u is within 2 ^ -24 of x = n 2 ^ e, and 2 ^ 52, of it
pub record Rounds (x u : ℕ) : Type 0 where
  pub most : 2 ^ 77 * u ≤ 2 ^ 24 * x + x + 2 ^ 76
  pub least : 2 ^ 24 * x ≤ 2 ^ 77 * u + x + 2 ^ 76

pub record Sized (e n : ℕ) (s : Bool) : Type 0 where
  pub units : ℕ
  pub is : Is (of_bits binary32 (sign_bit s + size_bits_of e n)) s units
  pub rounds : Rounds (n * 2 ^ e) units

module _ (n e : ℕ) (few : n < 2 ^ 60) (high : e ≤ 269) (s : Bool) where
  normal_sized : z n e few high + 13 ≤ e → Sized e n s
  normal_sized a =
      let k = normal n e few high a in
      record {
        units = units_of (n * 16) (e - 17);
        is = rw (bits_normal n e few high a) (elim (eq-zero-or-pos n) [ inl h ↦ none h | inr p ↦ is_units (n * 16) (e - 17) (short n e few high) k s (above p) ]);
        rounds = exact (n * 16 * 2 ^ (e - 17)) (n * 2 ^ e) (units_of (n * 16) (e - 17)) same (near_most (n * 16) (e - 17) (short n e few high) k) (near_least (n * 16) (e - 17) (short n e few high) k);
      }
    where
      above : 0 < n → 0 < n * 16
      above p = omega arith

      none : n ≡ 0 → Is (of_bits binary32 (sign_bit s + nearest_bits (n * 16) (e - 17))) s (units_of (n * 16) (e - 17))
      none h = rw (zero_bits (n * 16) (e - 17) (rw h refl), zero_units' (rw h refl)) (put s 0 0 (inl refl) (omega arith) (omega arith))
        where
          zero_units' : n * 16 ≡ 0 → units_of (n * 16) (e - 17) ≡ 0
          zero_units' k = zero_units (n * 16) (e - 17) k

      same : n * 2 ^ e ≡ n * 16 * 2 ^ (e - 17) * 2 ^ 13
      same =
          ap (λ (x : ℕ). n * x) (ap (λ (i : ℕ). 2 ^ i) (up) ∙ pow-add 2 (4 + (e - 17)) 13 ∙ ap (λ (x : ℕ). x * 2 ^ 13) (pow-add 2 4 (e - 17)))
          ∙ regroup n (2 ^ (e - 17))
        where
          up : e ≡ 4 + (e - 17) + 13
          up = omega (arith, at_least_17 n e few high a)

          regroup : (n x : ℕ) → n * (16 * x * 2 ^ 13) ≡ n * 16 * x * 2 ^ 13
          regroup n x = omega arith

      exact : (a x u : ℕ) → x ≡ a * 2 ^ 13 → u * 2 ^ 64 ≤ a * (2 ^ 24 + 1) → a * (2 ^ 24 - 1) ≤ u * 2 ^ 64 → Rounds x u
      exact a x u h m l = record { most = omega arith; least = omega arith }

  cut_sized : e < z n e few high + 13 → e < 53 → Sized e n s
  cut_sized a l =
      let q = n / 2 ^ (52 - e) in
      record {
        units = half_up q * 1;
        is = rw (bits_cut n e few high a l) (subst (λ (b : ℕ). Is (of_bits binary32 (sign_bit s + b)) s (half_up q * 1)) (zero-add (half_up q)) (put s (half_up q) 0 (inl refl) (halved q (cut_most n e few high a l)) (under q (cut_most n e few high a l))));
        rounds = exact q (n * 2 ^ e) (low) (upper);
      }
    where
      halved : (q : ℕ) → q < 2 ^ 24 → half_up q ≤ 2 ^ 24
      halved q h = omega arith

      under : (q : ℕ) → q < 2 ^ 24 → 0 * 8388608 + half_up q < 255 * 8388608
      under q h = omega arith

      low : n / 2 ^ (52 - e) * 2 ^ 52 ≤ n * 2 ^ e
      low = le_trans (le_of_eq (ap (λ (x : ℕ). n / 2 ^ (52 - e) * x) (whole_of n e few high a l) ∙ sym (mul_assoc (n / 2 ^ (52 - e)) (2 ^ (52 - e)) (2 ^ e)))) (mul-le-mul_right (2 ^ e) (div-mul-le_self n (2 ^ (52 - e))))

      upper : n * 2 ^ e < (n / 2 ^ (52 - e) + 1) * 2 ^ 52
      upper = lt_of_lt_of_le (mul-lt-mul_of_pos_right (lt-div-mul-add {a = n} (pow_pos (52 - e))) (pow_pos e)) (le_of_eq (regroup (n / 2 ^ (52 - e)) (2 ^ (52 - e)) (2 ^ e) (whole_of n e few high a l)))
        where
          regroup : (q x y : ℕ) → 2 ^ 52 ≡ x * y → (q * x + x) * y ≡ (q + 1) * 2 ^ 52
          regroup q x y h = omega (arith, ap (λ (k : ℕ). q * k) h)

      exact : (q x : ℕ) → q * 2 ^ 52 ≤ x → x < (q + 1) * 2 ^ 52 → Rounds x (half_up q * 1)
      exact q x h m = record { most = omega arith; least = omega arith }

  whole_sized : e < z n e few high + 13 → 53 ≤ e → Sized e n s
  whole_sized a l =
      record {
        units = n * 2 ^ (e - 53) * 1;
        is = rw (bits_whole n e few high a l) (subst (λ (b : ℕ). Is (of_bits binary32 (sign_bit s + b)) s (n * 2 ^ (e - 53) * 1)) (zero-add (n * 2 ^ (e - 53))) (put s (n * 2 ^ (e - 53)) 0 (inl refl) (less (n * 2 ^ (e - 53)) (whole_most n e few high a l)) (under (n * 2 ^ (e - 53)) (whole_most n e few high a l))));
        rounds = exact (n * 2 ^ (e - 53)) (n * 2 ^ e) (same n e few high a l);
      }
    where
      less : (u : ℕ) → u < 2 ^ 23 → u ≤ 2 ^ 24
      less u h = omega arith

      under : (u : ℕ) → u < 2 ^ 23 → 0 * 8388608 + u < 255 * 8388608
      under u h = omega arith

      exact : (u x : ℕ) → x ≡ u * 2 ^ 53 → Rounds x (u * 1)
      exact u x h = record { most = omega arith; least = omega arith }

  pub sized : Sized e n s
  sized = elim (le-or-lt (z n e few high + 13) e) [ inl a ↦ normal_sized a | inr a ↦ elim (le-or-lt 53 e) [ inl l ↦ whole_sized a l | inr l ↦ cut_sized a l ] ]
