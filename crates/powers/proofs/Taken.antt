-- The argument taken from its bit pattern: the digits shifted to their place are the float's size in steps of 2 ^ -32, cut off, and the sign adds or subtracts them.
-- Assumes nothing.
use Rattle.std.proofs.Common.{◌≡◌, ℕ, ◌+◌, ◌-◌, ◌*◌, ◌/◌, ◌%◌, ◌^◌, ◌<◌, ◌≤◌, Bool, true, false, cond, sym, refl, ap, ◌∙◌, ap₂, inl, inr, le_trans, le_of_eq, lt_of_lt_of_le, lt_of_le_of_lt, mul-le-mul_right, mul_assoc, mul-lt-mul_of_pos_right, mul-div_cancel, arith, lit<, pow_pos, pow_mono, pow-add, le-ltb, lt-ltb}
use native.Mathlib.Nat.{div-eq_of_lt, mul-div-mul_right}
use lib.Ieee.{Float, binary32, to_bits}
use Rattle.units.specs.Units.{mag, negative, P, N}
use Rattle.units.proofs.Naturals.{le-or-lt, pow_back_lt, pow_split}
use Rattle.units.proofs.Signs.{sides, plus_of_lem, minus_of_lem}
use Rattle.units.proofs.Bits.{sign_bit, pattern_subnormal, pattern_normal}
use Rattle.powers.specs.Exp2.{Accepts}
use Rattle.powers.specs.Value.{steps_of, cut_of}
use Rattle.powers.proofs.Reduction.{K, quotient}
use Rattle.powers.proofs.Method.{D}

-- ---- the shift

-- below 2 ^ -33 nothing is left
pub steps_low : (b : ℕ) → b < 94 * 8388608 → steps_of b ≡ 0
unfolding steps_of
steps_low b h = rw (lt-ltb b (94 * 8388608) h)

-- from there on it is the shift
pub steps_high : (b : ℕ) → 94 * 8388608 ≤ b → steps_of b ≡ (b % 8388608 + 8388608) * 2 ^ (b / 8388608 - 94) / 16777216
unfolding steps_of
steps_high b h = rw (le-ltb b (94 * 8388608) h)

-- from 2 ^ -9 on nothing is cut off
pub steps_whole : (b : ℕ) → 118 ≤ b / 8388608 → steps_of b ≡ (b % 8388608 + 8388608) * 2 ^ (b / 8388608 - 118)
steps_whole b h = steps_high b (omega arith) ∙ ap (λ (n : ℕ). (b % 8388608 + 8388608) * n / 2 ^ 24) (ap (λ (n : ℕ). 2 ^ n) split ∙ pow-add 2 (b / 8388608 - 118) 24) ∙ through (b % 8388608 + 8388608) (2 ^ (b / 8388608 - 118))
  where
    split : b / 8388608 - 94 ≡ b / 8388608 - 118 + 24
    split = omega arith

    through : (m u : ℕ) → m * (u * 2 ^ 24) / 2 ^ 24 ≡ m * u
    through m u = ap (λ (n : ℕ). n / 2 ^ 24) (sym (mul_assoc m u (2 ^ 24))) ∙ mul-div_cancel (m * u) (pow_pos 24)

-- below it the digits are shifted back
pub steps_cut : (b : ℕ) → 94 ≤ b / 8388608 → b / 8388608 < 118 → steps_of b ≡ (b % 8388608 + 8388608) / 2 ^ (118 - b / 8388608)
steps_cut b h l = steps_high b (omega arith) ∙ ap (λ (n : ℕ). (b % 8388608 + 8388608) * 2 ^ (b / 8388608 - 94) / n) whole ∙ mul-div-mul_right (b % 8388608 + 8388608) (2 ^ (118 - b / 8388608)) (pow_pos (b / 8388608 - 94))
  where
    places : 24 ≡ 118 - b / 8388608 + (b / 8388608 - 94)
    places = omega arith

    whole : 2 ^ 24 ≡ 2 ^ (118 - b / 8388608) * 2 ^ (b / 8388608 - 94)
    whole = ap (λ (n : ℕ). 2 ^ n) places ∙ pow-add 2 (118 - b / 8388608) (b / 8388608 - 94)

-- m * 2 ^ k units, in steps
shifted : (m k : ℕ) → 93 ≤ k → m * 2 ^ (k - 93) / 2 ^ 24 ≡ m * 2 ^ k / K
shifted m k h =
    sym (mul-div-mul_right (m * 2 ^ (k - 93)) (2 ^ 24) (pow_pos 93)) ∙ ap (λ (n : ℕ). n / K) (mul_assoc m (2 ^ (k - 93)) (2 ^ 93) ∙ ap (λ (n : ℕ). m * n) (sym (pow_split 93 k h)))

-- b is the pattern of x's size
record Size (x : Float) (b : ℕ) : Type 0 where
  bits : to_bits binary32 x ≡ sign_bit (negative x) + b
  below : b < 134 * 8388608
  steps : steps_of b ≡ mag x / K

module _ (x : Float) (a : Accepts x) where
  pub size_small : mag x < 2 ^ 156
  size_small = elim (sides x) [
    | inl h ↦ lt_of_le_of_lt (le_trans (le_of_eq (sym h.0)) a.at_most) (lit< tt)
    | inr h ↦ lt_of_le_of_lt (le_trans (le_of_eq (sym h.1)) a.at_least) (lit< tt)
  ]

  -- m * 2 ^ k units, by their pattern
  normal_steps : (k m : ℕ) → mag x ≡ m * 2 ^ k → 8388608 ≤ m → m < 16777216 → k ≤ 132 → steps_of (k * 8388608 + m) ≡ mag x / K
  normal_steps k m u least digits top = elim (le-or-lt (94 * 8388608) (k * 8388608 + m)) [
    | inl l ↦
        let b = k * 8388608 + m in
        let i : b % 8388608 + 8388608 ≡ m = omega arith in
        let j : b / 8388608 - 94 ≡ k - 93 = omega arith in
        steps_high b l ∙ ap₂ (λ (n s : ℕ). n * 2 ^ s / 16777216) i j ∙ shifted m k (omega arith) ∙ ap (λ (n : ℕ). n / K) (sym u)
    | inr l ↦
        let low : 24 + k ≤ 117 = omega arith in
        let none : mag x < K = lt_of_le_of_lt (le_of_eq u) (lt_of_lt_of_le (mul-lt-mul_of_pos_right digits (pow_pos k)) (le_trans (le_of_eq (sym (pow-add 2 24 k))) (pow_mono low))) in
        steps_low (k * 8388608 + m) l ∙ sym (div-eq_of_lt none)
  ]

  taken : (b : ℕ) × Size x b
  taken = elim (le-or-lt (2 ^ 23) (mag x)) [
    | inl l ↦
        let t = pattern_normal x a.number l in
        let high : 23 + t.k < 156 = pow_back_lt (23 + t.k) 156 (lt_of_le_of_lt (le_trans (le_of_eq (pow-add 2 23 t.k)) (mul-le-mul_right (2 ^ t.k) t.least)) (lt_of_le_of_lt (le_of_eq (sym t.units)) size_small)) in
        let digits : t.m < 16777216 = t.digits in
        (t.k * 8388608 + t.m, record { bits = t.bits; below = omega arith; steps = normal_steps t.k t.m t.units t.least digits (omega arith) })
    | inr l ↦
        (mag x, record { bits = pattern_subnormal x a.number l; below = omega arith; steps = steps_low (mag x) (omega arith) ∙ sym (div-eq_of_lt (lt_of_lt_of_le l (pow_mono {i = 23} {j = 117} (omega arith)))) })
  ]

  -- ---- the program's steps

  -- the sign's bit taken away
  bare : (b : ℕ) → Size x b → to_bits binary32 x % 2147483648 ≡ b
  bare b h = go (negative x) (to_bits binary32 x) h.bits
    where
      under : b < 134 * 8388608
      under = h.below

      go : (s : Bool) (t : ℕ) → t ≡ sign_bit s + b → t % 2147483648 ≡ b
      go true t e = omega arith
      go false t e = omega arith

  -- the sign, by its bit
  pub plus_sign : to_bits binary32 x < 2147483648 → negative x ≡ false
  plus_sign l = go (negative x) taken.1.bits
    where
      go : (s : Bool) → to_bits binary32 x ≡ sign_bit s + taken.0 → s ≡ false
      go true e = absurd (omega arith)
      go false e = refl

  pub minus_sign : 2147483648 ≤ to_bits binary32 x → negative x ≡ true
  minus_sign l = go (negative x) taken.1.bits taken.1.below
    where
      go : (s : Bool) → to_bits binary32 x ≡ sign_bit s + taken.0 → taken.0 < 134 * 8388608 → s ≡ true
      go true e h = refl
      go false e h = absurd (omega arith)

  -- the size's pattern is one below 2 ^ 7
  pub pattern_small : to_bits binary32 x % 2147483648 < 134 * 8388608
  pattern_small = let (b, h) = taken in lt_of_le_of_lt (le_of_eq (bare b h)) h.below

  size_steps : steps_of (to_bits binary32 x % 2147483648) ≡ mag x / K
  size_steps = let (b, h) = taken in ap steps_of (bare b h) ∙ h.steps

  -- without the sign's bit the steps are added
  pub cut_plus : to_bits binary32 x < 2147483648 → 126 * 2 ^ 32 + steps_of (to_bits binary32 x % 2147483648) ≡ cut_of x
  unfolding cut_of
  cut_plus l =
      added (steps_of (to_bits binary32 x % 2147483648)) (P x / K) (N x / K)
      (size_steps ∙ ap (λ (n : ℕ). n / K) (sym (plus_of_lem x (plus_sign l)))) (ap (λ (n : ℕ). n / K) (minus_of_lem x (plus_sign l)))
    where
      added : (k p n : ℕ) → k ≡ p → n ≡ 0 → 126 * 2 ^ 32 + k ≡ 126 * 2 ^ 32 + p - n
      added k p n e z = omega arith

  -- with it they are taken away, and there is room for that
  pub cut_minus : 2147483648 ≤ to_bits binary32 x → (steps_of (to_bits binary32 x % 2147483648) ≤ 126 * 2 ^ 32) × (126 * 2 ^ 32 - steps_of (to_bits binary32 x % 2147483648) ≡ cut_of x)
  unfolding cut_of
  cut_minus l =
      taken_away (steps_of (to_bits binary32 x % 2147483648)) (P x / K) (N x / K)
      (size_steps ∙ ap (λ (s : Bool). cond s (mag x) 0 / K) (sym (minus_sign l))) (ap (λ (s : Bool). cond s 0 (mag x) / K) (minus_sign l))
      (quotient D K (P x) (N x) (pow_pos 117) a.at_least)
    where
      taken_away : (k p n : ℕ) → k ≡ n → p ≡ 0 → n ≤ 126 * 2 ^ 32 → (k ≤ 126 * 2 ^ 32) × (126 * 2 ^ 32 - k ≡ 126 * 2 ^ 32 + p - n)
      taken_away k p n e z h = (omega arith, omega arith)
