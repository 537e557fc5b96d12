-- x log2 e taken from the bit pattern of x: the digits times those of log2 e, shifted to their place, and the sign adds or subtracts them. Assumes nothing.
use Rattle.std.proofs.Common.{◌≡◌, ℕ, ◌+◌, ◌-◌, ◌*◌, ◌/◌, ◌%◌, ◌^◌, ◌<◌, ◌≤◌, sym, refl, ap, ◌∙◌, ap₂, inl, inr, le_trans, le_of_eq, lt_of_lt_of_le, mul-le-mul_right, mul-lt-mul_of_pos_right, zero-mul, mul_right_comm, not-le_of_lt, div-mul-le_self, le_of_mul-le-mul_right, arith, lit<, lit≤, pow_pos, pow_mono, pow-add, le-ltb, lt-ltb}
use native.Mathlib.Nat.{div-eq_of_lt, mul-div-mul_right}
use lib.Ieee.{Float, binary32, to_bits}
use Rattle.units.specs.Units.{mag, P, N}
use Rattle.units.proofs.Naturals.{le-or-lt}
use Rattle.units.proofs.Signs.{sides}
use Rattle.units.proofs.Patterns.{Shape, packed, packed_of, beyond}
use Rattle.units.proofs.Between.{sign_clear, sign_set}
use Rattle.powers.specs.Exp.{Accepts}
use Rattle.powers.specs.Value.{log2E, natural_steps, natural_cut}
use Rattle.powers.proofs.Method.{D}

-- the steps of p units
abbrev pub steps_in : ℕ → ℕ
steps_in p = p * log2E / 2 ^ 156

none : steps_in 0 ≡ 0
none = rw (zero-mul log2E) refl

-- ---- the shift
pub steps_none : (a : ℕ) → a < 94 * 8388608 → natural_steps a ≡ 0
unfolding natural_steps
steps_none a h = rw (lt-ltb a (94 * 8388608) h)

pub steps_some : (a : ℕ) → 94 * 8388608 ≤ a → natural_steps a ≡ (a % 8388608 + 8388608) * log2E / 2 ^ (157 - a / 8388608)
unfolding natural_steps
steps_some a h = rw (le-ltb a (94 * 8388608) h)

-- m digits with the exponent k, in units, by their pattern
by_pattern : (m k : ℕ) → Shape m k → k ≤ 156 → natural_steps (packed m k) ≡ steps_in (m * 2 ^ k)
by_pattern m k s top = elim (le-or-lt (94 * 8388608) (packed m k)) [
  | inl l ↦ elim s.first [
    | inl z ↦ absurd (let few : m < 16777216 = s.few in omega arith)
    | inr f ↦
        let few : m < 16777216 = s.few in
        let least : 8388608 ≤ m = f in
        let i : packed m k % 8388608 + 8388608 ≡ m = omega arith in
        let j : 157 - packed m k / 8388608 ≡ 156 - k = omega arith in
        steps_some (packed m k) l ∙ ap₂ (λ (n t : ℕ). n * log2E / 2 ^ t) i j ∙ shifted
  ]
  | inr l ↦
      let low : 24 + k ≤ 116 = fewer l in
      steps_none (packed m k) l ∙ sym (div-eq_of_lt (lt_of_lt_of_le (mul-lt-mul_of_pos_right (lt_of_lt_of_le (mul-lt-mul_of_pos_right s.few (pow_pos k)) (le_trans (le_of_eq (sym (pow-add 2 24 k))) (pow_mono low))) (lit< tt)) (lit≤ tt)))
]
  where
    split : 156 ≡ 156 - k + k
    split = omega arith

    shifted : m * log2E / 2 ^ (156 - k) ≡ steps_in (m * 2 ^ k)
    shifted =
        sym (mul-div-mul_right (m * log2E) (2 ^ (156 - k)) (pow_pos k))
        ∙ ap₂ (λ (n d : ℕ). n / d) (mul_right_comm m log2E (2 ^ k)) (sym (pow-add 2 (156 - k) k) ∙ ap (λ (n : ℕ). 2 ^ n) (sym split))

    fewer : packed m k < 94 * 8388608 → 24 + k ≤ 116
    fewer l = elim s.first [ inl z ↦ omega arith | inr f ↦ let f' : 8388608 ≤ m = f in omega arith ]

module _ (x : Float) (a : Accepts x) where
  -- x's size is at most 88
  size_most : mag x ≤ 88 * 2 ^ 149
  size_most = elim (sides x) [
    | inl h ↦ le_trans (le_of_eq (sym h.0)) a.at_most
    | inr h ↦ le_trans (le_of_eq (sym h.1)) (le_trans a.at_least (lit≤ tt))
  ]

  -- so that its pattern is one below 2 ^ 7
  pub size_small : to_bits binary32 x % 2147483648 < 134 * 8388608
  size_small = elim (le-or-lt (134 * 8388608) (to_bits binary32 x % 2147483648)) [
    | inl l ↦ absurd (not-le_of_lt (beyond 16777215 132 (record { few = omega arith; first = inr (omega arith) }) x a.number (omega arith)) (le_trans size_most (lit≤ tt)))
    | inr l ↦ l
  ]

  size_steps : natural_steps (to_bits binary32 x % 2147483648) ≡ steps_in (mag x)
  size_steps =
      let t = packed_of x a.number in
      let few : t.m < 16777216 = t.shape.few in
      let small = size_small in
      rw (t.size_bits_lem, t.units) (by_pattern t.m t.k t.shape (top t.m t.k (rw t.size_bits_lem at small)))
    where
      top : (m k : ℕ) → packed m k < 134 * 8388608 → k ≤ 156
      top m k l = omega arith

  -- there is room below 126 for what is taken away, and above for what is added
  pub room : steps_in (N x) ≤ 126 * D
  room = le_of_mul-le-mul_right (le_trans (div-mul-le_self (N x * log2E) (2 ^ 156)) (le_trans (mul-le-mul_right log2E a.at_least) (lit≤ tt))) (pow_pos 156)

  pub headroom : steps_in (P x) ≤ 127 * D
  headroom = le_of_mul-le-mul_right (le_trans (div-mul-le_self (P x * log2E) (2 ^ 156)) (le_trans (mul-le-mul_right log2E a.at_most) (lit≤ tt))) (pow_pos 156)

  pub natural_top : natural_cut x ≤ 253 * D
  unfolding natural_cut
  natural_top = within (steps_in (P x)) (steps_in (N x)) headroom
    where
      within : (p n : ℕ) → p ≤ 127 * D → 126 * D + p - n ≤ 253 * D
      within p n h = omega arith

  -- without the sign's bit the steps are added
  pub natural_plus : to_bits binary32 x < 2147483648 → 126 * 2 ^ 32 + natural_steps (to_bits binary32 x % 2147483648) ≡ natural_cut x
  unfolding natural_cut
  natural_plus l =
      let (p, n) = sign_clear x a.number l in
      added (natural_steps (to_bits binary32 x % 2147483648)) (steps_in (P x)) (steps_in (N x)) (size_steps ∙ ap steps_in (sym p)) (ap steps_in n ∙ none)
    where
      added : (k p n : ℕ) → k ≡ p → n ≡ 0 → 126 * 2 ^ 32 + k ≡ 126 * 2 ^ 32 + p - n
      added k p n e z = omega arith

  -- with it they are taken away
  pub natural_minus : 2147483648 ≤ to_bits binary32 x → (natural_steps (to_bits binary32 x % 2147483648) ≤ 126 * 2 ^ 32) × (126 * 2 ^ 32 - natural_steps (to_bits binary32 x % 2147483648) ≡ natural_cut x)
  unfolding natural_cut
  natural_minus l =
      let (p, n) = sign_set x a.number l in
      taken_away (natural_steps (to_bits binary32 x % 2147483648)) (steps_in (P x)) (steps_in (N x)) (size_steps ∙ ap steps_in (sym n)) (ap steps_in p ∙ none) room
    where
      taken_away : (k p n : ℕ) → k ≡ n → p ≡ 0 → n ≤ 126 * 2 ^ 32 → (k ≤ 126 * 2 ^ 32) × (126 * 2 ^ 32 - k ≡ 126 * 2 ^ 32 + p - n)
      taken_away k p n e z h = (omega arith, omega arith)
