-- The digits of a float shifted to their place in a phase: m 2 ^ e / 2 ^ 87, cut off, of which 64 digits are left. Assumes nothing.
use Rattle.std.proofs.Common.{◌≡◌, ℕ, ◌+◌, ◌-◌, ◌*◌, ◌/◌, ◌%◌, ◌^◌, ◌<◌, ◌≤◌, sym, ap, ◌∙◌, le_trans, le_of_eq, lt_of_lt_of_le, lt_of_le_of_lt, mod-eq_of_lt, mul_assoc, mul-lt-mul_of_pos_right, div-le_self, mul-div_cancel, arith, pow_pos, pow_mono, pow-add}
use native.Mathlib.Nat.{div-eq_of_lt, mul-div-mul_right}

-- m has 24 digits
module _ (m e : ℕ) (few : m < 2 ^ 24) where
  abbrev shifted : ℕ
  shifted = m * 2 ^ e / 2 ^ 87 % 2 ^ 64

  power : (i j k : ℕ) → k ≡ i + j → 2 ^ k ≡ 2 ^ i * 2 ^ j
  power i j k s = ap (λ (n : ℕ). 2 ^ n) s ∙ pow-add 2 i j

  -- far below the place nothing is left
  pub shifted_out : e < 63 → 0 ≡ shifted
  shifted_out h =
      let least : 24 + e ≤ 87 = omega arith in
      let under : m * 2 ^ e < 2 ^ 87 = lt_of_lt_of_le (mul-lt-mul_of_pos_right few (pow_pos e)) (le_trans (le_of_eq (sym (pow-add 2 24 e))) (pow_mono least)) in
      sym (ap (λ (n : ℕ). n % 2 ^ 64) (div-eq_of_lt under) ∙ mod-eq_of_lt (pow_pos 64))

  -- below it they are shifted left by as much less, and 24 of them are cut off
  pub shifted_right : 63 ≤ e → e < 87 → m * 2 ^ (e - 63) % 2 ^ 64 / 16777216 ≡ shifted
  shifted_right l h =
      let least : 24 + (e - 63) ≤ 64 = omega arith in
      let fits : m * 2 ^ (e - 63) < 2 ^ 64 = lt_of_lt_of_le (mul-lt-mul_of_pos_right few (pow_pos (e - 63))) (le_trans (le_of_eq (sym (pow-add 2 24 (e - 63)))) (pow_mono least)) in
      let small : m * 2 ^ (e - 63) / 2 ^ 24 < 2 ^ 64 = lt_of_le_of_lt (div-le_self (m * 2 ^ (e - 63)) (2 ^ 24)) fits in
      let place : m * 2 ^ e ≡ m * 2 ^ (e - 63) * 2 ^ 63 = ap (λ (n : ℕ). m * n) (power (e - 63) 63 e (omega arith)) ∙ sym (mul_assoc m (2 ^ (e - 63)) (2 ^ 63)) in
      ap (λ (n : ℕ). n / 2 ^ 24) (mod-eq_of_lt fits) ∙ sym (ap (λ (n : ℕ). n / 2 ^ 87 % 2 ^ 64) place ∙ ap (λ (n : ℕ). n % 2 ^ 64) (mul-div-mul_right (m * 2 ^ (e - 63)) (2 ^ 24) (pow_pos 63)) ∙ mod-eq_of_lt small)

  -- above it, left
  pub shifted_left : 87 ≤ e → m * 2 ^ (e - 87) % 2 ^ 64 ≡ shifted
  shifted_left h = sym (ap (λ (n : ℕ). n % 2 ^ 64) left)
    where
      left : m * 2 ^ e / 2 ^ 87 ≡ m * 2 ^ (e - 87)
      left =
          ap (λ (n : ℕ). m * n / 2 ^ 87) (power (e - 87) 87 e (omega arith)) ∙ ap (λ (n : ℕ). n / 2 ^ 87) (sym (mul_assoc m (2 ^ (e - 87)) (2 ^ 87))) ∙ mul-div_cancel (m * 2 ^ (e - 87)) (pow_pos 87)

-- each place that a phase of pi x has
pub ruleset shifts = (shifted_out, shifted_right, shifted_left)
