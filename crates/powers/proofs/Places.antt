-- The digits of x at their place among steps of 2 ^ -64, from 2 ^ -41 on: the fraction of x, and what the program reads of the pattern. Assumes nothing.
use Rattle.std.proofs.Common.{◌≡◌, ℕ, ◌+◌, ◌-◌, ◌*◌, ◌/◌, ◌%◌, ◌^◌, ◌<◌, ◌≤◌, Bool, true, false, cond, sym, ap, ◌∙◌, ap₂, le_trans, le_of_eq, lt_of_lt_of_le, lt_of_le_of_lt, mul-le-mul_right, mul_assoc, mul_comm, mul-lt-mul_of_pos_right, le_of_mul-le-mul_right, mul-div_cancel, arith, lit≤, pow_pos, pow-add}
use native.Mathlib.Nat.{mul-sub, mul-div-mul_right}
use lib.Ieee.{Float, binary32, to_bits}
use Rattle.units.specs.Units.{mag, negative, P, N, Number}
use Rattle.units.proofs.Naturals.{pow_back_lt, pow_split}
use Rattle.units.proofs.Signs.{plus_of_lem, minus_of_lem}
use Rattle.units.proofs.Bits.{sign_bit, Pattern, pattern_normal}
use Rattle.powers.specs.Exp2.{Accepts}
use Rattle.powers.specs.Value.{cut_of, fraction_of}
use Rattle.powers.proofs.Taken.{size_small, plus_sign, minus_sign}

-- ---- what x is cut to, by its sign

less_none : (s : ℕ) → s - 0 ≡ s
less_none s = omega arith

module _ (x : Float) where
  pub cut_plus : P x ≡ mag x → N x ≡ 0 → cut_of x ≡ 126 * 2 ^ 32 + mag x / 2 ^ 117
  unfolding cut_of
  cut_plus p n = ap₂ (λ (i j : ℕ). 126 * 2 ^ 32 + i / 2 ^ 117 - j / 2 ^ 117) p n ∙ less_none (126 * 2 ^ 32 + mag x / 2 ^ 117)

  pub cut_minus : P x ≡ 0 → N x ≡ mag x → cut_of x ≡ 126 * 2 ^ 32 - mag x / 2 ^ 117
  unfolding cut_of
  cut_minus p n = ap₂ (λ (i j : ℕ). 126 * 2 ^ 32 + i / 2 ^ 117 - j / 2 ^ 117) p n

-- ---- m 2 ^ j steps of 2 ^ -64

pub record Placed (x : Float) : Type 0 where
  pub m : ℕ
  pub j : ℕ
  pub least : 2 ^ 23 ≤ m
  pub digits : m < 2 ^ 24
  pub steps : mag x ≡ m * 2 ^ j * 2 ^ 85
  pub bits : to_bits binary32 x ≡ sign_bit (negative x) + ((j + 85) * 8388608 + m)

pub placed : (x : Float) → Number x → 2 ^ 109 ≤ mag x → Placed x
placed x h size = record {
  m = t.m;
  j = t.k - 85;
  least = t.least;
  digits = t.digits;
  steps = t.units ∙ ap (λ (n : ℕ). t.m * n) (pow_split 85 t.k high) ∙ sym (mul_assoc t.m (2 ^ (t.k - 85)) (2 ^ 85));
  bits = t.bits ∙ ap (λ (k : ℕ). sign_bit (negative x) + (k * 8388608 + t.m)) (back t.k high);
}
  where
    t : Pattern x
    t = pattern_normal x h (le_trans (lit≤ tt) size)

    long : 109 < 24 + t.k
    long = pow_back_lt 109 (24 + t.k) (lt_of_le_of_lt size (lt_of_le_of_lt (le_of_eq t.units) (lt_of_lt_of_le (mul-lt-mul_of_pos_right t.digits (pow_pos t.k)) (le_of_eq (sym (pow-add 2 24 t.k))))))

    high : 85 ≤ t.k
    high = omega (arith, long)

    back : (k : ℕ) → 85 ≤ k → k ≡ k - 85 + 85
    back k h = omega arith

plus_div : (c w u p n : ℕ) → 0 < u → p ≡ w * u → n ≡ 0 → (c * u + p - n) / u ≡ c + w
plus_div c w u p n pos e z = let s : c * u + p - n ≡ (c + w) * u = omega arith in ap (λ (a : ℕ). a / u) s ∙ mul-div_cancel (c + w) pos

minus_div : (c w u p n : ℕ) → 0 < u → p ≡ 0 → n ≡ w * u → (c * u + p - n) / u ≡ c - w
minus_div c w u p n pos z e =
    let s : c * u + p - n ≡ u * c - u * w = omega arith in
    ap (λ (a : ℕ). a / u) (s ∙ sym (mul-sub u c w) ∙ mul_comm u (c - w)) ∙ mul-div_cancel (c - w) pos

module _ (x : Float) (t : Placed x) where
  abbrev w : ℕ
  w = t.m * 2 ^ t.j

  in_units : mag x ≡ t.m * 2 ^ (t.j + 85)
  in_units = t.steps ∙ mul_assoc t.m (2 ^ t.j) (2 ^ 85) ∙ ap (λ (n : ℕ). t.m * n) (sym (pow-add 2 t.j 85))

  pub places_from : (n : ℕ) → 2 ^ n ≤ mag x → n < 24 + (t.j + 85)
  places_from n h =
      pow_back_lt n (24 + (t.j + 85))
      (lt_of_le_of_lt h
      (lt_of_le_of_lt (le_of_eq in_units)
      (lt_of_lt_of_le (mul-lt-mul_of_pos_right t.digits (pow_pos (t.j + 85))) (le_of_eq (sym (pow-add 2 24 (t.j + 85)))))))

  -- cut to steps of 2 ^ -32
  pub in_cut : mag x / 2 ^ 117 ≡ w / 2 ^ 32
  in_cut = ap (λ (n : ℕ). n / 2 ^ 117) t.steps ∙ mul-div-mul_right w (2 ^ 32) (pow_pos 85)

  -- the fraction, by the sign
  pub fraction_plus : P x ≡ mag x → N x ≡ 0 → fraction_of x ≡ (126 * 2 ^ 64 + w) % 2 ^ 64
  unfolding fraction_of
  fraction_plus p n = ap (λ (i : ℕ). i % 2 ^ 64) (plus_div (126 * 2 ^ 64) w (2 ^ 85) (P x) (N x) (pow_pos 85) (p ∙ t.steps) n)

  pub fraction_minus : P x ≡ 0 → N x ≡ mag x → fraction_of x ≡ (126 * 2 ^ 64 - w) % 2 ^ 64
  unfolding fraction_of
  fraction_minus p n = ap (λ (i : ℕ). i % 2 ^ 64) (minus_div (126 * 2 ^ 64) w (2 ^ 85) (P x) (N x) (pow_pos 85) p (n ∙ t.steps))

  pub minus_room : N x ≡ mag x → N x ≤ 126 * 2 ^ 149 → w ≤ 126 * 2 ^ 64
  minus_room n h = le_of_mul-le-mul_right (le_trans (le_of_eq (sym (n ∙ t.steps))) h) (pow_pos 85)

-- ---- from the pattern
module _ (x : Float) (a : Accepts x) (size : 2 ^ 109 ≤ mag x) where
  abbrev b : ℕ
  b = to_bits binary32 x

  abbrev t : Placed x
  t = placed x a.number size

  -- at most 47 places
  pub places_few : t.j ≤ 47
  places_few = few t.j (pow_back_lt (23 + (t.j + 85)) 156 (lt_of_le_of_lt (le_trans (le_of_eq (pow-add 2 23 (t.j + 85))) (le_trans (mul-le-mul_right (2 ^ (t.j + 85)) t.least) (le_of_eq (sym (in_units x t))))) (size_small x a)))
    where
      few : (j : ℕ) → 23 + (j + 85) < 156 → j ≤ 47
      few j h = omega arith

  -- the pattern's digits and exponent
  read : (s : Bool) (b m j : ℕ) → b ≡ sign_bit s + ((j + 85) * 8388608 + m) → 2 ^ 23 ≤ m → m < 2 ^ 24 → j ≤ 47 → (b % 8388608 + 8388608 ≡ m) × (b % 2147483648 / 8388608 ≡ j + 86)
  read true b m j e l h k = (omega arith, omega arith)
  read false b m j e l h k = (omega arith, omega arith)

  pub read_digits : b % 8388608 + 8388608 ≡ t.m
  read_digits = (read (negative x) b t.m t.j t.bits t.least t.digits places_few).0

  pub read_exponent : b % 2147483648 / 8388608 ≡ t.j + 86
  read_exponent = (read (negative x) b t.m t.j t.bits t.least t.digits places_few).1

  -- the digits shifted to their place
  pub shifted : (b % 8388608 + 8388608) * 2 ^ (b % 2147483648 / 8388608 - 86) ≡ w x t
  shifted = ap₂ (λ (n e : ℕ). n * 2 ^ (e - 86)) read_digits read_exponent ∙ ap (λ (e : ℕ). t.m * 2 ^ e) (back t.j)
    where
      back : (j : ℕ) → j + 86 - 86 ≡ j
      back j = omega arith

  -- are the fraction, what is before the point cut off
  pub taken_plus : b < 2147483648 → w x t % 2 ^ 64 ≡ fraction_of x
  taken_plus l = cut (w x t) ∙ sym (fraction_plus x t (plus_of_lem x (plus_sign x a l)) (minus_of_lem x (plus_sign x a l)))
    where
      cut : (n : ℕ) → n % 2 ^ 64 ≡ (126 * 2 ^ 64 + n) % 2 ^ 64
      cut n = omega arith

  -- or, of a negative x, what is missing to a whole number
  pub taken_minus : 2147483648 ≤ b → (r : ℕ) → r < 2 ^ 64 → (r + w x t % 2 ^ 64) % 2 ^ 64 ≡ 0 → r ≡ fraction_of x
  taken_minus l r fits e =
      let p : P x ≡ 0 = ap (λ (s : Bool). cond s 0 (mag x)) (minus_sign x a l) in
      let n : N x ≡ mag x = ap (λ (s : Bool). cond s (mag x) 0) (minus_sign x a l) in
      missing r (w x t) fits (minus_room x t n a.at_least) e ∙ sym (fraction_minus x t p n)
    where
      missing : (r n : ℕ) → r < 2 ^ 64 → n ≤ 126 * 2 ^ 64 → (r + n % 2 ^ 64) % 2 ^ 64 ≡ 0 → r ≡ (126 * 2 ^ 64 - n) % 2 ^ 64
      missing r n h k e = omega arith
