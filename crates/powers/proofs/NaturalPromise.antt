-- The promise of e ^ x, put together from the rooms of 2 ^ x (Method, Rounding, Order) and the argument of its own (NaturalReduction). Assumes nothing.
use Rattle.std.proofs.Common.{◌≡◌, ℕ, ◌+◌, ◌-◌, ◌*◌, ◌%◌, ◌^◌, ◌<◌, ◌≤◌, false, sym, refl, ap, ◌∙◌, ap₂, le_trans, mul-le-mul_right, le-mul_of_pos_right, arith, lit<, lit≤, pow_pos}
use native.Mathlib.Nat.{one-le-mul}
use lib.Ieee.{Float, binary32, of_bits}
use Rattle.units.specs.Units.{mag, P, N, Le}
use Rattle.units.specs.Answers.{Ends, float_bits}
use Rattle.units.proofs.Signs.{plus_of_lem, minus_of_lem, size-sum}
use Rattle.units.proofs.Answers.{given, declined, written, untouched}
use Rattle.units.proofs.Bits.{Is, no_nan_positive}
use Rattle.units.proofs.Patterns.{pattern_back}
use Rattle.exact.specs.Exponential.{ExpAtMost, ExpAtLeast}
use Rattle.exact.proofs.Power.{most_shift, least_shift}
use Rattle.exact.proofs.ExpBounds.{exp_most_of_less, exp_least_of_more}
use Rattle.powers.specs.Exp.{Accepts, NearExp, exp_error_num, exp_error_den, Exp}
use Rattle.powers.specs.Value.{rounded_power, natural_cut, exp_of}
use Rattle.powers.proofs.Method.{D}
use Rattle.powers.proofs.Rounding.{digits_zero, digits_most, digits_least}
use Rattle.powers.proofs.Order.{exponent_of, fraction_digits, first, pattern_in, pattern_is, units_mono}
use Rattle.powers.proofs.Promise.{more, fewer}
use Rattle.powers.proofs.NaturalTaken.{steps_in, natural_top}
use Rattle.powers.proofs.NaturalReduction.{most_natural_uncut, least_natural_uncut, natural_mono}

whole-one : rounded_power (126 * D) ≡ 0x3f800000
unfolding rounded_power
whole-one = ap (λ (s : ℕ). 126 * 8388608 + s) digits_zero

module _ (x : Float) (a : Accepts x) where
  abbrev X : ℕ
  X = natural_cut x

  abbrev f : ℕ
  f = X % 2 ^ 32

  abbrev S : ℕ
  S = fraction_digits X

  abbrev g : ℕ
  g = exponent_of X

  -- the value function's float has S 2 ^ g units
  exp_is : Is (exp_of x) false (S * 2 ^ g)
  unfolding exp_of rounded_power
  exp_is = pattern_is X (natural_top x a)

  exp_units : P (exp_of x) ≡ S * 2 ^ g
  exp_units = plus_of_lem (exp_of x) exp_is.sign ∙ exp_is.units

  -- ---- near

  parts : f + g * D ≡ X
  parts = omega arith

  fraction : f ≤ D
  fraction = omega arith

  within_most : ExpAtMost (exp_error_den * P (exp_of x)) ((exp_error_den + exp_error_num) * 2 ^ 149) (P x) (N x) (2 ^ 149)
  within_most = rw exp_units (exp_most_of_less (lit< tt) (through exp_error_den _ (2 * D * D) (1000 * D) ((exp_error_den + exp_error_num) * 2 ^ 149) S (2 ^ g) (lit≤ tt)) whole)
    where
      whole : ExpAtMost (2 * D * D * (512 * S) * 2 ^ g * (1000 * D)) ((2 * D + 1) * (D + 256) * D * 2 ^ 126 * (1000 * D + 742)) (P x) (N x) (2 ^ 149)
      whole = most_natural_uncut x a (rw parts at (most_shift g 126 (digits_most f fraction)))

      through : (b d n t z s G : ℕ) → b * d ≤ n * 512 * t * z → b * (s * G) * d ≤ n * (512 * s) * G * t * z
      through b d n t z s G h = omega (arith, mul-le-mul_right (s * G) h)

  within_least : ExpAtLeast (exp_error_den * P (exp_of x)) ((exp_error_den - exp_error_num) * 2 ^ 149) (P x) (N x) (2 ^ 149)
  within_least =
      rw exp_units
      (exp_least_of_more (lit< tt)
      (through exp_error_den _ ((2 * D + 1) * (400 * D + 102501)) (1000 * D + 742) ((exp_error_den - exp_error_num) * 2 ^ 149) S (2 ^ g) (lit≤ tt)) whole)
    where
      whole : ExpAtLeast ((2 * D + 1) * (400 * D + 102501) * (512 * S) * 2 ^ g * (1000 * D + 742)) (2 * D * (400 * D * D) * 2 ^ 126 * (1000 * D)) (P x) (N x) (2 ^ 149)
      whole = least_natural_uncut x a (rw parts at (least_shift g 126 (digits_least f fraction)))

      through : (b d n t z s G : ℕ) → n * 512 * t * z ≤ b * d → n * (512 * s) * G * t * z ≤ b * (s * G) * d
      through b d n t z s G h = omega (arith, mul-le-mul_right (s * G) h)

  exp_near : NearExp exp_error_num exp_error_den x (exp_of x)
  exp_near = record { plus = minus_of_lem (exp_of x) exp_is.sign; at_most = within_most; at_least = within_least }

  -- ---- exactly 1 at 0, normal results

  natural-zero : P x ≡ 0 → N x ≡ 0 → natural_cut x ≡ 126 * D
  unfolding natural_cut
  natural-zero i j = ap₂ (λ (m n : ℕ). 126 * D + steps_in m - steps_in n) i j

  exp_one : mag x ≡ 0 → exp_of x ≡ of_bits binary32 0x3f800000
  unfolding exp_of
  exp_one z = ap (λ (c : ℕ). of_bits binary32 (rounded_power c)) (natural-zero (parts_zero (P x) (N x) (mag x) (size-sum x) z).0 (parts_zero (P x) (N x) (mag x) (size-sum x) z).1) ∙ ap (of_bits binary32) whole-one
    where
      parts_zero : (i j m : ℕ) → i + j ≡ m → m ≡ 0 → (i ≡ 0) × (j ≡ 0)
      parts_zero i j m e z = (omega arith, omega arith)

  exp_normal : 2 ^ 23 ≤ P (exp_of x)
  exp_normal = rw exp_units (le_trans (first X) (le-mul_of_pos_right S (pow_pos g)))

-- ---- order

exp_order : (x : Float) → Accepts x → (x' : Float) → Accepts x' → Le x' x → Le (exp_of x') (exp_of x)
exp_order x a x' a' l =
    let u = units_mono (natural_cut x) (natural_cut x') (natural_mono x x' l) in
    let r = exp_units x a in
    let r' = exp_units x' a' in
    let n = minus_of_lem (exp_of x) (exp_is x a).sign in
    let n' = minus_of_lem (exp_of x') (exp_is x' a').sign in
    omega arith

-- ---- the whole promise, of an accepted x and of any other

-- code 0 and the value
promised : (x : Float) → Accepts x → Exp x 0 (exp_of x)
promised x a = record {
  answers = given exp_of x (exp_of x) a refl (exp_is x a).number;
  near = λ h. exp_near x a;
  one = λ h. exp_one x a;
  normal = λ h. exp_normal x a;
  order = λ h. exp_order x a;
}

-- code 1
refused : (x : Float) → ¬ Accepts x → Exp x 1 (exp_of x)
refused x n = record {
  answers = declined exp_of x (exp_of x) n;
  near = λ h. absurd (n h);
  one = λ h. absurd (n h);
  normal = λ h. absurd (n h);
  order = λ h. absurd (n h);
}

-- ---- how the call ends

pub success : (x : Float) {before after : ℕ} → Accepts x → after ≡ rounded_power (natural_cut x) → Ends float_bits (Exp x) 0 before after
unfolding exp_of rounded_power
success x a e = written (exp_of x) (promised x a) (e ∙ sym (pattern_back _ (omega (arith, in_pattern)) (no_nan_positive _ in_pattern)))
  where
    in_pattern : exponent_of (natural_cut x) * 8388608 + fraction_digits (natural_cut x) < 255 * 8388608
    in_pattern = pattern_in (natural_cut x) (natural_top x a)

pub refusal : (x : Float) {before : ℕ} → ¬ Accepts x → Ends float_bits (Exp x) 1 before before
refusal x n = untouched 1 (exp_of x) (λ z. omega arith) (refused x n)

-- ---- weaker bounds

-- what is within a / b of e ^ x is within every larger a' / b' of it
pub weaker : {a b a' b' : ℕ} {x r : Float} → a' < b' → a * b' ≤ a' * b → NearExp a b x r → NearExp a' b' x r
weaker {a} {b} {a'} {b'} {x} {r} less wider w = record {
  plus = w.plus;
  at_most = exp_most_of_less (one-le-mul (omega arith) (pow_pos 149)) (more a b a' b' wider (P r) (2 ^ 149)) w.at_most;
  at_least = exp_least_of_more (one-le-mul (omega arith) (pow_pos 149)) (fewer a b a' b' wider (P r) (2 ^ 149)) w.at_least;
}

-- so the result is within 2 ^ -22, which is asked
pub as_asked : {x r : Float} → NearExp exp_error_num exp_error_den x r → NearExp 1 (2 ^ 22) x r
as_asked = weaker (lit< tt) (lit≤ tt)
