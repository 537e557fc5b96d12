-- The promise of 2 ^ x, put together from the rooms: Told and Decided (the digits, open or not), Reduction (the argument), Middles (what follows). Assumes nothing.
use Rattle.std.proofs.Common.{◌≡◌, ℕ, ◌+◌, ◌-◌, ◌*◌, ◌/◌, ◌%◌, ◌^◌, ◌<◌, ◌≤◌, Bool, true, false, cond, sym, refl, ap, ◌∙◌, subst, inr, le_trans, mul-le-mul_right, mod-lt, le-mul_of_pos_right, arith, lit<, lit≤, pow_pos, pow-add}
use native.Mathlib.Nat.{one-le-mul, mul-sub}
use lib.Ieee.{Float}
use Rattle.units.specs.Units.{P, N, Le}
use Rattle.units.proofs.Signs.{plus_of_lem}
use Rattle.units.specs.Answers.{Ends, float_bits}
use Rattle.units.proofs.Answers.{given, declined, written, untouched}
use Rattle.units.proofs.Bits.{Is, put_positive, no_nan_positive}
use Rattle.units.proofs.Patterns.{pattern_back}
use Rattle.fixed.proofs.Nearest.{in_order}
use Rattle.exact.specs.Power.{LessThan, MoreThan}
use Rattle.exact.proofs.Power.{most_of_less, least_of_more, most_of_larger}
use Rattle.exact.proofs.Strict.{less_most, not_both}
use Rattle.gaps.proofs.Powers.{rising, falling}
use Rattle.powers.specs.Exp2.{Accepts, NearestPower, NearPower, exp2_error_num, exp2_error_den, Exp2}
use Rattle.powers.specs.Raised.{raised}
use Rattle.powers.specs.Value.{cut_of, power_digits, is_left_open, fraction_of, fine_digits, exp2_digits, exp2_bits, exp2_of}
use Rattle.powers.proofs.Method.{D, raised-zero}
use Rattle.powers.proofs.Rounding.{digits_zero}
use Rattle.powers.proofs.Reduction.{cut_whole, cut_top}
use Rattle.powers.proofs.Order.{exponent_of, first, last, pattern_in}
use Rattle.powers.proofs.Middles.{Found, rounds_nearest, rounds_near}
use Rattle.powers.proofs.Told.{told}
use Rattle.powers.proofs.Covered.{open_fraction, exactly}
use Rattle.powers.proofs.Decided.{decided}

fraction_fits : (x : Float) → fraction_of x < 2 ^ 64
unfolding fraction_of
fraction_fits x = mod-lt ((126 * 2 ^ 149 + P x - N x) / 2 ^ 85) (pow_pos 64)

-- 24 digits S that make a float with the whole part of what x was cut to, and that float is the nearest
record Digits (x : Float) (S : ℕ) : Type 0 where
  least : 2 ^ 23 ≤ S
  most : S ≤ 2 ^ 24
  finite : exponent_of (cut_of x) * 8388608 + S < 255 * 8388608
  found : Found x (S * 2 ^ exponent_of (cut_of x))

module _ (x : Float) (a : Accepts x) where
  abbrev X : ℕ
  X = cut_of x

  abbrev f : ℕ
  f = X % 2 ^ 32

  abbrev g : ℕ
  g = exponent_of X

  -- ---- digits, open or not

  not_open : is_left_open (raised f) ≡ false → Digits x (power_digits f)
  not_open e = record { least = first X; most = last X; finite = pattern_in X (cut_top x a); found = told x a e }

  is_open : is_left_open (raised f) ≡ true → Digits x (fine_digits (fraction_of x))
  is_open e =
      let h = exactly x a e rising falling in
      let r = decided x g (fraction_of x) (fraction_fits x) h.whole h.point in
      let (above, below) = open_fraction f (omega arith) e in
      record { least = r.least; most = r.most; finite = under X (fine_digits (fraction_of x)) r.most (cut_top x a) above; found = record { S = fine_digits (fraction_of x); g = g; rounds = r; same = refl } }
    where
      -- 127 itself is not open
      under : (X S : ℕ) → S ≤ 2 ^ 24 → X ≤ 253 * D → 256 < X % 2 ^ 32 → X / 2 ^ 32 * 8388608 + S < 255 * 8388608
      under X S few top above = omega arith

  digits : Digits x (exp2_digits x)
  unfolding exp2_digits
  digits = go (is_left_open (raised f)) refl
    where
      go : (b : Bool) → is_left_open (raised f) ≡ b → Digits x (cond b (fine_digits (fraction_of x)) (power_digits f))
      go true e = is_open e
      go false e = not_open e

  -- the value function's float has so many units
  exp2_is : Is (exp2_of x) false (exp2_digits x * 2 ^ g)
  unfolding exp2_of exp2_bits
  exp2_is = put_positive (exp2_digits x) g (inr digits.least) digits.most digits.finite

  exp2_units : P (exp2_of x) ≡ exp2_digits x * 2 ^ g
  exp2_units = plus_of_lem (exp2_of x) exp2_is.sign ∙ exp2_is.units

  found_is : Is (exp2_of x) false (digits.found.S * 2 ^ digits.found.g)
  found_is = subst (λ (u : ℕ). Is (exp2_of x) false u) digits.found.same exp2_is

  -- ---- nearest, and so near

  pub exp2_nearest : NearestPower x (exp2_of x)
  exp2_nearest = rounds_nearest x digits.found.S digits.found.g digits.found.rounds (exp2_of x) found_is

  exp2_near : NearPower exp2_error_num exp2_error_den x (exp2_of x)
  exp2_near = rounds_near x digits.found.S digits.found.g digits.found.rounds (exp2_of x) found_is

  -- ---- exact powers, normal results

  zero_digits : f ≡ 0 → exp2_digits x ≡ 2 ^ 23
  unfolding exp2_digits is_left_open
  zero_digits z = ap (λ (d : ℕ). cond (is_left_open (raised d)) (fine_digits (fraction_of x)) (power_digits d)) z ∙ ap (λ (r : ℕ). cond (is_left_open r) (fine_digits (fraction_of x)) (power_digits 0)) raised-zero ∙ digits_zero

  exp2_whole : (n m : ℕ) → P x + m * 2 ^ 149 ≡ N x + n * 2 ^ 149 → P (exp2_of x) * 2 ^ m ≡ 2 ^ n * 2 ^ 149
  exp2_whole n m e =
      let c = cut_whole x a n m e in
      let (z, w) = whole_parts X n m c in
      ap (λ (u : ℕ). u * 2 ^ m) (exp2_units ∙ ap (λ (d : ℕ). d * 2 ^ g) (zero_digits z) ∙ sym (pow-add 2 23 g))
      ∙ sym (pow-add 2 (23 + g) m)
      ∙ ap (λ (k : ℕ). 2 ^ k) w
      ∙ pow-add 2 n 149
    where
      whole_parts : (X n m : ℕ) → X + m * D ≡ (126 + n) * D → (X % 2 ^ 32 ≡ 0) × (23 + X / 2 ^ 32 + m ≡ n + 149)
      whole_parts X n m c = (omega arith, omega arith)

  exp2_normal : 2 ^ 23 ≤ P (exp2_of x)
  exp2_normal = rw exp2_units (le_trans digits.least (le-mul_of_pos_right (exp2_digits x) (pow_pos g)))

-- ---- order: the middle of two results lies on one side only

exponents : (p n p' n' u : ℕ) → p' + n ≤ p + n' → p' * u + n * u ≤ p * u + n' * u
exponents p n p' n' u h = omega (arith, mul-le-mul_right u h)

-- no number is above 2 · 2 ^ x and below 2 · 2 ^ x', for x' up to x
pub sides_apart : (x x' : Float) → Le x' x → (s : ℕ) → MoreThan s (2 * 2 ^ 149) (P x) (N x) (2 ^ 149) → LessThan s (2 * 2 ^ 149) (P x') (N x') (2 ^ 149) → ⊥
sides_apart x x' l s over under = not_both (most_of_larger (pow_pos 149) (exponents (P x) (N x) (P x') (N x') (2 ^ 149) l) (less_most under)) over

exp2_order : (x : Float) → Accepts x → (x' : Float) → Accepts x' → Le x' x → Le (exp2_of x') (exp2_of x)
exp2_order x a x' a' l =
    in_order (λ s. MoreThan s (2 * 2 ^ 149) (P x) (N x) (2 ^ 149)) (λ s. LessThan s (2 * 2 ^ 149) (P x') (N x') (2 ^ 149)) (sides_apart x x' l) (exp2_of x) (exp2_of x')
    ((exp2_nearest x a).from_above (exp2_of x') (exp2_is x' a').number) ((exp2_nearest x' a').from_below (exp2_of x) (exp2_is x a).number)

-- ---- weaker bounds

-- a' / b' is no less than a / b: over plain numbers
module _ (a b a' b' : ℕ) (wider : a * b' ≤ a' * b) where
  pub more : (p q : ℕ) → b' * p * ((b + a) * q) ≤ b * p * ((b' + a') * q)
  more p q = omega (arith, mul-le-mul_right (p * q) wider)

  pub fewer : (p q : ℕ) → b * p * ((b' - a') * q) ≤ b' * p * ((b - a) * q)
  fewer p q = through (b' - a') (b - a) (rw (mul-sub b b' a', mul-sub b' b a) (omega arith))
    where
      through : (c d : ℕ) → b * c ≤ b' * d → b * p * (c * q) ≤ b' * p * (d * q)
      through c d h = omega (arith, mul-le-mul_right (p * q) h)

-- what is within a / b of 2 ^ x is within every larger a' / b' of it
pub weaker : {a b a' b' : ℕ} {x r : Float} → a' < b' → a * b' ≤ a' * b → NearPower a b x r → NearPower a' b' x r
weaker {a} {b} {a'} {b'} {x} {r} less wider w = record {
  plus = w.plus;
  at_most = most_of_less (one-le-mul (omega arith) (pow_pos 149)) (more a b a' b' wider (P r) (2 ^ 149)) w.at_most;
  at_least = least_of_more (one-le-mul (omega arith) (pow_pos 149)) (fewer a b a' b' wider (P r) (2 ^ 149)) w.at_least;
}

-- so the result is within 2 ^ -22, which document 01 asks for
pub as_asked : {x r : Float} → NearPower exp2_error_num exp2_error_den x r → NearPower 1 (2 ^ 22) x r
as_asked = weaker (lit< tt) (lit≤ tt)

-- ---- the whole promise, of an accepted x and of any other

-- code 0 and the value
promised : (x : Float) → Accepts x → Exp2 x 0 (exp2_of x)
promised x a = record {
  answers = given exp2_of x (exp2_of x) a refl (exp2_is x a).number;
  nearest = λ h. exp2_nearest x a;
  near = λ h. exp2_near x a;
  whole = λ h. exp2_whole x a;
  normal = λ h. exp2_normal x a;
  order = λ h. exp2_order x a;
}

-- code 1
refused : (x : Float) → ¬ Accepts x → Exp2 x 1 (exp2_of x)
refused x n = record {
  answers = declined exp2_of x (exp2_of x) n;
  nearest = λ h. absurd (n h);
  near = λ h. absurd (n h);
  whole = λ h. absurd (n h);
  normal = λ h. absurd (n h);
  order = λ h. absurd (n h);
}

-- ---- how the call ends

-- the pattern that is written is the value's
pub success : (x : Float) {before after : ℕ} → Accepts x → after ≡ exp2_bits x → Ends float_bits (Exp2 x) 0 before after
unfolding exp2_of exp2_bits
success x a e = written (exp2_of x) (promised x a) (e ∙ sym (pattern_back _ (omega (arith, in_pattern)) (no_nan_positive _ in_pattern)))
  where
    in_pattern : exp2_bits x < 255 * 8388608
    in_pattern = (digits x a).finite

-- nothing is written
pub refusal : (x : Float) {before : ℕ} → ¬ Accepts x → Ends float_bits (Exp2 x) 1 before before
refusal x n = untouched 1 (exp2_of x) (λ z. omega arith) (refused x n)
