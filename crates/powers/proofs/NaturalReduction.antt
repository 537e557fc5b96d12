-- The argument of e ^ x: x log2 e cut to a whole number of 2 ^ -32, with log2 e of 40 digits, loses less than 107 / 100 of one. Assumes nothing.
use Rattle.std.proofs.Common.{◌≡◌, ℕ, ◌+◌, ◌-◌, ◌*◌, ◌^◌, ◌≤◌, sym, ap, inl, inr, le_trans, le_of_eq, le_of_lt, mul-le-mul_right, mul-le-mul_left, div-mul-le_self, le_of_mul-le-mul_right, arith, lit<, lit≤, pow_pos}
use native.Mathlib.Nat.{one-le-mul, lt-div-mul-add}
use lib.Ieee.{Float}
use Rattle.units.specs.Units.{P, N, Le}
use Rattle.units.proofs.Naturals.{le-or-lt}
use Rattle.exact.specs.Series.{denominator}
use Rattle.exact.specs.Polynomial.{value}
use Rattle.exact.specs.Power.{AtMost, AtLeast}
use Rattle.exact.specs.Exponential.{powers, ExpAtMost, ExpAtLeast}
use Rattle.exact.proofs.Series.{over_pos}
use Rattle.exact.proofs.Power.{least_of_more, most_mul, least_mul, most_of_larger, least_of_smaller, through_power}
use Rattle.exact.proofs.Tight.{upper, tight_above}
use Rattle.exact.proofs.Natural.{ln_two, ln_unit, exponential_most, exponential_least}
use Rattle.fixed.proofs.Horner.{quotients}
use Rattle.powers.specs.Exp.{Accepts}
use Rattle.powers.specs.Value.{log2E, natural_cut}
use Rattle.powers.proofs.Method.{D}
use Rattle.powers.proofs.Reduction.{part_order, counted_order}
use Rattle.powers.proofs.NaturalTaken.{steps_in, room}

-- ---- ln 2 and log2 e, as they were cut off

-- together they make less than 1
at_most_one : (ln_two + 1) * log2E ≤ 2 ^ 135
unfolding ln_two
at_most_one = lit≤ tt

-- and so little less that x up to 88 loses 7 / 100 of a step
hardly_less : 100 * 2 ^ 135 * (88 * 2 ^ 149) ≤ 100 * (ln_two * log2E) * (88 * 2 ^ 149) + 7 * (ln_two * 2 ^ 156)
unfolding ln_two
hardly_less = lit≤ tt

width : 2 ^ 135 ≤ ln_unit * D * 2 ^ 7
unfolding ln_unit
width = lit≤ tt

narrow : ln_unit * (100 * D) * 2 ^ 7 ≤ 100 * 2 ^ 135
unfolding ln_unit
narrow = lit≤ tt

-- ---- e ^ p between powers of two, for p units of 2 ^ -149
module _ (p : ℕ) where
  -- 2 ^ (steps) ≤ e ^ p, from some partial sum on
  pub steps_least : (from : ℕ) × ((n : ℕ) → from ≤ n → AtLeast (powers p (2 ^ 149) n) (denominator (2 ^ 149) n) (steps_in p) 0 D)
  steps_least = exponential_least p (2 ^ 149) (steps_in p) D (pow_pos 149) (lit< tt) (le_of_mul-le-mul_right (through (ln_two + 1) (steps_in p) (2 ^ 149) (ln_unit * D) (2 ^ 7) (2 ^ 135) (div-mul-le_self (p * log2E) (2 ^ 156)) at_most_one width) (pow_pos 7))
    where
      through : (l u w c s o : ℕ) → u * (w * s) ≤ p * log2E → l * log2E ≤ o → o ≤ c * s → l * u * w * s ≤ p * c * s
      through l u w c s o h k m = omega (arith, mul-le-mul_left l h, mul-le-mul_left p k, mul-le-mul_left p m)

  -- e ^ p ≤ 2 ^ (steps + 107 / 100), for p up to 88
  steps_most : p ≤ 88 * 2 ^ 149 → (n : ℕ) → AtMost (powers p (2 ^ 149) n) (denominator (2 ^ 149) n) (100 * steps_in p + 107) 0 (100 * D)
  steps_most small = exponential_most p (2 ^ 149) (100 * steps_in p + 107) (100 * D) (pow_pos 149) (lit< tt) (le_of_mul-le-mul_right (through ln_two (steps_in p) (2 ^ 149) (ln_unit * (100 * D)) (2 ^ 7) (2 ^ 135) (le_of_lt (lt-div-mul-add (pow_pos 156))) lost narrow) (pow_pos 7))
    where
      -- what is missing to 1 costs p less than 7 / 100 of a step
      lost : 100 * 2 ^ 135 * p ≤ 100 * (ln_two * log2E) * p + 7 * (ln_two * 2 ^ 156)
      lost = scaled (100 * 2 ^ 135) (100 * (ln_two * log2E)) (7 * (ln_two * 2 ^ 156)) (88 * 2 ^ 149) small hardly_less
        where
          scaled : (o l s b : ℕ) → p ≤ b → o * b ≤ l * b + s → o * p ≤ l * p + s
          scaled o l s b less h = elim (le-or-lt o l) [ inl k ↦ omega (arith, mul-le-mul_right p k) | inr k ↦ apart (o - l) (omega arith) ]
            where
              apart : (d : ℕ) → o ≡ l + d → o * p ≤ l * p + s
              apart d e = omega (arith, mul-le-mul_left d less, ap (λ (x : ℕ). x * p) e, ap (λ (x : ℕ). x * b) e)

      through : (l u w c s o : ℕ) → p * log2E ≤ u * (w * s) + w * s → 100 * o * p ≤ 100 * (l * log2E) * p + 7 * (l * (w * s)) → c * s ≤ 100 * o → p * c * s ≤ l * (100 * u + 107) * w * s
      through l u w c s o h k m = omega (arith, mul-le-mul_left l h, mul-le-mul_left p m)

-- ---- 2 ^ (107 / 100 2 ^ -32)

-- it is at most 1 + 742 / (1000 D)
step_more : AtLeast (1000 * D + 742) (1000 * D) 107 0 (100 * D)
unfolding upper value
step_more = least_of_more (lit< tt) (lit≤ tt) (tight_above.bound 107 (100 * D) (lit< tt) (lit≤ tt))

-- ---- exponents in hundredths of a step
finer : (p m : ℕ) → p * (100 * D) + 100 * m * D ≡ 100 * p * D + m * (100 * D)
finer p m = omega arith

finer_most : {n c p m : ℕ} → AtMost n c p m D → AtMost n c (100 * p) (100 * m) (100 * D)
finer_most {p} {m} h = most_of_larger (lit< tt) (le_of_eq (finer p m)) h

finer_least : {n c p m : ℕ} → AtLeast n c p m D → AtLeast n c (100 * p) (100 * m) (100 * D)
finer_least {p} {m} h = least_of_smaller (lit< tt) (le_of_eq (sym (finer p m))) h

-- ---- from the exponent that is left to x's own

turned_most : (n c T Z E F w : ℕ) → n * E * (w * T) ≤ F * Z * (c * w) → n * T * E * w ≤ F * (c * Z) * w
turned_most n c T Z E F w g = omega arith

turned_least : (n c T Z E F w : ℕ) → F * (c * (w * T)) ≤ n * (E * Z) * w → F * (c * T) * w ≤ n * Z * E * w
turned_least n c T Z E F w g = omega arith

module _ (x : Float) (a : Accepts x) where
  abbrev X : ℕ
  X = natural_cut x

  abbrev p : ℕ
  p = steps_in (P x)

  abbrev q : ℕ
  q = steps_in (N x)

  abbrev d : ℕ → ℕ
  d = denominator (2 ^ 149)

  -- X is 126 and the steps of x
  balance : X + q ≡ 126 * D + p
  unfolding natural_cut
  balance = taken p q (room x a)
    where
      taken : (i j : ℕ) → j ≤ 126 * D → 126 * D + i - j + j ≡ 126 * D + i
      taken i j h = omega arith

  -- the exponents of both sides of a bound are equal
  equal : (X q p : ℕ) → X + q ≡ 126 * D + p → (100 * X + (100 * q + 107)) * (100 * D) + 0 * (100 * D) ≡ (100 * p + 107) * (100 * D) + (100 * (126 * D) + 0) * (100 * D)
  equal X q p e = omega (arith, ap (λ (y : ℕ). y * D) e)

  -- what is at most 2 ^ (what was cut to) is at most e ^ x, but for 742 / 1000 of 2 ^ -32
  pub most_natural_uncut : {n c : ℕ} → AtMost n c X (126 * D) D → ExpAtMost (n * (1000 * D)) (c * (1000 * D + 742)) (P x) (N x) (2 ^ 149)
  most_natural_uncut {n} {c} h = record { per = one-le-mul h.per (lit< tt); root = pow_pos 149; from = (steps_least (P x)).0; holds = at }
    where
      at : (k : ℕ) → (steps_least (P x)).0 ≤ k → n * (1000 * D) * powers (N x) (2 ^ 149) k ≤ powers (P x) (2 ^ 149) k * (c * (1000 * D + 742))
      at k l = le_of_mul-le-mul_right (turned_most n c (1000 * D) (1000 * D + 742) (powers (N x) (2 ^ 149) k) (powers (P x) (2 ^ 149) k) (d k) (through_power left right)) (over_pos (2 ^ 149) k (pow_pos 149))
        where
          left : AtMost (n * powers (N x) (2 ^ 149) k) (c * d k) (100 * p + 107) 0 (100 * D)
          left =
              most_of_larger (lit< tt) (le_of_eq (equal X q p balance))
              (most_mul (finer_most h) (steps_most (N x) (le_trans a.at_least (lit≤ tt)) k))

          right : AtLeast (powers (P x) (2 ^ 149) k * (1000 * D + 742)) (d k * (1000 * D)) (100 * p + 107) 0 (100 * D)
          right = least_mul (finer_least ((steps_least (P x)).1 k l)) step_more

  -- and what is at least 2 ^ (what was cut to) is at least e ^ x, but for as much
  pub least_natural_uncut : {n c : ℕ} → AtLeast n c X (126 * D) D → ExpAtLeast (n * (1000 * D + 742)) (c * (1000 * D)) (P x) (N x) (2 ^ 149)
  least_natural_uncut {n} {c} h = record { per = one-le-mul h.per (lit< tt); root = pow_pos 149; from = (steps_least (N x)).0; holds = at }
    where
      at : (k : ℕ) → (steps_least (N x)).0 ≤ k → powers (P x) (2 ^ 149) k * (c * (1000 * D)) ≤ n * (1000 * D + 742) * powers (N x) (2 ^ 149) k
      at k l = le_of_mul-le-mul_right (turned_least n c (1000 * D) (1000 * D + 742) (powers (N x) (2 ^ 149) k) (powers (P x) (2 ^ 149) k) (d k) (through_power (steps_most (P x) a.at_most k) above)) (over_pos (2 ^ 149) k (pow_pos 149))
        where
          above : AtLeast (n * (powers (N x) (2 ^ 149) k * (1000 * D + 742))) (c * (d k * (1000 * D))) (100 * p + 107) 0 (100 * D)
          above =
              least_of_smaller (lit< tt) (le_of_eq (sym (equal X q p balance)))
              (least_mul (finer_least h) (least_mul (finer_least ((steps_least (N x)).1 k l)) step_more))

-- ---- order: a larger x is never cut to less
pub natural_mono : (x x' : Float) → Le x' x → natural_cut x' ≤ natural_cut x
unfolding natural_cut
natural_mono x x' l =
    let (h, k) = part_order x x' l in
    counted_order (126 * D) (steps_in (P x)) (steps_in (P x')) (steps_in (N x)) (steps_in (N x')) (quotients (2 ^ 156) (pow_pos 156) (mul-le-mul_right log2E h)) (quotients (2 ^ 156) (pow_pos 156) (mul-le-mul_right log2E k))
