-- The powers of 2 and of e in fixed point against the real numbers, and their order. Assumes nothing.
use Rattle.std.proofs.Common.{◌≡◌, ℕ, ◌+◌, ◌-◌, ◌*◌, ◌/◌, ◌%◌, ◌^◌, ◌<◌, ◌≤◌, true, false, sym, ap, le_trans, le_of_eq, mul-le-mul_right, mul-le-mul_left, div-mul-le_self, le_of_mul-le-mul_right, arith, lit<, lit≤, pow_pos}
use lib.Ieee.{Float}
use Rattle.units.specs.Units.{P, N, Le}
use Rattle.exact.proofs.Power.{most_shift, least_shift}
use Rattle.fixed.proofs.Horner.{quotients}
use Rattle.powers.specs.Raised.{raised}
use Rattle.powers.specs.Exp.{Accepts}
use Rattle.powers.specs.Base.{Base, PowerAtMost, PowerAtLeast}
use Rattle.powers.specs.Value.{cut_of, natural_cut, log2E}
use Rattle.powers.specs.Fixed.{argument_of, fixed_digits, fixed_exponent, fixed_power, fixed_above, fixed_below, FixedPower}
use Rattle.powers.proofs.Method.{D, raised-zero, raised_mono, raised_top, raised_rises, raised_most, raised_least}
use Rattle.powers.proofs.Reduction.{K}
use Rattle.powers.proofs.NaturalTaken.{steps_in}
use Rattle.powers.proofs.Order.{exponent_of, pieces_mono}
use Rattle.powers.proofs.Base.{power_most_of_less, power_least_of_more, argument_mono, most_of_cut, least_of_cut}

-- what is raised is at least 1
raised_first : (f : ℕ) → D ≤ raised f
raised_first f = le_trans (le_of_eq (sym raised-zero)) (raised_mono (omega arith))

module _ (base : Base) (x : Float) (a : Accepts x) where
  abbrev X : ℕ
  X = argument_of base x

  abbrev f : ℕ
  f = X % 2 ^ 32

  abbrev g : ℕ
  g = exponent_of X

  parts : f + g * D ≡ X
  parts = omega arith

  fraction : f ≤ D
  fraction = omega arith

  above : PowerAtMost base (D * (raised f * 2 ^ g)) ((D + fixed_above) * 2 ^ 158) x
  above = power_most_of_less (lit< tt) (through D ((D + fixed_above) * 2 ^ 158) _ (2 * D) (1000 * D) (raised f) (2 ^ g) (lit≤ tt)) (most_of_cut x a base (rw parts at (most_shift g 126 (raised_most f fraction))))
    where
      through : (b d c n z r G : ℕ) → b * c ≤ n * z * d → b * (r * G) * c ≤ n * r * G * z * d
      through b d c n z r G h = omega (arith, mul-le-mul_right (r * G) h)

  -- what the floors lose, in parts of the power
  floors : (4 * raised f + 5) * D + 21 * f ≤ raised f * (4 * D + 25)
  floors = omega (arith, raised_rises f)

  below : PowerAtLeast base ((D + fixed_below) * (raised f * 2 ^ g)) (D * 2 ^ 158) x
  below =
      power_least_of_more (lit< tt)
      (through (D + fixed_below) (D * 2 ^ 158) _ (2 * D + 1) (1000 * D + 742) (4 * D + 25) (raised f) (2 ^ g) ((4 * raised f + 5) * D + 21 * f) floors (lit≤ tt)) whole
    where
      whole : PowerAtLeast base ((2 * D + 1) * ((4 * raised f + 5) * D + 21 * f) * 2 ^ g * (1000 * D + 742)) (2 * D * (4 * D * D) * 2 ^ 126 * (1000 * D)) x
      whole = least_of_cut x a base (rw parts at (least_shift g 126 (raised_least f fraction)))

      through : (b d c n z k r G s : ℕ) → s ≤ r * k → n * k * z * d ≤ b * c → n * s * G * z * d ≤ b * (r * G) * c
      through b d c n z k r G s h l = omega (arith, mul-le-mul_left (n * G * z * d) h, mul-le-mul_right (r * G) l)

-- a larger float has no smaller exponent
exponents_mono : (base : Base) (x x' : Float) → Le x' x → fixed_exponent base x' ≤ fixed_exponent base x
unfolding fixed_exponent
exponents_mono base x x' l = quotients D (lit< tt) (argument_mono base x x' l)

-- and no smaller power
powers_mono : (base : Base) (x x' : Float) → Le x' x → fixed_power base x' ≤ fixed_power base x
unfolding fixed_digits fixed_exponent
powers_mono base x x' l = pieces_mono raised D (λ f g k. raised_mono k) raised_first raised_top (argument_of base x) (argument_of base x') (argument_mono base x x' l)

-- ---- the range of the exponents, for x from -64 to 64: 64 log2 e is below 93

-- 64 units of 2 ^ 149 at most are fewer than 93 steps of 2 ^ 32, of either base
few_steps : (p : ℕ) → p ≤ 64 * 2 ^ 149 → (p / K < 93 * D) × (steps_in p < 93 * D)
few_steps p h = (
  fewer (le_of_mul-le-mul_right (le_trans (div-mul-le_self p K) (le_trans h (lit≤ tt))) (pow_pos 117)),
  fewer (le_of_mul-le-mul_right (le_trans (div-mul-le_self (p * log2E) (2 ^ 156)) (le_trans (mul-le-mul_right log2E h) (lit≤ tt))) (pow_pos 156)),
)
  where
    fewer : {s : ℕ} → s ≤ 93 * D - 1 → s < 93 * D
    fewer l = omega arith

pub exponent_most : (base : Base) (x : Float) → P x ≤ 64 * 2 ^ 149 → fixed_exponent base x ≤ 218
unfolding fixed_exponent argument_of cut_of natural_cut
exponent_most false x h = within (P x / K) (N x / K) (few_steps (P x) h).0
  where
    within : (p n : ℕ) → p < 93 * D → (126 * D + p - n) / D ≤ 218
    within p n l = omega arith
exponent_most true x h = within (steps_in (P x)) (steps_in (N x)) (few_steps (P x) h).1
  where
    within : (p n : ℕ) → p < 93 * D → (126 * D + p - n) / D ≤ 218
    within p n l = omega arith

pub exponent_least : (base : Base) (x : Float) → N x ≤ 64 * 2 ^ 149 → 33 ≤ fixed_exponent base x
unfolding fixed_exponent argument_of cut_of natural_cut
exponent_least false x h = within (P x / K) (N x / K) (few_steps (N x) h).0
  where
    within : (p n : ℕ) → n < 93 * D → 33 ≤ (126 * D + p - n) / D
    within p n l = omega arith
exponent_least true x h = within (steps_in (P x)) (steps_in (N x)) (few_steps (N x) h).1
  where
    within : (p n : ℕ) → n < 93 * D → 33 ≤ (126 * D + p - n) / D
    within p n l = omega arith

-- ---- the whole promise of a power in fixed point
pub fixed : (base : Base) (x : Float) → Accepts x → FixedPower base x
unfolding fixed_digits fixed_exponent
fixed base x a = record {
  least = raised_first (f base x a);
  most = raised_top (f base x a) (fraction base x a);
  at_most = above base x a;
  at_least = below base x a;
  exponents = λ x' l. exponents_mono base x x' l;
  order = λ x' l. powers_mono base x x' l;
}

-- the program's digits and exponent are these
module _ (base : Base) (x : Float) {c : ℕ} (e : c ≡ argument_of base x) where
  pub digits_of : raised (c % 2 ^ 32) ≡ fixed_digits base x
  unfolding fixed_digits
  digits_of = ap (λ (X : ℕ). raised (X % 2 ^ 32)) e

  pub exponent_of_lem : c / 2 ^ 32 ≡ fixed_exponent base x
  unfolding fixed_exponent
  exponent_of_lem = ap (λ (X : ℕ). X / 2 ^ 32) e
