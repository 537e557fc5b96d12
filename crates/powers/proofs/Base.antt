-- Laws of `PowerAtMost` and `PowerAtLeast`, of both bases: the base enters by these and by the cut of the argument alone. Assumes nothing.
use Rattle.std.proofs.Common.{ℕ, ◌+◌, ◌*◌, ◌^◌, ◌<◌, ◌≤◌, true, false, le_trans, mul-le-mul_right, arith, lit<, lit≤, pow_pos}
use native.Mathlib.Nat.{one-le-mul}
use lib.Ieee.{Float}
use Rattle.units.specs.Units.{P, N, Le}
use Rattle.exact.specs.Power.{AtMost, AtLeast}
use Rattle.exact.proofs.Power.{most_of_less, least_of_more, through_power}
use Rattle.exact.proofs.Neighbours.{neighbours}
use Rattle.exact.proofs.ExpBounds.{exp_most_of_less, exp_least_of_more, through_exp, between}
use Rattle.powers.specs.Exp2 as exp2
use Rattle.powers.specs.Exp.{Accepts}
use Rattle.powers.specs.Base.{Base, PowerAtMost, most_two, most_natural, PowerAtLeast, least_two, least_natural}
use Rattle.powers.specs.Fixed.{argument_of}
use Rattle.powers.proofs.Method.{D}
use Rattle.powers.proofs.Reduction.{most_uncut, least_uncut, cut_mono}
use Rattle.powers.proofs.NaturalReduction.{most_natural_uncut, least_natural_uncut, natural_mono}

-- ---- fractions

-- a fraction n' / d' ≤ n / d is at most what n / d is at most
pub power_most_of_less : {base : Base} {n d n' d' : ℕ} {x : Float} → 0 < d' → n' * d ≤ n * d' → PowerAtMost base n d x → PowerAtMost base n' d' x
power_most_of_less pos less (most_two h) = most_two (most_of_less pos less h)
power_most_of_less pos less (most_natural h) = most_natural (exp_most_of_less pos less h)

-- a fraction n' / d' ≥ n / d is at least what n / d is at least
pub power_least_of_more : {base : Base} {n d n' d' : ℕ} {x : Float} → 0 < d' → n * d' ≤ n' * d → PowerAtLeast base n d x → PowerAtLeast base n' d' x
power_least_of_more pos more (least_two h) = least_two (least_of_more pos more h)
power_least_of_more pos more (least_natural h) = least_natural (exp_least_of_more pos more h)

-- n / d at most and n' / d' at least the power give n / d ≤ n' / d'
pub through : {base : Base} {n d n' d' : ℕ} {x : Float} → PowerAtMost base n d x → PowerAtLeast base n' d' x → n * d' ≤ n' * d
through (most_two below) (least_two above) = through_power below above
through (most_natural below) (least_natural above) = through_exp below above

-- over every denominator d the power lies between l / d and (l + 2) / d
pub enclosed : (base : Base) (d : ℕ) (x : Float) → 0 < d → (l : ℕ) × PowerAtMost base l d x × PowerAtLeast base (l + 2) d x
enclosed false d x pos =
    let (l, below, above) = neighbours d (P x) (N x) (2 ^ 149) pos (pow_pos 149) in
    let more : l + 1 ≤ l + 2 = omega arith in
    (l, most_two below, least_two (least_of_more pos (mul-le-mul_right d more) above))
enclosed true d x pos = let (l, below, above) = between d (P x) (N x) (2 ^ 149) pos (pow_pos 149) in (l, most_natural below, least_natural above)

-- ---- the argument

-- 2 ^ x accepts what e ^ x accepts
pub accepts : {x : Float} → Accepts x → exp2.Accepts x
accepts a = record { number = a.number; at_least = le_trans a.at_least (lit≤ tt); at_most = le_trans a.at_most (lit≤ tt) }

-- a larger x is never cut to less
pub argument_mono : (base : Base) (x x' : Float) → Le x' x → argument_of base x' ≤ argument_of base x
unfolding argument_of
argument_mono false x x' l = cut_mono x x' l
argument_mono true x x' l = natural_mono x x' l

module _ (x : Float) (a : Accepts x) where
  wider_most : (n d t z t' z' : ℕ) → t * z' ≤ t' * z → n * t * (d * z') ≤ n * t' * (d * z)
  wider_most n d t z t' z' h = omega (arith, mul-le-mul_right (n * d) h)

  wider_least : (n d t z t' z' : ℕ) → t * z' ≤ t' * z → n * z' * (d * t) ≤ n * z * (d * t')
  wider_least n d t z t' z' h = omega (arith, mul-le-mul_right (n * d) h)

  -- what is at most 2 ^ (what was cut to) is at most the power, but for 742 / 1000 of 2 ^ -32
  pub most_of_cut : {n d : ℕ} (base : Base) → AtMost n d (argument_of base x) (126 * D) D → PowerAtMost base (n * (1000 * D)) (d * (1000 * D + 742)) x
  unfolding argument_of
  most_of_cut {n} {d} false h = most_two (most_of_less (one-le-mul h.per (lit< tt)) (wider_most n d (1000 * D) (1000 * D + 742) (10 * D) (10 * D + 7) (lit≤ tt)) (most_uncut x (accepts a) h))
  most_of_cut true h = most_natural (most_natural_uncut x a h)

  -- and what is at least 2 ^ (what was cut to) is at least the power, but for as much
  pub least_of_cut : {n d : ℕ} (base : Base) → AtLeast n d (argument_of base x) (126 * D) D → PowerAtLeast base (n * (1000 * D + 742)) (d * (1000 * D)) x
  unfolding argument_of
  least_of_cut {n} {d} false h = least_two (least_of_more (one-le-mul h.per (lit< tt)) (wider_least n d (1000 * D) (1000 * D + 742) (10 * D) (10 * D + 7) (lit≤ tt)) (least_uncut x (accepts a) h))
  least_of_cut true h = least_natural (least_natural_uncut x a h)
