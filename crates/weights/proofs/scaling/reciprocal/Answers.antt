-- `scaling::reciprocal` meets its contract: the shift brings the sum to 64 digits. Assumes nothing.
use Rattle.std.proofs.Common.{◌≡◌, ◌≤◌, refl, lt_of_lt_of_le, mod-eq_of_lt, arith, lit<}
use lib.Count.{count_leading_zeros}
use Rattle.fixed.proofs.Rounding as rounding
use Rattle.weights.specs.Value.{inverse_of}
use Rattle.weights.proofs.Inverting.{inverse_least, inverse_most}
use Rattle.weights.proofs.scaling.reciprocal.Goals.{Start, After-quotient_of_next}
use Rattle.weights.proofs.scaling.reciprocal.Goals as goal

-- the sum has 64 - z digits
digits : (c : Start) → rounding.Placed c.args.s (count_leading_zeros 64 c.args.s)
digits c = rounding.placed c.args.s (lt_of_lt_of_le (lit< tt) c.requires.0) c.ranges.s.fits

-- 53 at least
zeros : (c : Start) → count_leading_zeros 64 c.args.s ≤ 11
zeros c = rounding.few_zeros c.args.s (count_leading_zeros 64 c.args.s) 11 (digits c) (omega (arith, c.requires.0))

pub quotient_of_next-requires : goal.quotient_of_next-requires
quotient_of_next-requires c = rw (mod-eq_of_lt (digits c).high) (omega (arith, (digits c).low))

pub overflow_sub-result : goal.overflow_sub-result
overflow_sub-result c = omega (arith, zeros (goal.at.overflow_sub-result c).Start)

-- the factor is the inverse
factor : (c : After-quotient_of_next)
    → c.quotient_of_next.result ≡ inverse_of c.args.s (count_leading_zeros 64 c.args.s)
unfolding inverse_of
factor c = rw (← mod-eq_of_lt (digits c.before).high) c.quotient_of_next.ensures

pub invariant_of-result : goal.invariant_of-result
invariant_of-result c =
    let v = goal.at.invariant_of-result c in
    let d = digits v.Start in
    record {
      scaling = rw (factor v.After-quotient_of_next) (record {
        least = inverse_least c.args.s _ d.low d.high;
        most = inverse_most c.args.s _ d.low d.high;
        high = omega (arith, c.requires.2);
      });
    }

pub returns : goal.returns
returns c = (factor (goal.at.returns c).After-quotient_of_next, refl)
