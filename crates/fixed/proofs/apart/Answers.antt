-- `fixed::apart` meets its contract: each branch is a law of `Take`. Assumes nothing.
use native.Mathlib.Omega.{arith}
use Rattle.fixed.proofs.Take.{no_nan, leading_low, apart_low, apart_high}
use Rattle.fixed.proofs.apart.Goals as goal

pub float_to_bits-b : goal.float_to_bits-b
float_to_bits-b c = no_nan c.args.x c.requires.number

pub overflow_sub-s : goal.overflow_sub-s
overflow_sub-s c = leading_low c.args.x c.requires c.if-b-lt8388608.true

pub overflow_add-result-else-b-lt8388608 : goal.overflow_add-result-else-b-lt8388608
overflow_add-result-else-b-lt8388608 c = omega (arith, (apart_high c.args.x c.requires c.if-b-lt8388608.false).high)

pub returns-then-b-lt8388608 : goal.returns-then-b-lt8388608
returns-then-b-lt8388608 c = apart_low c.args.x c.requires c.if-b-lt8388608.true

pub returns-else-b-lt8388608 : goal.returns-else-b-lt8388608
returns-else-b-lt8388608 c = apart_high c.args.x c.requires c.if-b-lt8388608.false
