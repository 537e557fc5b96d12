-- `logs::log2` meets its promise: the test tells whether x is accepted. Assumes nothing.
use Rattle.std.proofs.Common.{ap, ◌∙◌}
use lib.Ieee.{binary32, to_bits}
use Rattle.units.specs.declared.refusal.Refusal.TheVariants.{OutOfRange}
use Rattle.units.proofs.Answers.{ok, err}
use Rattle.fixed.proofs.Take.{no_nan}
use Rattle.logs.specs.Value.{rounded_bits}
use Rattle.logs.proofs.Logarithm.{few, success, refusal}
use Rattle.logs.proofs.log2.Goals as goal

pub returns-then-not-in_range : goal.returns-then-not-in_range
returns-then-not-in_range c =
    err {before = 0} OutOfRange (refusal c.args.x (c.in_range.ensures.if_false c.if-not-in_range.true))

pub float_to_bits-logarithm : goal.float_to_bits-logarithm
float_to_bits-logarithm c = no_nan c.args.x (c.in_range.ensures.if_true c.if-not-in_range.false).number

pub rounded-requires : goal.rounded-requires
rounded-requires c = rw c.fixed_log2.ensures.value (few c.args.x (c.in_range.ensures.if_true c.if-not-in_range.false))

pub returns : goal.returns
returns c =
    ok {before = 0} (success c.args.x (c.in_range.ensures.if_true c.if-not-in_range.false)
    (c.rounded.ensures ∙ ap (rounded_bits (to_bits binary32 c.args.x)) c.fixed_log2.ensures.value))
