-- `natural::exp` meets its promise: the test tells whether x is accepted. Assumes nothing.
use Rattle.std.proofs.Common.{refl, ◌∙◌, le_trans, le_of_eq, arith}
use Rattle.units.specs.declared.refusal.Refusal.TheVariants.{OutOfRange}
use Rattle.units.proofs.Answers.{ok, err}
use Rattle.powers.specs.Exp.{Accepts}
use Rattle.powers.specs.Fixed.{argument_of}
use Rattle.powers.specs.Value.{rounded_power, power_digits}
use Rattle.powers.proofs.NaturalTaken.{natural_top}
use Rattle.powers.proofs.NaturalPromise.{success, refusal}
use Rattle.powers.proofs.natural.exp.Goals.{After-argument}
use Rattle.powers.proofs.natural.exp.Goals as goal

pub returns-then-not-in_range : goal.returns-then-not-in_range
returns-then-not-in_range c =
    err {before = 0} OutOfRange (refusal c.args.x (c.in_range.ensures.if_false c.if-not-in_range.true))

accepted : (c : After-argument) → Accepts c.args.x
accepted c = c.in_range.ensures.if_true c.if-not-in_range.false

pub bits-requires : goal.bits-requires
unfolding argument_of
bits-requires c =
    let a = accepted (goal.at.bits-requires c).After-argument in
    omega (arith, c.of.ensures.1, le_trans (le_of_eq c.argument.ensures) (natural_top c.args.x a))

pub returns : goal.returns
unfolding argument_of rounded_power power_digits
returns c =
    ok {before = 0} (success c.args.x (accepted (goal.at.returns c).After-argument)
    (c.bits.ensures ∙ rw (c.of.ensures.0, c.of.ensures.1, c.argument.ensures) refl))
