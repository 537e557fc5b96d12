-- `NaturalScale::steps` meets its contract: the two cases of the shift. Assumes nothing.
use Rattle.std.proofs.Common.{sym, arith}
use Rattle.powers.specs.Bases.{steps_in}
use Rattle.powers.proofs.NaturalTaken.{steps_none, steps_some}
use Rattle.powers.proofs.bases.NaturalScale.steps.Goals as goal

pub returns-then-e-lt94 : goal.returns-then-e-lt94
unfolding steps_in
returns-then-e-lt94 c = sym (steps_none c.args.a (omega arith))

pub returns : goal.returns
unfolding steps_in
returns c = rw c.from.ensures (sym (steps_some c.args.a (omega arith)))
