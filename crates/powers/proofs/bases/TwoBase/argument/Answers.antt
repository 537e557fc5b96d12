-- `TwoBase::argument` meets its contract: no digit is cut off, or it is that of either base. Assumes nothing.
use Rattle.fixed.proofs.Take.{no_nan}
use Rattle.powers.specs.Fixed.{argument_of}
use Rattle.powers.proofs.bases.TwoBase.argument.Goals as goal

pub float_to_bits-x : goal.float_to_bits-x
float_to_bits-x c = no_nan c.args.x c.requires.number

pub returns-then-x-ge989855744 : goal.returns-then-x-ge989855744
unfolding argument_of
returns-then-x-ge989855744 c = c.whole_cut.ensures
