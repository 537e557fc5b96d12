-- `weights::is_accepted` tells whether the float is from -64 to 64. Assumes nothing.
use Rattle.weights.proofs.Range.{accepted_test}
use Rattle.weights.proofs.is_accepted.Goals as goal

pub returns : goal.returns
returns c = accepted_test c.args.b c.ranges.b.fits
