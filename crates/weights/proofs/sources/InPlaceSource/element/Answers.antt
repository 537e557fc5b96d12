-- The float of a pattern that is no NaN's. Assumes nothing.
use Rattle.std.proofs.Common.{subst}
use Rattle.weights.specs.Softmax.{Element}
use Rattle.weights.proofs.Range.{not_nan}
use Rattle.weights.proofs.Source.{own_at}
use Rattle.weights.proofs.sources.InPlaceSource.element.Goals as goal

pub float_from_bits-result : goal.float_from_bits-result
float_from_bits-result c = not_nan _ (subst Element (own_at c.args.p.now c.args.i c.requires.1) c.requires.2).number
