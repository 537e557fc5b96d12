-- `sum` of two products: the smallest block. Assumes nothing.
use lib.Seq.{get_or-drop}
use lib.Ieee.{nan}
use Rattle.sums.specs.Value.{block_of}
use Rattle.sums.proofs.TwoBlock.sum.Goals as goal

pub returns : goal.returns
unfolding block_of
returns c = rw (get_or-drop 1 c.args.pair.a.now 0 nan, get_or-drop 1 c.args.pair.b.now 0 nan)
