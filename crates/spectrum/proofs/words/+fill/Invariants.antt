-- `spectrum::words::fill` recurs on the halves of its block: the measure is the block's length.
use lib.ListN.{length}
use Rattle.spectrum.proofs.words.+fill.Given as goal

abbrev pub decreases-fill : goal.decreases-fill
decreases-fill l = length l.r.now
