-- `loudness::fitted::words::Words::range` meets its contract. Assumes nothing.
use Rattle.std.proofs.Common.{arith}
use Rattle.loudness.specs.Words.{five_words}
use Rattle.loudness.proofs.fitted.words.Words.range.Goals as goal

pub returns : goal.returns
unfolding five_words
returns c = (rw (← c.self.view_is), omega arith)
