-- `loudness::fitted::words::check` meets its contract. Assumes nothing.
use Rattle.std.proofs.Common.{arith}
use Rattle.loudness.specs.Words.{check_of}
use Rattle.loudness.proofs.fitted.words.check.Goals as goal

pub returns : goal.returns
unfolding check_of
returns c = omega arith
