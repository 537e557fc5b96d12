-- `fine::upper` meets its contract: the four products of words, with their carries. Assumes nothing.
use Rattle.fine.proofs.Words.{product}
use Rattle.fine.proofs.upper.Goals as goal

pub returns-clause-value : goal.returns-clause-value
returns-clause-value c = product c.args.p c.args.t
