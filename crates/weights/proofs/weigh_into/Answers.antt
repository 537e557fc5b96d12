-- `weights::weigh_into` meets its promise: lists of different lengths are refused. Assumes nothing.
use lib.ListN.{length}
use Rattle.weights.proofs.Promise.{refused_lengths}
use Rattle.weights.proofs.weigh_into.Goals as goal

pub returns-then-x-p : goal.returns-then-x-p
returns-then-x-p g c = refused_lengths g.B.Base.base c.args.x.now (length c.args.p.now) (λ l. c.if-x-p.true l.same)
