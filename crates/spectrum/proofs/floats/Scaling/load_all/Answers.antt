-- `spectrum::floats::Scaling::load_all` meets its contract. Assumes nothing.
use Rattle.std.proofs.Common.{arith}
use Rattle.spectrum.proofs.floats.Scaling.load_all.Goals as goal

pub returns : goal.returns
returns c = record { as_many = c.loop-i.invariant.0; each = λ i h. c.loop-i.invariant.1 i (omega arith) }
