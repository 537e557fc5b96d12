-- `Pair::blocks` meets its contract. The loop's invariant: the tally holds the sums of the blocks passed. Assumes nothing.
use Rattle.sums.specs.Value.{Held}
use Rattle.sums.proofs.Pair.blocks.Given as goal

abbrev pub invariant-loop-i : goal.invariant-loop-i
invariant-loop-i l = Held l.self.a.now l.self.b.now l.i l.tally.held
