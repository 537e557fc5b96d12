-- `Rows::gather` meets its contract. The loop's invariant: the elements passed are accepted, and what is in the bins and what is to
-- come are the whole sum. Assumes nothing.
use Rattle.exactsums.proofs.Gathering.{Underway}
use Rattle.exactsums.proofs.Rows.gather.Given as goal

abbrev pub invariant-loop-i : goal.invariant-loop-i
invariant-loop-i l = Underway l.a l.b l.self.bins l.i
