-- The butterflies below k are done.
use Rattle.std.proofs.Common.{get_or}
use Rattle.spectrum.proofs.Combining.{Going}
use Rattle.spectrum.proofs.words.Stage.combine.Given as goal

abbrev pub invariant-loop-k : goal.invariant-loop-k
invariant-loop-k l = Going l.self.g l.self.st l.k (λ i. get_or l.initial.r i 0) (λ i. get_or l.r i 0)
