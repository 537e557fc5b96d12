-- The patterns written are those of the elements passed, and the rest is as it was.
use Rattle.std.proofs.Common.{◌≡◌, ℕ, ◌≤◌, ◌<◌, length, get_or}
use Rattle.weights.specs.Lists.{at}
use Rattle.weights.specs.Value.{weight_bits}
use Rattle.weights.specs.Weight.{source_of}
use Rattle.weights.proofs.fill.Given as goal

abbrev pub invariant-loop-k : goal.invariant-loop-k
invariant-loop-k g l =
    let xs = source_of (g.S.Source.source l.x) l.initial.p in
    (length l.p ≡ length l.initial.p)
    × ((i : ℕ) → i < l.k → get_or l.p i 0 ≡ weight_bits g.B.Base.base l.factor.r l.factor.c (at xs i))
    × ((i : ℕ) → l.k ≤ i → get_or l.p i 0 ≡ get_or l.initial.p i 0)
