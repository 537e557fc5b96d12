-- The elements passed are accepted, and top is the largest of their keys.
use Rattle.std.proofs.Common.{◌≡◌, ℕ, ◌<◌}
use Rattle.weights.specs.Lists.{at}
use Rattle.weights.specs.Softmax.{Element}
use Rattle.weights.specs.Value.{largest, key_at}
use Rattle.weights.specs.Weight.{source_of}
use Rattle.weights.proofs.judge.Given as goal

abbrev pub invariant-loop-i : goal.invariant-loop-i
invariant-loop-i g l =
    let xs = source_of (g.S.Source.source l.x) l.p in
    ((k : ℕ) → k < l.i → Element (at xs k)) × (l.top ≡ largest (key_at xs) l.i)
