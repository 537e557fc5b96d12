-- s is the sum of the shares passed, and one step for each that is to come; their digits are kept.
use Rattle.std.proofs.Common.{◌≡◌, ◌+◌}
use Rattle.weights.specs.Lists.{sum}
use Rattle.weights.specs.Value.{share_at}
use Rattle.weights.specs.Weight.{source_of}
use Rattle.weights.proofs.Keeping.{Keeping}
use Rattle.weights.proofs.total.Given as goal

abbrev pub invariant-loop-j : goal.invariant-loop-j
invariant-loop-j g l =
    let s = g.S.Source.source l.x in
    (l.s + l.j ≡ sum (share_at g.B.Base.base l.e (source_of s l.initial.p)) l.j + l.n)
    × Keeping g.B.Base.base s l.initial.p l.p l.j
