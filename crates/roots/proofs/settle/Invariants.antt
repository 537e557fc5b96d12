-- `roots::settle` ends: a step up stays below 2 ^ 26, and a step down ends above zero. Assumes nothing.
use Rattle.std.proofs.Common.{◌-◌, ◌^◌, ◌<◌, false}
use Rattle.roots.proofs.settle.Given as goal

abbrev pub invariant-loop-s : goal.invariant-loop-s
invariant-loop-s g l = l.s < 2 ^ 26

abbrev pub decreases-loop-s : goal.decreases-loop-s
decreases-loop-s g l = 2 ^ 26 - l.s

abbrev pub invariant-loop-s-2 : goal.invariant-loop-s-2
invariant-loop-s-2 g l = (l.s < 2 ^ 26) × goal.F-post g l.is_too_small l.s false

abbrev pub decreases-loop-s-2 : goal.decreases-loop-s-2
decreases-loop-s-2 g l = l.s
