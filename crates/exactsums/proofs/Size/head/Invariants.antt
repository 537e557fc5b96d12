-- `Size::head` meets its contract. The loop's invariant: h and the digits below the place i are the whole. Assumes
-- nothing.
use mathlib.Core.Path.{◌≡◌}
use mathlib.Core.Bool.{true, false}
use Prim.Native.Nat.{◌+◌, ◌*◌, ◌^◌, ◌≤◌, ◌<◌}
use Rattle.exactsums.specs.Work.{number, size_of}
use Rattle.exactsums.proofs.Size.head.Given as goal

abbrev pub invariant-loop-i : goal.invariant-loop-i
invariant-loop-i l =
    let n = l.self in
    let ds = n.digits.now in
    (l.i ≤ 41) × (l.h < 2 ^ 61)
    × (n.below ≡ false → number ds 0 l.i + l.h * 16 ^ l.i ≡ size_of n.top ds n.below)
    × (n.below ≡ true → size_of n.top ds n.below + number ds 0 l.i ≡ (l.h + 1) * 16 ^ l.i)

abbrev pub decreases-loop-i : goal.decreases-loop-i
decreases-loop-i l = l.i
