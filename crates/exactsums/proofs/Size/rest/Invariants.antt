-- `Size::rest` meets its contract. The loop's invariant: the sum of the digits passed is 0 where their number is.
-- Assumes nothing.
use mathlib.Core.Path.{◌≡◌}
use mathlib.Core.Logic.{◌⊎◌}
use Prim.Native.Nat.{◌*◌, ◌≤◌, ◌<◌}
use Rattle.exactsums.specs.Work.{number}
use Rattle.exactsums.proofs.Size.rest.Given as goal

abbrev pub invariant-loop-j : goal.invariant-loop-j
invariant-loop-j l =
    (l.j ≤ l.i) × (l.sum ≤ 15 * l.j)
    × (((number l.self.digits.now 0 l.j ≡ 0) × (l.sum ≡ 0)) ⊎ ((0 < number l.self.digits.now 0 l.j) × (0 < l.sum)))
