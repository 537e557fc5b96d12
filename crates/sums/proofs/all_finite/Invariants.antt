-- `sums::all_finite` meets its contract. The loop's invariant: the elements passed are finite. Assumes nothing.
use Prim.Native.Nat.{ℕ, ◌<◌}
use lib.ListN.{get_or}
use lib.Ieee.{nan}
use Rattle.std.specs.Prelude.{IsTrue}
use Rattle.std.specs.Float.{float_is_finite}
use Rattle.sums.proofs.all_finite.Given as goal

abbrev pub invariant-loop-x : goal.invariant-loop-x
invariant-loop-x l = (k : ℕ) → k < l.x-index → IsTrue (float_is_finite (get_or l.a k nan))
