-- `path::sizes::Sizes::sum` meets its contract. The loop's invariant: s is the sum of the words before k. Assumes nothing.
use mathlib.Core.Path.{◌≡◌}
use Prim.Native.Nat.{◌+◌, ◌-◌, ◌*◌, ◌^◌, ◌≤◌}
use lib.ListN.{get_or}
use Rattle.spectrum.specs.Transform.{sum_of}
use Rattle.path.proofs.sizes.Sizes.sum.Given as goal

abbrev pub invariant-loop-k : goal.invariant-loop-k
invariant-loop-k l = (l.s ≡ sum_of (λ j. get_or l.self.words.now (l.low + j) 0) (l.k - l.low)) × (l.s ≤ (l.k - l.low) * (3 * 2 ^ 56))
