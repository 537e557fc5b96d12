-- `path::bands::Bands::steps` meets its contract. The loop's invariant: the currents below i are written.
-- Assumes nothing.
use mathlib.Core.Path.{◌≡◌}
use Prim.Native.Nat.{ℕ, ◌<◌}
use lib.ListN.{length, get_or}
use Rattle.path.specs.Ready.{words_of, current_of}
use Rattle.path.proofs.bands.Bands.steps.Given as goal

abbrev pub invariant-loop-i : goal.invariant-loop-i
invariant-loop-i l =
    (length l.out ≡ length l.initial.out)
    × ((k : ℕ) → k < l.i → get_or l.out k 0 ≡ current_of l.sizes.words.now (words_of l.self.words.now k))
