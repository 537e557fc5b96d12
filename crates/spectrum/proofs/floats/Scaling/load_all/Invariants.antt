-- The words written are those of the floats passed.
use Rattle.std.proofs.Common.{◌≡◌, ℕ, ◌<◌, length, get_or}
use Rattle.spectrum.specs.Transform.{at}
use Rattle.spectrum.specs.Floats.{word_of}
use Rattle.spectrum.proofs.floats.Scaling.load_all.Given as goal

abbrev pub invariant-loop-i : goal.invariant-loop-i
invariant-loop-i l = (length l.y ≡ 128) × ((k : ℕ) → k < l.i → get_or l.y k 0 ≡ word_of l.self.digits (at l.x k))
