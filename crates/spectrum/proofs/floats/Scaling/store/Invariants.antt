-- The patterns written are those of the words passed.
use Rattle.std.proofs.Common.{◌≡◌, ℕ, ◌<◌, get_or}
use Rattle.spectrum.specs.Floats.{bits_of}
use Rattle.spectrum.proofs.floats.Scaling.store.Given as goal

abbrev pub invariant-loop-k : goal.invariant-loop-k
invariant-loop-k g l =
    (i : ℕ) → i < l.k → (v : ℕ) × goal.F-post g l.word i v × (get_or l.out i 0 ≡ bits_of l.self.digits v)
