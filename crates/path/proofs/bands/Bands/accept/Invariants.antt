-- `path::bands::Bands::accept` meets its contract. The loop's invariant: the words passed make bands. Assumes nothing.
use Prim.Native.Nat.{ℕ, ◌<◌}
use Rattle.path.specs.Ready.{words_of, Accepted}
use Rattle.path.proofs.bands.Bands.accept.Given as goal

abbrev pub invariant-loop-six : goal.invariant-loop-six
invariant-loop-six l = (i : ℕ) → i < l.six-index → Accepted l.top (words_of l.words i)
