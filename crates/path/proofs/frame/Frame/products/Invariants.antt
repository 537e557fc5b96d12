-- `path::frame::Frame::products` meets its contract. The loop's invariant: the words written are those of the products passed. Assumes nothing.
use mathlib.Core.Path.{◌≡◌}
use Prim.Native.Nat.{ℕ, ◌<◌}
use lib.ListN.{length, get_or}
use Rattle.spectrum.specs.Transform.{at}
use Rattle.path.specs.Steps.{product_word}
use Rattle.path.proofs.frame.Frame.products.Given as goal

abbrev pub invariant-loop-i : goal.invariant-loop-i
invariant-loop-i l = (length l.y ≡ 128) × ((k : ℕ) → k < l.i → get_or l.y k 0 ≡ product_word (at l.self.x.now k) (at l.self.w.now k))
