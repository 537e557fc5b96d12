-- A loop over the butterflies of a block: those below k are done, and the words between are as they were. That one more
-- butterfly leaves one more done, and that all of them make the block, the check finds alone. Assumes nothing.
use mathlib.Core.Path.{◌≡◌}
use Prim.Native.Nat.{ℕ, ◌+◌, ◌-◌, ◌*◌, ◌≤◌, ◌<◌}
use Rattle.spectrum.specs.Words.{Butterfly}

-- a butterfly's words may be given by equal ones
pub moved : {j er ei or oi a b e d er' ei' or' oi' a' b' e''' d' : ℕ} → Butterfly j er ei or oi a b e d → er' ≡ er → ei' ≡ ei → or' ≡ or → oi' ≡ oi → a' ≡ a → b' ≡ b → e''' ≡ e → d' ≡ d
    → Butterfly j er' ei' or' oi' a' b' e''' d'
moved h er ei or oi a b e d = rw (er, ei, or, oi, a, b, e, d) h

-- f is the block before the loop, r as it is
pub record Going (g st k : ℕ) (f r : ℕ → ℕ) : Type 0 where
  pub first : r 0 ≡ f 0
  pub middle : r (2 * g) ≡ f (2 * g)
  pub low : (i : ℕ) → k ≤ i → i + k ≤ 2 * g → r i ≡ f i
  pub high : (i : ℕ) → 2 * g + k ≤ i → i + k ≤ 4 * g → r i ≡ f i
  pub done : (j : ℕ) → 1 ≤ j → j < k → Butterfly (j * st) (f j) (f (2 * g - j)) (f (2 * g + j)) (f (4 * g - j)) (r j) (r (2 * g - j)) (r (2 * g + j)) (r (4 * g - j))
