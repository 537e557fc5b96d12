-- The powers of every list are enclosed as tightly as one likes: over every denominator within two of its parts. Assumes nothing.
use mathlib.Core.List.{List}
use Prim.Native.Nat.{ℕ, ◌+◌, ◌<◌}
use lib.Ieee.{Float}
use Rattle.powers.specs.Base.{Base, PowerAtMost, PowerAtLeast}
use Rattle.powers.proofs.Base as bases
use Rattle.weights.specs.Lists.{at}
use Rattle.weights.specs.Softmax.{Encloses}

pub enclosed : (base : Base) (xs : List Float) (d : ℕ) → 0 < d → (l : ℕ → ℕ) × Encloses base xs l (λ j. l j + 2) d
enclosed base xs d per = (λ j. (near j).0, record { below = λ j h. (near j).1; above = λ j h. (near j).2 })
  where
    near : (j : ℕ) → (l : ℕ) × PowerAtMost base l d (at xs j) × PowerAtLeast base (l + 2) d (at xs j)
    near j = bases.enclosed base d (at xs j) per
