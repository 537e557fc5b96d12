-- `path::moduli::moduli` meets its contract. The loop's invariant: the moduli below k are written. Assumes nothing.
use mathlib.Core.Path.{◌≡◌}
use mathlib.Core.List.{List}
use Prim.Native.Nat.{ℕ, ◌<◌}
use lib.ListN.{length, get_or}
use Rattle.path.specs.Steps.{modulus_of, Modulus, real_size, imaginary_size}
use Rattle.path.proofs.moduli.moduli.Given as goal

-- g is the modulus of the part k
abbrev pub Is : List ℕ → ℕ → ℕ → Type 0
Is r k g = (g ≡ modulus_of (real_size r k) (imaginary_size r k)) × Modulus (real_size r k) (imaginary_size r k) g

abbrev pub invariant-loop-k : goal.invariant-loop-k
invariant-loop-k l = (length l.y ≡ 128) × ((j : ℕ) → j < l.k → Is l.r j (get_or l.y j 0))
