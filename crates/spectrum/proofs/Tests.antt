-- A computed test of every number below n.
use mathlib.Core.Path.{subst, sym}
use mathlib.Core.Logic.{inl, inr}
use mathlib.Core.Bool.{Bool, true, ◌&&◌}
use Prim.Native.Nat.{ℕ, zero, suc, ◌<◌}
use native.Mathlib.Nat.{eq-or-lt_of_le, le_of_suc-le-suc}
use native.Mathlib.Omega.{arith}
use lib.Dec.{T}
use lib.Ieee.Fits.{and_l, and_r}

-- f holds of every number below n
unfoldable pub all : ℕ → (ℕ → Bool) → Bool
all zero f = true
all (suc n) f = f n && all n f

-- so it holds of each
pub at : (n : ℕ) (f : ℕ → Bool) → T (all n f) → (i : ℕ) → i < n → T (f i)
unfolding all
at zero f t i l = absurd (omega arith)
at (suc n) f t i l =
    elim (eq-or-lt_of_le (le_of_suc-le-suc l)) [ inl e ↦ subst (λ (k : ℕ). T (f k)) (sym e) (and_l (f n) (all n f) t) | inr m ↦ at n f (and_r (f n) (all n f) t) i m ]
