-- The parts of a block, bin by bin. Assumes nothing.
use mathlib.Core.Path.{◌≡◌, refl}
use mathlib.Core.List.{List}
use Prim.Native.Nat.{ℕ, ◌-◌, ◌%◌}
use lib.ListN.{get_or}
use borrow.Author.Tests.{eq-eqb, ne_eqb}
use Rattle.path.specs.Steps.{size_of, real_size, imaginary_size}

module _ (r : List ℕ) (k : ℕ) where
  pub real_is : size_of (get_or r k 0) ≡ real_size r k
  unfolding real_size
  real_is = refl

  pub imaginary_none : k % 64 ≡ 0 → 0 ≡ imaginary_size r k
  unfolding imaginary_size
  imaginary_none h = rw (eq-eqb (k % 64) 0 h) refl

  pub imaginary_some : ¬ (k % 64 ≡ 0) → size_of (get_or r (128 - k) 0) ≡ imaginary_size r k
  unfolding imaginary_size
  imaginary_some h = rw (ne_eqb (k % 64) 0 h) refl
