-- Sums over a band. Assumes nothing.
use mathlib.Core.Path.{◌≡◌, refl, ap, ◌∙◌}
use Prim.Native.Nat.{ℕ, zero, suc, ◌+◌, ◌-◌, ◌*◌, ◌≤◌, ◌<◌}
use native.Mathlib.Omega.{arith}
use Rattle.spectrum.specs.Transform.{sum_of}

-- one term more
pub sum_more : (f : ℕ → ℕ) (low k : ℕ) → low ≤ k → sum_of (λ j. f (low + j)) (k + 1 - low) ≡ sum_of (λ j. f (low + j)) (k - low) + f k
unfolding sum_of
sum_more f low k l = ap (λ (n : ℕ). sum_of (λ j. f (low + j)) n) next ∙ ap (λ (i : ℕ). sum_of (λ j. f (low + j)) (k - low) + f i) back
  where
    next : k + 1 - low ≡ suc (k - low)
    next = omega arith

    back : low + (k - low) ≡ k
    back = omega arith

pub sum_none : (f : ℕ → ℕ) (low : ℕ) → sum_of (λ j. f (low + j)) (low - low) ≡ 0
unfolding sum_of
sum_none f low = ap (λ (n : ℕ). sum_of (λ j. f (low + j)) n) none
  where
    none : low - low ≡ 0
    none = omega arith

-- terms of which each is at most a times another and b
pub sum_by : (f g : ℕ → ℕ) (p q b n : ℕ) → ((i : ℕ) → i < n → p * f i ≤ q * g i + b) → p * sum_of f n ≤ q * sum_of g n + n * b
unfolding sum_of
sum_by f g p q b zero h = omega arith
sum_by f g p q b (suc n) h = omega (arith, sum_by f g p q b n (λ i l. h i (omega arith)), h n (omega arith))

pub sum_most : (f : ℕ → ℕ) (a n : ℕ) → ((i : ℕ) → i < n → f i ≤ a) → sum_of f n ≤ n * a
unfolding sum_of
sum_most f a zero h = omega arith
sum_most f a (suc n) h = omega (arith, sum_most f a n (λ i l. h i (omega arith)), h n (omega arith))

pub sum_same : (f g : ℕ → ℕ) (n : ℕ) → ((i : ℕ) → i < n → f i ≡ g i) → sum_of f n ≡ sum_of g n
unfolding sum_of
sum_same f g zero h = refl
sum_same f g (suc n) h = omega (arith, sum_same f g n (λ i l. h i (omega arith)), h n (omega arith))

pub zeros : (n : ℕ) → sum_of (λ i. 0) n ≡ 0
unfolding sum_of
zeros zero = refl
zeros (suc n) = omega (arith, zeros n)
