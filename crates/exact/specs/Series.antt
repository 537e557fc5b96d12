-- Power series at a fraction, by their partial sums: the sum of f k (p / q) ^ k / k! for any weights f. Whole numbers only; q is above zero.
-- The weights 1, 0, 0, 0, 1, ... and their shifts make cosine and sine, as differences; the weights 1, 1, 1, ... make the exponential. Definitions only.
use Rattle.std.specs.Prelude.{cond, ℕ, zero, suc, ◌+◌, ◌*◌, ◌%◌, ◌^◌, ◌≤◌, eqb}

-- the sum of f k (p / q) ^ k / k! for k from 0 to n, times n! q ^ n
unfoldable pub partial : (ℕ → ℕ) → ℕ → ℕ → ℕ → ℕ
partial f p q zero = f 0
partial f p q (suc n) = partial f p q n * (suc n * q) + f (suc n) * p ^ suc n

-- n! q ^ n
unfoldable pub denominator : ℕ → ℕ → ℕ
denominator q zero = 1
denominator q (suc n) = denominator q n * (suc n * q)

-- the weights that are 1 where k leaves r when divided by 4, and 0 elsewhere
unfoldable pub fourth : ℕ → ℕ → ℕ
fourth r k = cond (eqb (k % 4) r) 1 0

-- the limit of (F n - G n) / D n is within a / b of (p - m) / u: from some n on, all of them are
pub record LimitNear (F G D : ℕ → ℕ) (p m u a b : ℕ) : Type 0 where
  pub from : ℕ
  pub least : (n : ℕ) → from ≤ n → b * (p * D n + u * G n) ≤ b * (m * D n + u * F n) + a * (u * D n)
  pub most : (n : ℕ) → from ≤ n → b * (m * D n + u * F n) ≤ b * (p * D n + u * G n) + a * (u * D n)

-- the limit of (F n - G n) / D n is not below zero: for every b, from some n on, none of them is below - 1 / b
pub record LimitPlus (F G D : ℕ → ℕ) : Type 0 where
  pub from : ℕ → ℕ
  pub least : (b n : ℕ) → from b ≤ n → b * G n ≤ b * F n + D n
