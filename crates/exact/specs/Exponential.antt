-- The exponential, by its power series: e ^ t is the limit of the partial sums of t ^ k / k!. What it means that a fraction n / d is at most, or at least, e ^ t. Whole numbers only.
-- The exponent is (p - m) / q, as in Power: e ^ ((p - m) / q) is e ^ (p / q) over e ^ (m / q), and the partial sums of both have one denominator. Definitions only.
use Rattle.std.specs.Prelude.{ℕ, ◌*◌, ◌≤◌, ◌<◌}
use Rattle.exact.specs.Series.{partial}

-- the weights that are all 1
unfoldable pub every : ℕ → ℕ
every k = 1

-- the sum of (p / q) ^ k / k! for k from 0 to n, times n! q ^ n
abbrev pub powers : ℕ → ℕ → ℕ → ℕ
powers p q n = partial every p q n

-- n / d ≤ e ^ ((p - m) / q): from some partial sum on
pub record ExpAtMost (n d p m q : ℕ) : Type 0 where
  pub per : 0 < d
  pub root : 0 < q
  pub from : ℕ
  pub holds : (k : ℕ) → from ≤ k → n * powers m q k ≤ powers p q k * d

-- e ^ ((p - m) / q) ≤ n / d: from some partial sum on
pub record ExpAtLeast (n d p m q : ℕ) : Type 0 where
  pub per : 0 < d
  pub root : 0 < q
  pub from : ℕ
  pub holds : (k : ℕ) → from ≤ k → powers p q k * d ≤ n * powers m q k
