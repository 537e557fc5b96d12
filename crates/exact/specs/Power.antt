-- What it means that a fraction n / d is at most, at least, less or more than a power of two whose exponent is a fraction. Whole numbers only.
-- The exponent is (p - m) / q: a number that may be negative is a difference, as a float is P - N units. Definitions only.
use Rattle.std.specs.Prelude.{ℕ, ◌*◌, ◌^◌, ◌≤◌, ◌<◌}

-- n / d ≤ 2 ^ ((p - m) / q)
pub record AtMost (n d p m q : ℕ) : Type 0 where
  pub per : 0 < d
  pub root : 0 < q
  pub holds : n ^ q * 2 ^ m ≤ 2 ^ p * d ^ q

-- 2 ^ ((p - m) / q) ≤ n / d
pub record AtLeast (n d p m q : ℕ) : Type 0 where
  pub per : 0 < d
  pub root : 0 < q
  pub holds : 2 ^ p * d ^ q ≤ n ^ q * 2 ^ m

-- n / d < 2 ^ ((p - m) / q)
pub record LessThan (n d p m q : ℕ) : Type 0 where
  pub per : 0 < d
  pub root : 0 < q
  pub holds : n ^ q * 2 ^ m < 2 ^ p * d ^ q

-- 2 ^ ((p - m) / q) < n / d
pub record MoreThan (n d p m q : ℕ) : Type 0 where
  pub per : 0 < d
  pub root : 0 < q
  pub holds : 2 ^ p * d ^ q < n ^ q * 2 ^ m
