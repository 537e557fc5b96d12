-- A quotient and its remainder. A reader of the promises need not read this. Definitions only.
use Rattle.std.specs.Prelude.{◌≡◌, ℕ, ◌+◌, ◌*◌, ◌<◌}

-- q is n / d, cut off, and r is left
pub record IsQuotient (n d q r : ℕ) : Type 0 where
  pub same : q * d + r ≡ n
  pub less : r < d
