-- Elements and sums of lists. Definitions only.
use Rattle.std.specs.Prelude.{List, ℕ, zero, suc, ◌+◌, get_or, Float}
use Rattle.std.specs.Float.{nan}

-- the element i of a list
abbrev pub at : List Float → ℕ → Float
at xs i = get_or xs i nan

-- f 0 + f 1 + ... + f (n - 1)
unfoldable pub sum : (ℕ → ℕ) → ℕ → ℕ
sum f zero = 0
sum f (suc n) = sum f n + f n
