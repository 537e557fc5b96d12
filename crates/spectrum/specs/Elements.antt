-- Elements of lists. Definitions only.
use Rattle.std.specs.Prelude.{List, ℕ, get_or, Float}
use Rattle.std.specs.Float.{nan}

-- the element i of a list
abbrev pub at : List Float → ℕ → Float
at xs i = get_or xs i nan
