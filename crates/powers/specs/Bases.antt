-- What the two bases accept, and how a size is taken times the logarithm of each.
-- A reader of the promises need not read this. Definitions only.
use Rattle.std.specs.Prelude.{ℕ, true, false, Float}
use Rattle.powers.specs.Exp2 as exp2
use Rattle.powers.specs.Exp as exp
use Rattle.powers.specs.Base.{Base}
use Rattle.powers.specs.Value.{steps_of, natural_steps}

-- the floats whose power is given: from -126 to 127, or from -87 to 88
abbrev pub Accepted : Base → Float → Type 0
Accepted false = exp2.Accepts
Accepted true = exp.Accepts

-- the size with the pattern a, times log2 of the base, as a whole number of 2 ^ -32
unfoldable pub steps_in : Base → ℕ → ℕ
steps_in false a = steps_of a
steps_in true a = natural_steps a

-- the pattern of the size of the least float that is accepted: 126, or 87
abbrev pub least_of : Base → ℕ
least_of false = 0x42fc0000
least_of true = 0x42ae0000

-- and that of the largest: 127, or 88
abbrev pub most_of : Base → ℕ
most_of false = 0x42fe0000
most_of true = 0x42b00000
