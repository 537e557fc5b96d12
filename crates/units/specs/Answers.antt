-- How a call ends, said once for all functions: a code, and a result place of bits. Definitions only.
use Rattle.std.specs.Prelude.{◌≡◌, List, map, ℕ, Float}
use Rattle.std.specs.Float.{binary32}
use Rattle.std.specs.Float.Ieee.{to_bits}
use Rattle.units.specs.Units.{Number}

-- the result place holds `after` where it held `before`: on code 0 the pattern of a result that keeps the promise, on any other code the very bits that it held
pub record Ends {R A : Type 0} (pattern : R → A) (Promise : ℕ → R → Type 0) (code : ℕ) (before after : A) : Type 0 where
  pub result : R
  pub promise : Promise code result
  pub written : code ≡ 0 → after ≡ pattern result
  pub kept : ¬ (code ≡ 0) → after ≡ before

-- the pattern of a float, of a list of floats, of a whole number
abbrev pub float_bits : Float → ℕ
float_bits = to_bits binary32

abbrev pub list_bits : List Float → List ℕ
list_bits = map float_bits

abbrev pub itself : ℕ → ℕ
itself n = n

-- x is answered by a code, and where that is 0 by the result r
pub record Answers (Accepts : Float → Type 0) (value_of : Float → Float) (x : Float) (code : ℕ) (r : Float) : Type 0 where
  -- code 0, success, for every accepted x
  pub success : Accepts x → code ≡ 0
  -- code 1, OUT_OF_RANGE, for every other bit pattern
  pub refusal : ¬ Accepts x → code ≡ 1
  -- the result is the function's value, a finite float
  pub value : Accepts x → r ≡ value_of x
  pub finite : Accepts x → Number r
