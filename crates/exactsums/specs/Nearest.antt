-- The promise of the dot product that is the float nearest to the exact sum. Definitions only.
use Rattle.std.specs.Prelude.{◌≡◌, ◌⊎◌, List, ℕ, ◌+◌, ◌*◌, ◌%◌, ◌^◌, ◌≤◌, ◌<◌, ltb, length, get_or, Float}
use Rattle.std.specs.Float.{nan, binary32}
use Rattle.std.specs.Float.Ieee.{of_bits, round}
use Rattle.units.specs.Units.{mag, P, N, Number}
use Rattle.units.specs.Answers.{float_bits}
use Rattle.sums.specs.Sum.{above, below, apart}
use Rattle.sums.specs.Dot.{sum_over}

-- ---- accepted lists
-- the same length n ≤ 4,096
pub record Lengths (a b : List Float) : Type 0 where
  pub same : length a ≡ length b
  pub most : length a ≤ 4096

-- 0, or from 2 ^ -40 to 2 ^ 40 in size, which are 2 ^ 109 and 2 ^ 189 units
pub record Element (x : Float) : Type 0 where
  pub number : Number x
  pub size : (mag x ≡ 0) ⊎ ((2 ^ 109 ≤ mag x) × (mag x ≤ 2 ^ 189))

-- every element of both lists is one
pub record Elements (a b : List Float) : Type 0 where
  pub first : (i : ℕ) → i < length a → Element (get_or a i nan)
  pub second : (i : ℕ) → i < length b → Element (get_or b i nan)

-- both
pub record Accepts (a b : List Float) : Type 0 where
  pub lengths : Lengths a b
  pub elements : Elements a b

-- ---- the exact sum is positives - negatives, in units of 2 ^ -298
-- the sum of the products above zero
abbrev pub positives : List Float → List Float → ℕ
positives a b = sum_over above a b

-- and of those below zero, by their sizes
abbrev pub negatives : List Float → List Float → ℕ
negatives a b = sum_over below a b

-- p - n rounded once, as the float unit's operations round: lib.Ieee's `round`, to nearest, ties to even; +0 where it is 0
abbrev pub rounded : ℕ → ℕ → Float
rounded p n = round binary32 (ltb p n) (apart p n) (2 ^ 298)

-- how far x is from p - n
abbrev pub distance : Float → ℕ → ℕ → ℕ
distance x p n = apart (P x * 2 ^ 149 + n) (N x * 2 ^ 149 + p)

-- the whole promise of a and b, answered by a code and the result r
pub record NearestDot (a b : List Float) (code : ℕ) (r : Float) : Type 0 where
  -- code 2, BAD_LENGTH, for lists of different length or of more than 4,096 elements
  pub bad_length : ¬ Lengths a b → code ≡ 2
  -- else code 1, OUT_OF_RANGE, where an element is refused
  pub out_of_range : Lengths a b → ¬ Elements a b → code ≡ 1
  -- all else is success: nothing overflows
  pub success : Accepts a b → code ≡ 0
  -- the result is the exact sum rounded once, a finite float
  pub value : Accepts a b → r ≡ rounded (positives a b) (negatives a b)
  pub finite : Accepts a b → Number r
  -- no finite float is nearer to the exact sum
  pub nearest : Accepts a b → (z : Float) → Number z → distance r (positives a b) (negatives a b) ≤ distance z (positives a b) (negatives a b)
  -- and where another number is as near, the last digit of r is even
  pub even : Accepts a b → (z : Float) → Number z → distance z (positives a b) (negatives a b) ≡ distance r (positives a b) (negatives a b)
      → ¬ (P z + N r ≡ P r + N z) → float_bits r % 2 ≡ 0
  -- so |r - exact| ≤ u |exact| with u = 2 ^ -24, whatever cancels
  pub near : Accepts a b → distance r (positives a b) (negatives a b) * 2 ^ 24 ≤ apart (positives a b) (negatives a b)
  -- +0 where the exact sum is 0, n = 0 among them
  pub zero : Accepts a b → positives a b ≡ negatives a b → r ≡ of_bits binary32 0
