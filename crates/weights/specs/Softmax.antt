-- The promise of softmax, base two or e. Definitions only.
use Rattle.std.specs.Prelude.{◌≡◌, List, map, false, ℕ, ◌+◌, ◌-◌, ◌*◌, ◌^◌, ◌≤◌, ◌<◌, length, Float}
use Rattle.std.specs.Float.{binary32}
use Rattle.std.specs.Float.Ieee.{of_bits}
use Rattle.units.specs.Units.{P, negative, Number, Between, Le}
use Rattle.powers.specs.Base.{Base, PowerAtMost, PowerAtLeast}
use Rattle.weights.specs.Lists.{at, sum}
use Rattle.weights.specs.Value.{softmax_of}

-- ---- accepted lists
-- an input xs and room for n outputs: as many as there are inputs, 1 ≤ n ≤ 1,024
pub record Lengths (xs : List Float) (n : ℕ) : Type 0 where
  pub same : length xs ≡ n
  pub least : 1 ≤ length xs
  pub most : length xs ≤ 1024

-- a finite float from -64 to 64
abbrev pub Element : Float → Type 0
Element = Between (64 * 2 ^ 149) (64 * 2 ^ 149)

-- every element is one
pub record Elements (xs : List Float) : Type 0 where
  pub each : (i : ℕ) → i < length xs → Element (at xs i)

-- both
pub record Accepts (xs : List Float) (n : ℕ) : Type 0 where
  pub lengths : Lengths xs n
  pub elements : Elements xs

-- in place, the input is the floats whose patterns the list holds
abbrev pub floats_of : List ℕ → List Float
floats_of = map (of_bits binary32)

-- ---- the exact value b ^ x_i / (sum of b ^ x_j), of the base b = 2 or e
-- fractions over one denominator that enclose the powers: l_j / d ≤ b ^ x_j ≤ u_j / d. There are such for every d, with u_j = l_j + 2 (proofs/Enclosures)
pub record Encloses (base : Base) (xs : List Float) (l u : ℕ → ℕ) (d : ℕ) : Type 0 where
  pub below : (j : ℕ) → j < length xs → PowerAtMost base (l j) d (at xs j)
  pub above : (j : ℕ) → j < length xs → PowerAtLeast base (u j) d (at xs j)

-- every p_i is within a / b, relatively, and from below one least float, of the exact value: for every enclosure
-- p_i ≤ (1 + a / b) u_i / (sum of l_j) and (1 - a / b) l_i / (sum of u_j) ≤ p_i + 2 ^ -149
pub record NearQuotients (base : Base) (a b : ℕ) (xs ps : List Float) : Type 0 where
  pub most : (l u : ℕ → ℕ) (d : ℕ) → Encloses base xs l u d → (i : ℕ) → i < length xs → b * (P (at ps i) * sum l (length xs)) ≤ (b + a) * (u i * 2 ^ 149)
  pub least : (l u : ℕ → ℕ) (d : ℕ) → Encloses base xs l u d → (i : ℕ) → i < length xs → (b - a) * (l i * 2 ^ 149) ≤ b * ((P (at ps i) + 1) * sum u (length xs))

-- the exact sum of all p_i is within a / b of 1
pub record Whole (a b : ℕ) (ps : List Float) : Type 0 where
  pub most : b * sum (λ i. P (at ps i)) (length ps) ≤ (b + a) * 2 ^ 149
  pub least : (b - a) * 2 ^ 149 ≤ b * sum (λ i. P (at ps i)) (length ps)

-- a float from 0 to 1, and not -0
pub record Inside (p : Float) : Type 0 where
  pub number : Number p
  pub no_sign : negative p ≡ false
  pub at_most : P p ≤ 2 ^ 149

-- the proved error, 273 / 2 ^ 32: half a step of the last rounding is 256; powers, sum and reciprocal share the rest
abbrev pub softmax_error_num : ℕ
softmax_error_num = 273

abbrev pub softmax_error_den : ℕ
softmax_error_den = 2 ^ 32

-- that of the sum of all p_i, 263 / 2 ^ 32
abbrev pub whole_error_num : ℕ
whole_error_num = 263

abbrev pub whole_error_den : ℕ
whole_error_den = 2 ^ 32

-- the whole promise: xs, with room for n outputs, is answered by a code and the outputs ps
pub record Softmax (base : Base) (xs : List Float) (n code : ℕ) (ps : List Float) : Type 0 where
  -- code 2, BAD_LENGTH, for lists of different length, of none or of more than 1,024 elements
  pub bad_length : ¬ Lengths xs n → code ≡ 2
  -- else code 1, OUT_OF_RANGE, where an element is not from -64 to 64
  pub out_of_range : Lengths xs n → ¬ Elements xs → code ≡ 1
  -- all else is success
  pub success : Accepts xs n → code ≡ 0
  -- the outputs are a value of the inputs alone
  pub value : Accepts xs n → ps ≡ softmax_of base xs
  -- one for each input, from 0 to 1
  pub as_many : Accepts xs n → length ps ≡ length xs
  pub inside : Accepts xs n → (i : ℕ) → i < length xs → Inside (at ps i)
  -- within 273 / 2 ^ 32 of the real quotient, relatively, and from below one least float
  pub near : Accepts xs n → NearQuotients base softmax_error_num softmax_error_den xs ps
  -- a larger input never gets a smaller output
  pub order : Accepts xs n → (i j : ℕ) → i < length xs → j < length xs → Le (at xs i) (at xs j) → Le (at ps i) (at ps j)
  -- equal inputs get equal outputs
  pub equal : Accepts xs n → (i j : ℕ) → i < length xs → j < length xs → Le (at xs i) (at xs j) → Le (at xs j) (at xs i) → at ps i ≡ at ps j
  -- the exact sum of all outputs is within 263 / 2 ^ 32 of 1
  pub whole : Accepts xs n → Whole whole_error_num whole_error_den ps
