-- Floats to words and words to floats, as the program has it. A reader of the promise need not read this. Definitions only.
use Rattle.std.specs.Prelude.{◌≡◌, List, cond, ℕ, ◌+◌, ◌-◌, ◌*◌, ◌/◌, ◌%◌, ◌^◌, ◌≤◌, ◌<◌, eqb, ltb, leb, length, get_or, Float}
use Rattle.std.specs.Int.Count.{count_leading_zeros}
use Rattle.std.specs.Float.{binary32}
use Rattle.std.specs.Float.Ieee.{to_bits}
use Rattle.units.specs.Units.{mag, negative}
use Rattle.fixed.specs.Rounded.{nearest_bits}
use Rattle.spectrum.specs.Elements.{at}
use Rattle.spectrum.specs.Words.{FilledWith}
use Rattle.spectrum.specs.Table.{unit}

-- the size that a pattern without a sign stands for: its digits and their place
unfoldable pub digits_in : ℕ → ℕ
digits_in b = cond (ltb b 8388608) b (b % 8388608 + 8388608)

unfoldable pub place_in : ℕ → ℕ
place_in b = b / 8388608 - 1

abbrev pub size_in : ℕ → ℕ
size_in b = digits_in b * 2 ^ place_in b

-- the pattern of the size of a float
abbrev pub size_bits : Float → ℕ
size_bits x = to_bits binary32 x % 2147483648

-- m is the largest of the sizes' patterns of the first n elements, or 0
pub record Largest (xs : List Float) (n m : ℕ) : Type 0 where
  pub most : (i : ℕ) → i < n → size_bits (at xs i) ≤ m
  pub there : ¬ (m ≡ 0) → (i : ℕ) × (i < n) × (size_bits (at xs i) ≡ m)

-- e is how many digits the size with the pattern m has
pub record Scale (m e : ℕ) : Type 0 where
  pub above : size_in m < 2 ^ e
  pub below : ¬ (m ≡ 0) → 2 ^ e ≤ 2 * size_in m
  pub none : m ≡ 0 → e ≡ 0
  pub high : e ≤ 269

-- a float in units of 2 ^ (e - 53) least floats, cut off, as a word
unfoldable pub word_of : ℕ → Float → ℕ
word_of e x = cond (negative x) (unit - mag x * 2 ^ 53 / 2 ^ e) (unit + mag x * 2 ^ 53 / 2 ^ e)

-- every word is that of its float
pub record Loaded (e : ℕ) (xs : List Float) (ys : List ℕ) : Type 0 where
  pub as_many : length ys ≡ 128
  pub each : (i : ℕ) → i < 128 → get_or ys i 0 ≡ word_of e (at xs i)

-- half of q, rounded up
abbrev pub half_up : ℕ → ℕ
half_up q = (q + 1) / 2

-- n 2 ^ (e - 53) least floats as a pattern: rounded to 24 digits, or, where there are no more than these, to a whole one
unfoldable pub size_bits_of : ℕ → ℕ → ℕ
size_bits_of e n = cond (leb (count_leading_zeros 64 n + 13) e) (nearest_bits (n * 16) (e - 17)) (cond (ltb e 53) (half_up (n / 2 ^ (52 - e))) (n * 2 ^ (e - 53)))

-- the pattern of a word's value; never that of -0
unfoldable pub bits_of : ℕ → ℕ → ℕ
bits_of e v = cond (ltb v unit) (cond (eqb (size_bits_of e (unit - v)) 0) 0 (size_bits_of e (unit - v) + 2147483648)) (size_bits_of e (v - unit))

-- a word whose value has at most 60 digits
pub record Holdable (v : ℕ) : Type 0 where
  pub least : unit < v + 2 ^ 60
  pub most : v < unit + 2 ^ 60

-- the outputs are the patterns of a block's words
pub record StoredReal (e : ℕ) (r re : List ℕ) : Type 0 where
  pub as_many : length re ≡ 65
  pub each : (k : ℕ) → k ≤ 64 → get_or re k 0 ≡ bits_of e (get_or r k 0)

-- the imaginary parts of the first and the last are zero
pub record StoredImaginary (e : ℕ) (r im : List ℕ) : Type 0 where
  pub as_many : length im ≡ 65
  pub each : (k : ℕ) → 1 ≤ k → k < 64 → get_or im k 0 ≡ bits_of e (get_or r (128 - k) 0)
  pub first : get_or im 0 0 ≡ 0
  pub last : get_or im 64 0 ≡ 0

-- the outputs re and im are what a frame alone makes them: of two such pairs each is the other (proofs/Unique)
pub record IsTransform (xs : List Float) (re im : List ℕ) : Type 0 where
  pub m : ℕ
  pub e : ℕ
  pub ys : List ℕ
  pub r : List ℕ
  pub largest : Largest xs 128 m
  pub scale : Scale m e
  pub loaded : Loaded e xs ys
  pub count : length r ≡ 128
  pub fills : FilledWith ys 0 1 r
  pub real : StoredReal e r re
  pub imaginary : StoredImaginary e r im
