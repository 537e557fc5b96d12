-- The promise of the transform of 128 floats: X_k = sum over n of x_n (cos (2 pi k n / 128) - i sin (2 pi k n / 128)), k from 0 to 64. Definitions only.
use Rattle.std.specs.Prelude.{◌≡◌, List, ℕ, zero, suc, ◌+◌, ◌*◌, ◌%◌, ◌^◌, ◌≤◌, ◌<◌, length, Float}
use Rattle.units.specs.Units.{mag, P, N, Number}
use Rattle.units.specs.Answers.{float_bits, list_bits}
use Rattle.exact.specs.Circle.{Cosine, Sine, QuarterTurn, signed, bound}
use Rattle.spectrum.specs.Difference.{Difference, opposite, times, total, apart, size}
use Rattle.spectrum.specs.Floats.{IsTransform}
pub use Rattle.spectrum.specs.Elements.{at}

-- ---- accepted lists
-- 128 values, and room for 65 outputs twice
pub record Lengths (xs : List Float) (nre nim : ℕ) : Type 0 where
  pub values : length xs ≡ 128
  pub real : nre ≡ 65
  pub imaginary : nim ≡ 65

-- a finite float below 2 ^ 120 in size, or 2 ^ 269 units
pub record Element (x : Float) : Type 0 where
  pub number : Number x
  pub small : mag x < 2 ^ 269

-- every element is one
pub record Elements (xs : List Float) : Type 0 where
  pub each : (i : ℕ) → i < length xs → Element (at xs i)

-- both
pub record Accepts (xs : List Float) (nre nim : ℕ) : Type 0 where
  pub lengths : Lengths xs nre nim
  pub elements : Elements xs

-- ---- the exact sums
-- a table of fractions over u that are within 2 ^ -60 of the cosines and sines of the angles 2 pi j / 128, or j / 32 quarter turns; pi / 2 is known to 2 ^ -62
-- all of them may be as near as one likes, so that what holds of every table holds of the cosines and sines themselves
pub record Turns (c s : ℕ → Difference) (u : ℕ) : Type 0 where
  pub positive : 0 < u
  pub q : ℕ
  pub d : ℕ
  pub w : ℕ
  pub wide : 0 < w
  pub quarter : QuarterTurn q d w
  pub narrow : 2 ^ 62 * d ≤ w
  pub cosine : (j : ℕ) → j < 128 → Cosine (signed (q * j) 0 (w * 32)) (signed (c j).plus (c j).minus u) (bound 1 (2 ^ 60))
  pub sine : (j : ℕ) → j < 128 → Sine (signed (q * j) 0 (w * 32)) (signed (s j).plus (s j).minus u) (bound 1 (2 ^ 60))

-- a float as a difference, in units of 2 ^ -149
abbrev pub units_of : Float → Difference
units_of x = record { plus = P x; minus = N x }

-- the sum over n of v_n t_(k n), t a table of cosines or of sines: it comes round after 128
unfoldable pub turned_total : (ℕ → Difference) → (ℕ → Difference) → ℕ → Difference
turned_total v t k = total (λ n. times (v n) (t (k * n % 128))) 128

-- the same of the values x_n
abbrev pub turned_sum : List Float → (ℕ → Difference) → ℕ → Difference
turned_sum xs t k = turned_total (λ n. units_of (at xs n)) t k

-- the real and the imaginary part of X_k, times u
abbrev pub exact_re : List Float → (ℕ → Difference) → ℕ → Difference
exact_re xs c k = turned_sum xs c k

abbrev pub exact_im : List Float → (ℕ → Difference) → ℕ → Difference
exact_im xs s k = opposite (turned_sum xs s k)

-- |r - X / u|, times u
abbrev pub error_of : Float → Difference → ℕ → ℕ
error_of r X u = apart (P r * u + X.minus) (N r * u + X.plus)

-- l is at least every |x_n|
abbrev pub Covers : ℕ → List Float → Type 0
Covers l xs = (n : ℕ) → n < 128 → mag (at xs n) ≤ l

-- r is within 2 ^ -24 of the size of X / u, 2 ^ -42 l and 2 ^ -150, or half a unit, of X / u
pub record NearOutput (r : Float) (X : Difference) (u l : ℕ) : Type 0 where
  pub holds : 2 ^ 42 * error_of r X u ≤ 2 ^ 18 * size X + (l + 2 ^ 41) * u

-- f 0 + f 1 + ... + f (n - 1)
unfoldable pub sum_of : (ℕ → ℕ) → ℕ → ℕ
sum_of f zero = 0
sum_of f (suc n) = sum_of f n + f n

-- n n
abbrev pub square : ℕ → ℕ
square n = n * n

-- the patterns of both results
abbrev pub both_bits : List Float × List Float → List ℕ × List ℕ
both_bits r = (list_bits r.0, list_bits r.1)

-- the whole promise: xs is answered by a code and, where that is 0, by the results re and im
pub record Transform (xs : List Float) (nre nim : ℕ) (code : ℕ) (r : List Float × List Float) : Type 0 where
  -- code 2, BAD_LENGTH, unless there are 128 values and room for 65 outputs twice
  pub bad_length : ¬ Lengths xs nre nim → code ≡ 2
  -- else code 1, OUT_OF_RANGE, where an element is a NaN, an infinity or of size 2 ^ 120 or more
  pub out_of_range : Lengths xs nre nim → ¬ Elements xs → code ≡ 1
  -- all else is success
  pub success : Accepts xs nre nim → code ≡ 0
  -- 65 real and 65 imaginary parts
  pub as_many : Accepts xs nre nim → (length r.0 ≡ 65) × (length r.1 ≡ 65)
  -- each a finite float, and no zero of them is -0
  pub finite : Accepts xs nre nim → (k : ℕ) → k ≤ 64 → Number (at r.0 k) × Number (at r.1 k)
  pub zero_plus : Accepts xs nre nim → (k : ℕ) → k ≤ 64 → (mag (at r.0 k) ≡ 0 → float_bits (at r.0 k) ≡ 0) × (mag (at r.1 k) ≡ 0 → float_bits (at r.1 k) ≡ 0)
  -- what the frame alone makes them, so that equal frames give equal outputs: of two such results each is the other (proofs/Unique)
  pub alone : Accepts xs nre nim → IsTransform xs (list_bits r.0) (list_bits r.1)
  -- each within 2 ^ -24 of its own size, 2 ^ -42 of the largest |x_n| and 2 ^ -150 of the exact sum
  pub near : Accepts xs nre nim → (c s : ℕ → Difference) (u l : ℕ) → Turns c s u → Covers l xs → (k : ℕ) → k ≤ 64 → NearOutput (at r.0 k) (exact_re xs c k) u l × NearOutput (at r.1 k) (exact_im xs s k) u l
  -- the sum of all squared errors is at most (10 ^ -7) ^ 2 of the sum of the exact outputs' squares, and (2 ^ -146) ^ 2, or 64 squared units
  pub energy : Accepts xs nre nim → (c s : ℕ → Difference) (u : ℕ) → Turns c s u →
      10 ^ 14 * sum_of (λ k. square (error_of (at r.0 k) (exact_re xs c k) u) + square (error_of (at r.1 k) (exact_im xs s k) u)) 65
      ≤ sum_of (λ k. square (size (exact_re xs c k)) + square (size (exact_im xs s k))) 65 + 10 ^ 14 * (64 * square u)
