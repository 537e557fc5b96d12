-- The promise of the path from a microphone's frame to the currents of the electrodes. Definitions only.
-- exact path: w_n x_n, their transform X_k, the sizes |X_k|, a = (sum of |X_k| over the band) / 64, and the loudness map of a, all as real numbers
use Rattle.std.specs.Prelude.{◌≡◌, cond, List, ℕ, suc, ◌+◌, ◌-◌, ◌*◌, ◌^◌, ◌≤◌, ◌<◌, leb, length, get_or, Float}
use Rattle.std.specs.Float.{binary32}
use Rattle.std.specs.Float.Ieee.{of_bits}
use Rattle.units.specs.Units.{mag, P, Number}
use Rattle.spectrum.specs.Difference.{Difference, times, size}
use Rattle.spectrum.specs.Transform.{at, units_of, turned_total, Turns, sum_of, square}
pub use Rattle.loudness.specs.Fitted.{as_they_are}
use Rattle.loudness.specs.Map.{Channel, RatioAtMost, RatioAtLeast}
use Rattle.path.specs.Steps.{IsCurrent}

-- ---- the bands: six words each, the bins from lo to hi, the patterns of the channel's levels b and m, and its steps t and c
abbrev pub word : List ℕ → ℕ → ℕ → ℕ
word bs i j = get_or bs (6 * i + j) 0

abbrev pub lo : List ℕ → ℕ → ℕ
lo bs i = get_or bs (6 * i) 0

abbrev pub hi : List ℕ → ℕ → ℕ
hi bs i = word bs i 1

abbrev pub quietest : List ℕ → ℕ → Float
quietest bs i = of_bits binary32 (word bs i 2)

abbrev pub loudest : List ℕ → ℕ → Float
loudest bs i = of_bits binary32 (word bs i 3)

abbrev pub threshold : List ℕ → ℕ → ℕ
threshold bs i = word bs i 4

abbrev pub comfort : List ℕ → ℕ → ℕ
comfort bs i = word bs i 5

-- ---- what is accepted
-- 128 samples, 128 values of a window, 1 to 65 bands of six words and as many places
pub record Lengths (xs ws : List Float) (bs : List ℕ) (n : ℕ) : Type 0 where
  pub samples : length xs ≡ 128
  pub window : length ws ≡ 128
  pub some : 1 ≤ n
  pub few : n ≤ 65
  pub words : length bs ≡ 6 * n

-- bins in order, up to 64, and a channel of a stimulator with the steps 0 to top
pub record Band (top : ℕ) (bs : List ℕ) (i : ℕ) : Type 0 where
  pub order : lo bs i ≤ hi bs i
  pub bins : hi bs i ≤ 64
  pub channel : Channel top (quietest bs i) (loudest bs i) (threshold bs i) (comfort bs i)

pub record Bands (top : ℕ) (bs : List ℕ) (n : ℕ) : Type 0 where
  pub each : (i : ℕ) → i < n → Band top bs i

-- from -1 to 1, 2 ^ 149 units
pub record Sample (x : Float) : Type 0 where
  pub number : Number x
  pub small : mag x ≤ 2 ^ 149

-- every sample and every value of the window
pub record Samples (xs ws : List Float) : Type 0 where
  pub sound : (i : ℕ) → i < 128 → Sample (at xs i)
  pub window : (i : ℕ) → i < 128 → Sample (at ws i)

pub record Accepts (top : ℕ) (xs ws : List Float) (bs : List ℕ) (n : ℕ) : Type 0 where
  pub lengths : Lengths xs ws bs n
  pub bands : Bands top bs n
  pub samples : Samples xs ws

-- ---- the exact path
-- w_n x_n, in units of 2 ^ -298
abbrev pub product : List Float → List Float → ℕ → Difference
product xs ws n = times (units_of (at xs n)) (units_of (at ws n))

-- |X_k| squared, in squared units of 2 ^ -298 / u, for a table c, s of cosines and sines over u (Turns)
abbrev pub power : List Float → List Float → (ℕ → Difference) → (ℕ → Difference) → ℕ → ℕ
power xs ws c s k = square (size (turned_total (product xs ws) c k)) + square (size (turned_total (product xs ws) s k))

-- f lo + ... + f hi
abbrev pub band_sum : (ℕ → ℕ) → ℕ → ℕ → ℕ
band_sum f low high = sum_of (λ j. f (low + j)) (suc high - low)

-- a level in units of sums: since a is a sum over 64, 1 is 64 u 2 ^ 298 of them
abbrev pub in_sums : ℕ → Float → ℕ
in_sums u b = P b * (64 * u * 2 ^ 149)

-- a, but at least b and at most m: the map is the same at both ends and beyond them
abbrev pub between : ℕ → ℕ → ℕ → ℕ
between b m a = cond (leb a b) b (cond (leb m a) m a)

-- the current i is within num / den of the exact map's t + (c - t) log (a / b) / log (m / b), a between b and m: the map of every number below the
-- sum of the |X_k| is at most i + num / den, and that of every number above it is at least i - num / den
pub record NearPath (num den : ℕ) (power : ℕ → ℕ) (low high b m t c i : ℕ) : Type 0 where
  pub not_below : (l : ℕ → ℕ) → ((k : ℕ) → low ≤ k → k ≤ high → square (l k) ≤ power k) → RatioAtMost (between b m (band_sum l low high)) b m (den * (c - t)) (den * (i - t) + num)
  pub not_above : (h : ℕ → ℕ) → ((k : ℕ) → low ≤ k → k ≤ high → power k ≤ square (h k)) → RatioAtLeast (between b m (band_sum h low high)) b m (den * (c - t)) (den * (i - t) - num)

-- the proved constant: 0.501 of a step where top is at most 255, 0.504 up to 1,023. Asked: 0.51
abbrev pub path_error_num : ℕ → ℕ
path_error_num top = cond (leb top 255) 501000 504000

abbrev pub path_error_den : ℕ
path_error_den = 1000000

-- the whole promise: a frame, a window and n bands are answered by a code and, where that is 0, by the currents is
pub record Currents (top : ℕ) (xs ws : List Float) (bs : List ℕ) (n code : ℕ) (is : List ℕ) : Type 0 where
  -- code 2, BAD_LENGTH, where a length is another
  pub bad_length : ¬ Lengths xs ws bs n → code ≡ 2
  -- else code 4, BAD_CHANNEL, where a band breaks its conditions, top > 1,023 among them
  pub bad_channel : Lengths xs ws bs n → ¬ Bands top bs n → code ≡ 4
  -- else code 1, OUT_OF_RANGE, where a sample or a value of the window is a NaN or not from -1 to 1
  pub out_of_range : Lengths xs ws bs n → Bands top bs n → ¬ Samples xs ws → code ≡ 1
  -- all else is success: a current for each band
  pub success : Accepts top xs ws bs n → code ≡ 0
  pub as_many : Accepts top xs ws bs n → length is ≡ n
  -- between threshold and comfort
  pub at_least : Accepts top xs ws bs n → (i : ℕ) → i < n → threshold bs i ≤ get_or is i 0
  pub at_most : Accepts top xs ws bs n → (i : ℕ) → i < n → get_or is i 0 ≤ comfort bs i
  -- within the constant of the exact path's current, whatever else is in the frame
  pub near : Accepts top xs ws bs n → (c s : ℕ → Difference) (u : ℕ) → Turns c s u → (i : ℕ) → i < n →
      NearPath (path_error_num top) path_error_den (power xs ws c s) (lo bs i) (hi bs i) (in_sums u (quietest bs i)) (in_sums u (loudest bs i)) (threshold bs i) (comfort bs i) (get_or is i 0)
  -- silence gives the threshold in every band
  pub silence : Accepts top xs ws bs n → ((j : ℕ) → j < 128 → mag (at xs j) ≡ 0) → (i : ℕ) → i < n → get_or is i 0 ≡ threshold bs i
  -- the current of a band is what the frame and this band alone make it: of two such currents each is the other (proofs/Alone)
  pub alone : Accepts top xs ws bs n → (i : ℕ) → i < n → IsCurrent xs ws (lo bs i) (hi bs i) (quietest bs i) (loudest bs i) (threshold bs i) (comfort bs i) (get_or is i 0)
