-- What the program's parts hand on to each other. A reader of the promise need not read this. Definitions only.
use Rattle.std.specs.Prelude.{◌≡◌, List, [], ℕ, ◌≤◌, ◌<◌, length, get_or, Float}
use Rattle.units.specs.Units.{Number}
use Rattle.spectrum.specs.Transform.{at}
use Rattle.spectrum.specs.Floats.{size_bits}
use Rattle.spectrum.specs.Words.{FilledWith}
use Rattle.loudness.specs.Value.{step_of}
use Rattle.path.specs.Path.{lo, hi, quietest, loudest, threshold, comfort, Band}
use Rattle.path.specs.Steps.{envelope_of, sum_from, Products, Moduli}

-- from -1 to 1, by the pattern
pub record Small (x : Float) : Type 0 where
  pub number : Number x
  pub bits : size_bits x ≤ 1065353216

-- every sample and every value of the window
pub record AllSmall (xs ws : List Float) : Type 0 where
  pub samples : (i : ℕ) → i < 128 → Small (at xs i)
  pub window : (i : ℕ) → i < 128 → Small (at ws i)

-- the words of the band i, in a list of bands
abbrev pub words_of : List (List ℕ) → ℕ → List ℕ
words_of bands i = get_or bands i []

-- words that all make a band
pub record AllBands (top : ℕ) (bands : List (List ℕ)) : Type 0 where
  pub each : (i : ℕ) → i < length bands → Band top (words_of bands i) 0

-- six words that make a band, each of 32 bits: of those behind a struct's field Rattle does not say it
pub record Accepted (top : ℕ) (words : List ℕ) : Type 0 where
  pub band : Band top words 0
  pub fits : (j : ℕ) → get_or words j 0 < 4294967296

-- the current of the band i by the moduli ys
unfoldable pub current_at : List ℕ → List ℕ → ℕ → ℕ
current_at ys bs i = step_of (quietest bs i) (loudest bs i) (threshold bs i) (comfort bs i) (envelope_of (sum_from (λ k. get_or ys k 0) (lo bs i) (hi bs i)))

-- that of six words
abbrev pub current_of : List ℕ → List ℕ → ℕ
current_of ys words = current_at ys words 0

-- there is one for each place
pub record Stepped (ys bs : List ℕ) (n : ℕ) (is : List ℕ) : Type 0 where
  pub as_many : length is ≡ n
  pub each : (i : ℕ) → i < n → get_or is i 0 ≡ current_at ys bs i

-- the same, by the words of each band
pub record SteppedBy (ys : List ℕ) (bands : List (List ℕ)) (n : ℕ) (is : List ℕ) : Type 0 where
  pub as_many : length is ≡ n
  pub each : (i : ℕ) → i < n → get_or is i 0 ≡ current_of ys (words_of bands i)

-- the currents of a frame: products, their transform, the moduli and the steps of the bands
pub record Heard (xs ws : List Float) (bands : List (List ℕ)) (n : ℕ) (is : List ℕ) : Type 0 where
  pub ys : List ℕ
  pub r : List ℕ
  pub gs : List ℕ
  pub products : Products xs ws ys
  pub count : length r ≡ 128
  pub fills : FilledWith ys 0 1 r
  pub moduli : Moduli r gs
  pub stepped : SteppedBy gs bands n is
