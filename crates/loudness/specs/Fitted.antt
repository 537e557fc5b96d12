-- The promise of fitted channels: `ear_fit` and `ear_fit_knee` write words, `ear_step` answers by them. Definitions only.
use Rattle.std.specs.Prelude.{◌≡◌, ℕ, ◌+◌, ◌-◌, ◌/◌, ◌%◌, ◌^◌, ◌<◌, ◌≤◌, ◌⊎◌, List, ◌++◌, length, slice_index, slice_set, Float}
use Rattle.loudness.specs.Map.{Channel, Envelope, Loudness}
use Rattle.loudness.specs.Knee.{BentChannel, LoudnessKnee}
use Rattle.loudness.specs.Words.{segment_words}

-- how many words a straight channel has, and a bent one
abbrev pub straight_words : ℕ
straight_words = 6

abbrev pub bent_words : ℕ
bent_words = 12

-- a list of numbers is its own pattern
abbrev pub as_they_are : List ℕ → List ℕ
as_they_are w = w

-- the words of a straight channel, and of a bent one: those of its two segments
abbrev pub fitted_of : (b m : Float) (t c : ℕ) → List ℕ
fitted_of = segment_words

abbrev pub fitted_knee : (b k m : Float) (t s c : ℕ) → List ℕ
fitted_knee b k m t s c = segment_words b k t s ++ segment_words k m s c

-- a list for n words: code 2, BAD_LENGTH, where it has another length; else code 4, BAD_CHANNEL, where the channel breaks its conditions; else code 0 and the words
pub record Fits (Good : Type 0) (words : List ℕ) (n : ℕ) (given : ℕ) (code : ℕ) (w : List ℕ) : Type 0 where
  pub bad_length : ¬ (given ≡ n) → code ≡ 2
  pub bad_channel : given ≡ n → ¬ Good → code ≡ 4
  pub success : given ≡ n → Good → code ≡ 0
  pub value : given ≡ n → Good → w ≡ words

-- threshold and comfort, as they stand in the words: of a bent channel in those of its lower and of its upper segment
abbrev pub threshold_in : List ℕ → ℕ
threshold_in w = slice_index w 0 / 4194304

abbrev pub comfort_in : List ℕ → ℕ
comfort_in w = slice_index w (length w - 6) / 4194304 + slice_index w (length w - 6) / 4096 % 1024

-- w is `words` with another number at one place
pub record Changed (words w : List ℕ) : Type 0 where
  pub place : ℕ
  pub other : ℕ
  pub inside : place < length words
  pub word : other < 2 ^ 32
  pub differs : ¬ (other ≡ slice_index words place)
  pub changed : w ≡ slice_set words place other

-- the whole promise of `ear_step`: words and an envelope value are answered by a code, and where that is 0 by the step i
pub record Step (w : List ℕ) (a : Float) (code i : ℕ) : Type 0 where
  -- code 2, BAD_LENGTH, for lists of another length
  pub bad_length : ¬ (length w ≡ straight_words) → ¬ (length w ≡ bent_words) → code ≡ 2
  -- of a fitted channel: the whole promise of the map for that channel, and the same step
  pub straight : (top : ℕ) (b m : Float) (t c : ℕ) → Channel top b m t c → w ≡ fitted_of b m t c → Loudness top b m t c a code i
  pub bent : (top : ℕ) (b k m : Float) (t s c : ℕ) → BentChannel top b k m t s c → w ≡ fitted_knee b k m t s c → LoudnessKnee top b k m t s c a code i
  -- whatever single word of a fitted channel is changed: code 4
  pub changed_straight : (top : ℕ) (b m : Float) (t c : ℕ) → Channel top b m t c → Changed (fitted_of b m t c) w → code ≡ 4
  pub changed_bent : (top : ℕ) (b k m : Float) (t s c : ℕ) → BentChannel top b k m t s c → Changed (fitted_knee b k m t s c) w → code ≡ 4
  -- of any words: code 1, OUT_OF_RANGE, or 4 for what is no envelope value, and for one code 4, or a step between the threshold and the comfort that stand in the words
  pub out_of_range : (length w ≡ straight_words) ⊎ (length w ≡ bent_words) → ¬ Envelope a → (code ≡ 1) ⊎ (code ≡ 4)
  pub answered : (length w ≡ straight_words) ⊎ (length w ≡ bent_words) → Envelope a → (code ≡ 0) ⊎ (code ≡ 4)
  pub at_least : code ≡ 0 → threshold_in w ≤ i
  pub at_most : code ≡ 0 → i ≤ comfort_in w
