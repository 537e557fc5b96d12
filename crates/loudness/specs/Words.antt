-- The words of a fitted segment, and the step that they give. A reader of the promise need not read this: Fitted names `segment_words` and says all that is promised
-- of it. Definitions only.
use Rattle.std.specs.Prelude.{◌≡◌, ℕ, ◌+◌, ◌-◌, ◌*◌, ◌/◌, ◌%◌, ◌^◌, ◌<◌, ◌≤◌, cond, ◌⊎◌, List, [], ◌∷◌, length, take, drop, nat_le, slice_index, Float}
use Rattle.logs.specs.Value.{fixed_bits, fixed_of}
use Rattle.loudness.specs.Value.{rise_of, places_of, word_of}
use Rattle.loudness.specs.Map.{Envelope}
use Rattle.loudness.specs.Segment.{size_bits}

-- ---- any six words: the steps and the upper digits of the factor, minus the logarithm of b (the lower word first), a power of two by which rises are
-- brought to words, the lower digits of the factor, and the check
abbrev pub threshold_of : ℕ → ℕ
threshold_of s = s / 4194304

-- how many steps there are from threshold to comfort
abbrev pub range_of : ℕ → ℕ
range_of s = s / 4096 % 1024

abbrev pub comfort_of : ℕ → ℕ
comfort_of s = threshold_of s + range_of s

-- the sum of a list
unfoldable pub total : List ℕ → ℕ
total [] = 0
total (x ∷ w) = x + total w

-- what the words sum to, modulo 2 ^ 32
abbrev pub check_sum : ℕ
check_sum = 3941264106

-- words that pass
abbrev pub Passes : List ℕ → Type 0
Passes w = total w % 4294967296 ≡ check_sum

-- the rise of the logarithm x above that of b; below that it wraps
unfoldable pub rise_to : List ℕ → ℕ → ℕ
rise_to w x = (x + (slice_index w 1 + slice_index w 2 * 4294967296)) % 18446744073709551616

-- the rise of the pattern p
abbrev pub rise_in : List ℕ → ℕ → ℕ
rise_in w p = rise_to w (fixed_bits p)

-- the upper half of n times s
unfoldable pub upper_of : ℕ → ℕ → ℕ
upper_of n s = n * s / 4294967296

-- y times the factor of two words, to the nearest whole number of steps
unfoldable pub scaled : ℕ → ℕ → ℕ → ℕ
scaled y h l = (y * (h * 4294967296 + l) / 18446744073709551616 + 1) / 2

-- the steps of a rise n: of one that is no word none if it has wrapped, else all; and never more than all
unfoldable pub steps_in : List ℕ → ℕ → ℕ
steps_in w n =
    cond (nat_le 4294967296 (upper_of n (slice_index w 3)))
    (cond (nat_le 9223372036854775808 n) 0 (range_of (slice_index w 0)))
    (cond (nat_le (range_of (slice_index w 0)) (scaled (upper_of n (slice_index w 3)) (slice_index w 0 % 4096) (slice_index w 4))) (range_of (slice_index w 0)) (scaled (upper_of n (slice_index w 3)) (slice_index w 0 % 4096) (slice_index w 4)))

-- the step of the pattern p
unfoldable pub step_in : List ℕ → ℕ → ℕ
step_in w p = threshold_of (slice_index w 0) + steps_in w (rise_in w p)

-- how six words are answered: code 4 where they do not pass, else code 1 where a is no envelope value, else code 0 and the step
pub record Answered (w : List ℕ) (a : Float) (code i : ℕ) : Type 0 where
  pub how : ((code ≡ 4) × ¬ Passes w) ⊎ (((code ≡ 1) × Passes w × ¬ Envelope a) ⊎ ((code ≡ 0) × Passes w × Envelope a × (i ≡ step_in w (size_bits a))))

-- ---- two segments: the words of each pass, and the upper one begins no lower than the lower one ends
pub record BentPasses (w : List ℕ) : Type 0 where
  pub lower : Passes (take 6 w)
  pub upper : Passes (drop 6 w)
  pub order : comfort_of (slice_index w 0) ≤ threshold_of (slice_index w 6)

-- whether the pattern p is past the knee: its rise above the upper segment's b has not wrapped
abbrev pub Past : List ℕ → ℕ → Type 0
Past w p = rise_in (drop 6 w) p < 9223372036854775808

-- the step of the pattern p: by the lower one up to the knee
unfoldable pub bent_in : List ℕ → ℕ → ℕ
bent_in w p = cond (nat_le 9223372036854775808 (rise_in (drop 6 w) p)) (step_in (take 6 w) p) (step_in (drop 6 w) p)

-- where the words begin that answer a: of six words at 0; of two segments at 0 or 6, the one in which a lies; 7 for another number of words, 8 where the segments do not pass
abbrev pub Lower : List ℕ → Float → Type 0
Lower w a = (length w ≡ 12) × BentPasses w × (Envelope a → ¬ Past w (size_bits a))

abbrev pub Upper : List ℕ → Float → Type 0
Upper w a = (length w ≡ 12) × BentPasses w × (Envelope a → Past w (size_bits a))

pub record Chosen (w : List ℕ) (a : Float) (at : ℕ) : Type 0 where
  pub how : ((at ≡ 7) × ¬ (length w ≡ 6) × ¬ (length w ≡ 12))
      ⊎ (((at ≡ 8) × (length w ≡ 12) × ¬ BentPasses w) ⊎ (((at ≡ 0) × (length w ≡ 6)) ⊎ (((at ≡ 0) × Lower w a) ⊎ ((at ≡ 6) × Upper w a))))

-- and these words, v
pub record ChosenWords (w : List ℕ) (a : Float) (v : List ℕ) : Type 0 where
  pub how : ((length w ≡ 6) × (v ≡ w)) ⊎ ((Lower w a × (v ≡ take 6 w)) ⊎ (Upper w a × (v ≡ drop 6 w)))

-- ---- the words of a segment
-- the word of a span: its upper half, shifted up to 32 binary digits
unfoldable pub span_of : ℕ → ℕ
span_of d = word_of (places_of d) d

-- k steps over the span h, in steps of 2 ^ -65, and one more
unfoldable pub factor_of : ℕ → ℕ → ℕ
factor_of k h = k * 36893488147419103232 / h + 1

-- the steps and the upper digits of the factor f
unfoldable pub steps_word : (t c f : ℕ) → ℕ
steps_word t c f = f / 4294967296 + 4096 * (c - t) + 4194304 * t

unfoldable pub negated : Float → ℕ
negated b = (18446744073709551616 - fixed_of b) % 18446744073709551616

-- the word that makes the sum of five others, modulo 2 ^ 32, the check
unfoldable pub check_of : ℕ → ℕ
check_of s = (check_sum + 4294967296 - s % 4294967296) % 4294967296

-- five words and their check
unfoldable pub five_words : (s l h p r : ℕ) → List ℕ
five_words s l h p r = s ∷ l ∷ h ∷ p ∷ r ∷ check_of (s + l + h + p + r) ∷ []

unfoldable pub segment_words : (b m : Float) (t c : ℕ) → List ℕ
segment_words b m t c =
    five_words (steps_word t c (factor_of (c - t) (span_of (rise_of b m)))) (negated b % 4294967296) (negated b / 4294967296) (2 ^ places_of (rise_of b m)) (factor_of (c - t) (span_of (rise_of b m)) % 4294967296)
