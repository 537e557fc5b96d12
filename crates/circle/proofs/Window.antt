-- The digits of 1 / (2 pi): every window that a table of words makes is 2 ^ i turns of a radian, cut off, whole turns of 2 ^ 64 left out. One test over all windows is computed.
-- Assumes nothing.
use Rattle.std.proofs.Common.{◌≡◌, ℕ, zero, suc, ◌-◌, ◌*◌, ◌/◌, ◌%◌, ◌^◌, ◌<◌, Bool, true, ◌&&◌, T, eqb, inl, inr, le_of_suc-le-suc, eq-or-lt_of_le, arith, eqb→eq}
use lib.Ieee.Fits.{and_l, and_r}
use Rattle.circle.specs.Phase.{first_word, first_digits, window_of}
use Rattle.exact.specs.Circle.{quarter, quarter_unit}

-- a test of every number below k
unfoldable pub all : (ℕ → Bool) → ℕ → Bool
all test zero = true
all test (suc k) = test k && all test k

all_sound : (test : ℕ → Bool) (k : ℕ) → T (all test k) → (i : ℕ) → i < k → T (test i)
unfolding all
all_sound test zero t i l = absurd (omega arith)
all_sound test (suc k) t i l = elim (eq-or-lt_of_le (le_of_suc-le-suc l)) [
  | inl e ↦ rw e (and_l (test k) (all test k) t)
  | inr h ↦ all_sound test k (and_r (test k) (all test k) t) i h
]

-- the turns of 2 ^ i radians, cut off: a turn is four quarters
unfoldable pub turns_of : ℕ → ℕ
turns_of i = 2 ^ i * quarter_unit / (4 * quarter)

unfoldable window_test : ℕ → Bool
unfolding turns_of
window_test i = eqb (window_of i) (turns_of i % 2 ^ 64)

-- how many windows the table makes
abbrev pub windows : ℕ
windows = 169

windows_pass : T (all window_test windows)
unfolding all window_test window_of turns_of quarter quarter_unit
windows_pass = tt

-- a window is those turns
pub window_turns : (i : ℕ) → i < windows → window_of i ≡ turns_of i % 2 ^ 64
unfolding window_test
window_turns i h = eqb→eq (window_of i) (turns_of i % 2 ^ 64) (all_sound window_test windows windows_pass i h)

-- ---- the first windows are the first digits, cut off
unfoldable cut_test : ℕ → ℕ → ℕ → Bool
cut_test digits count i = eqb (digits / 2 ^ (count - i)) (window_of i)

cut_passes : (T (all (cut_test first_word 31) 32)) × (T (all (cut_test first_digits 63) 64))
unfolding all cut_test window_of
cut_passes = (tt, tt)

module _ (i : ℕ) where
  pub first_word_lem : i < 32 → first_word / 2 ^ (31 - i) ≡ window_of i
  unfolding cut_test
  first_word_lem h = eqb→eq (first_word / 2 ^ (31 - i)) (window_of i) (all_sound (cut_test first_word 31) 32 cut_passes.0 i h)

  pub first_digits_lem : i < 64 → first_digits / 2 ^ (63 - i) ≡ window_of i
  unfolding cut_test
  first_digits_lem h = eqb→eq (first_digits / 2 ^ (63 - i)) (window_of i) (all_sound (cut_test first_digits 63) 64 cut_passes.1 i h)
