-- A fraction just below pi / 2, by what computed partial sums say there: cosine is nearly 0 and sine nearly 1, but cosine is above 0, and below 0 at the next fraction.
use mathlib.Core.Bool.{Bool}
use Prim.Native.Nat.{ℕ, suc, ◌+◌, ◌*◌, ◌^◌, ◌≤◌, ◌<◌}
use native.Mathlib.Nat.{mul-le-mul_left, mul-le-mul_right, le_of_mul-le-mul_right}
use native.Mathlib.Omega.{arith}
use lib.Dec.{T, leb, leb→le}
use lib.Pow.{pow_pos}
use Rattle.exact.specs.Series.{partial, denominator, fourth}
use Rattle.exact.specs.Circle.{quarter, quarter_unit}
use Rattle.exact.proofs.Series.{over_pos, partial_grows, partial_tail, fourth_most}
use Rattle.exact.proofs.Rotation.{Known}

-- ---- the fraction

-- a turn by it is a quarter turn within 1 / fine
unfoldable pub fine : ℕ
fine = 2 ^ 240

-- its denominator is above zero
pub quarter-unit_pos : 0 < quarter_unit
unfolding quarter_unit
quarter-unit_pos = pow_pos 256

-- so is this
pub fine_pos : 0 < fine
unfolding fine
fine_pos = pow_pos 240

-- ---- what a partial sum says of all later ones

-- the r-th of the four sums, up to the term n and with its tail, is at most the s-th plus (d - a) / e
unfoldable settled : ℕ → ℕ → ℕ → ℕ → ℕ → ℕ → ℕ → ℕ → Bool
settled r s e a d p q n = leb (e * (partial (fourth r) p q n + p ^ n) + a * denominator q n) (e * partial (fourth s) p q n + d * denominator q n)

later : (r s e a d p q n : ℕ) → 0 < q → 2 * p ≤ suc n * q → T (settled r s e a d p q n) → (m : ℕ) → n ≤ m →
    e * partial (fourth r) p q m + a * denominator q m ≤ e * partial (fourth s) p q m + d * denominator q m
unfolding settled
later r s e a d p q n pos halve t m l =
    le_of_mul-le-mul_right
    (through _ _ _ _ _ _ _ (leb→le _ _ t) (partial_tail (fourth r) (fourth_most r) p q n m halve l) (partial_grows (fourth s) p q n m l)) (over_pos q n pos)
  where
    through : (R S o R' S' o' t : ℕ) → e * (R + t) + a * o ≤ e * S + d * o → R' * o ≤ (R + t) * o' → S * o' ≤ S' * o → (e * R' + a * o') * o ≤ (e * S' + d * o') * o
    through R S o R' S' o' t x y z = omega (arith, mul-le-mul_right o' x, mul-le-mul_left e y, mul-le-mul_left e z)

-- ---- at the fraction, and at the next

halves : 2 * quarter ≤ 71 * quarter_unit
unfolding quarter quarter_unit
halves = leb→le (2 * quarter) (71 * quarter_unit) tt

next_halves : 2 * suc quarter ≤ 71 * quarter_unit
unfolding quarter quarter_unit
next_halves = leb→le (2 * suc quarter) (71 * quarter_unit) tt

-- cosine is within 1 / (5 fine) of 0, and sine of 1
tests : T (settled 0 2 (5 * fine) 0 1 quarter quarter_unit 70) × T (settled 2 0 (5 * fine) 0 1 quarter quarter_unit 70)
    × T (settled 1 3 (5 * fine) 0 (5 * fine + 1) quarter quarter_unit 70) × T (settled 3 1 (5 * fine) (5 * fine) 1 quarter quarter_unit 70)
unfolding settled partial denominator fourth quarter quarter_unit fine
tests = (tt, tt, tt, tt)

-- so is every later partial sum
pub quarter_near : (n : ℕ) → 70 ≤ n → Known 0 1 1 1 (5 * fine) quarter quarter_unit n
quarter_near n l = record {
  cosine = record { least = omega (arith, at 0 2 0 1 tests.0); most = omega (arith, at 2 0 0 1 tests.1) };
  sine = record { least = omega (arith, at 1 3 0 (5 * fine + 1) tests.2); most = omega (arith, at 3 1 (5 * fine) 1 tests.3) };
}
  where
    at : (r s a d : ℕ) → T (settled r s (5 * fine) a d quarter quarter_unit 70) →
        5 * fine * partial (fourth r) quarter quarter_unit n + a * denominator quarter_unit n ≤ 5 * fine * partial (fourth s) quarter quarter_unit n + d * denominator quarter_unit n
    at r s a d t = later r s (5 * fine) a d quarter quarter_unit 70 quarter-unit_pos halves t n l

-- how far from zero cosine is at least
unfoldable pub sharp : ℕ
sharp = 2 ^ 260

above : T (settled 2 0 sharp 2 0 quarter quarter_unit 70)
unfolding settled partial denominator fourth quarter quarter_unit sharp
above = tt

-- cosine is at least 2 / sharp
pub quarter-above : (n : ℕ) → 70 ≤ n → sharp * partial (fourth 2) quarter quarter_unit n + 2 * denominator quarter_unit n ≤ sharp * partial (fourth 0) quarter quarter_unit n
quarter-above n l = omega (arith, later 2 0 sharp 2 0 quarter quarter_unit 70 quarter-unit_pos halves above n l)

beneath : T (settled 0 2 sharp 2 0 (suc quarter) quarter_unit 70)
unfolding settled partial denominator fourth quarter quarter_unit sharp
beneath = tt

-- at the next fraction it is at most - 2 / sharp
pub next_beneath : (n : ℕ) → 70 ≤ n → sharp * partial (fourth 0) (suc quarter) quarter_unit n + 2 * denominator quarter_unit n ≤ sharp * partial (fourth 2) (suc quarter) quarter_unit n
next_beneath n l = omega (arith, later 0 2 sharp 2 0 (suc quarter) quarter_unit 70 quarter-unit_pos next_halves beneath n l)
