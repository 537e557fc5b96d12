-- What the table's numbers have in common with cosines and sines: the addition theorem within 2 units, and the turns by a half. Computed tests.
use mathlib.Core.Path.{◌≡◌, subst}
use mathlib.Core.Bool.{Bool, ◌&&◌}
use Prim.Native.Nat.{ℕ, ◌+◌, ◌-◌, ◌*◌, ◌%◌, ◌≤◌, ◌<◌}
use native.Mathlib.Omega.{arith}
use lib.Dec.{T, leb, leb→le}
use lib.Ieee.Fits.{and_l, and_r}
use Rattle.spectrum.specs.Difference.{Difference, whole, opposite, add, times}
use Rattle.spectrum.specs.Table.{unit, entry, cosine_below, sine_below, cosine, sine}
use Rattle.spectrum.proofs.Tests.{all, at}
use Rattle.spectrum.proofs.Differences.{Close, length}

-- |a - b| ≤ e, as a test
unfoldable near : ℕ → Difference → Difference → Bool
near e a b = leb (a.plus + b.minus) (b.plus + a.minus + e) && leb (b.plus + a.minus) (a.plus + b.minus + e)

nears : (e : ℕ) (a b : Difference) → T (near e a b) → Close e a b
unfolding near
nears e a b t =
    let l = leb (a.plus + b.minus) (b.plus + a.minus + e) in
    let r = leb (b.plus + a.minus) (a.plus + b.minus + e) in
    record { most = leb→le _ _ (and_l l r t); least = leb→le _ _ (and_r l r t) }

-- over all numbers below n
tested : (n e : ℕ) (f g : ℕ → Difference) → T (all n (λ j. near e (f j) (g j))) → (j : ℕ) → j < n → Close e (f j) (g j)
tested n e f g t j l = nears e (f j) (g j) (at n (λ j. near e (f j) (g j)) t j l)

-- ---- the addition theorem, for i up to 32
unfoldable cosine_of_sum : ℕ → ℕ → Difference
cosine_of_sum i j = times (whole unit) (cosine_below ((i + j) % 128))

unfoldable sum_of_cosine : ℕ → ℕ → Difference
sum_of_cosine i j = add (times (whole (entry i)) (cosine_below j)) (opposite (times (whole (entry (32 - i))) (sine_below j)))

unfoldable sine_of_sum : ℕ → ℕ → Difference
sine_of_sum i j = times (whole unit) (sine_below ((i + j) % 128))

unfoldable sum_of_sine : ℕ → ℕ → Difference
sum_of_sine i j = add (times (whole (entry (32 - i))) (cosine_below j)) (times (whole (entry i)) (sine_below j))

cosine_tests : T (all 33 (λ i. all 128 (λ j. near (2 * unit) (cosine_of_sum i j) (sum_of_cosine i j))))
unfolding all near cosine_of_sum sum_of_cosine entry cosine_below sine_below
cosine_tests = tt

sine_tests : T (all 33 (λ i. all 128 (λ j. near (2 * unit) (sine_of_sum i j) (sum_of_sine i j))))
unfolding all near sine_of_sum sum_of_sine entry cosine_below sine_below
sine_tests = tt

module _ (i j : ℕ) (few : i ≤ 32) where
  place : (i + j % 128) % 128 ≡ (i + j) % 128
  place = omega arith

  pub addition_cosine : Close (2 * unit) (times (whole unit) (cosine (i + j))) (add (times (whole (entry i)) (cosine j)) (opposite (times (whole (entry (32 - i))) (sine j))))
  unfolding cosine_of_sum sum_of_cosine
  addition_cosine =
      subst (λ (m : ℕ). Close (2 * unit) (times (whole unit) (cosine_below m)) (sum_of_cosine i (j % 128))) place
      (tested 128 (2 * unit) (cosine_of_sum i) (sum_of_cosine i) (at 33 (λ i. all 128 (λ j. near (2 * unit) (cosine_of_sum i j) (sum_of_cosine i j))) cosine_tests i (omega arith)) (j % 128) (omega arith))

  pub addition_sine : Close (2 * unit) (times (whole unit) (sine (i + j))) (add (times (whole (entry (32 - i))) (cosine j)) (times (whole (entry i)) (sine j)))
  unfolding sine_of_sum sum_of_sine
  addition_sine =
      subst (λ (m : ℕ). Close (2 * unit) (times (whole unit) (sine_below m)) (sum_of_sine i (j % 128))) place
      (tested 128 (2 * unit) (sine_of_sum i) (sum_of_sine i) (at 33 (λ i. all 128 (λ j. near (2 * unit) (sine_of_sum i j) (sum_of_sine i j))) sine_tests i (omega arith)) (j % 128) (omega arith))

-- ---- two angles that make whole turns together, and whole turns and a half
whole_cosines : T (all 128 (λ j. near 0 (cosine_below ((128 - j) % 128)) (cosine_below j)))
unfolding all near entry cosine_below
whole_cosines = tt

whole_sines : T (all 128 (λ j. near 0 (sine_below ((128 - j) % 128)) (opposite (sine_below j))))
unfolding all near entry sine_below
whole_sines = tt

half_cosines : T (all 128 (λ j. near 0 (cosine_below ((192 - j) % 128)) (opposite (cosine_below j))))
unfolding all near entry cosine_below
half_cosines = tt

half_sines : T (all 128 (λ j. near 0 (sine_below ((192 - j) % 128)) (sine_below j)))
unfolding all near entry sine_below
half_sines = tt

module _ (a b : ℕ) where
  whole_place : (a + b) % 128 ≡ 0 → (128 - b % 128) % 128 ≡ a % 128
  whole_place e = omega arith

  half_place : (a + b) % 128 ≡ 64 → (192 - b % 128) % 128 ≡ a % 128
  half_place e = omega arith

  rest : b % 128 < 128
  rest = omega arith

  pub whole-cosine : (a + b) % 128 ≡ 0 → Close 0 (cosine a) (cosine b)
  whole-cosine e = subst (λ (m : ℕ). Close 0 (cosine_below m) (cosine b)) (whole_place e) (tested 128 0 (λ j. cosine_below ((128 - j) % 128)) cosine_below whole_cosines (b % 128) rest)

  pub whole-sine : (a + b) % 128 ≡ 0 → Close 0 (sine a) (opposite (sine b))
  whole-sine e = subst (λ (m : ℕ). Close 0 (sine_below m) (opposite (sine b))) (whole_place e) (tested 128 0 (λ j. sine_below ((128 - j) % 128)) (λ j. opposite (sine_below j)) whole_sines (b % 128) rest)

  pub half_cosine : (a + b) % 128 ≡ 64 → Close 0 (cosine a) (opposite (cosine b))
  half_cosine e = subst (λ (m : ℕ). Close 0 (cosine_below m) (opposite (cosine b))) (half_place e) (tested 128 0 (λ j. cosine_below ((192 - j) % 128)) (λ j. opposite (cosine_below j)) half_cosines (b % 128) rest)

  pub half_sine : (a + b) % 128 ≡ 64 → Close 0 (sine a) (sine b)
  half_sine e = subst (λ (m : ℕ). Close 0 (sine_below m) (sine b)) (half_place e) (tested 128 0 (λ j. sine_below ((192 - j) % 128)) sine_below half_sines (b % 128) rest)

-- ---- none is above 1
unfoldable little_cosine : ℕ → Bool
little_cosine j = leb (length (cosine_below j)) unit

unfoldable little_sine : ℕ → Bool
little_sine j = leb (length (sine_below j)) unit

little_cosines : T (all 128 little_cosine)
unfolding all little_cosine entry cosine_below
little_cosines = tt

little_sines : T (all 128 little_sine)
unfolding all little_sine entry sine_below
little_sines = tt

pub cosine-length : (j : ℕ) → length (cosine j) ≤ unit
unfolding little_cosine
cosine-length j = leb→le _ _ (at 128 little_cosine little_cosines (j % 128) (omega arith))

pub sine-length : (j : ℕ) → length (sine j) ≤ unit
unfolding little_sine
sine-length j = leb→le _ _ (at 128 little_sine little_sines (j % 128) (omega arith))
