-- What it means that a power of two keeps its distance from a fraction. A reader of the promises need not read this. Definitions only.
use Rattle.std.specs.Prelude.{ℕ, ◌+◌, ◌-◌, ◌*◌, ◌^◌, ◌≤◌, ◌<◌}
use Rattle.exact.specs.Power.{AtMost, AtLeast}

-- 2 ^ (p / q) is at least (n + 1) / d, or at most (n - 1) / d: it is no nearer to n / d than 1 / d
pub data Apart (n d p q : ℕ) : Type 0 where
  above : AtMost (n + 1) d p 0 q → Apart n d p q
  below : AtLeast (n - 1) d p 0 q → Apart n d p q

-- 2 ^ (p / q) is no nearer than 2 ^ -58 to the middle of two neighbouring floats from 1 to 2, an odd number of 2 ^ -24
abbrev pub OffMiddles : ℕ → ℕ → Type 0
OffMiddles p q = (z : ℕ) → Apart ((2 * z + 1) * 2 ^ 34) (2 ^ 58) p q

-- so are all 2 ^ t, for t the floats from 2 ^ -k on below twice that
abbrev pub Rising : Type 0
Rising = (k m : ℕ) → 1 ≤ k → k ≤ 24 → 2 ^ 23 ≤ m → m < 2 ^ 24 → OffMiddles m (2 ^ (k + 23))

-- and for 1 less such a float
abbrev pub Falling : Type 0
Falling = (k m : ℕ) → 2 ≤ k → k ≤ 25 → 2 ^ 23 ≤ m → m < 2 ^ 24 → OffMiddles (2 ^ (k + 23) - m) (2 ^ (k + 23))

-- 2 ^ (p / q) is no nearer than 2 ^ -53 to a float from 1 to 2, a number of 2 ^ -23
abbrev pub OffFloats : ℕ → ℕ → Type 0
OffFloats p q = (m : ℕ) → Apart (m * 2 ^ 30) (2 ^ 53) p q

-- so are all 2 ^ t, for t a number of 2 ^ -25 between 0 and 1
abbrev pub CoarseMiddles : Type 0
CoarseMiddles = (p : ℕ) → 0 < p → p < 2 ^ 25 → OffFloats p (2 ^ 25)

-- for t the middles of neighbouring floats from 2 ^ -k to twice that
abbrev pub RisingMiddles : Type 0
RisingMiddles = (k i : ℕ) → 2 ≤ k → k ≤ 23 → 2 ^ 23 ≤ i → i < 2 ^ 24 → OffFloats (2 * i + 1) (2 ^ (k + 24))

-- and for 1 less such a middle
abbrev pub FallingMiddles : Type 0
FallingMiddles = (k i : ℕ) → 2 ≤ k → k ≤ 24 → 2 ^ 23 ≤ i → i < 2 ^ 24 → OffFloats (2 ^ (k + 24) - (2 * i + 1)) (2 ^ (k + 24))
