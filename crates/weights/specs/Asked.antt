-- Document 01's two lines on a softmax's error, with change request Q3's b = 2 ^ 17 in place of 2 ^ 13: rel 1 / b where the exact value q_i is at least 2 ^ -100, otherwise abs 2 ^ -100. A reader of the promise need not read this: it is tighter. Definitions only.
use Rattle.std.specs.Prelude.{List, ℕ, ◌+◌, ◌-◌, ◌*◌, ◌^◌, ◌≤◌, ◌<◌, length, Float}
use Rattle.units.specs.Units.{P}
use Rattle.powers.specs.Base.{Base}
use Rattle.weights.specs.Lists.{at, sum}
use Rattle.weights.specs.Softmax.{Encloses}

-- q_i is at least 2 ^ -100: for every enclosure (sum of l_j) ≤ 2 ^ 100 u_i
pub record QuotientAtLeast (base : Base) (xs : List Float) (i : ℕ) : Type 0 where
  pub holds : (l u : ℕ → ℕ) (d : ℕ) → Encloses base xs l u d → sum l (length xs) ≤ 2 ^ 100 * u i

-- q_i is at most 2 ^ -100: for every enclosure 2 ^ 100 l_i ≤ (sum of u_j)
pub record QuotientAtMost (base : Base) (xs : List Float) (i : ℕ) : Type 0 where
  pub holds : (l u : ℕ → ℕ) (d : ℕ) → Encloses base xs l u d → 2 ^ 100 * l i ≤ sum u (length xs)

-- p_i is within 1 / b of q_i, relatively
pub record Relative (base : Base) (b : ℕ) (xs ps : List Float) (i : ℕ) : Type 0 where
  pub most : (l u : ℕ → ℕ) (d : ℕ) → Encloses base xs l u d → b * (P (at ps i) * sum l (length xs)) ≤ (b + 1) * (u i * 2 ^ 149)
  pub least : (l u : ℕ → ℕ) (d : ℕ) → Encloses base xs l u d → (b - 1) * (l i * 2 ^ 149) ≤ b * (P (at ps i) * sum u (length xs))

-- p_i is within 2 ^ -100, or 2 ^ 49 units, of q_i
pub record Absolute (base : Base) (xs ps : List Float) (i : ℕ) : Type 0 where
  pub most : (l u : ℕ → ℕ) (d : ℕ) → Encloses base xs l u d → P (at ps i) * sum l (length xs) ≤ u i * 2 ^ 149 + 2 ^ 49 * sum l (length xs)
  pub least : (l u : ℕ → ℕ) (d : ℕ) → Encloses base xs l u d → l i * 2 ^ 149 ≤ (P (at ps i) + 2 ^ 49) * sum u (length xs)

-- both lines
pub record Asked (base : Base) (b : ℕ) (xs ps : List Float) : Type 0 where
  pub relative : (i : ℕ) → i < length xs → QuotientAtLeast base xs i → Relative base b xs ps i
  pub absolute : (i : ℕ) → i < length xs → QuotientAtMost base xs i → Absolute base xs ps i
