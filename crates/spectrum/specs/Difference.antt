-- Whole numbers of either sign, as differences of two natural numbers, and sums of them. Definitions only.
use Rattle.std.specs.Prelude.{ℕ, zero, suc, ◌+◌, ◌-◌, ◌*◌}

-- the number plus - minus
pub record Difference : Type 0 where
  pub plus : ℕ
  pub minus : ℕ

-- a number that is not below zero
abbrev pub whole : ℕ → Difference
whole n = record { plus = n; minus = 0 }

-- - a
abbrev pub opposite : Difference → Difference
opposite a = record { plus = a.minus; minus = a.plus }

-- a + b
abbrev pub add : Difference → Difference → Difference
add a b = record { plus = a.plus + b.plus; minus = a.minus + b.minus }

-- a b
abbrev pub times : Difference → Difference → Difference
times a b = record { plus = a.plus * b.plus + a.minus * b.minus; minus = a.plus * b.minus + a.minus * b.plus }

-- f 0 + f 1 + ... + f (n - 1)
unfoldable pub total : (ℕ → Difference) → ℕ → Difference
total f zero = whole 0
total f (suc n) = add (total f n) (f n)

-- how far two natural numbers are apart
abbrev pub apart : ℕ → ℕ → ℕ
apart a b = (a - b) + (b - a)

-- |a|
abbrev pub size : Difference → ℕ
size a = apart a.plus a.minus
