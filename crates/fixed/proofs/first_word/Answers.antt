-- `fixed::first_word` meets its contract: the leading zeros are those of the upper word, where that is not zero.
-- Assumes nothing.
use mathlib.Core.Path.{◌≡◌, refl, ap, ◌∙◌}
use Prim.Native.Nat.{ℕ, ◌+◌, ◌*◌, ◌/◌, ◌%◌, ◌^◌, ◌≤◌, ◌<◌}
use native.Mathlib.Nat.{mod-eq_of_lt}
use native.Mathlib.Omega.{arith}
use lib.Pow.{pow-add}
use lib.Count.{count_leading_zeros}
use Rattle.fixed.proofs.Rounding.{Placed, placed, upper_zeros, lower_zeros}
use Rattle.fixed.proofs.first_word.Goals as goal

-- ---- of more than 32 digits
module _ (c : goal.Then-h-gt0) where
  abbrev n : ℕ
  n = c.args.n

  abbrev zeros : ℕ
  zeros = count_leading_zeros 32 (n / 4294967296)

  counted : (zeros ≤ 31) × (zeros ≡ count_leading_zeros 64 n)
  counted = upper_zeros n c.if-h-gt0.true (omega arith)

  digits : Placed n zeros
  digits = rw counted.1 (placed n c.requires (omega arith))

pub upper_word-requires : goal.upper_word-requires
upper_word-requires c = ((digits c).high, let h = (counted c).0 in omega arith)

pub returns-then-h-gt0 : goal.returns-then-h-gt0
returns-then-h-gt0 c =
    let t = c.before in
    (c.upper_word.ensures ∙ ap (λ (z : ℕ). n t * 2 ^ z / 4294967296) (counted t).1, (counted t).1)

-- ---- of 32 digits or less
module _ (c : goal.Else-h-gt0) where
  abbrev m : ℕ
  m = c.args.n

  abbrev places : ℕ
  places = count_leading_zeros 32 m

  same : m % 4294967296 ≡ m
  same = let h = c.if-h-gt0.false in omega arith

  lower : (places ≤ 31) × (m * 2 ^ places < 4294967296) × (32 + places ≡ count_leading_zeros 64 m)
  lower = lower_zeros m c.requires (let h = c.if-h-gt0.false in omega arith)

pub returns : goal.returns
returns c =
    let (s, u, e) = lower c in
    rw (same c, ← e, mod-eq_of_lt u) (put (m c) (places c), refl)
  where
    put : (n z : ℕ) → n * 2 ^ z ≡ n * 2 ^ (32 + z) / 4294967296
    put n z = rw (pow-add 2 32 z) (cut n (2 ^ z))
      where
        cut : (n U : ℕ) → n * U ≡ n * (4294967296 * U) / 4294967296
        cut n U = omega arith
