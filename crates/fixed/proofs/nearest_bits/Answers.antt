-- `fixed::nearest_bits` meets its contract: the leading zeros are those of the upper word, where that is not zero, and
-- the shift leaves the 64 digits whole. Assumes nothing.
use mathlib.Core.Path.{◌≡◌, sym, ◌∙◌}
use Prim.Native.Nat.{ℕ, ◌+◌, ◌-◌, ◌*◌, ◌/◌, ◌%◌, ◌^◌, ◌≤◌, ◌<◌, zero-le}
use native.Mathlib.Nat.{mod-eq_of_lt, lt_of_not-le, le_antisymm}
use native.Mathlib.Omega.{arith}
use lib.Pow.{pow-add}
use lib.Count.{count_leading_zeros}
use Rattle.fixed.specs.Rounded.{nearest_digits, nearest_bits}
use Rattle.fixed.proofs.Rounding.{Placed, placed, some, zero_bits, few_zeros, upper_zeros, lower_zeros}
use Rattle.fixed.proofs.nearest_bits.Goals as goal

-- ---- of more than 32 digits
module _ (c : goal.Then-h-gt0) where
  abbrev n : ℕ
  n = c.args.n

  abbrev zeros : ℕ
  zeros = count_leading_zeros 32 (n / 4294967296)

  counted : (zeros ≤ 31) × (zeros ≡ count_leading_zeros 64 n)
  counted = upper_zeros n c.if-h-gt0.true (omega arith)

  above : 0 < n
  above = let h = c.if-h-gt0.true in omega arith

  upper_digits : Placed n zeros
  upper_digits = rw counted.1 (placed n above (omega arith))

pub overflow_sub-result : goal.overflow_sub-result
overflow_sub-result c = few_zeros _ _ c.args.e (upper_digits c) (c.requires.least (above c))

pub upper_word-requires : goal.upper_word-requires
upper_word-requires c = ((upper_digits c).high, let h = (counted c).0 in omega arith)

pub returns-then-h-gt0 : goal.returns-then-h-gt0
unfolding nearest_bits nearest_digits
returns-then-h-gt0 c =
    let t = c.before in
    let z = count_leading_zeros 64 (n t) in
    rw (c.upper_word.ensures, (counted t).1, some (n t) c.args.e (above t))
    (cut (n t * 2 ^ z) ((c.args.e - z) * 8388608))
  where
    cut : (m d : ℕ) → d + (m / 4294967296 / 128 + 1) / 2 ≡ d + (m / 549755813888 + 1) / 2
    cut m d = omega arith

pub returns-then-l-eq0 : goal.returns-then-l-eq0
returns-then-l-eq0 c = sym (zero_bits c.args.n c.args.e (none c.args.n c.if-h-gt0.false c.if-l-eq0.true))
  where
    none : (n : ℕ) → n / 4294967296 ≤ 0 → n % 4294967296 ≡ 0 → n ≡ 0
    none n h l = omega arith

-- ---- of 32 digits or less
module _ (c : goal.Else-l-eq0) where
  abbrev m : ℕ
  m = c.args.n

  abbrev places : ℕ
  places = count_leading_zeros 32 m

  same : m % 4294967296 ≡ m
  same = let h = c.if-h-gt0.false in omega arith

  above_zero : 0 < m
  above_zero = lt_of_not-le (λ h. c.if-l-eq0.false (same ∙ le_antisymm h zero-le))

  lower : (places ≤ 31) × (m * 2 ^ places < 4294967296) × (32 + places ≡ count_leading_zeros 64 m)
  lower = lower_zeros m above_zero (let h = c.if-h-gt0.false in omega arith)

  room : 32 + places ≤ c.args.e
  room = rw lower.2 (few_zeros m _ c.args.e (placed m above_zero (omega arith)) (c.requires.least above_zero))

pub overflow_sub-result-3 : goal.overflow_sub-result-3
overflow_sub-result-3 c = rw (same c) (omega (arith, room c))

pub returns : goal.returns
unfolding nearest_bits nearest_digits
returns c =
    let (s, u, e) = lower c in
    rw (same c, some (m c) c.args.e (above_zero c), ← e, mod-eq_of_lt u) (put (m c) c.args.e (places c))
  where
    put : (n e z : ℕ) →
        (e - 32 - z) * 8388608 + (n * 2 ^ z / 128 + 1) / 2
        ≡ (e - (32 + z)) * 8388608 + (n * 2 ^ (32 + z) / 549755813888 + 1) / 2
    put n e z = rw (pow-add 2 32 z) (cut n e z (2 ^ z))
      where
        cut : (n e z U : ℕ) →
            (e - 32 - z) * 8388608 + (n * U / 128 + 1) / 2
            ≡ (e - (32 + z)) * 8388608 + (n * (4294967296 * U) / 549755813888 + 1) / 2
        cut n e z U = omega arith
