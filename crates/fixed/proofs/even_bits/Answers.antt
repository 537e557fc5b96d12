-- `fixed::even_bits` meets its contract: the shift leaves the 63 digits whole. Assumes nothing.
use mathlib.Core.Path.{refl, sym}
use Prim.Native.Nat.{◌-◌, ◌*◌, ◌^◌, ◌≤◌, ◌<◌, zero-le}
use native.Mathlib.Nat.{mod-eq_of_lt, lt_of_not-le, lt_of_lt_of_le, le_antisymm}
use native.Mathlib.Omega.{arith}
use lib.Count.{count_leading_zeros}
use Rattle.fixed.specs.Rounded.{even_digits, even_bits}
use Rattle.fixed.proofs.Rounding.{Placed, some}
use Rattle.fixed.proofs.Even.{even_zero, even_zeros, even_few, one-zero, shifted_high}
use Rattle.fixed.proofs.even_bits.Goals as goal

pub returns-then-n-eq0 : goal.returns-then-n-eq0
returns-then-n-eq0 c = sym (even_zero c.args.n c.args.e c.if-n-eq0.true)

above_zero : (c : goal.Else-n-eq0) → 0 < c.args.n
above_zero c = lt_of_not-le (λ h. c.if-n-eq0.false (le_antisymm h zero-le))

digits : (c : goal.Else-n-eq0) → Placed c.args.n (count_leading_zeros 64 c.args.n)
digits c = even_zeros c.args.n c.args.e (above_zero c) c.requires.1 c.requires.0

few : (c : goal.Else-n-eq0) → count_leading_zeros 64 c.args.n ≤ c.args.e
few c = even_few c.args.n c.args.e (above_zero c) c.requires.1 c.requires.0

one : (c : goal.Else-n-eq0) → 1 ≤ count_leading_zeros 64 c.args.n
one c = one-zero c.args.n c.args.e (count_leading_zeros 64 c.args.n) (digits c) (few c) c.requires.1

-- what is shifted has 63 digits
high : (c : goal.Else-n-eq0) → c.args.n * 2 ^ (count_leading_zeros 64 c.args.n - 1) < 2 ^ 63
high c = shifted_high c.args.n c.args.e (count_leading_zeros 64 c.args.n) (digits c) (few c) c.requires.1

pub overflow_sub-m : goal.overflow_sub-m
overflow_sub-m c = one c

pub overflow_sub-result : goal.overflow_sub-result
overflow_sub-result c = few c

pub overflow_add-result : goal.overflow_add-result
overflow_add-result c = omega (arith, high c)

pub overflow_add-result-2 : goal.overflow_add-result-2
overflow_add-result-2 c = omega (arith, high c)

pub returns : goal.returns
unfolding even_bits even_digits
returns c =
    rw (
      mod-eq_of_lt {m = 18446744073709551616} (lt_of_lt_of_le (high c) (omega arith)),
      some c.args.n c.args.e (above_zero c),
    ) refl
