-- `powers::cut` meets its contract: x is accepted, or refused. Assumes nothing.
use Rattle.std.proofs.Common.{ℕ, ◌+◌, ◌%◌, ◌≤◌, T, sym, subst, inr, le_trans, arith, lit≤}
use lib.Ieee.{Float, binary32, fits, to_bits}
use Rattle.units.proofs.Patterns.{within}
use Rattle.units.proofs.Between.{size-between}
use Rattle.powers.specs.Exp2.{Accepts}
use Rattle.powers.specs.Fixed.{argument_of}
use Rattle.powers.proofs.cut.Goals as goal

-- up to 124 in size x is accepted
common : (x : Float) → T (fits binary32 x) → to_bits binary32 x % 2147483648 ≤ 0x42f80000 → Accepts x
common x f l =
    let (n, m) = within 0xf80000 132 (record { few = omega arith; first = inr (omega arith) }) x (omega arith) f l in
    let b = size-between n m in
    record { number = n; at_least = le_trans b.at_least (lit≤ tt); at_most = le_trans b.at_most (lit≤ tt) }

-- the pattern's test: 3305111552 is 2 ^ 32 less the pattern of 2 ^ -9
low : (b : ℕ) → (b % 2147483648 + 3305111552) % 4294967296 ≤ 0x07f80000
    → (0x3b000000 ≤ b % 2147483648) × (b % 2147483648 ≤ 0x42f80000)
low b h = (omega arith, omega arith)

pub whole_cut-requires : goal.whole_cut-requires
whole_cut-requires c =
    let x = c.args.x in
    let (l, u) = low (to_bits binary32 x) c.if-x-le133693440.true in
    (common x (subst T (sym c.well_formed.0.1) tt) u, l)

pub returns-then-x-le133693440 : goal.returns-then-x-le133693440
returns-then-x-le133693440 c = ((whole_cut-requires c.before).0, c.whole_cut.ensures)

pub returns-then-in_range : goal.returns-then-in_range
unfolding argument_of
returns-then-in_range c = (c.in_range.ensures.if_true c.if-in_range.true, c.argument.ensures)
