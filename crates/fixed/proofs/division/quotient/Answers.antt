-- `fixed::division::quotient` meets its contract: both shifted, two digits. Assumes nothing.
use borrow.Author.Rules.{rules}
use Prim.Native.Nat.{◌*◌, ◌%◌, ◌^◌}
use lib.Count.{count_leading_zeros}
use lib.Pow.{pow_pos}
use Rattle.fixed.proofs.Dividing.{Shifted, shifted, two_digits, unshifted}
use Rattle.fixed.proofs.division.quotient.Goals as goal

both : (c : goal.Start) → Shifted c.args.n c.args.d (count_leading_zeros 32 c.args.d)
both c = shifted c.args.n c.args.d c.ranges.d.fits c.requires

pub digit-h-requires : goal.digit-h-requires
digit-h-requires c = let b = both c in rw (b.divisor, b.number) (b.top, b.less, search rules)

pub digit-l-requires : goal.digit-l-requires
digit-l-requires c = let b = both c.before in (rw b.divisor b.top, c.digit-h.ensures.0.less, search rules)

pub returns : goal.returns
returns c =
    let start = c.before.before.before.before in
    let b = both start in
    let z = count_leading_zeros 32 start.args.d in
    unshifted start.args.n start.args.d (2 ^ z) _ c.digit-l.result.r (pow_pos z)
    (rw (b.divisor, b.number) at
    (two_digits (start.args.n * 2 ^ z % 2 ^ 64) (start.args.d * 2 ^ z % 2 ^ 32) _ _ _ _ c.digit-h.ensures.0 c.digit-l.ensures.0))
