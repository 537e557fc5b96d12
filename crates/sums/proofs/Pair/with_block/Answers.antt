-- `Pair::with_block` meets its contract: a digit of the length that is 1 is a block in front of what lies behind it. Assumes nothing.
use Rattle.sums.proofs.Pieces.{digit_room, digit_on, digit_off}
use Rattle.sums.proofs.Pair.with_block.Goals as goal

pub sum-requires : goal.sum-requires
sum-requires g c =
    let p = c.args.self in
    let w = c.size-w.ensures in
    digit_room p.a.now p.b.now p.lengths g.B.Block.level (rw w at c.if-n-w-eq1.true) (rw w at c.behind.ensures.first)

pub returns-then-n-w-eq1 : goal.returns-then-n-w-eq1
returns-then-n-w-eq1 g c =
    let p = c.args.self in
    let w = c.size-w.ensures in
    digit_on p.a.now p.b.now p.lengths g.B.Block.level (rw w at c.if-n-w-eq1.true) c.requires.sum
    (rw w at c.behind.ensures.first) (rw w at c.behind.ensures.second) c.sum.ensures

pub returns-else-n-w-eq1 : goal.returns-else-n-w-eq1
returns-else-n-w-eq1 g c =
    let p = c.args.self in
    digit_off p.a.now p.b.now p.lengths g.B.Block.level (rw c.size-w.ensures at c.if-n-w-eq1.false) c.requires.sum
