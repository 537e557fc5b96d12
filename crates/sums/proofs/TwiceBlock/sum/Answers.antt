-- `sum` of two blocks, one behind the other: a block from its halves. Assumes nothing.
use native.Mathlib.Numerals.{add-one}
use Rattle.sums.proofs.Pieces.{halves}
use Rattle.sums.proofs.TwiceBlock.sum.Goals as goal

pub returns : goal.returns
returns g c =
    let k = g.B.Block.level in
    let w = c.size.ensures in
    rw (add-one k) (halves k c.sum.ensures (rw w at c.behind.ensures.first) (rw w at c.behind.ensures.second) c.sum-2.ensures)
