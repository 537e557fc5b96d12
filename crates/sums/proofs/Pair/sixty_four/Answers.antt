-- `Pair::sixty_four` meets its contract: a block from its halves, and each of them from its own. Assumes nothing.
use Rattle.sums.proofs.Pieces.{halves}
use Rattle.sums.proofs.Pair.sixty_four.Goals as goal

pub returns : goal.returns
returns c =
    halves 5 (halves 4 c.sum.ensures c.behind.ensures.first c.behind.ensures.second c.sum-2.ensures)
    c.behind-c.ensures.first c.behind-c.ensures.second
    (halves 4 c.sum-3.ensures c.behind-2.ensures.first c.behind-2.ensures.second c.sum-4.ensures)
