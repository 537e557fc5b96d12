-- `exactsums::times` meets its contract: the shift keeps 27 digits whole. Assumes nothing.
use native.Mathlib.Nat.{lt_of_le_of_lt}
use lib.Dec.{lit<}
use Rattle.exactsums.proofs.Bins.{product_small, as_product}
use Rattle.exactsums.proofs.times.Goals as goal

pub overflow_mul-result : goal.overflow_mul-result
overflow_mul-result c =
    rw (c.from.ensures, c.from-2.ensures)
    (record { fits = lt_of_le_of_lt (product_small c.args.x c.args.y c.requires.0 c.requires.1) (lit< tt) })

pub returns : goal.returns
returns c = rw (c.from.ensures, c.from-2.ensures) (as_product c.args.x c.args.y c.requires.0 c.requires.1)
