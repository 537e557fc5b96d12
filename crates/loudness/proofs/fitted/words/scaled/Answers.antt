-- `loudness::fitted::words::scaled` meets its contract: two products of words. Assumes nothing.
use Rattle.std.proofs.Common.{◌≡◌, ℕ, ◌+◌, ◌*◌, ◌/◌, arith}
use Rattle.loudness.specs.Words.{scaled}
use Rattle.loudness.proofs.fitted.words.scaled.Goals as goal

-- the digits that are cut off between them do not count
joins : (y h l : ℕ) → ((y * h + y * l / 4294967296) / 4294967296 + 1) / 2 ≡ scaled y h l
unfolding scaled
joins y h l = omega arith

pub returns : goal.returns
returns c = rw (c.from.ensures, c.from-2.ensures, c.from-3.ensures, c.upper_product.ensures.value) (joins c.args.y c.args.h c.args.l)
