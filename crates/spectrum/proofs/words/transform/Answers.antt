-- `spectrum::words::transform` meets its contract: 128 words are the block of 4 2 ^ 5 words, one apart.
-- Assumes nothing.
use Rattle.std.proofs.Common.{refl, arith}
use Rattle.spectrum.proofs.words.transform.Goals as goal

pub fill-requires : goal.fill-requires
fill-requires c =
    record { s = 5; size = omega arith; apart = refl; start = omega arith; as_many = omega arith; small = c.requires }
