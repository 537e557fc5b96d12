-- `loudness::fitted::words::upper` meets its contract: two products of words. Assumes nothing.
use Rattle.std.proofs.Common.{◌≡◌, ℕ, ◌+◌, ◌*◌, ◌/◌, ◌%◌, arith}
use Rattle.loudness.specs.Words.{upper_of}
use Rattle.loudness.proofs.fitted.words.upper.Goals as goal

-- the upper half of the sum of both
joins : (n s : ℕ) → n / 4294967296 * s + n % 4294967296 * s / 4294967296 ≡ upper_of n s
unfolding upper_of
joins n s = parts (n / 4294967296) (n % 4294967296) (omega arith)
  where
    parts : (h l : ℕ) → n ≡ h * 4294967296 + l → h * s + l * s / 4294967296 ≡ n * s / 4294967296
    parts h l e = rw e (omega arith)

pub returns : goal.returns
returns c = rw (c.from.ensures, c.from-2.ensures, c.upper_product.ensures.value) (joins c.args.n c.args.s)
