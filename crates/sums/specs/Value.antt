-- What the parts of the program compute. A reader of the promise need not read this: Dot says what is computed of the whole lists. Definitions only.
use Rattle.std.specs.Prelude.{◌≡◌, List, [], ◌∷◌, ℕ, zero, suc, ◌+◌, ◌*◌, ◌/◌, ◌^◌, ◌<◌, length, get_or, drop, Float}
use Rattle.std.specs.Float.{nan, binary32}
use Rattle.std.specs.Float.Ieee.{of_bits, add, mul}
use Rattle.sums.specs.Dot.{dot_of}

-- the first 2 ^ k products, added in pairs: those of the first half and those of the second
unfoldable pub block_of : ℕ → List Float → List Float → Float
block_of zero a b = mul binary32 (get_or a 0 nan) (get_or b 0 nan)
block_of (suc k) a b = add binary32 (block_of k a b) (block_of k (drop (2 ^ k) a) (drop (2 ^ k) b))

-- -0, which changes no float that it is added to
abbrev pub minus_zero : Float
minus_zero = of_bits binary32 2147483648

-- the sum of all products, of none -0
unfoldable pub sum_of : List Float → List Float → Float
sum_of [] b = minus_zero
sum_of (x ∷ a) b = dot_of (x ∷ a) b

-- the sum of the products behind the last multiple of w of them
abbrev pub behind_last : ℕ → List Float → List Float → Float
behind_last w a b = sum_of (drop (length a / w * w) a) (drop (length a / w * w) b)

-- what a counter holds after i blocks of 64 products: for each binary digit l of i that is 1 the sum of 2 ^ l blocks, those that follow the blocks of the higher digits
pub record Held (a b : List Float) (i : ℕ) (held : List Float) : Type 0 where
  pub places : length held ≡ 11
  pub sums : (l q r : ℕ) → i ≡ (2 * q + 1) * 2 ^ l + r → r < 2 ^ l → get_or held l nan ≡ block_of (6 + l) (drop (64 * (2 * q * 2 ^ l)) a) (drop (64 * (2 * q * 2 ^ l)) b)

-- r is what is left of a list behind its first i elements
pub record Behind (i : ℕ) (a r : List Float) : Type 0 where
  pub rest : r ≡ drop i a
  pub many : length r + i ≡ length a
