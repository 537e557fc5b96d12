-- The promise of the dot product. Definitions only.
use Rattle.std.specs.Prelude.{◌≡◌, List, [], ◌∷◌, Bool, true, ◌&&◌, ℕ, zero, suc, ◌+◌, ◌-◌, ◌≤◌, T, length, Float}
use Rattle.std.specs.Float.Ieee as ieee
use Rattle.std.specs.Float.{binary32}
use Rattle.std.specs.Float.Ieee.{of_bits}
use Rattle.std.specs.Float.Ieee.Scale.{finite}
use Rattle.units.specs.Units.{Number}
use Rattle.sums.specs.Sum.{Sum, nothing, product, plus, total, Intermediates, above, below, size, NearSum}

-- ---- accepted lists
-- the same length n ≤ 65,536
pub record Lengths (a b : List Float) : Type 0 where
  pub same : length a ≡ length b
  pub most : length a ≤ 65536

-- every element is finite
unfoldable pub all_finite : List Float → Bool
all_finite [] = true
all_finite (x ∷ xs) = finite x && all_finite xs

-- of both lists
pub record Elements (a b : List Float) : Type 0 where
  pub first : T (all_finite a)
  pub second : T (all_finite b)

-- ---- the order of adding: the products in a row, then rows of half the length until one sum is left
-- the row of the rounded products
unfoldable pub products : List Float → List Float → List Sum
products [] ys = []
products (x ∷ xs) [] = []
products (x ∷ xs) (y ∷ ys) = product x y ∷ products xs ys

-- the next row: neighbours added in pairs, the first and the second, the third and the fourth, and so on; of an odd number the last stays as it is
unfoldable pub next_row : List Sum → List Sum
next_row [] = []
next_row (s ∷ []) = s ∷ []
next_row (s ∷ t ∷ r) = plus s t ∷ next_row r

-- what stands first after h rows more: all of a row of at most 2 ^ h, added up
unfoldable pub in_pairs : ℕ → List Sum → Sum
in_pairs zero [] = nothing
in_pairs zero (s ∷ r) = s
in_pairs (suc h) r = in_pairs h (next_row r)

-- the order for two lists: 2 ^ 16 is 65,536
abbrev pub dot_sum : List Float → List Float → Sum
dot_sum a b = in_pairs 16 (products a b)

-- what the program computes
abbrev pub dot_of : List Float → List Float → Float
dot_of a b = total (dot_sum a b)

-- accepted: lengths, elements, and every intermediate result of this order is finite
pub record Accepts (a b : List Float) : Type 0 where
  pub lengths : Lengths a b
  pub elements : Elements a b
  pub intermediates : Intermediates (dot_sum a b)

-- ---- the bound
-- f of every pair of elements, added up exactly
unfoldable pub sum_over : (Float → Float → ℕ) → List Float → List Float → ℕ
sum_over f [] ys = 0
sum_over f (x ∷ xs) [] = 0
sum_over f (x ∷ xs) (y ∷ ys) = f x y + sum_over f xs ys

-- the number of levels, the least whole number h with n ≤ 2 ^ h: the binary digits of n - 1
abbrev pub levels : ℕ → ℕ
levels n = ieee.size (n - 1)

-- roundings that a product goes through at most: one for each level, and its own
abbrev pub most_roundings : ℕ → ℕ
most_roundings n = levels n + 1

-- the whole promise of a and b, answered by a code and the result r
pub record Dot (a b : List Float) (code : ℕ) (r : Float) : Type 0 where
  -- code 2, BAD_LENGTH, for lists of different length or of more than 65,536 elements
  pub bad_length : ¬ Lengths a b → code ≡ 2
  -- else code 1, OUT_OF_RANGE, where an element is not finite
  pub out_of_range : Lengths a b → ¬ Elements a b → code ≡ 1
  -- else code 3, OVERFLOW, where an intermediate result of this order is not finite
  pub overflow : Lengths a b → Elements a b → ¬ Intermediates (dot_sum a b) → code ≡ 3
  -- and only there: all else is success
  pub only_there : code ≡ 3 → ¬ Intermediates (dot_sum a b)
  pub success : Accepts a b → code ≡ 0
  -- the result is the sum in this order, a finite float
  pub value : Accepts a b → r ≡ dot_of a b
  pub finite : Accepts a b → Number r
  -- |r - exact| ≤ G (sum of |a_i b_i|) + n 2 ^ -149 with G = (h + 1) u / (1 - (h + 1) u), h the number of levels
  pub near : Accepts a b → NearSum (most_roundings (length a)) (length a) r (sum_over above a b) (sum_over below a b) (sum_over size a b)
  -- +0 for n = 0
  pub empty : Accepts a b → length a ≡ 0 → r ≡ of_bits binary32 0
