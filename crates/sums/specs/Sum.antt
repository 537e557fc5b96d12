-- A sum of rounded products in some order of adding: the float that comes out, its intermediate results, and how far off it may be. Definitions only.
use Rattle.std.specs.Prelude.{ℕ, ◌+◌, ◌-◌, ◌*◌, ◌^◌, ◌≤◌, T, Float}
use Rattle.std.specs.Float.{binary32}
use Rattle.std.specs.Float.Ieee.{of_bits, add, mul}
use Rattle.std.specs.Float.Ieee.Scale.{finite}
use Rattle.units.specs.Units.{mag, P, N}

-- an order of adding: nothing yet, which is +0; a rounded product; the rounded sum of two parts
pub data Sum : Type 0 where
  nothing : Sum
  product : Float → Float → Sum
  plus : Sum → Sum → Sum

-- the float that comes out
unfoldable pub total : Sum → Float
total nothing = of_bits binary32 0
total (product x y) = mul binary32 x y
total (plus s t) = add binary32 (total s) (total t)

-- every intermediate result, a rounded product or a rounded sum of some of the products, is finite
unfoldable pub Intermediates : Sum → Type 0
Intermediates nothing = Unit
Intermediates (product x y) = T (finite (total (product x y)))
Intermediates (plus s t) = Intermediates s × Intermediates t × T (finite (total (plus s t)))

-- ---- how far off, in units of 2 ^ -298
-- the exact product is above - below, of which one is 0: its size where it is positive
abbrev pub above : Float → Float → ℕ
above x y = P x * P y + N x * N y

-- and its size where it is negative
abbrev pub below : Float → Float → ℕ
below x y = P x * N y + N x * P y

-- its size, |x y|
abbrev pub size : Float → Float → ℕ
size x y = mag x * mag y

-- |x - y|
unfoldable pub apart : ℕ → ℕ → ℕ
apart x y = x - y + (y - x)

-- |r - exact| ≤ G sizes + n 2 ^ -149 with G = k u / (1 - k u), u = 2 ^ -24, where exact is positive - negative.
-- G is k / (2 ^ 24 - k), and both sides are multiplied by 2 ^ 24 - k; 2 ^ -149 is 2 ^ 149 units of 2 ^ -298
abbrev pub NearSum : (k n : ℕ) (r : Float) (positive negative sizes : ℕ) → Type 0
NearSum k n r positive negative sizes =
    apart (P r * 2 ^ 149 + negative) (N r * 2 ^ 149 + positive) * (2 ^ 24 - k) ≤ k * sizes + n * 2 ^ 149 * (2 ^ 24 - k)
