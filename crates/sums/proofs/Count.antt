-- What is counted over an order of adding: its factors, exact sums of its products, its roundings. Definitions only, for the proofs alone.
use mathlib.Core.Bool.{Bool, ◌&&◌, cond}
use Prim.Native.Nat.{ℕ, zero, suc, ◌+◌, max}
use lib.Ieee.{Float}
use Rattle.units.specs.Units.{Number}
use Rattle.sums.specs.Sum.{Sum, nothing, product, plus}

-- every factor is a finite f32
unfoldable pub Factors : Sum → Type 0
Factors nothing = Unit
Factors (product x y) = Number x × Number y
Factors (plus s t) = Factors s × Factors t

-- f of every pair of factors, added up exactly
unfoldable pub added : (Float → Float → ℕ) → Sum → ℕ
added f nothing = 0
added f (product x y) = f x y
added f (plus s t) = added f s + added f t

-- what each product counts for where products are counted
abbrev pub one : Float → Float → ℕ
one x y = 1

-- and where those are counted whose factors do not both pass a test
abbrev pub failing : (Float → Bool) → Float → Float → ℕ
failing p x y = cond (p x && p y) 0 1

-- roundings of a sum by those of its parts: one more than the larger; but a part without products is zero, and adding zero is exact
unfoldable pub joined : ℕ → ℕ → ℕ
joined zero k = k
joined (suc j) zero = suc j
joined (suc j) (suc k) = suc (max (suc j) (suc k))

-- how many roundings a product goes through at most, its own among them: the height of the tree
unfoldable pub roundings : Sum → ℕ
roundings nothing = 0
roundings (product x y) = 1
roundings (plus s t) = joined (roundings s) (roundings t)
