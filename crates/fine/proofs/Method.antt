-- Method: Horner's rule on the power series of 2 ^ t, in units of 2 ^ -64, is never above 2 ^ t and below it by 42 of them at most: 17 floors, and 25 for what the coefficients lack.
-- The unit U and the exponents' unit stay variables wherever they are computed with. Assumes nothing.
use mathlib.Core.Path.{refl}
use mathlib.Core.List.{List, [], ◌∷◌}
use Prim.Native.Nat.{ℕ, ◌+◌, ◌*◌, ◌^◌, ◌≤◌, ◌<◌, suc-le-suc}
use native.Mathlib.Nat.{le_trans, le_of_lt, mul-le-mul, mul-le-mul_left, mul-le-mul_right}
use native.Mathlib.Omega.{arith}
use lib.Dec.{lit<, lit≤}
use Rattle.exact.specs.Power.{AtMost, AtLeast}
use Rattle.exact.specs.Polynomial.{value}
use Rattle.exact.proofs.Power.{least_of_more, most_of_less}
use Rattle.exact.proofs.Growth.{fast, slow}
use Rattle.exact.proofs.Enclosure.{Above, Below, is_above_lem, is_below}
use Rattle.exact.proofs.Pieces.{end}
use Rattle.exact.proofs.Near.{near_least, high_enough}
use Rattle.fixed.specs.Horner.{horner}
use Rattle.fixed.proofs.Horner.{quotients, horner_mono, horner-below, horner-above}
use Rattle.fine.specs.Value.{coefficients, fine_of}

-- the unit of the fractions
abbrev pub U : ℕ
U = 2 ^ 64

-- ---- the polynomial

-- it grows no faster than 2 ^ t: each coefficient is at most ln 2 / i of the one before it
beneath : Below 17 (U ∷ coefficients) U
unfolding coefficients slow
beneath = is_below 0xb17217f7d1cf79abc8 (2 ^ 72) 72 17 U coefficients (lit< tt) (lit< tt) (lit≤ tt) (lit< tt) tt

-- coefficients that are rounded up
unfoldable larger : List ℕ
larger =
    0xb17217f7d1cf79ac ∷ 0x3d7f7bff058b1d51 ∷ 0xe35846b82505fc6 ∷ 0x276556df749cee6 ∷ 0x5761ff9e299cc5 ∷ 0xa184897c363c4 ∷ 0xffe5fe2c4587 ∷ 0x162c0223a5c9 ∷ 0x1b5253d395f ∷ 0x1e4cf5158c ∷ 0x1e8cac736 ∷ 0x1c3bd652 ∷ 0x1816194 ∷ 0x131497 ∷ 0xe1b8 ∷ 0x9c8 ∷ 0x6b ∷ []

-- with them it grows as fast
over : Above 17 (U ∷ larger) U
unfolding larger fast
over = is_above_lem 0xb17217f7d1cf79abcb (2 ^ 72) 72 17 U larger (lit< tt) (lit< tt) (lit≤ tt) tt

-- the polynomial is at most 12 units in U below 2 ^ t, relatively
near : (p q : ℕ) → 0 < q → p ≤ q → AtLeast ((U + 12) * value 17 (U ∷ coefficients) p q) (U * (U * q ^ 17)) p 0 q
unfolding coefficients larger high_enough end
near p q pos small = near_least 17 0 (U ∷ coefficients) U (U + 12) U (U ∷ larger) U 1 (1 ∷ []) (lit< tt) refl (lit≤ tt) p q pos small (lit< tt) (lit< tt) over tt

-- ---- the floors

-- what is computed is at most the polynomial
below : (t : ℕ) → (U + fine_of t) * U ^ 17 ≤ value 17 (U ∷ coefficients) t U
unfolding fine_of horner coefficients
below t = horner-below U t 17 (U ∷ coefficients) (lit≤ tt)

-- and the polynomial more by as many units as there are floors
close : (t : ℕ) → t ≤ U → value 17 (U ∷ coefficients) t U ≤ (U + fine_of t + 17) * U ^ 17
unfolding fine_of coefficients horner
close t small = horner-above U (lit< tt) t small 17 U coefficients (lit≤ tt)

-- ---- the laws that others cite

-- it is a fraction
pub fine_fits : (t : ℕ) → t < U → fine_of t < U
unfolding fine_of coefficients horner
fine_fits t h = le_trans (suc-le-suc (quotients U (lit< tt) (mul-le-mul (horner_mono U coefficients (lit< tt) (le_of_lt h)) (le_of_lt h)))) (lit≤ tt)

-- 1 + fine_of t / U ≤ 2 ^ (t / U)
pub fine_most : (t : ℕ) → t < U → AtMost (U + fine_of t) U t 0 U
fine_most t h = most_of_less (lit< tt) (through U (U ^ 17) (U + fine_of t) (value 17 (U ∷ coefficients) t U) (below t)) (beneath.bound t U (lit< tt))
  where
    through : (u E r v : ℕ) → r * E ≤ v → r * (u * E) ≤ v * u
    through u E r v l = omega (arith, mul-le-mul_right u l)

-- 2 ^ (t / U) ≤ 1 + (fine_of t + 63) / U
pub fine_least : (t : ℕ) → t < U → AtLeast (U + fine_of t + 63) U t 0 U
fine_least t h =
    least_of_more (lit< tt) (through U (U ^ 17) (fine_of t) (value 17 (U ∷ coefficients) t U) (close t (le_of_lt h)) (fine_fits t h) (lit≤ tt)) (near t U (lit< tt) (le_of_lt h))
  where
    through : (u E r v : ℕ) → v ≤ (u + r + 17) * E → r < u → 1000 ≤ u → (u + 12) * v * u ≤ (u + r + 63) * (u * (u * E))
    through u E r v l s big =
        let k : (u + 12) * (u + r + 17) ≤ (u + r + 63) * u = omega (arith) in
        omega (arith, mul-le-mul_left (u * (u + 12)) l, mul-le-mul_right (u * E) k)
