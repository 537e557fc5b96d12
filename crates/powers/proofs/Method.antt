-- The polynomial against 2 ^ t: every law of `raised` that the other rooms cite. Assumes nothing.
use Rattle.std.proofs.Common.{◌≡◌, ℕ, ◌+◌, ◌-◌, ◌*◌, ◌/◌, ◌^◌, ◌<◌, ◌≤◌, List, ◌∷◌, length, refl, le_trans, mul-le-mul_right, arith, lit<, lit≤}
use Rattle.exact.specs.Power.{AtMost, AtLeast}
use Rattle.exact.specs.Polynomial.{value}
use Rattle.exact.proofs.Power.{least_of_more, most_of_less}
use Rattle.exact.proofs.Pieces.{knots, end}
use Rattle.exact.proofs.Near.{near_least, near_most, high_enough, low_enough}
use Rattle.exact.proofs.Tight.{upper, lower, tight_above, tight_below}
use Rattle.fixed.specs.Horner.{horner, alternate, others, chains}
use Rattle.fixed.proofs.Chains.{altogether, loss, chains-zero, chains_mono, chains_rises, chains-below, chains_close}
use Rattle.powers.specs.Raised.{coefficients, raised}

-- the unit of the fractions
abbrev pub D : ℕ
D = 2 ^ 32

-- the polynomial itself is within half a unit of 2 ^ t, relatively
near_above : (p q : ℕ) → 0 < q → p ≤ q → AtLeast ((2 * D + 1) * value 8 coefficients p q) (2 * D * (D * q ^ 8)) p 0 q
unfolding coefficients upper high_enough knots end
near_above p q pos small = near_least 8 4 coefficients D (2 * D + 1) (2 * D) upper (2 ^ 48) 4 (knots 1 4 0) (lit< tt) refl (lit≤ tt) p q pos small (lit< tt) (lit< tt) tight_above tt

near_below : (p q : ℕ) → 0 < q → p ≤ q → AtMost (2 * D * value 8 coefficients p q) ((2 * D + 1) * (D * q ^ 8)) p 0 q
unfolding coefficients lower low_enough knots end
near_below p q pos small = near_most 8 4 coefficients D (2 * D + 1) (2 * D) lower (2 ^ 48) 4 (knots 1 4 0) (lit< tt) refl (lit≤ tt) p q pos small (lit< tt) (lit< tt) tight_below tt

-- ---- the floors

-- what is computed is at most the polynomial
below : (f : ℕ) → raised f * D ^ 8 ≤ value 8 coefficients f D
unfolding raised coefficients
below f = chains-below D (lit< tt) 3 D _ (lit≤ tt) f

-- the polynomial is more by five quarters of a unit at most, and 21 quarters in proportion to f: the square's floor costs the even terms a quarter, and the floors of both
-- chains little more than five
close : (cs : List ℕ) → length cs ≤ 8 → 4 * altogether (others cs) ≤ D → 4 * (loss D (alternate cs) + loss D (others cs)) ≤ 21 * D → (f : ℕ) → f ≤ D →
    4 * value 8 (D ∷ cs) f D ≤ ((4 * chains D (D ∷ cs) f + 5) * D + 21 * f) * D ^ 7
close cs fits g l f small = through D f (value 8 (D ∷ cs) f D) (chains D (D ∷ cs) f) (D ^ 6) (altogether (others cs)) (loss D (alternate cs) + loss D (others cs)) (chains_close D (lit< tt) 3 D cs fits f small) g l
  where
    through : (d f v r E G L : ℕ) → v ≤ (r + 1) * (E * (d * d)) + (G * d + f * L) * E → 4 * G ≤ d → 4 * L ≤ 21 * d → 4 * v ≤ ((4 * r + 5) * d + 21 * f) * (E * d)
    through d f v r E G L h g l = omega (arith, mul-le-mul_right (E * d) g, mul-le-mul_right (f * E) l)

above : (f : ℕ) → f ≤ D → 4 * value 8 coefficients f D ≤ ((4 * raised f + 5) * D + 21 * f) * D ^ 7
unfolding raised coefficients alternate others altogether loss
above f small = close _ (lit≤ tt) (lit≤ tt) (lit≤ tt) f small

-- ---- the laws that the other rooms cite

-- at 0 it is 1
pub raised-zero : raised 0 ≡ D
unfolding raised coefficients
raised-zero = chains-zero D D _

-- it never falls
pub raised_mono : {f g : ℕ} → f ≤ g → raised f ≤ raised g
unfolding raised coefficients
raised_mono h = chains_mono D coefficients (lit< tt) h

-- up to 1 it is at most 2, so that the pieces meet
pub raised_top : (f : ℕ) → f ≤ D → raised f ≤ 2 * D
unfolding raised coefficients chains horner alternate others
raised_top f h = le_trans (raised_mono h) (lit≤ tt)

-- so near to 1 it is no step of a float above it, and so near to 2 none below it
pub raised_near_one : raised 256 ≤ D + 247
unfolding raised coefficients chains horner alternate others
raised_near_one = lit≤ tt

pub raised_near_two : 2 * D ≤ raised (D - 128) + 253
unfolding raised coefficients chains horner alternate others
raised_near_two = lit≤ tt

-- it rises by half of f at least
pub raised_rises : (f : ℕ) → 2 * D + f ≤ 2 * raised f + 1
unfolding raised coefficients
raised_rises f = let h : D + f * 0xb1721808 / D ≤ raised f = chains_rises D D _ _ f (lit< tt) in omega arith

-- raised f / D ≤ (1 + 1 / (2 D)) 2 ^ (f / D)
pub raised_most : (f : ℕ) → f ≤ D → AtMost (2 * D * raised f) ((2 * D + 1) * D) f 0 D
raised_most f small = most_of_less (lit< tt) (through D (D ^ 8) (raised f) (value 8 coefficients f D) (below f)) (near_below f D (lit< tt) small)
  where
    through : (d E r v : ℕ) → r * E ≤ v → 2 * d * r * ((2 * d + 1) * (d * E)) ≤ 2 * d * v * ((2 * d + 1) * d)
    through d E r v h = omega (arith, mul-le-mul_right (2 * d * ((2 * d + 1) * d)) h)

-- 2 ^ (f / D) ≤ (1 + 1 / (2 D)) (raised f + 5 / 4 + 21 f / (4 D)) / D
pub raised_least : (f : ℕ) → f ≤ D → AtLeast ((2 * D + 1) * ((4 * raised f + 5) * D + 21 * f)) (2 * D * (4 * D * D)) f 0 D
raised_least f small = least_of_more (lit< tt) (through D (D ^ 7) ((4 * raised f + 5) * D + 21 * f) (value 8 coefficients f D) (above f small)) (near_above f D (lit< tt) small)
  where
    through : (d E r v : ℕ) → 4 * v ≤ r * E → (2 * d + 1) * v * (2 * d * (4 * d * d)) ≤ (2 * d + 1) * r * (2 * d * (d * (E * d)))
    through d E r v h = omega (arith, mul-le-mul_right ((2 * d + 1) * (2 * d * (d * d))) h)
