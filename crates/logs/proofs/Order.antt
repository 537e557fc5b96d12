-- Order: the logarithm in fixed point grows with x. Two floats are at least one part in 2 ^ 24 apart, and so their logarithms 2 ^ 30 steps, while the error is 3 * 2 ^ 22.
use Rattle.std.proofs.Common.{◌≡◌, ℕ, ◌+◌, ◌*◌, ◌^◌, ◌<◌, ◌≤◌, sym, refl, ap, ◌∙◌, subst, inl, inr, le_of_eq, le_of_lt, mul-le-mul_right, eq-or-lt_of_le, arith, lit<, lit≤}
use lib.Ieee.{Float, binary32, to_bits}
use Rattle.exact.specs.Power.{AtMost, AtLeast}
use Rattle.exact.specs.Polynomial.{value}
use Rattle.exact.proofs.Power.{most_of_larger, least_of_smaller, least_of_more, least_mul}
use Rattle.exact.proofs.Ratio.{exponents_over}
use Rattle.exact.proofs.Tight.{upper, tight_above}
use Rattle.units.specs.Units.{mag, Le}
use Rattle.units.proofs.Signs.{size-sum}
use Rattle.units.proofs.Gaps.{next_above}
use Rattle.units.proofs.Bits.{pattern, pattern_normal}
use Rattle.logs.specs.Log2.{Accepts}
use Rattle.logs.specs.Value.{fixed_bits, fixed_of}
use Rattle.logs.specs.Fixed.{fixed_error}
use Rattle.logs.proofs.Reduction.{reading, positive}

-- ---- two floats are apart
-- 2 ^ (1 / 2 ^ 24) ≤ 1 + 1 / 2 ^ 24
tick : AtLeast (2 ^ 24 + 1) (2 ^ 24) 1 0 (2 ^ 24)
unfolding upper value
tick = least_of_more (lit< tt) (lit≤ tt) (tight_above.bound 1 (2 ^ 24) (lit< tt) (lit≤ tt))

module _ (x x' : Float) (a : Accepts x) (a' : Accepts x') where
  gap : mag x' < mag x → mag x' * (2 ^ 24 + 1) ≤ mag x * 2 ^ 24
  gap l =
      let n = pattern_normal x' a'.number a'.normal in
      let next = next_above x a.number n.m n.k n.least (subst (λ (u : ℕ). u < mag x) n.units l) in
      rw n.units (through n.m (2 ^ n.k) (mag x) n.digits next)
    where
      through : (m u X : ℕ) → m < 2 ^ 24 → (m + 1) * u ≤ X → m * u * (2 ^ 24 + 1) ≤ X * 2 ^ 24
      through m u X s h = let k : m * u ≤ 2 ^ 24 * u = mul-le-mul_right u (le_of_lt s) in omega arith

-- ---- the absolute error
module _ (w F : ℕ) (small : 5 * F ≤ 3 * 2 ^ 54) where
  error_least : w * 2 ^ 86 + 5 * F * 2 ^ 54 ≤ 2 ^ 32 * w * 2 ^ 54 + fixed_error * 2 ^ 86
  error_least = omega arith

  error_most : (2 ^ 32 * w + 5 * F) * 2 ^ 54 + 0 * 2 ^ 86 ≤ (w + fixed_error) * 2 ^ 86 + 0 * 2 ^ 54
  error_most = omega arith

-- from below
pub fixed_least : (x : Float) → Accepts x → AtLeast (mag x) (2 ^ 22) (fixed_of x) fixed_error (2 ^ 54)
fixed_least x a = let r = reading x a in least_of_smaller (lit< tt) (error_least (fixed_of x) r.F r.small) r.least

-- from above
pub fixed_most : (x : Float) → Accepts x → AtMost (mag x) (2 ^ 22) (fixed_of x + fixed_error) 0 (2 ^ 54)
fixed_most x a = let r = reading x a in most_of_larger (lit< tt) (error_most (fixed_of x) r.F r.small) r.most

-- ---- the order
module _ (x x' : Float) (a : Accepts x) (a' : Accepts x') where
  rises : mag x' < mag x → fixed_of x' < fixed_of x
  rises l =
      let g = gap x x' a a' l in
      let t : AtLeast (2 ^ 24 + 1) (2 ^ 24) (2 ^ 30) 0 (2 ^ 54) = least_of_smaller (lit< tt) (lit≤ tt) tick in
      let above = least_of_more (lit< tt) (crossed (mag x) (mag x') g) (least_mul (fixed_least x' a') t) in
      apart (fixed_of x) (fixed_of x') (exponents_over above (fixed_most x a))
    where
      crossed : (X X' : ℕ) → X' * (2 ^ 24 + 1) ≤ X * 2 ^ 24 → X' * (2 ^ 24 + 1) * 2 ^ 22 ≤ X * (2 ^ 22 * 2 ^ 24)
      crossed X X' h = omega arith

      apart : (w w' : ℕ) → w' + 2 ^ 30 + 0 ≤ w + fixed_error + (fixed_error + 0) → w' < w
      apart w w' h = omega arith

  same_bits : mag x' ≡ mag x → to_bits binary32 x' ≡ to_bits binary32 x
  same_bits e =
      pattern x' a'.number ∙ rw ((positive x' a').sign, e) (sym (pattern x a.number ∙ rw (positive x a).sign refl))

  -- of two accepted floats the larger has no smaller logarithm
  pub fixed_order : Le x' x → fixed_of x' ≤ fixed_of x
  unfolding fixed_of
  fixed_order l = elim (eq-or-lt_of_le in_units) [ inl e ↦ le_of_eq (ap fixed_bits (same_bits e)) | inr h ↦ le_of_lt (rises h) ]
    where
      in_units : mag x' ≤ mag x
      in_units = omega (arith, size-sum x, size-sum x', a.at_least_zero, a'.at_least_zero)
