-- The floors: what is computed of w, the digits of a fraction x / d of a quarter turn that are left, is within 6 units of 2 ^ -32 of the polynomial at x / d. Assumes nothing.
use Rattle.std.proofs.Common.{◌≡◌, ℕ, ◌+◌, ◌-◌, ◌*◌, ◌/◌, ◌^◌, ◌<◌, ◌≤◌, Bool, true, false, length, sym, refl, ap, ◌∙◌, le_trans, le_refl, le_of_lt, add-le-add, mul-le-mul_right, mul-le-mul, mul-le-mul_left, pow-suc, div-mul-le_self, le_of_mul-le-mul_right, sub-le, arith, lit<, lit≤, pow-add}
use native.Mathlib.Nat.{lt-div-mul-add, pow-succ', one-le-pow}
use Rattle.exact.specs.Polynomial.{value}
use Rattle.exact.proofs.Polynomial.{value_odd}
use Rattle.exact.proofs.Power.{mul-pow}
use Rattle.fixed.specs.Horner.{alternating}
use Rattle.fixed.proofs.Alternating.{Close, close_step, signed, loss, falling, alternating_close, alternating_most}
use Rattle.circle.specs.Kernel.{kernel_first, kernel_second, kernel_rest, square_of, slope_of, quarter_sine}
use Rattle.circle.proofs.Method.{D, coefficients, part, part_most}

-- the first coefficient, and the others
module _ (y e : ℕ) where
  plus_value : value 5 (signed true coefficients) y e ≡ 2 * kernel_first * (e ^ 4 * e) + y * value 4 (signed false kernel_rest) y e
  unfolding coefficients signed value
  plus_value = rw (← pow-suc e 4) refl

  minus_value : value 5 (signed false coefficients) y e ≡ y * value 4 (signed true kernel_rest) y e
  unfolding coefficients signed value
  minus_value = omega arith

-- what the floors lose, and the coarser unit of the first coefficient
losses : ((loss D 3 kernel_rest).1 + 2 * D + 3 * kernel_second ≤ 6 * D) × ((loss D 3 kernel_rest).0 ≤ 3 * D)
unfolding loss kernel_rest
losses = (lit≤ tt, lit≤ tt)

-- w / D is x / d, cut off
module _ (w x d : ℕ) (few : w < D) (pos : 0 < d) (small : x ≤ d) (low : w * d ≤ x * D) (high : x * D ≤ (w + 1) * d) where
  abbrev y : ℕ
  y = x * x

  abbrev e : ℕ
  e = d * d

  abbrev z : ℕ
  z = square_of w

  unit : 0 < D
  unit = lit< tt

  -- its square is cut off by less than three units
  square_low : z * e ≤ y * D
  square_low = le_of_mul-le-mul_right (through z (div-mul-le_self (w * w) D) (mul-le-mul low low)) unit
    where
      through : (z : ℕ) → z * D ≤ w * w → w * d * (w * d) ≤ x * D * (x * D) → z * (d * d) * D ≤ x * x * D * D
      through z l s = omega (arith, mul-le-mul_right (d * d) l)

  square_high : y * D ≤ (z + 3) * e
  square_high = le_of_mul-le-mul_right (through z (le_of_lt (lt-div-mul-add unit)) (mul-le-mul high high)) unit
    where
      through : (z : ℕ) → w * w ≤ z * D + D → x * D * (x * D) ≤ (w + 1) * d * ((w + 1) * d) → x * x * D * D ≤ (z + 3) * (d * d) * D
      through z l s =
          let t : (w + 1) * (w + 1) ≤ (z + 3) * D = omega arith in
          omega (arith, mul-le-mul_right (d * d) t)

  square_small : z ≤ D
  square_small = le_of_mul-le-mul_right (le_trans (div-mul-le_self (w * w) D) (mul-le-mul (le_of_lt few) (le_of_lt few))) unit

  -- ---- the slope

  abbrev made : ℕ
  made = alternating D kernel_rest z

  made_most : made ≤ kernel_second
  unfolding kernel_rest
  made_most = alternating_most D kernel_second _ z

  made_close : Close D made (e ^ 4) (value 4 (signed true kernel_rest) y e) (value 4 (signed false kernel_rest) y e) (loss D 3 kernel_rest).0 (loss D 3 kernel_rest).1
  made_close = alternating_close D z y e 3 unit square_low square_high (mul-le-mul small small) square_small 4 kernel_rest (unfold kernel_rest in lit≤ tt) (unfold kernel_rest falling in tt)

  abbrev q : ℕ
  q = made * z / 8589934592

  taken : q ≤ kernel_first
  taken =
      let h : q * 8589934592 ≤ made * z = div-mul-le_self (made * z) 8589934592 in
      omega (arith, made_most, mul-le-mul made_most square_small)

  -- within 6 units above and 3 below
  pub slope_close : Close D (2 * slope_of w) (e ^ 5) (value 5 (signed true coefficients) y e) (value 5 (signed false coefficients) y e) (6 * D) (3 * D)
  unfolding slope_of
  slope_close =
      widened
      (close_step D z y e 3 square_low square_high (mul-le-mul small small) 2 kernel_first kernel_second q made_close made_most taken (div-mul-le_self (made * z) 8589934592)
      (le_of_lt (lt-div-mul-add (lit< tt))))
    where
      widened : Close D (2 * (kernel_first - q)) (e ^ 4 * e) (2 * kernel_first * (e ^ 4 * e) + y * value 4 (signed false kernel_rest) y e) (y * value 4 (signed true kernel_rest) y e)
          ((loss D 3 kernel_rest).1 + 2 * D + 3 * kernel_second) (loss D 3 kernel_rest).0 →
          Close D (2 * (kernel_first - q)) (e ^ 5) (value 5 (signed true coefficients) y e) (value 5 (signed false coefficients) y e) (6 * D) (3 * D)
      widened h = rw (plus_value y e, minus_value y e, pow-suc e 4) (record {
        most = le_trans h.most (add-le-add (le_refl _) (mul-le-mul_right (e ^ 4 * e) losses.0));
        least = le_trans h.least (add-le-add (le_refl _) (mul-le-mul_right (e ^ 4 * e) losses.1));
      })

  -- ---- the product with w

  abbrev S : ℕ
  S = slope_of w

  slope_most : S ≤ kernel_first
  unfolding slope_of
  slope_most = sub-le kernel_first q

  abbrev p : ℕ
  p = quarter_sine w

  product_most : p * d ≤ 2 * S * x
  unfolding quarter_sine
  product_most = le_of_mul-le-mul_right (through p (div-mul-le_self (w * S) 2147483648)) (lit< tt)
    where
      through : (p : ℕ) → p * 2147483648 ≤ w * S → p * d * 2147483648 ≤ 2 * S * x * 2147483648
      through p h = omega (arith, mul-le-mul_right d h, mul-le-mul_left S low)

  product_least : 2 * S * x ≤ (p + 3) * d
  unfolding quarter_sine
  product_least = le_of_mul-le-mul_right (through p (le_of_lt (lt-div-mul-add (lit< tt)))) (lit< tt)
    where
      through : (p : ℕ) → w * S ≤ p * 2147483648 + 2147483648 → 2 * S * x * 2147483648 ≤ (p + 3) * d * 2147483648
      through p h = omega (arith, mul-le-mul_right d h, mul-le-mul_left S high, mul-le-mul_right d slope_most)

  -- x / d of the slope's bound
  abbrev E : ℕ
  E = d * e ^ 5

  sine_most : p * E + x * value 5 (signed false coefficients) y e ≤ x * value 5 (signed true coefficients) y e + 6 * E
  sine_most = through p S (e ^ 5) _ _ product_most slope_close.most
    where
      through : (p S H F G : ℕ) → p * d ≤ 2 * S * x → D * (2 * S * H + G) ≤ D * F + 6 * D * H → p * (d * H) + x * G ≤ x * F + 6 * (d * H)
      through p S H F G h l =
          let k : 2 * S * H + G ≤ F + 6 * H = omega arith in
          omega (arith, mul-le-mul_right H h, mul-le-mul_left x k, mul-le-mul_right H small)

  sine_least : x * value 5 (signed true coefficients) y e ≤ p * E + x * value 5 (signed false coefficients) y e + 6 * E
  sine_least = through p S (e ^ 5) _ _ product_least slope_close.least
    where
      through : (p S H F G : ℕ) → 2 * S * x ≤ (p + 3) * d → D * F ≤ D * (2 * S * H + G) + 3 * D * H → x * F ≤ p * (d * H) + x * G + 6 * (d * H)
      through p S H F G h l =
          let k : F ≤ 2 * S * H + G + 3 * H = omega arith in
          omega (arith, mul-le-mul_right H h, mul-le-mul_left x k, mul-le-mul_right H small)

  -- ---- against the polynomial in t

  power : d ^ 11 ≡ E
  power = pow-succ' d 10 ∙ ap (λ (n : ℕ). d * n) (pow-add d 5 5 ∙ sym (mul-pow d d 5))

  part-value : (s : Bool) → value 11 (part s) x d ≡ x * value 5 (signed s coefficients) y e
  unfolding part
  part-value s = value_odd 5 (signed s coefficients) x d (few_terms s)
    where
      few_terms : (s : Bool) → length (signed s coefficients) ≤ 6
      few_terms true = unfold signed coefficients in lit≤ tt
      few_terms false = unfold signed coefficients in lit≤ tt

  -- within 6 units above
  pub quarter_most : p * d ^ 11 + value 11 (part false) x d ≤ value 11 (part true) x d + 6 * d ^ 11
  quarter_most = rw (part-value true, part-value false, power) sine_most

  -- and below
  pub quarter_least : value 11 (part true) x d ≤ p * d ^ 11 + value 11 (part false) x d + 6 * d ^ 11
  quarter_least = rw (part-value true, part-value false, power) sine_least

-- so it is at most 7 units above 1
pub quarter_top : (w : ℕ) → w < D → quarter_sine w ≤ D + 7
quarter_top w few =
    le_of_mul-le-mul_right (through (quarter_sine w) (D ^ 11) _ _ (quarter_most w w D few (lit< tt) (le_of_lt few) (le_refl _) (mul-le-mul_right D (omega arith))) (part_most w D (le_of_lt few))) (one-le-pow 11 D (lit< tt))
  where
    through : (p H F G : ℕ) → p * H + G ≤ F + 6 * H → F ≤ G + (D + 1) * H → p * H ≤ (D + 7) * H
    through p H F G h l = omega arith
