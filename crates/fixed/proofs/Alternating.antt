-- Horner's rule with alternating signs in whole numbers against the exact polynomial, at an argument y / e of which only the cut-off z / D is at hand.
-- A floor makes what is taken away smaller, and the next one makes that larger: so errors count on one side only every second time. Assumes nothing.
use mathlib.Core.Path.{◌≡◌, refl, ap, ◌∙◌, subst}
use mathlib.Core.Bool.{Bool, true, false, ◌&&◌}
use mathlib.Core.List.{List, [], ◌∷◌}
use Prim.Native.Nat.{ℕ, zero, suc, ◌+◌, ◌-◌, ◌*◌, ◌/◌, ◌^◌, ◌≤◌, ◌<◌}
use native.Mathlib.Nat.{le_trans, le_of_lt, le_of_suc-le-suc, zero-mul, zero-div, sub-zero, one-mul, pow-suc, mul-le-mul_left, mul-le-mul_right, le_of_mul-le-mul_right, div-mul-le_self, lt-div-mul-add}
use native.Mathlib.Omega.{arith}
use lib.Dec.{T, leb, leb→le}
use lib.ListN.{length}
use lib.Ieee.Fits.{and_l, and_r}
use Rattle.exact.specs.Polynomial.{value}
use Rattle.fixed.specs.Horner.{alternating}

-- of coefficients whose signs alternate, those that are added (true), and those that are taken away
unfoldable pub signed : Bool → List ℕ → List ℕ
signed s [] = []
signed true (c ∷ cs) = c ∷ signed false cs
signed false (c ∷ cs) = 0 ∷ signed true cs

-- no coefficient is above the one before
unfoldable pub falling : List ℕ → Bool
falling [] = true
falling (c ∷ []) = true
falling (c ∷ b ∷ cs) = leb b c && falling (b ∷ cs)

-- what is lost where the argument is cut off by up to s units: upwards and downwards, in parts of a unit
unfoldable pub loss : ℕ → ℕ → List ℕ → ℕ × ℕ
loss D s [] = (0, 0)
loss D s (c ∷ []) = (0, 0)
loss D s (c ∷ b ∷ cs) = let l = loss D s (b ∷ cs) in (l.1 + 1 * D + s * b, l.0)

-- p units of 1 / E are F - G but for at most a / D of them above, and l / D below
pub record Close (D p E F G a l : ℕ) : Type 0 where
  pub most : D * (p * E + G) ≤ D * F + a * E
  pub least : D * F ≤ D * (p * E + G) + l * E

-- a bound times y / e, which is at most 1
scaled_most : (D y e p E F G a : ℕ) → y ≤ e → D * (p * E + G) ≤ D * F + a * E → D * (y * (p * E)) + D * (y * G) ≤ D * (y * F) + a * (E * e)
scaled_most D y e p E F G a small h = omega (arith, mul-le-mul_left y h, mul-le-mul_right (a * E) small)

scaled_least : (D y e p E F G l : ℕ) → y ≤ e → D * F ≤ D * (p * E + G) + l * E → D * (y * F) ≤ D * (y * (p * E)) + D * (y * G) + l * (E * e)
scaled_least D y e p E F G l small h = omega (arith, mul-le-mul_left y h, mul-le-mul_right (l * E) small)

-- the product that is cut off, against the exact one
product_most : (D z y e p E q : ℕ) → z * e ≤ y * D → q ≤ p * z → q * (E * e) ≤ D * (y * (p * E))
product_most D z y e p E q low floor = omega (arith, mul-le-mul_right (p * E) low, mul-le-mul_right (E * e) floor)

product_least : (D z y e s p b E q : ℕ) → y * D ≤ (z + s) * e → p ≤ b → p * z ≤ q → D * (y * (p * E)) ≤ (q + s * b) * (E * e)
product_least D z y e s p b E q high up ceiling = omega (arith, mul-le-mul_right (p * E) high, mul-le-mul_right (E * e) ceiling, mul-le-mul_right (s * (E * e)) up)

-- one step more, to a coefficient in units g times as large
module _ (D z y e s : ℕ) (low : z * e ≤ y * D) (high : y * D ≤ (z + s) * e) (small : y ≤ e) where
  pub close_step : {p E F G a l : ℕ} (g c b q : ℕ) → Close D p E F G a l → p ≤ b → q ≤ c → q * (g * D) ≤ p * z → p * z ≤ q * (g * D) + g * D
      → Close D (g * (c - q)) (E * e) (g * c * (E * e) + y * G) (y * F) (l + g * D + s * b) a
  close_step {p} {E} {F} {G} {a} {l} g c b q h up fits floor ceiling = record {
    most =
        above (E * e) (D * (y * (p * E))) (y * F) (y * G) (c - q) (omega arith) (scaled_least D y e p E F G l small h.least)
        (product_least D z y e s p b E (q * (g * D) + g * D) high up ceiling);
    least = under (E * e) (D * (y * (p * E))) (y * F) (y * G) (c - q) (omega arith) (scaled_most D y e p E F G a small h.most) (product_most D z y e p E (q * (g * D)) low floor);
  }
    where
      above : (X M A B r : ℕ) → r + q ≡ c → D * A ≤ M + D * B + l * X → M ≤ (q * (g * D) + g * D + s * b) * X → D * (g * r * X + A) ≤ D * (g * c * X + B) + (l + g * D + s * b) * X
      above X M A B r same i j = omega (arith, ap (λ (n : ℕ). D * g * X * n) same)

      under : (X M A B r : ℕ) → r + q ≡ c → M + D * B ≤ D * A + a * X → q * (g * D) * X ≤ M → D * (g * c * X + B) ≤ D * (g * r * X + A) + a * X
      under X M A B r same i j = omega (arith, ap (λ (n : ℕ). D * g * X * n) same)

-- it is at most its first coefficient
pub alternating_most : (D c : ℕ) (cs : List ℕ) (z : ℕ) → alternating D (c ∷ cs) z ≤ c
unfolding alternating
alternating_most D c cs z = omega arith

-- no steps at all
pub alternating-one : (D c z : ℕ) → alternating D (c ∷ []) z ≡ c
unfolding alternating
alternating-one D c z = rw (zero-mul, zero-div, sub-zero) refl

-- one step more
pub alternating_step : (D z c : ℕ) (cs : List ℕ) {p r : ℕ} → p ≡ alternating D cs z → r ≡ c - p * z / D → r ≡ alternating D (c ∷ cs) z
unfolding alternating
alternating_step D z c cs h e = e ∙ ap (λ (p : ℕ). c - p * z / D) h

module _ (n c : ℕ) (cs : List ℕ) (y e : ℕ) where
  plus_value : value (suc n) (signed true (c ∷ cs)) y e ≡ 1 * c * (e ^ n * e) + y * value n (signed false cs) y e
  unfolding signed value
  plus_value = rw pow-suc (omega arith)

  minus_value : value (suc n) (signed false (c ∷ cs)) y e ≡ y * value n (signed true cs) y e
  unfolding signed value
  minus_value = omega arith

  plus_one : value n (signed true (c ∷ [])) y e ≡ c * e ^ n
  unfolding signed value
  plus_one = omega arith

  minus_one : value n (signed false (c ∷ [])) y e ≡ 0
  unfolding signed value
  minus_one = omega arith

module _ (D z y e s : ℕ) (pos : 0 < D) (low : z * e ≤ y * D) (high : y * D ≤ (z + s) * e) (small : y ≤ e) (unit : z ≤ D) where
  -- what a step takes away is at most what was made before
  taken : (p : ℕ) → p * z / D ≤ p
  taken p = le_of_mul-le-mul_right (le_trans (div-mul-le_self (p * z) D) (mul-le-mul_left p unit)) pos

  last_close : (n c : ℕ) → Close D (alternating D (c ∷ []) z) (e ^ n) (value n (signed true (c ∷ [])) y e) (value n (signed false (c ∷ [])) y e) 0 0
  last_close n c = rw (alternating-one D c z, plus_one n c [] y e, minus_one n c [] y e) (record { most = omega arith; least = omega arith })

  -- what it makes is the polynomial, but for what is lost
  pub alternating_close : (n : ℕ) (cs : List ℕ) → length cs ≤ suc n → T (falling cs)
      → Close D (alternating D cs z) (e ^ n) (value n (signed true cs) y e) (value n (signed false cs) y e) (loss D s cs).0 (loss D s cs).1
  unfolding loss falling alternating
  alternating_close n [] fits t = unfold signed value in record { most = omega arith; least = omega arith }
  alternating_close n (c ∷ []) fits t = last_close n c
  alternating_close zero (c ∷ b ∷ cs) fits t = absurd (omega arith)
  alternating_close (suc n) (c ∷ b ∷ cs) fits t =
      let p = alternating D (b ∷ cs) z in
      let up : p ≤ b = alternating_most D b cs z in
      let less : b ≤ c = leb→le b c (and_l (leb b c) (falling (b ∷ cs)) t) in
      let before = alternating_close n (b ∷ cs) (le_of_suc-le-suc fits) (and_r (leb b c) (falling (b ∷ cs)) t) in
      rw (plus_value n c (b ∷ cs) y e, minus_value n c (b ∷ cs) y e, pow-suc e n)
      (subst (λ (r : ℕ). Close D r (e ^ n * e) (1 * c * (e ^ n * e) + y * value n (signed false (b ∷ cs)) y e) (y * value n (signed true (b ∷ cs)) y e) ((loss D s (b ∷ cs)).1 + 1 * D + s * b) (loss D s (b ∷ cs)).0) (one-mul (c - p * z / D))
      (close_step D z y e s low high small 1 c b (p * z / D) before up (le_trans (taken p) (le_trans up less))
      (rw one-mul (div-mul-le_self (p * z) D)) (rw one-mul (le_of_lt (lt-div-mul-add pos)))))
