-- Horner's rule in whole numbers against the exact polynomial: it never exceeds it, each of its floors loses less than one unit, and it never falls as its argument grows.
-- For any coefficients, any unit D and any argument f / D from 0 to 1. Assumes nothing.
use mathlib.Core.Path.{◌≡◌, ap, ◌∙◌}
use mathlib.Core.List.{List, [], ◌∷◌}
use Prim.Native.Nat.{ℕ, zero, suc, ◌+◌, ◌*◌, ◌/◌, ◌^◌, ◌≤◌, ◌<◌}
use native.Mathlib.Nat.{le_refl, le_trans, le_of_lt, zero-mul, zero-div, pow-zero, pow-suc, le_of_suc-le-suc, mul-le-mul, mul-le-mul_left, mul-le-mul_right, div-mul-le_self, lt-div-mul-add, le-div_iff_mul-le}
use native.Mathlib.Omega.{arith}
use lib.ListN.{length}
use Rattle.exact.specs.Polynomial.{value}
use Rattle.fixed.specs.Horner.{horner}

-- a quotient never falls as what is divided grows
pub quotients : (D : ℕ) {a b : ℕ} → 0 < D → a ≤ b → a / D ≤ b / D
quotients D {a} pos h = (le-div_iff_mul-le pos).1 (le_trans (div-mul-le_self a D) h)

-- ---- single steps

-- no steps at all
pub horner-one : (D c f : ℕ) → horner D (c ∷ []) f ≡ c
unfolding horner
horner-one D c f = rw (zero-mul, zero-div) (omega arith)

-- one step more
pub horner_step : (D f c : ℕ) (cs : List ℕ) {p r : ℕ} → p ≡ horner D cs f → r ≡ c + p * f / D → r ≡ horner D (c ∷ cs) f
unfolding horner
horner_step D f c cs h e = e ∙ ap (λ (p : ℕ). c + p * f / D) h

-- it is at least its first coefficient
pub horner_first : (D c : ℕ) (cs : List ℕ) (f : ℕ) → c ≤ horner D (c ∷ cs) f
unfolding horner
horner_first D c cs f = omega arith

-- ---- order

-- a larger argument never gives less
pub horner_mono : (D : ℕ) (cs : List ℕ) {f g : ℕ} → 0 < D → f ≤ g → horner D cs f ≤ horner D cs g
unfolding horner
horner_mono D [] pos h = le_refl 0
horner_mono D (c ∷ cs) pos h = omega (arith, quotients D pos (mul-le-mul (horner_mono D cs pos h) h))

-- ---- the floors

-- what it makes is at most the polynomial
pub horner-below : (D f n : ℕ) (cs : List ℕ) → length cs ≤ suc n → horner D cs f * D ^ n ≤ value n cs f D
unfolding horner value
horner-below D f n [] fits = omega arith
horner-below D f zero (c ∷ []) fits = rw (zero-mul, zero-div, pow-zero) (omega arith)
horner-below D f zero (c ∷ b ∷ cs) fits = absurd (omega arith)
horner-below D f (suc n) (c ∷ cs) fits = rw pow-suc (through (horner D cs f) (horner D cs f * f / D) (D ^ n) (value n cs f D) (div-mul-le_self (horner D cs f * f) D) (horner-below D f n cs (le_of_suc-le-suc fits)))
  where
    through : (h t E v : ℕ) → t * D ≤ h * f → h * E ≤ v → (c + t) * (E * D) ≤ c * (E * D) + f * v
    through h t E v a b = omega (arith, mul-le-mul_right E a, mul-le-mul_left f b)

module _ (D : ℕ) (pos : 0 < D) (f : ℕ) where
  -- one step, where the polynomial of the tail is at most k units more than what was made of it
  step : (c h k E v : ℕ) → v ≤ (h + k) * E → c * (E * D) + f * v ≤ (c + h * f / D + 1) * (E * D) + k * f * E
  step c h k E v a = through (h * f / D) (le_of_lt (lt-div-mul-add pos))
    where
      through : (t : ℕ) → h * f ≤ t * D + D → c * (E * D) + f * v ≤ (c + t + 1) * (E * D) + k * f * E
      through t b = omega (arith, mul-le-mul_left f a, mul-le-mul_right E b)

  -- the polynomial is at most as many units more as there are floors
  pub horner-above : f ≤ D → (n c : ℕ) (cs : List ℕ) → length cs ≤ n → value n (c ∷ cs) f D ≤ (horner D (c ∷ cs) f + length cs) * D ^ n
  unfolding horner value
  horner-above small n c [] fits = rw (zero-mul, zero-div) (omega arith)
  horner-above small zero c (b ∷ cs) fits = absurd (omega arith)
  horner-above small (suc n) c (b ∷ cs) fits =
      rw pow-suc
      (through (horner D (b ∷ cs) f * f / D) (length cs) (D ^ n) (value n (b ∷ cs) f D)
      (step c (horner D (b ∷ cs) f) (length cs) (D ^ n) (value n (b ∷ cs) f D) (horner-above small n b cs (le_of_suc-le-suc fits))))
    where
      through : (t k E v : ℕ) → c * (E * D) + f * v ≤ (c + t + 1) * (E * D) + k * f * E → c * (E * D) + f * v ≤ (c + t + suc k) * (E * D)
      through t k E v a = omega (arith, mul-le-mul_left (k * E) small)

  -- near zero it is better: the last floor alone counts in full, and the others in proportion to f / D
  pub horner_close : f ≤ D → (n c b : ℕ) (cs : List ℕ) → length cs ≤ n → value (suc n) (c ∷ b ∷ cs) f D ≤ (horner D (c ∷ b ∷ cs) f + 1) * D ^ suc n + length cs * f * D ^ n
  unfolding horner value
  horner_close small n c b cs fits = rw pow-suc (step c (horner D (b ∷ cs) f) (length cs) (D ^ n) (value n (b ∷ cs) f D) (horner-above small n b cs fits))
