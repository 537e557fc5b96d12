-- Laws of a polynomial's value: it depends on the fraction x / d alone, and goes with the coefficients.
use mathlib.Core.Path.{◌≡◌, refl}
use mathlib.Core.List.{List, [], ◌∷◌}
use Prim.Native.Nat.{ℕ, zero, suc, ◌+◌, ◌*◌, ◌^◌, ◌≤◌}
use native.Mathlib.Nat.{pow-zero, pow-suc, le_of_suc-le-suc}
use native.Mathlib.Omega.{arith}
use lib.ListN.{length}
use lib.Pow.{pow-add}
use Rattle.exact.specs.Polynomial.{value}
use Rattle.exact.proofs.Power.{mul-pow, pow-one}

-- x / d written with larger numbers
pub value_scale : (n : ℕ) (cs : List ℕ) (x d k : ℕ) → length cs ≤ suc n → value n cs (x * k) (d * k) ≡ value n cs x d * k ^ n
unfolding value
value_scale n [] x d k fits = omega arith
value_scale zero (c ∷ []) x d k fits = simp pow-zero (omega arith)
value_scale zero (c ∷ e ∷ cs) x d k fits = absurd (omega arith)
value_scale (suc n) (c ∷ cs) x d k fits = rw (mul-pow, pow-suc k n, value_scale n cs x d k (le_of_suc-le-suc fits)) (through (d ^ suc n) (value n cs x d) (k ^ n))
  where
    through : (D F K : ℕ) → c * (D * (K * k)) + x * k * (F * K) ≡ (c * D + x * F) * (K * k)
    through D F K = omega arith

-- a polynomial of degree 1
pub value_linear : (p q x d : ℕ) → value 1 (p ∷ q ∷ []) x d ≡ p * d + q * x
unfolding value
value_linear p q x d = rw (pow-one, pow-zero) (omega arith)

-- the same coefficients, for the powers of the square
unfoldable pub spread : List ℕ → List ℕ
spread [] = []
spread (c ∷ []) = c ∷ []
spread (c ∷ b ∷ cs) = c ∷ 0 ∷ spread (b ∷ cs)

-- its value
value_spread : (n : ℕ) (cs : List ℕ) (x d : ℕ) → length cs ≤ suc n → value (n + n) (spread cs) x d ≡ value n cs (x * x) (d * d)
unfolding value spread
value_spread n [] x d fits = refl
value_spread n (c ∷ []) x d fits = rw (mul-pow d d n, ← pow-add d n n) (omega arith)
value_spread zero (c ∷ b ∷ cs) x d fits = absurd (omega arith)
value_spread (suc n) (c ∷ b ∷ cs) x d fits =
    let e : suc n + suc n ≡ suc (suc (n + n)) = omega arith in
    rw (mul-pow d d (suc n), ← pow-add d (suc n) (suc n), e, value_spread n (b ∷ cs) x d (le_of_suc-le-suc fits))
    (through (d ^ suc (suc (n + n))) (d ^ suc (n + n)) (value n (b ∷ cs) (x * x) (d * d)))
  where
    through : (D E F : ℕ) → c * D + x * (0 * E + x * F) ≡ c * D + x * x * F
    through D E F = omega arith

-- a polynomial with odd powers alone: the variable times a polynomial in its square
abbrev pub odd : List ℕ → List ℕ
odd cs = 0 ∷ spread cs

pub value_odd : (n : ℕ) (cs : List ℕ) (x d : ℕ) → length cs ≤ suc n → value (suc (n + n)) (odd cs) x d ≡ x * value n cs (x * x) (d * d)
unfolding value
value_odd n cs x d fits = rw (value_spread n cs x d fits) (omega arith)
