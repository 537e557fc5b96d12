-- Bounds of 2 ^ t by polynomials from above and from below, for 0 ≤ t ≤ 1, and what a composite with one says of 2 ^ t.
use mathlib.Core.Path.{◌≡◌, refl, ap}
use mathlib.Core.Bool.{Bool, true, false}
use mathlib.Core.List.{List, ◌∷◌}
use Prim.Native.Nat.{ℕ, suc, ◌+◌, ◌*◌, ◌^◌, ◌≤◌, ◌<◌, suc-le-suc}
use native.Mathlib.Nat.{mul_comm, mul-le-mul_right}
use native.Mathlib.Omega.{arith}
use lib.Dec.{T}
use lib.ListN.{length}
use Rattle.exact.specs.Power.{AtMost, AtLeast}
use Rattle.exact.specs.Polynomial.{value}
use Rattle.exact.proofs.Power.{mul-pow, pow-mul, most_of_less, least_of_more}
use Rattle.exact.proofs.Growth.{fast, slow, above, beneath}
use Rattle.exact.proofs.Composite.{Ordered, Composite}

-- 2 ^ t ≤ us(t) / K for every fraction t from 0 to 1; the degree of us is at most m
pub record Above (m : ℕ) (us : List ℕ) (K : ℕ) : Type 0 where
  pub unit : 0 < K
  pub fits : length us ≤ suc m
  pub bound : (p q : ℕ) → 0 < q → p ≤ q → AtLeast (value m us p q) (K * q ^ m) p 0 q

-- us(t) / K ≤ 2 ^ t for every fraction t from 0 on
pub record Below (m : ℕ) (us : List ℕ) (K : ℕ) : Type 0 where
  pub unit : 0 < K
  pub fits : length us ≤ suc m
  pub bound : (p q : ℕ) → 0 < q → AtMost (value m us p q) (K * q ^ m) p 0 q

module _ (b c r m K : ℕ) (us : List ℕ) (unit : 0 < K) (cpos : 0 < c) (fits : length us ≤ m) where
  -- a list that outgrows 2 ^ t
  pub is_above_lem : T (fast b c r K us) → Above m (K ∷ us) K
  is_above_lem t = record { unit = unit; fits = suc-le-suc fits; bound = λ p q qpos small. above b c r K us m fits p q cpos qpos unit small t }

  -- a list that lags behind 2 ^ t
  pub is_below : b < c → T (slow b c r K us) → Below m (K ∷ us) K
  is_below less t = record { unit = unit; fits = suc-le-suc fits; bound = λ p q qpos. beneath b c r K us m fits p q cpos qpos unit less t }

-- ---- a composite with a bound of 2 ^ t, where t = z / w and E = cs(x) - ds(x)

powers : (B d j m : ℕ) → (B * d ^ j) ^ m ≡ B ^ m * d ^ (m * j)
powers B d j m = rw (mul-pow B (d ^ j) m, mul_comm m j, pow-mul d j m) refl

-- E us(t) against bs(x), over the common denominators
crossed : (K E : ℕ) (up : Bool) (C D U P Q R : ℕ) → E + D ≡ C → Ordered up (C * U) (D * U + P * Q) → Ordered up (U * (K * R * E)) (Q * (K * (P * R)))
crossed K E true C D U P Q R s h =
    let h' : E * U ≤ P * Q = omega (arith, ap (λ (y : ℕ). y * U) s) in
    omega (arith, mul-le-mul_right (K * R) h')
crossed K E false C D U P Q R s h =
    let h' : P * Q ≤ E * U = omega (arith, ap (λ (y : ℕ). y * U) s) in
    omega (arith, mul-le-mul_right (K * R) h')

module _ {m : ℕ} {us : List ℕ} {K n : ℕ} {cs ds : List ℕ} {j : ℕ} {plus minus : List ℕ} {B : ℕ} {bs : List ℕ} {x d : ℕ} (pos : 0 < B * d ^ j) (E : ℕ) (rest : E + value n ds x d ≡ value n cs x d) (wide : 0 < K * d ^ (m * j) * E) where
  -- 2 ^ t ≤ bs(x) / (K E)
  pub above_composite : Above m us K → (c : Composite true n cs ds j plus minus B m us bs x d) → c.z ≤ B * d ^ j → AtLeast (value (n + m * j) bs x d) (K * d ^ (m * j) * E) c.z 0 (B * d ^ j)
  above_composite e c small =
      least_of_more wide
      (crossed K E true (value n cs x d) (value n ds x d) (value m us c.z (B * d ^ j)) (B ^ m) (value (n + m * j) bs x d) (d ^ (m * j)) rest c.sides)
      (rw (powers B d j m) at (e.bound c.z (B * d ^ j) pos small))

  -- bs(x) / (K E) ≤ 2 ^ t
  pub below_composite : Below m us K → (c : Composite false n cs ds j plus minus B m us bs x d) → AtMost (value (n + m * j) bs x d) (K * d ^ (m * j) * E) c.z 0 (B * d ^ j)
  below_composite e c =
      most_of_less wide
      (crossed K E false (value n cs x d) (value n ds x d) (value m us c.z (B * d ^ j)) (B ^ m) (value (n + m * j) bs x d) (d ^ (m * j)) rest c.sides)
      (rw (powers B d j m) at (e.bound c.z (B * d ^ j) pos))
