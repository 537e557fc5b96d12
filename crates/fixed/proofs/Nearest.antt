-- The nearest float, from two tests on whole numbers. A number ρ above zero is known only by which sums of two floats lie above 2 ρ (`Over`) and which below it (`Under`).
-- Where 2 S + 1 half steps are above and 2 S - 1 half steps below, the float of S steps is nearer to ρ than every other float. Assumes nothing.
use mathlib.Core.Path.{◌≡◌, refl, sym, ap, ◌∙◌, subst}
use mathlib.Core.Logic.{◌⊎◌, inl, inr}
use mathlib.Core.Bool.{false}
use Prim.Native.Nat.{ℕ, ◌+◌, ◌-◌, ◌*◌, ◌^◌, ◌≤◌, ◌<◌}
use native.Mathlib.Nat.{le_trans, le_of_eq, lt_of_lt_of_le, not-le_of_lt, eq-or-lt_of_le, mul-le-mul_right}
use native.Mathlib.Omega.{arith}
use lib.Ieee.{Float, binary32, of_bits}
use Rattle.units.specs.Units.{mag, P, N, Number, Le, Lt}
use Rattle.units.proofs.Naturals.{le-or-lt}
use Rattle.units.proofs.Signs.{sides, size-sum, plus_of_lem, minus_of_lem}
use Rattle.units.proofs.Gaps.{next_above, next_below}
use Rattle.units.proofs.Bits.{Is, put_positive, one_float}

-- the number that S steps of u units are nearest to, known by its tests on sums of two floats
pub record Middle (Over Under : ℕ → Type 0) (S u : ℕ) : Type 0 where
  pub grows : (s s' : ℕ) → s ≤ s' → Over s → Over s'
  pub falls : (s s' : ℕ) → s ≤ s' → Under s' → Under s
  pub over : Over ((2 * S + 1) * u)
  pub under : Under ((2 * S - 1) * u)
  -- at the least significand the floats below are twice as dense: there the number is no less than S steps
  pub first : S ≡ 2 ^ 23 → (s : ℕ) → s < 2 * S * u → Under s

module _ (Over Under : ℕ → Type 0) (S g : ℕ) (least : 2 ^ 23 ≤ S) (mid : Middle Over Under S (2 ^ g)) (r : Float) (is : Is r false (S * 2 ^ g)) where
  abbrev u : ℕ
  u = 2 ^ g

  r_plus : P r ≡ S * u
  r_plus = plus_of_lem r is.sign ∙ is.units

  r_minus : N r ≡ 0
  r_minus = minus_of_lem r is.sign

  -- a float above r is a step above it at least
  pub nearest_above : (z : Float) → Number z → Lt r z → (N r + N z < P r + P z) × Over (P r + P z - (N r + N z))
  nearest_above z h l = go (sides z)
    where
      go : ((P z ≡ mag z) × (N z ≡ 0)) ⊎ ((P z ≡ 0) × (N z ≡ mag z)) → (N r + N z < P r + P z) × Over (P r + P z - (N r + N z))
      go (inl (p, n)) =
          let rp = r_plus in
          let rn = r_minus in
          let a : (S + 1) * u ≤ mag z = next_above z h S g least (omega arith) in
          (omega arith, mid.grows ((2 * S + 1) * u) (P r + P z - (N r + N z)) (omega arith) mid.over)
      go (inr (p, n)) = let rn = r_minus in absurd (not-le_of_lt l (omega arith))

  -- S - 1 steps still have 24 digits, or S is the least significand
  half_step : (z : Float) → Number z → mag z < S * u → Under (S * u + mag z)
  half_step z h l = go (eq-or-lt_of_le least)
    where
      go : (2 ^ 23 ≡ S) ⊎ (2 ^ 23 < S) → Under (S * u + mag z)
      go (inl e) = mid.first (sym e) (S * u + mag z) (omega arith)
      go (inr k) =
          let T = S - 1 in
          let e : S ≡ T + 1 = omega arith in
          let c : 2 * S - 1 ≡ 2 * T + 1 = omega arith in
          let a : mag z ≤ T * u = next_below z h T g (omega arith) (lt_of_lt_of_le l (le_of_eq (ap (λ (n : ℕ). n * u) e))) in
          mid.falls (S * u + mag z) ((2 * S - 1) * u) (le_trans (le_of_eq (ap (λ (n : ℕ). n * u + mag z) e)) (le_trans (omega arith) (le_of_eq (ap (λ (n : ℕ). n * u) (sym c))))) mid.under

  pub nearest_below : (z : Float) → Number z → Lt z r → (P r + P z < N r + N z) ⊎ Under (P r + P z - (N r + N z))
  nearest_below z h l = go (sides z) (le-or-lt (N r + N z) (P r + P z))
    where
      at_least_one : S * u ≤ (2 * S - 1) * u
      at_least_one = mul-le-mul_right u (omega arith)

      go : ((P z ≡ mag z) × (N z ≡ 0)) ⊎ ((P z ≡ 0) × (N z ≡ mag z)) → (N r + N z ≤ P r + P z) ⊎ (P r + P z < N r + N z)
          → (P r + P z < N r + N z) ⊎ Under (P r + P z - (N r + N z))
      go c (inr k) = inl k
      go (inl (p, n)) (inl k) =
          let rp = r_plus in
          let rn = r_minus in
          inr (mid.falls (P r + P z - (N r + N z)) (S * u + mag z) (omega arith) (half_step z h (omega arith)))
      go (inr (p, n)) (inl k) =
          let rp = r_plus in
          let rn = r_minus in
          inr (mid.falls (P r + P z - (N r + N z)) ((2 * S - 1) * u) (le_trans (omega arith) at_least_one) mid.under)

-- ---- order: if each of two floats is nearest to its number, and no sum lies above the one number's double and below the other's, the floats are in the numbers' order
pub in_order : (Over Under : ℕ → Type 0) → ((s : ℕ) → Over s → Under s → ⊥) → (r r' : Float)
    → (Lt r r' → (N r + N r' < P r + P r') × Over (P r + P r' - (N r + N r')))
    → (Lt r r' → (P r' + P r < N r' + N r) ⊎ Under (P r' + P r - (N r' + N r)))
    → Le r' r
in_order Over Under apart r r' up down = go (le-or-lt (P r' + N r) (P r + N r'))
  where
    clash : Lt r r' → (P r' + P r < N r' + N r) ⊎ Under (P r' + P r - (N r' + N r)) → ⊥
    clash l (inl k) = let (a, b) = up l in omega arith
    clash l (inr k) = apart (P r + P r' - (N r + N r')) (up l).1 (subst Under (omega arith) k)

    go : (P r' + N r ≤ P r + N r') ⊎ (P r + N r' < P r' + N r) → Le r' r
    go (inl l) = l
    go (inr l) = absurd (clash l (down l))

-- ---- one float only: a number has at most one nearest float

-- r is nearest to the number: of every other finite float z, the number lies on r's side of the middle of r and z
pub record Nearest (Over Under : ℕ → Type 0) (r : Float) : Type 0 where
  pub from_above : (z : Float) → Number z → Lt r z → (N r + N z < P r + P z) × Over (P r + P z - (N r + N z))
  pub from_below : (z : Float) → Number z → Lt z r → (P r + P z < N r + N z) ⊎ Under (P r + P z - (N r + N z))

-- zero is nearest only to what is below half of the least float
not-zero : (Over Under : ℕ → Type 0) (r : Float) → Nearest Over Under r → (Over 1 → ⊥) → 0 < mag r
not-zero Over Under r n small = elim (le-or-lt (mag r) 0) [
  | inl l ↦
      let p : P least ≡ 1 = plus_of_lem least least_is.sign ∙ least_is.units in
      let m : N least ≡ 0 = minus_of_lem least least_is.sign in
      absurd (small (subst Over (omega (arith, size-sum r)) (n.from_above least least_is.number (omega (arith, size-sum r))).1))
  | inr l ↦ l
]
  where
    least : Float
    least = of_bits binary32 1

    least_is : Is least false 1
    least_is = put_positive 1 0 (inl refl) (omega arith) (omega arith)

-- so two that are both nearest are the same float, where zero is not near
pub one_nearest : (Over Under : ℕ → Type 0) → ((s : ℕ) → Over s → Under s → ⊥) → (Over 1 → ⊥) → (r r' : Float) → Number r → Number r' → Nearest Over Under r → Nearest Over Under r' → r ≡ r'
one_nearest Over Under apart small r r' h h' n n' =
    let a : Le r' r = in_order Over Under apart r r' (n.from_above r' h') (n'.from_below r h) in
    let b : Le r r' = in_order Over Under apart r' r (n'.from_above r h) (n.from_below r' h') in
    one_float r r' h h' (omega arith) (not-zero Over Under r n small)
