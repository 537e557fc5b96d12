-- The gaps between floats: a finite float has 24 binary digits, so from 2 ^ 23 * 2 ^ g units on every float is a multiple of 2 ^ g units.
-- Assumes nothing.
use mathlib.Core.Path.{◌≡◌, sym, ap, ◌∙◌, subst}
use mathlib.Core.Logic.{inl, inr}
use Prim.Native.Nat.{ℕ, ◌+◌, ◌-◌, ◌*◌, ◌^◌, ◌≤◌, ◌<◌}
use native.Mathlib.Nat.{le_trans, le_of_eq, le_of_lt, lt_of_le_of_lt, lt_of_lt_of_le, mul_assoc, not-le_of_lt, mul-le-mul_right, mul-lt-mul_of_pos_right, lt_of_mul-lt-mul_right}
use native.Mathlib.Omega.{arith}
use lib.Pow.{pow-add, pow_pos}
use lib.Ieee.{Float}
use Rattle.units.specs.Units.{mag, Number}
use Rattle.units.proofs.Naturals.{le-or-lt, pow_back_lt, pow_split}
use Rattle.units.proofs.Size.{mag_digits}

-- where the digits of z begin: from 2 ^ 23 * 2 ^ g on, z is a multiple of 2 ^ g
pub multiple : (z : Float) → Number z → (g : ℕ) → 2 ^ 23 * 2 ^ g ≤ mag z → (k : ℕ) × (mag z ≡ k * 2 ^ g)
multiple z h g l =
    let (q, j, small, is) = mag_digits z h in
    let top : q * 2 ^ j < 2 ^ (24 + j) = subst (λ (a : ℕ). q * 2 ^ j < a) (sym (pow-add 2 24 j)) (mul-lt-mul_of_pos_right small (pow_pos j)) in
    let bottom : 2 ^ (23 + g) ≤ q * 2 ^ j = le_trans (le_of_eq (pow-add 2 23 g)) (le_trans l (le_of_eq is)) in
    let g<j : 23 + g < 24 + j = pow_back_lt (23 + g) (24 + j) (lt_of_le_of_lt bottom top) in
    let g≤j : g ≤ j = omega arith in
    (q * 2 ^ (j - g), is ∙ ap (λ (a : ℕ). q * a) (pow_split g j g≤j) ∙ sym (mul_assoc q (2 ^ (j - g)) (2 ^ g)))

-- two multiples of a unit: the smaller is at least a unit smaller
step : (k l u : ℕ) → k * u < l * u → (k + 1) * u ≤ l * u
step k l u h = mul-le-mul_right u (le_trans (le_of_eq (omega arith)) (lt_of_mul-lt-mul_right u h))

-- no float lies strictly between S * 2 ^ g and the next multiple of 2 ^ g, above or below, where S has 24 digits
pub next_above : (z : Float) → Number z → (S g : ℕ) → 2 ^ 23 ≤ S → S * 2 ^ g < mag z → (S + 1) * 2 ^ g ≤ mag z
next_above z h S g s l =
    let m = multiple z h g (le_trans (mul-le-mul_right (2 ^ g) s) (le_of_lt l)) in
    le_trans (step S m.0 (2 ^ g) (lt_of_lt_of_le l (le_of_eq m.1))) (le_of_eq (sym m.1))

pub next_below : (z : Float) → Number z → (S g : ℕ) → 2 ^ 23 ≤ S → mag z < (S + 1) * 2 ^ g → mag z ≤ S * 2 ^ g
next_below z h S g s l = elim (le-or-lt (mag z) (S * 2 ^ g)) [ inl a ↦ a | inr a ↦ absurd (not-le_of_lt l (next_above z h S g s a)) ]
