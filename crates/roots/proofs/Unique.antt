-- One right answer for each input: two finite floats that are both nearest to √x, or both to 1 / √x, are the same float. Assumes nothing.
use Rattle.std.proofs.Common.{◌≡◌, ℕ, ◌*◌, ◌^◌, ◌<◌, sym, ◌∙◌, inl, inr, le_trans, le_of_eq, le_of_lt, mul-pos, mul-one, not-le_of_lt, arith, lit≤, pow_pos}
use lib.Ieee.{Float}
use Rattle.units.specs.Units.{mag, Number}
use Rattle.units.proofs.Naturals.{le-or-lt}
use Rattle.units.proofs.Size.{mag-lt}
use Rattle.units.specs.Units.{Positive}
use Rattle.fixed.proofs.Nearest.{Nearest, one_nearest}
use Rattle.roots.specs.Sqrt.{NearestRoot}
use Rattle.roots.specs.Rsqrt.{NearestRecip}

-- of the root of a zero the clause on zeros tells the sign
pub root_unique : (x r r' : Float) → Number r → Number r' → NearestRoot x r → NearestRoot x r' → (mag x ≡ 0 → r ≡ x) → (mag x ≡ 0 → r' ≡ x) → r ≡ r'
root_unique x r r' h h' n n' z z' = elim (le-or-lt (mag x) 0) [
  | inl l ↦ let e : mag x ≡ 0 = omega arith in z e ∙ sym (z' e)
  | inr l ↦ one_nearest (λ s. 4 * B < s * s) (λ s. s * s < 4 * B) (λ s a b. not-le_of_lt a (le_of_lt b)) (small B (mul-pos l (pow_pos 149))) r r' h h' (of r n) (of r' n')
]
  where
    B : ℕ
    B = mag x * 2 ^ 149

    small : (b : ℕ) → 0 < b → 4 * b < 1 * 1 → ⊥
    small b p k = omega arith

    of : (r : Float) → NearestRoot x r → Nearest (λ s. 4 * B < s * s) (λ s. s * s < 4 * B) r
    of r n = record { from_above = n.from_above; from_below = n.from_below }

-- a reciprocal root is never so small that zero is near
pub recip_unique : (x r r' : Float) → Positive x → Number r → Number r' → NearestRecip x r → NearestRecip x r' → r ≡ r'
recip_unique x r r' p h h' n n' =
    one_nearest Over Under (λ s a b. not-le_of_lt a (le_of_lt b)) (λ k. not-le_of_lt k (le_trans (le_of_eq (mul-one (mag x))) (le_trans (le_of_lt (mag-lt x p.number)) (lit≤ tt)))) r r' h h' (of r n) (of r' n')
  where
    Over : ℕ → Type 0
    Over s = 4 * 2 ^ 447 < mag x * (s * s)

    Under : ℕ → Type 0
    Under s = mag x * (s * s) < 4 * 2 ^ 447

    of : (r : Float) → NearestRecip x r → Nearest Over Under r
    of r n = record { from_above = n.from_above; from_below = n.from_below }
