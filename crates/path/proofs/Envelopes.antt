-- A sum of moduli over 64 as a float: from 0 to 1, and how near. Assumes nothing.
use mathlib.Core.Path.{◌≡◌, refl, sym, ◌∙◌, subst}
use mathlib.Core.Logic.{inl, inr}
use mathlib.Core.Bool.{false}
use Prim.Native.Nat.{ℕ, ◌+◌, ◌-◌, ◌*◌, ◌^◌, ◌≤◌, ◌<◌}
use native.Mathlib.Nat.{le_trans, le_of_eq, mul-le-mul_right, le_of_mul-le-mul_right, eq_of_mul-eq-mul_right}
use native.Mathlib.Omega.{arith}
use lib.Dec.{T, lit≤, lit<}
use lib.Pow.{pow_pos}
use lib.Ieee.{Float, binary32, of_bits, nan_bits}
use mathlib.Core.Bool.{not}
use borrow.Author.Tests.{le-leb, lt-leb}
use Rattle.units.specs.Units.{P}
use Rattle.units.proofs.Naturals.{le-or-lt}
use Rattle.units.proofs.Bits.{Is, put_positive, no_nan_positive}
use Rattle.units.proofs.Signs.{plus_of_lem, minus_of_lem}
use Rattle.fixed.specs.Rounded.{Normal, nearest_bits}
use Rattle.fixed.proofs.Rounding.{units_of, near_most, near_least, whole_units, units_order, is_positive, bits_fit}
use Rattle.loudness.specs.Map.{Envelope}
use Rattle.path.specs.Steps.{envelope_bits, envelope_of}

-- 2 ^ 56 is full scale
pub normal : (s : ℕ) → Normal s 133
normal s = record { least = λ p. le_trans (lit≤ tt) (mul-le-mul_right (2 ^ 133) p); most = omega arith }

-- from full scale on
module _ (s : ℕ) (l : 72057594037927936 ≤ s) where
  pub full_bits : 1065353216 ≡ envelope_bits s
  unfolding envelope_bits
  full_bits = rw (le-leb 72057594037927936 s l) refl

  pub full_is : Is (envelope_of s) false (2 ^ 149)
  full_is = subst (λ (b : ℕ). Is (of_bits binary32 b) false (2 ^ 149)) full_bits (put_positive 8388608 126 (inr (lit≤ tt)) (lit≤ tt) (lit< tt))

-- below it
module _ (s : ℕ) (l : s < 72057594037927936) where
  pub part_bits : nearest_bits s 133 ≡ envelope_bits s
  unfolding envelope_bits
  part_bits = rw (lt-leb 72057594037927936 s l) refl

  short : s < 2 ^ 64
  short = omega arith

  pub part_readable : T (not (nan_bits binary32 (nearest_bits s 133)))
  part_readable = no_nan_positive (nearest_bits s 133) (bits_fit s 133 short (normal s))

  pub part_is : Is (envelope_of s) false (units_of s 133)
  part_is = subst (λ (b : ℕ). Is (of_bits binary32 b) false (units_of s 133)) part_bits (is_positive s 133 short (normal s))

  at_most_one : units_of s 133 ≤ 2 ^ 149
  at_most_one = le_trans (units_order s 133 72057594037927936 133 short (normal s) (lit< tt) (normal 72057594037927936) (mul-le-mul_right (2 ^ 133) (less l))) (le_of_eq one)
    where
      less : {a b : ℕ} → a < b → a ≤ b
      less h = omega arith

      one : units_of 72057594037927936 133 ≡ 2 ^ 149
      one = cancel (units_of 72057594037927936 133) (whole_units 72057594037927936 133 (lit< tt) (normal 72057594037927936) 1 56 refl (lit< tt))
        where
          cancel : (x : ℕ) → x * 2 ^ 40 ≡ 2 ^ 189 → x ≡ 2 ^ 149
          cancel x h = eq_of_mul-eq-mul_right (2 ^ 40) (pow_pos 40) x (2 ^ 149) (h ∙ refl)

  -- the float against the sum
  pub most : P (envelope_of s) ≤ s * (2 ^ 69 * (2 ^ 24 + 1))
  most = le_trans (le_of_eq (plus_of_lem (envelope_of s) part_is.sign ∙ part_is.units)) (le_of_mul-le-mul_right (le_trans (near_most s 133 short (normal s)) (le_of_eq (regroup (2 ^ 133) (2 ^ 69) (2 ^ 64) refl))) (pow_pos 64))
    where
      regroup : (a b d : ℕ) → a ≡ b * d → s * a * (2 ^ 24 + 1) ≡ s * (b * (2 ^ 24 + 1)) * d
      regroup a b d h = rw h (omega arith)

  pub least : s * (2 ^ 69 * (2 ^ 24 - 1)) ≤ P (envelope_of s)
  least = le_trans (le_of_mul-le-mul_right (le_trans (le_of_eq (regroup (2 ^ 133) (2 ^ 69) (2 ^ 64) refl)) (near_least s 133 short (normal s))) (pow_pos 64)) (le_of_eq (sym (plus_of_lem (envelope_of s) part_is.sign ∙ part_is.units)))
    where
      regroup : (a b d : ℕ) → a ≡ b * d → s * (b * (2 ^ 24 - 1)) * d ≡ s * a * (2 ^ 24 - 1)
      regroup a b d h = rw h (omega arith)

-- from 0 to 1
within : (x : Float) (u : ℕ) → Is x false u → u ≤ 2 ^ 149 → Envelope x
within x u i l = record { number = i.number; at_least_zero = minus_of_lem x i.sign; at_most_one = le_trans (le_of_eq (plus_of_lem x i.sign ∙ i.units)) l }

pub envelope : (s : ℕ) → Envelope (envelope_of s)
envelope s = elim (le-or-lt 72057594037927936 s) [ inl l ↦ within (envelope_of s) (2 ^ 149) (full_is s l) (le_of_eq refl) | inr l ↦ within (envelope_of s) (units_of s 133) (part_is s l) (at_most_one s l) ]

pub full : (s : ℕ) → 72057594037927936 ≤ s → P (envelope_of s) ≡ 2 ^ 149
full s l = plus_of_lem (envelope_of s) (full_is s l).sign ∙ (full_is s l).units
