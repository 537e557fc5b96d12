-- Levels by their patterns. Assumes nothing.
use mathlib.Core.Path.{◌≡◌, sym, subst}
use mathlib.Core.Logic.{inl, inr}
use mathlib.Core.Bool.{Bool, not}
use Prim.Native.Nat.{ℕ, ◌+◌, ◌≤◌, ◌<◌}
use native.Mathlib.Omega.{arith}
use lib.Dec.{T}
use lib.Ieee.{binary32, of_bits, to_bits, nan_bits}
use lib.Ieee.Bits.{nan_bits_is}
use Rattle.units.specs.Units.{Number}
use Rattle.units.proofs.Naturals.{le-or-lt}
use Rattle.units.proofs.Bits.{no_nan_positive}
use Rattle.units.proofs.Patterns.{pattern_back}
use Rattle.spectrum.proofs.Loads.{no_nan}
use Rattle.loudness.specs.Map.{Levels}
use Rattle.loudness.proofs.Sizes.{too_loud, no_octave}

-- ---- patterns up to that of 1
pub readable : (p : ℕ) → p ≤ 1065353216 → T (not (nan_bits binary32 p))
readable p l = no_nan_positive p (omega arith)

-- the pattern of a number is that of its float
back : (p : ℕ) → p < 4294967296 → Number (of_bits binary32 p) → to_bits binary32 (of_bits binary32 p) ≡ p
back p l n = pattern_back p l (subst (λ (t : Bool). T (not t)) (sym (nan_bits_is binary32 p)) (no_nan (of_bits binary32 p) n))

module _ (p q : ℕ) (lp : p < 4294967296) (lq : q < 4294967296) (v : Levels (of_bits binary32 p) (of_bits binary32 q)) where
  pub loud_bits : q ≤ 1065353216
  loud_bits = elim (le-or-lt q 1065353216) [ inl l ↦ l | inr l ↦ absurd (too_loud (of_bits binary32 p) (of_bits binary32 q) v (subst (λ (n : ℕ). 1065353216 < n) (sym (back q lq v.m_number)) l)) ]

  pub quiet_bits : p ≤ 1065353216
  quiet_bits = elim (le-or-lt p 1065353216) [ inl l ↦ l | inr l ↦ absurd (no_octave (of_bits binary32 p) (of_bits binary32 q) v (subst (λ (n : ℕ). n < to_bits binary32 (of_bits binary32 p) + 8388608) (sym (back q lq v.m_number)) (subst (λ (n : ℕ). q < n + 8388608) (sym (back p lp v.b_number)) (far l loud_bits)))) ]
    where
      far : {p q : ℕ} → 1065353216 < p → q ≤ 1065353216 → q < p + 8388608
      far a b = omega arith
