-- A float from -L to H units by its bit pattern: one test where the sign's bit is clear, another where it is set. Assumes nothing.
use mathlib.Core.Path.{◌≡◌, sym}
use mathlib.Core.Logic.{inl, inr}
use mathlib.Core.Bool.{Bool, true, false, cond}
use Prim.Native.Nat.{ℕ, ◌+◌, ◌*◌, ◌/◌, ◌%◌, ◌^◌, ◌≤◌, ◌<◌}
use native.Mathlib.Nat.{le_trans, le_of_eq, not-le_of_lt}
use native.Mathlib.Omega.{arith}
use lib.Dec.{T, leb}
use borrow.Author.Tests.{leb-true, leb-false}
use lib.Ieee.{Float, binary32, fits, to_bits}
use lib.Ieee.Bits.{to_bits-lt}
use Rattle.units.specs.Units.{mag, negative, P, N, Number, Between}
use Rattle.units.specs.Tests.{Tells}
use Rattle.units.proofs.Signs.{sides, size-sum}
use Rattle.units.proofs.Patterns.{Shape, packed, packed_of, within, beyond}

-- a clear sign's bit, and a set one
module _ (x : Float) (n : Number x) where
  pub sign_clear : to_bits binary32 x < 2147483648 → (P x ≡ mag x) × (N x ≡ 0)
  sign_clear l = go (negative x) (mag x) (packed_of x n).top_bit
    where
      go : (s : Bool) (m : ℕ) → to_bits binary32 x / 2147483648 ≡ cond s 1 0 → (cond s 0 m ≡ m) × (cond s m 0 ≡ 0)
      go true m e = absurd (omega arith)
      go false m e = (omega arith, omega arith)

  pub sign_set : 2147483648 ≤ to_bits binary32 x → (P x ≡ 0) × (N x ≡ mag x)
  sign_set l = go (negative x) (mag x) (packed_of x n).top_bit
    where
      go : (s : Bool) (m : ℕ) → to_bits binary32 x / 2147483648 ≡ cond s 1 0 → (cond s 0 m ≡ 0) × (cond s m 0 ≡ m)
      go true m e = (omega arith, omega arith)
      go false m e = absurd (omega arith)

-- -L has the digits l with the exponent i, and H the digits h with the exponent j
module _ (l i h j : ℕ) (low : Shape l i) (high : Shape h j) (x : Float) (f : T (fits binary32 x)) where
  abbrev Inside : Type 0
  Inside = Between (l * 2 ^ i) (h * 2 ^ j) x

  -- the sign's bit is clear
  pub clear_test : packed h j < 2139095040 → to_bits binary32 x < 2147483648 → Tells Inside (leb (to_bits binary32 x) (packed h j))
  clear_test top s = record {
    if_true = λ e. let (n, m) = within h j high x top f (small (leb-true _ _ e)) in let (p, z) = sign_clear x n s in record { number = n; at_least = none (l * 2 ^ i) z; at_most = rw p m };
    if_false = λ e r. let (p, z) = sign_clear x r.number s in not-le_of_lt (rw (← p) at (beyond h j high x r.number (large (leb-false _ _ e)))) r.at_most;
  }
    where
      small : to_bits binary32 x ≤ packed h j → to_bits binary32 x % 2147483648 ≤ packed h j
      small e = omega arith

      large : packed h j < to_bits binary32 x → packed h j < to_bits binary32 x % 2147483648
      large e = omega arith

      none : {k : ℕ} (b : ℕ) → k ≡ 0 → k ≤ b
      none b e = omega arith

  -- it is set
  pub set_test : packed l i < 2139095040 → 2147483648 ≤ to_bits binary32 x → Tells Inside (leb (to_bits binary32 x) (2147483648 + packed l i))
  set_test top s = record {
    if_true = λ e. let (n, m) = within l i low x top f (small (leb-true _ _ e)) in let (z, p) = sign_set x n s in record { number = n; at_least = rw p m; at_most = none (h * 2 ^ j) z };
    if_false = λ e r. let (z, p) = sign_set x r.number s in not-le_of_lt (rw (← p) at (beyond l i low x r.number (large (leb-false _ _ e)))) r.at_least;
  }
    where
      bits : to_bits binary32 x < 4294967296
      bits = to_bits-lt binary32 x f

      small : to_bits binary32 x ≤ 2147483648 + packed l i → to_bits binary32 x % 2147483648 ≤ packed l i
      small e = omega (arith, bits)

      large : 2147483648 + packed l i < to_bits binary32 x → packed l i < to_bits binary32 x % 2147483648
      large e = omega (arith, bits)

      none : {k : ℕ} (b : ℕ) → k ≡ 0 → k ≤ b
      none b e = omega arith

-- ---- as far on both sides: a range of sizes
module _ {H : ℕ} {x : Float} where
  pub size-between : Number x → mag x ≤ H → Between H H x
  size-between n l = let e = size-sum x in record { number = n; at_least = omega arith; at_most = omega arith }

  pub between-size : Between H H x → mag x ≤ H
  between-size b = elim (sides x) [ inl h ↦ le_trans (le_of_eq (sym h.0)) b.at_most | inr h ↦ le_trans (le_of_eq (sym h.1)) b.at_least ]
