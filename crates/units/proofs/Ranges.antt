-- What the machine's comparisons with the greatest float and its opposite say of a float: whether it is finite. Assumes nothing.
use mathlib.Core.Path.{◌≡◌, refl, sym, ap, ◌∙◌}
use mathlib.Core.Logic.{inl, inr}
use Prim.Native.Nat.{ℕ, ◌+◌, ◌*◌, ◌^◌, ◌≤◌}
use native.Mathlib.Nat.{le_of_eq, lt_of_lt_of_le, not-le_of_lt}
use native.Mathlib.Omega.{arith}
use mathlib.Core.Bool.{Bool, true, false, true≢false, cond}
use lib.Dec.{T}
use lib.Pow.{pow-add}
use lib.Ieee.{Float, nan, inf, fin, binary32, of_bits, lt, eq, le}
use lib.Ieee.Scale.{finite}
use Rattle.units.specs.Units.{mag, Number, P, N, Le}
use Rattle.units.proofs.Size.{mag-lt}
use Rattle.units.proofs.Signs.{plus_of_lem, minus_of_lem, size-sum}
use Rattle.units.proofs.Gaps.{next_below}
use Rattle.units.proofs.Bits.{Is, put, put_positive}
use Rattle.units.proofs.Order.{le_false}

-- ---- a float between two finite ones is finite
pub finite_between : (lo x hi : Float) → T (finite lo) → T (finite hi) → le lo x ≡ true → le x hi ≡ true → T (finite x)
unfolding le lt eq
finite_between nan x hi f g a b = absurd f
finite_between (inf s) x hi f g a b = absurd f
finite_between (fin s m e) nan hi f g a b = true≢false (sym a)
finite_between (fin s m e) (inf true) hi f g a b = true≢false (sym a)
finite_between (fin s m e) (inf false) nan f g a b = absurd g
finite_between (fin s m e) (inf false) (inf t) f g a b = absurd g
finite_between (fin s m e) (inf false) (fin t n d) f g a b = true≢false (sym b)
finite_between (fin s m e) (fin t n d) hi f g a b = tt

-- ---- zero, the greatest float and its opposite
-- the pattern 0 is +0
pub zero_is : Is (of_bits binary32 0) false 0
zero_is = put_positive 0 0 (inl refl) (omega arith) (omega arith)

greatest_is : Is (of_bits binary32 2139095039) false (16777215 * 2 ^ 253)
greatest_is = put_positive 16777215 253 (inr (omega arith)) (omega arith) (omega arith)

least_is : Is (of_bits binary32 4286578687) true (16777215 * 2 ^ 253)
least_is = put true 16777215 253 (inr (omega arith)) (omega arith) (omega arith)

-- no float is greater in size
upto_greatest_size : (x : Float) → Number x → mag x ≤ 16777215 * 2 ^ 253
upto_greatest_size x h = next_below x h 16777215 253 (omega arith) (lt_of_lt_of_le (mag-lt x h) (le_of_eq (pow-add 2 24 253)))

-- none is above the greatest
upto_greatest : (x : Float) → Number x → Le x (of_bits binary32 2139095039)
upto_greatest x h =
    let z = greatest_is in
    at_most (P x) (N x) (mag x) (P (of_bits binary32 2139095039)) (N (of_bits binary32 2139095039)) (16777215 * 2 ^ 253) (size-sum x) (plus_of_lem (of_bits binary32 2139095039) z.sign ∙ z.units) (minus_of_lem (of_bits binary32 2139095039) z.sign) (upto_greatest_size x h)
  where
    at_most : (p n m p' n' g : ℕ) → p + n ≡ m → p' ≡ g → n' ≡ 0 → m ≤ g → p + n' ≤ p' + n
    at_most p n m p' n' g a b c d = omega arith

-- nor below its opposite
from_least : (x : Float) → Number x → Le (of_bits binary32 4286578687) x
from_least x h =
    let l = of_bits binary32 4286578687 in
    let z = least_is in
    at_least (P x) (N x) (mag x) (P l) (N l) (16777215 * 2 ^ 253) (size-sum x) (size-sum l ∙ z.units) (ap (λ (s : Bool). cond s 0 (mag l)) z.sign) (upto_greatest_size x h)
  where
    at_least : (p n m p' n' g : ℕ) → p + n ≡ m → p' + n' ≡ g → p' ≡ 0 → m ≤ g → p' + n ≤ p + n'
    at_least p n m p' n' g a b c d = omega arith

-- the units of zero
pub zero_units : (P (of_bits binary32 0) ≡ 0) × (N (of_bits binary32 0) ≡ 0)
zero_units = (plus_of_lem (of_bits binary32 0) zero_is.sign ∙ zero_is.units, minus_of_lem (of_bits binary32 0) zero_is.sign)

module _ (x : Float) where
  -- no finite float fails the test with the greatest float
  pub not_finite : Number x → le x (of_bits binary32 2139095039) ≡ false → ⊥
  not_finite h a = not-le_of_lt (le_false x (of_bits binary32 2139095039) h greatest_is.number a) (upto_greatest x h)

  -- ---- the test of a float of either sign: between the greatest float and its opposite
  pub finite_within : le (of_bits binary32 4286578687) x ≡ true → le x (of_bits binary32 2139095039) ≡ true → T (finite x)
  finite_within a b = finite_between (of_bits binary32 4286578687) x (of_bits binary32 2139095039) least_is.number.is_finite greatest_is.number.is_finite a b

  -- a finite float is not below that
  pub not_finite_below : Number x → le (of_bits binary32 4286578687) x ≡ false → ⊥
  not_finite_below h a = not-le_of_lt (le_false (of_bits binary32 4286578687) x least_is.number h a) (from_least x h)
