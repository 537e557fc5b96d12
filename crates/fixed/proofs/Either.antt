-- A finite float of either sign by its bit pattern: the sign's bit, and below it the pattern of its size. Assumes nothing.
use mathlib.Core.Path.{◌≡◌, sym}
use mathlib.Core.Logic.{◌⊎◌, inl, inr}
use mathlib.Core.Bool.{Bool, true, false, cond}
use Prim.Native.Nat.{ℕ, ◌+◌, ◌*◌, ◌/◌, ◌%◌, ◌^◌, ◌≤◌, ◌<◌}
use native.Mathlib.Nat.{le_trans, le_of_eq, lt_of_le_of_lt, mul-le-mul_right}
use native.Mathlib.Omega.{arith}
use lib.Pow.{pow-add}
use lib.Ieee.{Float, binary32, to_bits}
use Rattle.units.specs.Units.{mag, negative, Number}
use Rattle.units.proofs.Naturals.{le-or-lt, pow_back_lt}
use Rattle.units.proofs.Size.{mag-lt}
use Rattle.units.proofs.Bits.{sign_bit, pattern_subnormal, pattern_normal}

-- the size with the pattern b: 24 digits and their exponent, or fewer digits
pub record Normal (x : Float) (b : ℕ) : Type 0 where
  pub units : 2 * mag x ≡ (b % 8388608 + 8388608) * 2 ^ (b / 8388608)
  pub least : 1 ≤ b / 8388608
  pub most : b / 8388608 ≤ 254

pub record Subnormal (x : Float) (b : ℕ) : Type 0 where
  pub few : mag x < 2 ^ 23
  pub none : b / 8388608 ≡ 0

module _ (x : Float) (h : Number x) where
  abbrev bits : ℕ
  bits = to_bits binary32 x

  -- a size's pattern b, under a sign's bit
  parts : (b : ℕ) → bits ≡ sign_bit (negative x) + b → b < 2147483648 → (bits % 2147483648 ≡ b) × (bits / 2147483648 ≡ cond (negative x) 1 0)
  parts b e small = go (negative x) bits e
    where
      go : (s : Bool) (t : ℕ) → t ≡ sign_bit s + b → (t % 2147483648 ≡ b) × (t / 2147483648 ≡ cond s 1 0)
      go true t f = (omega arith, omega arith)
      go false t f = (omega arith, omega arith)

  -- either kind of size
  both : (bits / 2147483648 ≡ cond (negative x) 1 0) × (Normal x (bits % 2147483648) ⊎ Subnormal x (bits % 2147483648))
  both = elim (le-or-lt (2 ^ 23) (mag x)) [
    | inl l ↦
        let t = pattern_normal x h l in
        let k = t.k in
        let m = t.m in
        let least : 8388608 ≤ m = t.least in
        let digits : m < 16777216 = t.digits in
        let top : 23 + k < 277 = pow_back_lt (23 + k) 277 (lt_of_le_of_lt (le_trans (le_of_eq (pow-add 2 23 k)) (mul-le-mul_right (2 ^ k) t.least)) (lt_of_le_of_lt (le_of_eq (sym t.units)) (mag-lt x h))) in
        let b = k * 8388608 + m in
        let (size, sign) = parts b t.bits (omega arith) in
        let e : b % 8388608 + 8388608 ≡ m = omega arith in
        let f : b / 8388608 ≡ 1 + k = omega arith in
        (sign, inl (rw size (record { units = rw (e, f, pow-add 2 1 k, t.units) (double m (2 ^ k)); least = omega arith; most = omega arith })))
    | inr l ↦
        let (size, sign) = parts (mag x) (pattern_subnormal x h l) (omega arith) in
        (sign, inr (rw size (record { few = l; none = omega arith })))
  ]
    where
      double : (m K : ℕ) → 2 * (m * K) ≡ m * (2 * K)
      double m K = omega arith

  -- the sign's bit
  pub top_bit : bits / 2147483648 ≡ cond (negative x) 1 0
  top_bit = both.0

  -- the size
  pub size_bits_lem : Normal x (bits % 2147483648) ⊎ Subnormal x (bits % 2147483648)
  size_bits_lem = both.1
