-- Range tests on bit patterns: patterns of sizes are in the order of the sizes, and every NaN's and infinity's lies above those of the finite floats.
-- Assumes nothing.
use mathlib.Core.Path.{◌≡◌, refl, sym, ap, ◌∙◌, subst}
use mathlib.Core.Logic.{◌⊎◌, inl, inr}
use mathlib.Core.Bool.{Bool, true, false, not, cond}
use Prim.Native.Nat.{ℕ, suc, ◌+◌, ◌*◌, ◌/◌, ◌%◌, ◌^◌, ◌≤◌, ◌<◌}
use native.Mathlib.Nat.{le_trans, le_of_eq, lt_of_le_of_lt, lt_of_lt_of_le, not-le_of_lt, zero-add, mul-one, mul-le-mul_left, mul-le-mul_right, mul-lt-mul_of_pos_right}
use native.Mathlib.Omega.{arith}
use lib.Dec.{T}
use lib.Pow.{pow-add, pow_pos, pow_mono}
use lib.Ieee.{Float, nan, inf, fin, binary32, fits, of_bits, to_bits, nan_bits}
use lib.Ieee.Bits.{nan_bits_is, to_bits-of_bits}
use Rattle.units.specs.Units.{mag, negative, Number}
use Rattle.units.proofs.Naturals.{le-or-lt, pow_back_lt}
use Rattle.units.proofs.Size.{mag-lt}
use Rattle.units.proofs.Bits.{sign_bit, pattern_subnormal, pattern_normal}

-- digits S with an exponent g make a size's pattern: a subnormal one, or a normal one
pub record Shape (S g : ℕ) : Type 0 where
  pub few : S < 2 ^ 24
  pub first : (g ≡ 0) ⊎ (2 ^ 23 ≤ S)

-- that pattern
abbrev pub packed : ℕ → ℕ → ℕ
packed S g = g * 8388608 + S

-- ---- the order of patterns is the order of sizes
module _ (m k S g : ℕ) (a : Shape m k) (b : Shape S g) where
  -- fewer places are a smaller size, whatever the digits
  fewer : k < g → m * 2 ^ k < S * 2 ^ g
  fewer l = elim b.first [
    | inl z ↦ absurd (omega arith)
    | inr f ↦ lt_of_lt_of_le (mul-lt-mul_of_pos_right a.few (pow_pos k)) (le_trans (le_trans (le_of_eq twice) (mul-le-mul_left (2 ^ 23) (pow_mono l))) (mul-le-mul_right (2 ^ g) f))
  ]
    where
      twice : 2 ^ 24 * 2 ^ k ≡ 2 ^ 23 * 2 ^ suc k
      twice = sym (pow-add 2 24 k) ∙ ap (λ (n : ℕ). 2 ^ n) shifted ∙ pow-add 2 23 (suc k)
        where
          shifted : 24 + k ≡ 23 + suc k
          shifted = omega arith

  -- more places are a larger pattern
  more : g < k → packed S g < packed m k
  more l = elim a.first [ inl z ↦ absurd (omega arith) | inr f ↦ let f' : 8388608 ≤ m = f in let t : S < 16777216 = b.few in omega arith ]

  pub packed_le : packed m k ≤ packed S g → m * 2 ^ k ≤ S * 2 ^ g
  packed_le l = elim (le-or-lt k g) [
    | inl h ↦ elim (le-or-lt g k) [
      | inl h' ↦ let e : k ≡ g = omega arith in rw e (mul-le-mul_right (2 ^ g) (digits e l))
      | inr h' ↦ below (fewer h')
    ]
    | inr h ↦ absurd (not-le_of_lt (more h) l)
  ]
    where
      below : {x y : ℕ} → x < y → x ≤ y
      below r = omega arith

      digits : k ≡ g → packed m k ≤ packed S g → m ≤ S
      digits e l = omega arith

  pub packed_lt : packed m k < packed S g → m * 2 ^ k < S * 2 ^ g
  packed_lt l = elim (le-or-lt k g) [
    | inl h ↦ elim (le-or-lt g k) [
      | inl h' ↦ let e : k ≡ g = omega arith in rw e (mul-lt-mul_of_pos_right (digits e l) (pow_pos g))
      | inr h' ↦ fewer h'
    ]
    | inr h ↦ absurd (turned (more h))
  ]
    where
      turned : packed S g < packed m k → ⊥
      turned r = omega arith

      digits : k ≡ g → packed m k < packed S g → m < S
      digits e l = omega arith

-- ---- the pattern of a finite float: its sign's bit and a size's pattern
pub record Packed (x : Float) : Type 0 where
  pub m : ℕ
  pub k : ℕ
  pub shape : Shape m k
  pub units : mag x ≡ m * 2 ^ k
  pub size_bits_lem : to_bits binary32 x % 2147483648 ≡ packed m k
  pub top_bit : to_bits binary32 x / 2147483648 ≡ cond (negative x) 1 0

pub packed_of : (x : Float) → Number x → Packed x
packed_of x h = elim (le-or-lt (2 ^ 23) (mag x)) [
  | inl l ↦
      let t = pattern_normal x h l in
      let few : t.m < 16777216 = t.digits in
      let top : 23 + t.k < 277 = pow_back_lt (23 + t.k) 277 (lt_of_le_of_lt (le_trans (le_of_eq (pow-add 2 23 t.k)) (mul-le-mul_right (2 ^ t.k) t.least)) (lt_of_le_of_lt (le_of_eq (sym t.units)) (mag-lt x h))) in
      let (size, sign) = parts (packed t.m t.k) t.bits (omega arith) in
      record { m = t.m; k = t.k; shape = record { few = t.digits; first = inr t.least }; units = t.units; size_bits_lem = size; top_bit = sign }
  | inr l ↦
      let few : mag x < 8388608 = l in
      let (size, sign) = parts (mag x) (pattern_subnormal x h l) (omega arith) in
      record { m = mag x; k = 0; shape = record { few = omega arith; first = inl refl }; units = sym (mul-one (mag x)); size_bits_lem = size ∙ sym (zero-add (mag x)); top_bit = sign }
]
  where
    parts : (b : ℕ) → to_bits binary32 x ≡ sign_bit (negative x) + b → b < 2147483648 → (to_bits binary32 x % 2147483648 ≡ b) × (to_bits binary32 x / 2147483648 ≡ cond (negative x) 1 0)
    parts b e small = go (negative x) (to_bits binary32 x) e
      where
        go : (s : Bool) (t : ℕ) → t ≡ sign_bit s + b → (t % 2147483648 ≡ b) × (t / 2147483648 ≡ cond s 1 0)
        go true t f = (omega arith, omega arith)
        go false t f = (omega arith, omega arith)

-- below the infinity's pattern a float is finite
pub finite_below : (x : Float) → T (fits binary32 x) → to_bits binary32 x % 2147483648 < 2139095040 → Number x
unfolding to_bits
finite_below nan f l = absurd (omega arith)
finite_below (inf true) f l = absurd (omega arith)
finite_below (inf false) f l = absurd (omega arith)
finite_below (fin s m e) f l = record { fits32 = f; is_finite = tt }

-- and every finite float is there
pub below_infinity : (x : Float) → Number x → to_bits binary32 x % 2147483648 < 2139095040
below_infinity x h =
    let t = packed_of x h in
    let few : t.m < 16777216 = t.shape.few in
    rw t.size_bits_lem (elim (le-or-lt t.k 253) [ inl l ↦ omega arith | inr l ↦ absurd (not-le_of_lt (mag-lt x h) (le_trans (large t.m t.k t.shape l) (le_of_eq (sym t.units)))) ])
  where
    large : (m k : ℕ) → Shape m k → 253 < k → 2 ^ 277 ≤ m * 2 ^ k
    large m k s l = elim s.first [ inl z ↦ absurd (omega arith) | inr f ↦ le_trans (le_of_eq (pow-add 2 23 254)) (le_trans (mul-le-mul_right (2 ^ 254) f) (mul-le-mul_left m (pow_mono l))) ]

-- ---- a test against the pattern of S digits with the exponent g, S 2 ^ g units
module _ (S g : ℕ) (s : Shape S g) (x : Float) where
  -- it passes: x is finite, and its size at most that
  pub within : packed S g < 2139095040 → T (fits binary32 x) → to_bits binary32 x % 2147483648 ≤ packed S g → Number x × (mag x ≤ S * 2 ^ g)
  within top f l =
      let n = finite_below x f (lt_of_le_of_lt l top) in
      let t = packed_of x n in
      (n, rw t.units (packed_le t.m t.k S g t.shape s (rw t.size_bits_lem at l)))

  -- it fails: a finite x is greater in size
  pub beyond : Number x → packed S g < to_bits binary32 x % 2147483648 → S * 2 ^ g < mag x
  beyond n l =
      let t = packed_of x n in
      rw t.units (packed_lt S g t.m t.k s t.shape (rw t.size_bits_lem at l))

  -- the same where the test is strict
  pub within_less : packed S g ≤ 2139095040 → T (fits binary32 x) → to_bits binary32 x % 2147483648 < packed S g → Number x × (mag x < S * 2 ^ g)
  within_less top f l =
      let n = finite_below x f (lt_of_lt_of_le l top) in
      let t = packed_of x n in
      (n, rw t.units (packed_lt t.m t.k S g t.shape s (rw t.size_bits_lem at l)))

  pub beyond_or-at : Number x → packed S g ≤ to_bits binary32 x % 2147483648 → S * 2 ^ g ≤ mag x
  beyond_or-at n l =
      let t = packed_of x n in
      rw t.units (packed_le S g t.m t.k s t.shape (rw t.size_bits_lem at l))

-- ---- a pattern that is no NaN's is that of its float
pub pattern_back : (b : ℕ) → b < 4294967296 → T (not (nan_bits binary32 b)) → to_bits binary32 (of_bits binary32 b) ≡ b
pattern_back b small n = to_bits-of_bits binary32 b small (subst (λ (t : Bool). T (not t)) (nan_bits_is binary32 b) n)
