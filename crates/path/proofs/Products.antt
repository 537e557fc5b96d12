-- A product of a sample and a window value: digits and places, the sign, and how far its word is from it. Assumes nothing.
use mathlib.Core.Path.{◌≡◌, refl, sym, ap, ap₂, ◌∙◌, subst}
use mathlib.Core.Logic.{inl, inr}
use mathlib.Core.Bool.{Bool, true, false, cond}
use Prim.Native.Nat.{ℕ, ◌+◌, ◌-◌, ◌*◌, ◌/◌, ◌%◌, ◌^◌, ◌≤◌, ◌<◌}
use native.Mathlib.Nat.{le_trans, le_of_eq, lt_of_le_of_lt, lt_of_lt_of_le, mul_comm, mul-one, div-eq_of_lt, mul-le-mul, mul-le-mul_right, mul-div-mul_right, div-mul-le_self, lt-div-mul-add, le_of_mul-le-mul_right}
use native.Mathlib.Omega.{arith}
use borrow.Author.Tests.{lt-ltb, le-ltb}
use lib.Dec.{lit<, ltb}
use lib.Pow.{pow-add, pow_pos, pow_mono}
use lib.Ieee.{Float, binary32, to_bits}
use Rattle.units.specs.Units.{mag, negative, Number}
use Rattle.units.proofs.Naturals.{le-or-lt}
use Rattle.units.proofs.Patterns.{packed_of}
use Rattle.spectrum.specs.Difference.{Difference, whole, times}
use Rattle.spectrum.specs.Table.{unit}
use Rattle.spectrum.specs.Words.{value_of, Small as SmallWord}
use Rattle.spectrum.specs.Transform.{units_of}
use Rattle.spectrum.specs.Floats.{digits_in, place_in, size_in, size_bits}
use Rattle.spectrum.proofs.Differences.{Close}
use Rattle.spectrum.proofs.Sizes.{size_of, size_mono, low_digits, high_digits, low_place}
use Rattle.path.specs.Steps.{product_size, product_word}
use Rattle.path.specs.Ready.{Small}

-- ---- digits and places
shifted : (d k e j : ℕ) → k + j ≤ 252 → d * (e * 128) / 2 ^ (252 - (k + j)) ≡ d * 2 ^ k * (e * 2 ^ j) * 2 ^ 53 / 2 ^ 298
shifted d k e j l = sym (ap₂ ◌/◌ (digits (2 ^ k) (2 ^ j) (2 ^ (k + j + 46)) powers) wide ∙ mul-div-mul_right (d * (e * 128)) (2 ^ (252 - (k + j))) (pow_pos (k + j + 46)))
  where
    powers : 2 ^ (k + j + 46) ≡ 2 ^ k * 2 ^ j * 2 ^ 46
    powers = pow-add 2 (k + j) 46 ∙ ap (λ (x : ℕ). x * 2 ^ 46) (pow-add 2 k j)

    digits : (x y z : ℕ) → z ≡ x * y * 2 ^ 46 → d * x * (e * y) * 2 ^ 53 ≡ d * (e * 128) * z
    digits x y z h = rw h (omega arith)

    wide : 2 ^ 298 ≡ 2 ^ (252 - (k + j)) * 2 ^ (k + j + 46)
    wide = ap (λ (n : ℕ). 2 ^ n) (sum) ∙ pow-add 2 (252 - (k + j)) (k + j + 46)
      where
        sum : 298 ≡ 252 - (k + j) + (k + j + 46)
        sum = omega arith

pub digits_fit : (a b : ℕ) → a < 2 ^ 24 → b < 2 ^ 24 → a * (b * 128) ≤ 2 ^ 55
digits_fit a b l h = le_trans (mul-le-mul (below l) (more h)) (le_of_eq refl)
  where
    below : {a : ℕ} → a < 2 ^ 24 → a ≤ 2 ^ 24
    below l = omega arith

    more : {b : ℕ} → b < 2 ^ 24 → b * 128 ≤ 2 ^ 31
    more l = omega arith

-- ---- a product by the two patterns: normal factors as they are, and of a subnormal one nothing is left
module _ (p q : ℕ) (lp : p ≤ 1065353216) (lq : q ≤ 1065353216) where
  abbrev shifted_digits : ℕ
  shifted_digits = (p % 8388608 + 8388608) * ((q % 8388608 + 8388608) * 128) / 2 ^ (254 - (p / 8388608 + q / 8388608))

  abbrev exact : ℕ
  exact = digits_in p * 2 ^ place_in p * (digits_in q * 2 ^ place_in q) * 2 ^ 53 / 2 ^ 298

  pub few_digits : (p % 8388608 + 8388608) * ((q % 8388608 + 8388608) * 128) ≤ 2 ^ 55
  few_digits = digits_fit (p % 8388608 + 8388608) (q % 8388608 + 8388608) (omega arith) (omega arith)

  normal : 8388608 ≤ p → 8388608 ≤ q → shifted_digits ≡ exact
  unfolding place_in
  normal a b = ap (λ (i : ℕ). (p % 8388608 + 8388608) * ((q % 8388608 + 8388608) * 128) / 2 ^ i) (places a b) ∙ shifted (p % 8388608 + 8388608) (p / 8388608 - 1) (q % 8388608 + 8388608) (q / 8388608 - 1) (omega arith) ∙ ap₂ (λ d e. d * 2 ^ (p / 8388608 - 1) * (e * 2 ^ (q / 8388608 - 1)) * 2 ^ 53 / 2 ^ 298) (sym (high_digits p a)) (sym (high_digits q b))
    where
      places : 8388608 ≤ p → 8388608 ≤ q → 254 - (p / 8388608 + q / 8388608) ≡ 252 - (p / 8388608 - 1 + (q / 8388608 - 1))
      places a b = omega arith

  none : p / 8388608 + q / 8388608 ≤ 127 → 0 ≡ shifted_digits
  none l = sym (div-eq_of_lt (lt_of_le_of_lt few_digits (lt_of_lt_of_le (lit< tt) (pow_mono {i = 56} {j = 254 - (p / 8388608 + q / 8388608)} (omega arith)))))

  -- a factor below 2 ^ 23 and another of at most 1
  nothing : (x y : ℕ) → x ≤ 2 ^ 23 → y ≤ 2 ^ 149 → 0 ≡ x * y * 2 ^ 53 / 2 ^ 298
  nothing x y a b = sym (div-eq_of_lt (lt_of_le_of_lt (mul-le-mul_right (2 ^ 53) (mul-le-mul a b)) (lit< tt)))

  low_size : (b : ℕ) → b < 8388608 → size_in b ≤ 2 ^ 23
  low_size b l = le_trans (le_of_eq (ap₂ (λ d k. d * 2 ^ k) (low_digits b l) (low_place b l) ∙ mul-one b)) (less l)
    where
      less : b < 8388608 → b ≤ 2 ^ 23
      less l = omega arith

  one_size : (b : ℕ) → b ≤ 1065353216 → size_in b ≤ 2 ^ 149
  unfolding digits_in place_in
  one_size b l = le_trans (size_mono b 1065353216 l) (le_of_eq refl)

  pub by_patterns : shifted_digits ≡ exact
  by_patterns = elim (le-or-lt 8388608 p) [
    | inl a ↦ elim (le-or-lt 8388608 q) [
      | inl b ↦ normal a b
      | inr b ↦ sym (none (omega arith)) ∙ nothing (size_in q) (size_in p) (low_size q b) (one_size p lp) ∙ ap (λ (n : ℕ). n * 2 ^ 53 / 2 ^ 298) (mul_comm (size_in q) (size_in p))
    ]
    | inr a ↦ sym (none (omega arith)) ∙ nothing (size_in p) (size_in q) (low_size p a) (one_size q lq)
  ]

-- ---- of 64 digits nothing is left without as many
pub unbounded : (n s : ℕ) → n < 2 ^ 64 → cond (ltb s 64) (n / 2 ^ s) 0 ≡ n / 2 ^ s
unbounded n s l = elim (le-or-lt 64 s) [
  | inl h ↦ rw (le-ltb s 64 h) (sym (div-eq_of_lt (lt_of_lt_of_le l (pow_mono {i = 64} {j = s} h))))
  | inr h ↦ rw (lt-ltb s 64 h) refl
]

-- ---- sizes
full_scale : size_in 1065353216 ≡ 2 ^ 149
unfolding digits_in place_in
full_scale = refl

pub small_size : (x : Float) → Small x → mag x ≤ 2 ^ 149
small_size x s = le_trans (le_of_eq (size_of x s.number)) (le_trans (size_mono (size_bits x) 1065353216 s.bits) (le_of_eq full_scale))

pub product-size : (x w : Float) → Small x → Small w → digits_in (size_bits x) * 2 ^ place_in (size_bits x) * (digits_in (size_bits w) * 2 ^ place_in (size_bits w)) * 2 ^ 53 / 2 ^ 298 ≡ product_size x w
unfolding product_size
product-size x w sx sw = ap₂ (λ a b. a * b * 2 ^ 53 / 2 ^ 298) (sym (size_of x sx.number)) (sym (size_of w sw.number))

pub product_most : (x w : Float) → Small x → Small w → product_size x w ≤ 2 ^ 53
unfolding product_size
product_most x w sx sw = le_of_mul-le-mul_right (le_trans (div-mul-le_self (mag x * mag w * 2 ^ 53) (2 ^ 298)) (le_trans (mul-le-mul_right (2 ^ 53) (mul-le-mul (small_size x sx) (small_size w sw))) (le_of_eq same))) (pow_pos 298)
  where
    same : 2 ^ 149 * 2 ^ 149 * 2 ^ 53 ≡ 2 ^ 53 * 2 ^ 298
    same = refl

-- ---- signs
sign : (x : Float) → Number x → (s : Bool) → negative x ≡ s → to_bits binary32 x / 2147483648 ≡ cond s 1 0
sign x n s h = (packed_of x n).top_bit ∙ ap (λ (b : Bool). cond b 1 0) h

pub clear : (x : Float) → Number x → to_bits binary32 x < 2147483648 → negative x ≡ false
clear x n l = go (negative x) refl
  where
    go : (s : Bool) → negative x ≡ s → negative x ≡ false
    go false e = e
    go true e = absurd (wrong (sign x n true e))
      where
        wrong : to_bits binary32 x / 2147483648 ≡ 1 → ⊥
        wrong f = omega arith

pub set : (x : Float) → Number x → 2147483648 ≤ to_bits binary32 x → negative x ≡ true
set x n l = go (negative x) refl
  where
    go : (s : Bool) → negative x ≡ s → negative x ≡ true
    go true e = e
    go false e = absurd (wrong (sign x n false e))
      where
        wrong : to_bits binary32 x / 2147483648 ≡ 0 → ⊥
        wrong f = omega arith

-- ---- the word
module _ (x w : Float) where
  pub word_is : (a b : Bool) → negative x ≡ a → negative w ≡ b → product_word x w ≡ cond a (cond b (unit + product_size x w) (unit - product_size x w)) (cond b (unit - product_size x w) (unit + product_size x w))
  unfolding product_word
  word_is a b e f = rw (e, f) refl

  module _ (sx : Small x) (sw : Small w) where
    pub word_small : SmallWord (product_word x w)
    word_small = go (negative x) (negative w) refl refl
      where
        go : (a b : Bool) → negative x ≡ a → negative w ≡ b → SmallWord (product_word x w)
        go a b e f = subst SmallWord (sym (word_is a b e f)) (either a b (product_size x w) (product_most x w sx sw))
          where
            either : (a b : Bool) (q : ℕ) → q ≤ 2 ^ 53 → SmallWord (cond a (cond b (unit + q) (unit - q)) (cond b (unit - q) (unit + q)))
            either true true q l = record { least = omega arith; most = omega arith }
            either true false q l = record { least = omega arith; most = omega arith }
            either false true q l = record { least = omega arith; most = omega arith }
            either false false q l = record { least = omega arith; most = omega arith }

    -- cut off by less than a unit
    pub word_near : Close (2 ^ 298) (times (whole (2 ^ 298)) (value_of (product_word x w))) (times (whole (2 ^ 53)) (times (units_of x) (units_of w)))
    unfolding product_size
    word_near = go (negative x) (negative w) refl refl
      where
        q : ℕ
        q = product_size x w

        up : (m E q : ℕ) (D : Difference) → D.plus ≡ m → D.minus ≡ 0 → q * E ≤ m * 2 ^ 53 → m * 2 ^ 53 < q * E + E → q ≤ 2 ^ 53 → Close E (times (whole E) (value_of (unit + q))) (times (whole (2 ^ 53)) D)
        up m E q D e f l h few = positive (unit + q - unit) (unit - (unit + q)) (omega arith) (omega arith)
          where
            positive : (a b : ℕ) → a ≡ q → b ≡ 0 → Close E (times (whole E) (record { plus = a; minus = b })) (times (whole (2 ^ 53)) D)
            positive a b f' g = rw (f', g) (record { most = omega arith; least = omega arith })

        down : (m E q : ℕ) (D : Difference) → D.plus ≡ 0 → D.minus ≡ m → q * E ≤ m * 2 ^ 53 → m * 2 ^ 53 < q * E + E → q ≤ 2 ^ 53 → Close E (times (whole E) (value_of (unit - q))) (times (whole (2 ^ 53)) D)
        down m E q D e f l h few = negated (unit - q - unit) (unit - (unit - q)) (omega arith) (omega arith)
          where
            negated : (a b : ℕ) → a ≡ 0 → b ≡ q → Close E (times (whole E) (record { plus = a; minus = b })) (times (whole (2 ^ 53)) D)
            negated a b f' g = rw (f', g) (record { most = omega arith; least = omega arith })

        least : mag x * mag w * 2 ^ 53 / 2 ^ 298 * 2 ^ 298 ≤ mag x * mag w * 2 ^ 53
        least = div-mul-le_self (mag x * mag w * 2 ^ 53) (2 ^ 298)

        most : mag x * mag w * 2 ^ 53 < mag x * mag w * 2 ^ 53 / 2 ^ 298 * 2 ^ 298 + 2 ^ 298
        most = lt-div-mul-add (pow_pos 298)

        few : mag x * mag w * 2 ^ 53 / 2 ^ 298 ≤ 2 ^ 53
        few = product_most x w sx sw

        Near : Bool → Bool → ℕ → Type 0
        Near a b v = Close (2 ^ 298) (times (whole (2 ^ 298)) (value_of v)) (times (whole (2 ^ 53)) (times (record { plus = cond a 0 (mag x); minus = cond a (mag x) 0 }) (record { plus = cond b 0 (mag w); minus = cond b (mag w) 0 })))

        cases : (a b : Bool) → Near a b (cond a (cond b (unit + product_size x w) (unit - product_size x w)) (cond b (unit - product_size x w) (unit + product_size x w)))
        cases true true = up (mag x * mag w) (2 ^ 298) (mag x * mag w * 2 ^ 53 / 2 ^ 298) _ (omega arith) (omega arith) least most few
        cases true false = down (mag x * mag w) (2 ^ 298) (mag x * mag w * 2 ^ 53 / 2 ^ 298) _ (omega arith) (omega arith) least most few
        cases false true = down (mag x * mag w) (2 ^ 298) (mag x * mag w * 2 ^ 53 / 2 ^ 298) _ (omega arith) (omega arith) least most few
        cases false false = up (mag x * mag w) (2 ^ 298) (mag x * mag w * 2 ^ 53 / 2 ^ 298) _ (omega arith) (omega arith) least most few

        go : (a b : Bool) → negative x ≡ a → negative w ≡ b → Close (2 ^ 298) (times (whole (2 ^ 298)) (value_of (product_word x w))) (times (whole (2 ^ 53)) (times (units_of x) (units_of w)))
        go a b e f = rw (word_is a b e f, e, f) (cases a b)
