-- The reciprocal of the sum, by one division: the sum's first 32 digits rounded up, the quotient rounded down, so that no weight passes 1. Assumes nothing.
use mathlib.Core.Path.{◌≡◌, sym, ap, ◌∙◌}
use mathlib.Core.Logic.{inl, inr}
use Prim.Native.Nat.{ℕ, ◌+◌, ◌-◌, ◌*◌, ◌/◌, ◌^◌, ◌≤◌, ◌<◌}
use native.Mathlib.Nat.{mul-le-mul_right, div-mul-le_self, lt-div-mul-add}
use native.Mathlib.Omega.{arith}
use lib.Pow.{pow-add}
use Rattle.units.proofs.Naturals.{le-or-lt}
use Rattle.weights.specs.Value.{inverse_of}
use Rattle.weights.specs.Weight.{AtMostOne}
use Rattle.weights.proofs.Aligning.{Aligned}

-- r 2 ^ -c is the reciprocal of s 2 ^ e, at most 6 parts in 2 ^ 32 below it
pub record Reciprocal (s e r c : ℕ) : Type 0 where
  pub most : s * r * 2 ^ e ≤ 2 ^ 94 * 2 ^ c
  pub least : (2 ^ 32 - 6) * (2 ^ 94 * 2 ^ c) ≤ 2 ^ 32 * (s * r * 2 ^ e)

-- the sum t of all powers is scaled to 1, or at most 7 parts in 2 ^ 32 less
pub record Inverse (t r c : ℕ) : Type 0 where
  pub most : AtMostOne t r c
  pub least : (2 ^ 32 - 7) * (2 ^ 74 * 2 ^ c) ≤ 2 ^ 32 * (t * r)

-- ---- a number N of 64 digits
-- its first 32 digits, rounded up
abbrev first_digits : ℕ → ℕ
first_digits N = N / 4294967296 + 1

-- their reciprocal
abbrev quotient_of : ℕ → ℕ
quotient_of N = 4611686018427387904 / first_digits N

module _ (N : ℕ) (low : 2 ^ 63 ≤ N) (high : N < 2 ^ 64) where
  abbrev d : ℕ
  d = first_digits N

  abbrev R : ℕ
  R = quotient_of N

  not_more : R * d ≤ 2 ^ 62
  not_more = div-mul-le_self 4611686018427387904 d

  not_less : 2 ^ 62 < R * d + d
  not_less = lt-div-mul-add (omega arith)

  -- the quotient has 31 digits
  digits_least : 2 ^ 30 ≤ R
  digits_least = elim (le-or-lt (2 ^ 30) R) [ inl h ↦ h | inr h ↦ absurd (short R d (omega arith) not_less h) ]
    where
      short : (R d : ℕ) → d ≤ 2 ^ 32 → 2 ^ 62 < R * d + d → R < 2 ^ 30 → ⊥
      short R d a b h = omega (arith, mul-le-mul_right d h)

  digits_most : R < 2 ^ 31
  digits_most = elim (le-or-lt (2 ^ 31) R) [ inl h ↦ absurd (long R d (omega arith) not_more h) | inr h ↦ h ]
    where
      long : (R d : ℕ) → 2 ^ 31 < d → R * d ≤ 2 ^ 62 → 2 ^ 31 ≤ R → ⊥
      long R d a b h = omega (arith, mul-le-mul_right d h)

  -- N R is at most 2 ^ 94, and at most 6 parts in 2 ^ 32 less
  product_most : N * R ≤ 2 ^ 94
  product_most = through N R d (omega arith) not_more
    where
      through : (N R d : ℕ) → N ≤ d * 4294967296 → R * d ≤ 2 ^ 62 → N * R ≤ 2 ^ 94
      through N R d h k = omega (arith, mul-le-mul_right R h)

  product_least : (2 ^ 32 - 6) * 2 ^ 94 ≤ 2 ^ 32 * (N * R)
  product_least = through N R d (omega arith) (omega arith) not_less digits_most
    where
      through : (N R d : ℕ) → d * 4294967296 ≤ N + 4294967296 → d ≤ 2 ^ 32 → 2 ^ 62 < R * d + d → R < 2 ^ 31 → (2 ^ 32 - 6) * 2 ^ 94 ≤ 2 ^ 32 * (N * R)
      through N R d h l k m = omega (arith, mul-le-mul_right R h)

-- ---- the sum s in steps of the exponent e, shifted to 64 digits by z
module _ (s z : ℕ) (low : 2 ^ 63 ≤ s * 2 ^ z) (high : s * 2 ^ z < 2 ^ 64) where
  pub inverse_least : 2 ^ 30 ≤ inverse_of s z
  unfolding inverse_of
  inverse_least = digits_least (s * 2 ^ z) low high

  pub inverse_most : inverse_of s z < 2 ^ 31
  unfolding inverse_of
  inverse_most = digits_most (s * 2 ^ z) low high

  pub reciprocal_of : (e c : ℕ) → z + c ≡ e → Reciprocal s e (inverse_of s z) c
  unfolding inverse_of
  reciprocal_of e c whole = record {
    most = rw shifted (mul-le-mul_right (2 ^ c) (product_most (s * 2 ^ z) low high));
    least = rw shifted (scaled (2 ^ 32 - 6) (2 ^ 94) (2 ^ 32) (s * 2 ^ z * quotient_of (s * 2 ^ z)) (2 ^ c) (product_least (s * 2 ^ z) low high));
  }
    where
      shifted : s * quotient_of (s * 2 ^ z) * 2 ^ e ≡ s * 2 ^ z * quotient_of (s * 2 ^ z) * 2 ^ c
      shifted = ap (λ (i : ℕ). s * quotient_of (s * 2 ^ z) * i) (ap (λ (i : ℕ). 2 ^ i) (sym whole) ∙ pow-add 2 z c) ∙ moved s (quotient_of (s * 2 ^ z)) (2 ^ z) (2 ^ c)
        where
          moved : (s r Z C : ℕ) → s * r * (Z * C) ≡ s * Z * r * C
          moved s r Z C = omega arith

      scaled : (k m D p C : ℕ) → k * m ≤ D * p → k * (m * C) ≤ D * (p * C)
      scaled k m D p C h = omega (arith, mul-le-mul_right C h)

-- ---- the reciprocal of the sum is that of the powers t: of at most 1,024 there are as many steps too many, of 2 ^ 52 and more
pub inverse_of_lem : (t s e k r c : ℕ) → Aligned t e k s → Reciprocal s e r c → 2 ^ 52 ≤ s → k ≤ 1024 → Inverse t r c
inverse_of_lem t s e k r c a b many few = record {
  most = up_to (2 ^ e) (2 ^ c) a.least b.most;
  least = from (2 ^ e) (2 ^ c) a.most b.least b.most;
}
  where
    up_to : (U C : ℕ) → t * 2 ^ 20 ≤ s * U → s * r * U ≤ 2 ^ 94 * C → t * r ≤ 2 ^ 74 * C
    up_to U C h g = omega (arith, mul-le-mul_right r h)

    -- the steps too many
    extra : (U C : ℕ) → s * r * U ≤ 2 ^ 94 * C → k * U * r * 2 ^ 22 ≤ 2 ^ 74 * C
    extra U C g = omega (arith, mul-le-mul_right (r * U) many, mul-le-mul_right (U * r) few)

    enough : (X Y Z E : ℕ) → X ≤ Y * 2 ^ 20 + Z → (2 ^ 32 - 6) * (2 ^ 20 * E) ≤ 2 ^ 32 * X → Z * 2 ^ 22 ≤ E → (2 ^ 32 - 7) * E ≤ 2 ^ 32 * Y
    enough X Y Z E h g m = omega arith

    from : (U C : ℕ) → s * U ≤ t * 2 ^ 20 + k * U → (2 ^ 32 - 6) * (2 ^ 94 * C) ≤ 2 ^ 32 * (s * r * U) → s * r * U ≤ 2 ^ 94 * C → (2 ^ 32 - 7) * (2 ^ 74 * C) ≤ 2 ^ 32 * (t * r)
    from U C h g m =
        let x : s * r * U ≤ t * r * 2 ^ 20 + k * U * r = omega (arith, mul-le-mul_right r h) in
        let w : 2 ^ 94 * C ≡ 2 ^ 20 * (2 ^ 74 * C) = omega arith in
        enough (s * r * U) (t * r) (k * U * r) (2 ^ 74 * C) x (rw w at g) (extra U C m)
