-- Ratios of logarithms without logarithms: log (a / b) / log (m / b) compared with the fraction j / k is (a / b) ^ k compared with (m / b) ^ j.
-- Bounds on the logarithms of a, b and m decide it.
use mathlib.Core.Path.{◌≡◌}
use Prim.Native.Nat.{ℕ, ◌+◌, ◌*◌, ◌^◌, ◌≤◌}
use native.Mathlib.Nat.{le_of_eq, not-le_of_lt, lt_of_not-le, mul-pos, mul-le-mul_right, le_of_mul-le-mul_right, one-le-pow}
use native.Mathlib.Decide.{dec_le}
use native.Mathlib.Omega.{arith}
use lib.Pow.{pow-add, pow-lt}
use Rattle.exact.specs.Power.{AtMost, AtLeast}
use Rattle.exact.proofs.Power.{at_most, at_least, products-pow, pow-mul, pow_swap, most_mul, least_mul, most_of_larger, least_of_smaller, through_power}

-- a bound to a power: (n / d) ^ k is at most 2 ^ (e k) where n / d is at most 2 ^ e
pub most_pow : {n d p m q : ℕ} (k : ℕ) → AtMost n d p m q → AtMost (n ^ k) (d ^ k) (p * k) (m * k) q
most_pow {n} {d} {p} {m} {q} k h = record {
  per = one-le-pow k d h.per;
  root = h.root;
  holds = rw (pow_swap n k q, pow_swap d k q, pow-mul 2 m k, pow-mul 2 p k) (products-pow (n ^ q) (2 ^ m) (2 ^ p) (d ^ q) k h.holds);
}

-- (n / d) ^ k is at least 2 ^ (e k) where n / d is at least 2 ^ e
pub least_pow : {n d p m q : ℕ} (k : ℕ) → AtLeast n d p m q → AtLeast (n ^ k) (d ^ k) (p * k) (m * k) q
least_pow {d} k h = at_least (one-le-pow k d h.per) (most_pow k (at_most h))

-- a ^ k b ^ j ≤ c ^ k e ^ j where bounds on the logarithms say so; with c = b and e = m that is (a / b) ^ k ≤ (m / b) ^ j. All four are parts of D
pub products : {a b c e D x y z w m q : ℕ} (k j : ℕ) → AtMost a D x m q → AtMost b D y m q → AtLeast c D z m q → AtLeast e D w m q
    → x * k + y * j ≤ z * k + w * j → a ^ k * b ^ j ≤ c ^ k * e ^ j
products {a} {b} {c} {e} {D} {x} {y} {z} {w} {m} {q} k j ha hb hc he l =
    le_of_mul-le-mul_right (through_power left (least_mul (least_pow k hc) (least_pow j he))) (mul-pos (one-le-pow k D ha.per) (one-le-pow j D ha.per))
  where
    left : AtMost (a ^ k * b ^ j) (D ^ k * D ^ j) (z * k + w * j) (m * k + m * j) q
    left = most_of_larger ha.root (widen (x * k + y * j) (z * k + w * j) ((m * k + m * j) * q) l) (most_mul (most_pow k ha) (most_pow j hb))
      where
        widen : (s t r : ℕ) → s ≤ t → s * q + r ≤ t * q + r
        widen s t r h = omega (arith, mul-le-mul_right q h)

-- ---- exponents are in the order of their powers
-- 2 ^ e ≤ n / d ≤ 2 ^ e' gives e ≤ e', over one denominator
pub exponents_over : {n d p m p' m' q : ℕ} → AtLeast n d p m q → AtMost n d p' m' q → p + m' ≤ p' + m
exponents_over {n} {d} {p} {m} {p'} {m'} {q} l h =
    ordered (p + m') (p' + m) (rw (pow-add 2 p m', pow-add 2 p' m) (le_of_mul-le-mul_right (through (2 ^ p) (2 ^ m) (2 ^ p') (2 ^ m') (d ^ q) (n ^ q) l.holds h.holds) (one-le-pow q d l.per)))
  where
    through : (A B A' B' D G : ℕ) → A * D ≤ G * B → G * B' ≤ A' * D → A * B' * D ≤ A' * B * D
    through A B A' B' D G a b = omega (arith, mul-le-mul_right B' a, mul-le-mul_right B b)

    ordered : (i j : ℕ) → 2 ^ i ≤ 2 ^ j → i ≤ j
    ordered i j h = elim (dec_le i j) [ yes k ↦ k | no k ↦ absurd (not-le_of_lt (pow-lt (lt_of_not-le k)) h) ]

-- and over any two
pub exponents : {n d p m q p' m' q' : ℕ} → AtLeast n d p m q → AtMost n d p' m' q' → p * q' + m' * q ≤ p' * q + m * q'
exponents {n} {d} {p} {m} {q} {p'} {m'} {q'} l h =
    exponents_over {q = q * q'}
    (least_of_smaller (mul-pos l.root h.root) (le_of_eq (same p m q q')) l)
    (most_of_larger (mul-pos l.root h.root) (le_of_eq (other p' m' q q')) h)
  where
    same : (a b i j : ℕ) → a * j * i + b * (i * j) ≡ a * (i * j) + b * j * i
    same a b i j = omega arith

    other : (a b i j : ℕ) → a * (i * j) + b * i * j ≡ a * i * j + b * (i * j)
    other a b i j = omega arith
