-- Laws of `AtMost` and `AtLeast`: they speak of the numbers n / d and (p - m) / q, not of how these are written, and obey the order and the product of powers.
-- Each law is shown of `AtMost`; its mirror image is the same law of the reciprocal, d / n against 2 ^ ((m - p) / q).
use mathlib.Core.Path.{◌≡◌, refl}
use Prim.Native.Nat.{ℕ, zero, suc, ◌+◌, ◌*◌, ◌^◌, ◌≤◌, ◌<◌}
use native.Mathlib.Nat.{le_trans, one-le-mul, zero-mul, le_of_eq, mul_comm, mul-one, mul-zero, mul-mul-mul_comm, pow-zero, pow-suc, mul-suc, mul-le-mul, mul-le-mul_right, le_of_mul-le-mul_right, lt_of_not-le, not-le_of_lt, pow-le-pow_left, pow-lt-pow_left, one-le-pow, ne_of_gt}
use native.Mathlib.Decide.{dec_le}
use native.Mathlib.Omega.{arith}
use lib.Pow.{pow-add, pow_pos, pow_mono}
use Rattle.exact.specs.Power.{AtMost, AtLeast}

-- ---- powers of whole numbers

-- the first power
pub pow-one : (a : ℕ) → a ^ 1 ≡ a
pow-one a = rw (pow-suc a 0, pow-zero) (omega arith)

-- powers of 1
pub one-pow : (k : ℕ) → 1 ^ k ≡ 1
one-pow zero = refl
one-pow (suc k) = rw (pow-suc, one-pow k) refl

-- the square
pub pow-two : (a : ℕ) → a ^ 2 ≡ a * a
pow-two a = rw (pow-suc a 1, pow-one) refl

-- a product to a power
pub mul-pow : (a b k : ℕ) → (a * b) ^ k ≡ a ^ k * b ^ k
mul-pow a b zero = simp (pow-zero, mul-one)
mul-pow a b (suc k) = rw (pow-suc, pow-suc, pow-suc, mul-pow a b k) (mul-mul-mul_comm (a ^ k) (b ^ k) a b)

-- an order of products, to a power
pub products-pow : (a b c d k : ℕ) → a * b ≤ c * d → a ^ k * b ^ k ≤ c ^ k * d ^ k
products-pow a b c d k h = rw (← mul-pow a b k, ← mul-pow c d k) (pow-le-pow_left h k)

-- a power to a power
pub pow-mul : (a i j : ℕ) → a ^ (i * j) ≡ (a ^ i) ^ j
pow-mul a i zero = simp (mul-zero, pow-zero)
pow-mul a i (suc j) = rw (mul-suc, pow-add, pow-suc, pow-mul a i j) refl

-- the two exponents of a power to a power change places
pub pow_swap : (a i j : ℕ) → (a ^ i) ^ j ≡ (a ^ j) ^ i
pow_swap a i j = rw (← pow-mul, ← pow-mul, mul_comm i j) refl

-- a root keeps order
pub le_of_pow-le : {a b : ℕ} (q : ℕ) → 0 < q → a ^ q ≤ b ^ q → a ≤ b
le_of_pow-le {a} {b} q pos h = elim (dec_le a b) [ yes l ↦ l | no n ↦ absurd (not-le_of_lt (pow-lt-pow_left (lt_of_not-le n) (ne_of_gt pos)) h) ]

-- ---- signs

pos_of_pow : (n q k : ℕ) → 0 < q → 0 < n ^ q * k → 0 < n
pos_of_pow n zero k pos h = absurd (omega arith)
pos_of_pow zero (suc q) k pos h = absurd (omega (arith, rw (pow-suc 0 q, mul-zero, zero-mul) at h))
pos_of_pow (suc n) (suc q) k pos h = omega arith

-- what is at least a power of two is above zero
pub least_pos : {n d p m q : ℕ} → AtLeast n d p m q → 0 < n
least_pos {n} {d} {p} {m} {q} h = pos_of_pow n q (2 ^ m) h.root (le_trans (one-le-mul (pow_pos p) (one-le-pow q d h.per)) h.holds)

-- ---- the reciprocal

-- n / d is at most 2 ^ e where d / n is at least 2 ^ -e
pub at_most : {n d p m q : ℕ} → AtLeast d n m p q → AtMost n d p m q
at_most {n} {d} {p} {m} {q} h = record { per = least_pos h; root = h.root; holds = rw (mul_comm (n ^ q), mul_comm (2 ^ p)) h.holds }

-- n / d is at least 2 ^ e where d / n is at most 2 ^ -e
pub at_least : {n d p m q : ℕ} → 0 < d → AtMost d n m p q → AtLeast n d p m q
at_least {n} {d} {p} {m} {q} pos h = record { per = pos; root = h.root; holds = rw (mul_comm (n ^ q), mul_comm (2 ^ p)) h.holds }

-- ---- smaller fractions

-- a fraction n' / d' ≤ n / d is at most what n / d is at most
pub most_of_less : {n d n' d' p m q : ℕ} → 0 < d' → n' * d ≤ n * d' → AtMost n d p m q → AtMost n' d' p m q
most_of_less {n} {d} {n'} {d'} {p} {m} {q} pos less h = record { per = pos; root = h.root; holds = le_of_mul-le-mul_right crossed (one-le-pow q d h.per) }
  where
    powers : n' ^ q * d ^ q ≤ n ^ q * d' ^ q
    powers = products-pow n' d n d' q less

    through : (nq mq pq dq n'q d'q : ℕ) → n'q * dq ≤ nq * d'q → nq * mq ≤ pq * dq → n'q * mq * dq ≤ pq * d'q * dq
    through nq mq pq dq n'q d'q a b = omega (arith, mul-le-mul_right mq a, mul-le-mul_right d'q b)

    crossed : n' ^ q * 2 ^ m * d ^ q ≤ 2 ^ p * d' ^ q * d ^ q
    crossed = through (n ^ q) (2 ^ m) (2 ^ p) (d ^ q) (n' ^ q) (d' ^ q) powers h.holds

-- a fraction n' / d' ≥ n / d is at least what n / d is at least
pub least_of_more : {n d n' d' p m q : ℕ} → 0 < d' → n * d' ≤ n' * d → AtLeast n d p m q → AtLeast n' d' p m q
least_of_more {n} {d} {n'} {d'} pos more h = at_least pos (most_of_less (more_pos (least_pos h)) (rw (mul_comm d' n, mul_comm d n') more) (at_most h))
  where
    more_pos : 0 < n → 0 < n'
    more_pos npos = positive n' (n * d') (one-le-mul npos pos) more
      where
        positive : (k l : ℕ) → 0 < l → l ≤ k * d → 0 < k
        positive zero l lpos h = absurd (omega (arith, zero-mul d))
        positive (suc k) l lpos h = omega arith

-- ---- larger exponents

-- what is at most 2 ^ e is at most 2 ^ e', for e = (p - m) / q ≤ e' = (p' - m') / q'; with e = e', one number written in two ways
pub most_of_larger : {n d p m q p' m' q' : ℕ} → 0 < q' → p * q' + m' * q ≤ p' * q + m * q' → AtMost n d p m q → AtMost n d p' m' q'
most_of_larger {n} {d} {p} {m} {q} {p'} {m'} {q'} pos larger h = record { per = h.per; root = pos; holds = le_of_pow-le q h.root rooted }
  where
    raised : (n ^ q) ^ q' * 2 ^ (m * q') ≤ 2 ^ (p * q') * (d ^ q) ^ q'
    raised = rw (pow-mul 2 m q', pow-mul 2 p q') (products-pow (n ^ q) (2 ^ m) (2 ^ p) (d ^ q) q' h.holds)

    exponents : 2 ^ (p * q') * 2 ^ (m' * q) ≤ 2 ^ (p' * q) * 2 ^ (m * q')
    exponents = rw (← pow-add 2 (p * q') (m' * q), ← pow-add 2 (p' * q) (m * q')) (pow_mono larger)

    through : (N D A A' B B' : ℕ) → N * B ≤ A * D → A * B' ≤ A' * B → N * B' * B ≤ A' * D * B
    through N D A A' B B' a b = omega (arith, mul-le-mul_right B' a, mul-le-mul_right D b)

    crossed : (n ^ q) ^ q' * 2 ^ (m' * q) ≤ 2 ^ (p' * q) * (d ^ q) ^ q'
    crossed = le_of_mul-le-mul_right (through _ _ _ _ _ _ raised exponents) (pow_pos (m * q'))

    rooted : (n ^ q' * 2 ^ m') ^ q ≤ (2 ^ p' * d ^ q') ^ q
    rooted = rw (mul-pow (n ^ q') (2 ^ m') q, mul-pow (2 ^ p') (d ^ q') q, ← pow-mul 2 m' q, ← pow-mul 2 p' q, pow_swap n q' q, pow_swap d q' q) crossed

-- what is at least 2 ^ e is at least 2 ^ e', for e' = (p' - m') / q' ≤ e = (p - m) / q
pub least_of_smaller : {n d p m q p' m' q' : ℕ} → 0 < q' → p' * q + m * q' ≤ p * q' + m' * q → AtLeast n d p m q → AtLeast n d p' m' q'
least_of_smaller {p} {m} {q} {p'} {m'} {q'} pos smaller h = at_least h.per (most_of_larger pos (omega arith) (at_most h))

-- ---- through a power of two

-- n / d ≤ 2 ^ e and 2 ^ e ≤ n' / d' give n / d ≤ n' / d'
pub through_power : {n d n' d' p m q : ℕ} → AtMost n d p m q → AtLeast n' d' p m q → n * d' ≤ n' * d
through_power {n} {d} {n'} {d'} {p} {m} {q} below above = le_of_pow-le q below.root (rw (mul-pow, mul-pow) (le_of_mul-le-mul_right crossed (pow_pos m)))
  where
    through : (nq mq pq dq n'q d'q : ℕ) → nq * mq ≤ pq * dq → pq * d'q ≤ n'q * mq → nq * d'q * mq ≤ n'q * dq * mq
    through nq mq pq dq n'q d'q a b = omega (arith, mul-le-mul_right d'q a, mul-le-mul_right dq b)

    crossed : n ^ q * d' ^ q * 2 ^ m ≤ n' ^ q * d ^ q * 2 ^ m
    crossed = through (n ^ q) (2 ^ m) (2 ^ p) (d ^ q) (n' ^ q) (d' ^ q) below.holds above.holds

-- ---- products

-- n / d ≤ 2 ^ e and n' / d' ≤ 2 ^ e' give (n n') / (d d') ≤ 2 ^ (e + e'), over one denominator of the exponents
pub most_mul : {n d n' d' p m p' m' q : ℕ} → AtMost n d p m q → AtMost n' d' p' m' q → AtMost (n * n') (d * d') (p + p') (m + m') q
most_mul {n} {d} {n'} {d'} {p} {m} {p'} {m'} {q} h h' = record { per = one-le-mul h.per h'.per; root = h.root; holds = rw (mul-pow, mul-pow, pow-add 2 m m', pow-add 2 p p') both }
  where
    both : n ^ q * n' ^ q * (2 ^ m * 2 ^ m') ≤ 2 ^ p * 2 ^ p' * (d ^ q * d' ^ q)
    both = rw (mul-mul-mul_comm (n ^ q) (n' ^ q), mul-mul-mul_comm (2 ^ p) (2 ^ p')) (mul-le-mul h.holds h'.holds)

-- 2 ^ e ≤ n / d and 2 ^ e' ≤ n' / d' give 2 ^ (e + e') ≤ (n n') / (d d')
pub least_mul : {n d n' d' p m p' m' q : ℕ} → AtLeast n d p m q → AtLeast n' d' p' m' q → AtLeast (n * n') (d * d') (p + p') (m + m') q
least_mul h h' = at_least (one-le-mul h.per h'.per) (most_mul (at_most h) (at_most h'))

-- ---- whole powers of two

-- n 2 ^ k / (d 2 ^ j) is at most 2 ^ (e + k - j) where n / d is at most 2 ^ e
pub most_shift : {n d p m q : ℕ} (k j : ℕ) → AtMost n d p m q → AtMost (n * 2 ^ k) (d * 2 ^ j) (p + k * q) (m + j * q) q
most_shift {q} k j h = most_mul h (record { per = pow_pos j; root = h.root; holds = le_of_eq (rw (pow-mul, pow-mul) refl) })

-- n 2 ^ k / (d 2 ^ j) is at least 2 ^ (e + k - j) where n / d is at least 2 ^ e
pub least_shift : {n d p m q : ℕ} (k j : ℕ) → AtLeast n d p m q → AtLeast (n * 2 ^ k) (d * 2 ^ j) (p + k * q) (m + j * q) q
least_shift k j h = at_least (one-le-mul h.per (pow_pos j)) (most_shift j k (at_most h))
