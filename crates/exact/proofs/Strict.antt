-- Laws of `LessThan` and `MoreThan`, from those of `AtMost` and `AtLeast`. Assumes nothing.
use Prim.Native.Nat.{ℕ, zero, suc, ◌*◌, ◌^◌, ◌≤◌, ◌<◌}
use native.Mathlib.Nat.{mul_comm, mul-le-mul_right, mul-lt-mul_of_pos_right, lt_of_mul-lt-mul_right, lt_of_lt_of_le, lt_of_le_of_lt, le_of_lt, not-le_of_lt, pow-le-pow_left, pow-lt-pow_left, ne_of_gt, zero-mul}
use native.Mathlib.Omega.{arith}
use lib.Pow.{pow_pos}
use Rattle.exact.specs.Power.{AtMost, AtLeast, LessThan, MoreThan}
use Rattle.exact.proofs.Power.{mul-pow, at_most}

-- a fraction n' / d' < n / d is less than what n / d is at most
pub less_of_less : {n d n' d' p m q : ℕ} → 0 < d' → n' * d < n * d' → AtMost n d p m q → LessThan n' d' p m q
less_of_less {n} {d} {n'} {d'} {p} {m} {q} pos less h = record { per = pos; root = h.root; holds = lt_of_mul-lt-mul_right (d ^ q) crossed }
  where
    powers : n' ^ q * d ^ q < n ^ q * d' ^ q
    powers = rw (← mul-pow n' d q, ← mul-pow n d' q) (pow-lt-pow_left less (ne_of_gt h.root))

    through : (nq mq pq dq n'q d'q : ℕ) → 0 < mq → n'q * dq < nq * d'q → nq * mq ≤ pq * dq → n'q * mq * dq < pq * d'q * dq
    through nq mq pq dq n'q d'q pos a b = omega (arith, mul-lt-mul_of_pos_right a pos, mul-le-mul_right d'q b)

    crossed : n' ^ q * 2 ^ m * d ^ q < 2 ^ p * d' ^ q * d ^ q
    crossed = through (n ^ q) (2 ^ m) (2 ^ p) (d ^ q) (n' ^ q) (d' ^ q) (pow_pos m) powers h.holds

-- a fraction n' / d' > n / d is more than what n / d is at least
pub more_of_more : {n d n' d' p m q : ℕ} → 0 < d' → n * d' < n' * d → AtLeast n d p m q → MoreThan n' d' p m q
more_of_more {n} {d} {n'} {d'} {p} {m} {q} pos more h = record { per = pos; root = h.root; holds = rw (mul_comm (n' ^ q), mul_comm (2 ^ p)) mirrored.holds }
  where
    positive : (k l : ℕ) → l < k * d → 0 < k
    positive zero l k = absurd (omega (arith, zero-mul d))
    positive (suc k) l h = omega arith

    mirrored : LessThan d' n' m p q
    mirrored = less_of_less (positive n' (n * d') more) (rw (mul_comm d' n, mul_comm d n') more) (at_most h)

-- over one denominator a larger numerator is more, and a smaller one less
pub more_grows : {n n' d p m q : ℕ} → n ≤ n' → MoreThan n d p m q → MoreThan n' d p m q
more_grows {m} {q} l h = record { per = h.per; root = h.root; holds = lt_of_lt_of_le h.holds (mul-le-mul_right (2 ^ m) (pow-le-pow_left l q)) }

pub less_falls : {n n' d p m q : ℕ} → n ≤ n' → LessThan n' d p m q → LessThan n d p m q
less_falls {m} {q} l h = record { per = h.per; root = h.root; holds = lt_of_le_of_lt (mul-le-mul_right (2 ^ m) (pow-le-pow_left l q)) h.holds }

-- what is less is at most
pub less_most : {n d p m q : ℕ} → LessThan n d p m q → AtMost n d p m q
less_most h = record { per = h.per; root = h.root; holds = le_of_lt h.holds }

-- what is more is at least
pub more_least : {n d p m q : ℕ} → MoreThan n d p m q → AtLeast n d p m q
more_least h = record { per = h.per; root = h.root; holds = le_of_lt h.holds }

-- nothing is at most and more
pub not_both : {n d p m q : ℕ} → AtMost n d p m q → MoreThan n d p m q → ⊥
not_both l m = not-le_of_lt m.holds l.holds
