-- `LessThan` and `MoreThan` by what they exclude: so their laws in the exponent, and of the reciprocal, are those of `AtMost` and `AtLeast`. Assumes nothing.
use Prim.Native.Nat.{ℕ, ◌+◌, ◌*◌, ◌^◌, ◌≤◌, ◌<◌}
use native.Mathlib.Nat.{mul_comm, le_trans, le_of_eq, add-mul, mul-le-mul_right, not-le_of_lt, lt_of_not-le}
use mathlib.Core.Path.{sym}
use Rattle.exact.specs.Power.{AtMost, AtLeast, LessThan, MoreThan}
use Rattle.exact.proofs.Power.{least_pos, most_of_less, most_of_larger, least_of_smaller}
use Rattle.exact.proofs.Ratio.{exponents}
use Rattle.exact.proofs.Strict.{less_most, more_least, not_both}

-- what is not at least is less
pub less_of_not : {n d p m q : ℕ} → 0 < d → 0 < q → (AtLeast n d p m q → ⊥) → LessThan n d p m q
less_of_not pos root never = record { per = pos; root = root; holds = lt_of_not-le (λ h. never (record { per = pos; root = root; holds = h })) }

-- what is not at most is more
pub more_of_not : {n d p m q : ℕ} → 0 < d → 0 < q → (AtMost n d p m q → ⊥) → MoreThan n d p m q
more_of_not pos root never = record { per = pos; root = root; holds = lt_of_not-le (λ h. never (record { per = pos; root = root; holds = h })) }

-- nothing is less and at least
not_least : {n d p m q : ℕ} → LessThan n d p m q → AtLeast n d p m q → ⊥
not_least l h = not-le_of_lt l.holds h.holds

-- ---- other exponents

-- what is at most 2 ^ e is less than 2 ^ e', for e = (p - m) / q < e' = (p' - m') / q'
pub less_of_larger : {n d p m q p' m' q' : ℕ} → 0 < q' → p * q' + m' * q < p' * q + m * q' → AtMost n d p m q → LessThan n d p' m' q'
less_of_larger pos less h = less_of_not h.per pos (λ l. not-le_of_lt less (exponents l h))

-- what is at least 2 ^ e is more than 2 ^ e', for e' < e
pub more_of_smaller : {n d p m q p' m' q' : ℕ} → 0 < q' → p' * q + m * q' < p * q' + m' * q → AtLeast n d p m q → MoreThan n d p' m' q'
more_of_smaller pos less h = more_of_not h.per pos (λ l. not-le_of_lt less (exponents h l))

-- what is less than 2 ^ e is less than 2 ^ e', for e ≤ e'; with e = e', one number written in two ways
pub less_larger : {n d p m q p' m' q' : ℕ} → 0 < q' → p * q' + m' * q ≤ p' * q + m * q' → LessThan n d p m q → LessThan n d p' m' q'
less_larger pos h l = less_of_not l.per pos (λ g. not_least l (least_of_smaller l.root h g))

-- what is more than 2 ^ e is more than 2 ^ e', for e' ≤ e
pub more_smaller : {n d p m q p' m' q' : ℕ} → 0 < q' → p' * q + m * q' ≤ p * q' + m' * q → MoreThan n d p m q → MoreThan n d p' m' q'
more_smaller pos h l = more_of_not l.per pos (λ g. not_both (most_of_larger l.root h g) l)

over : (p m p' m' q : ℕ) → p + m' ≤ p' + m → p * q + m' * q ≤ p' * q + m * q
over p m p' m' q h = le_trans (le_of_eq (sym (add-mul p m' q))) (le_trans (mul-le-mul_right q h) (le_of_eq (add-mul p' m q)))

-- the same over one denominator
pub less_wider : {n d p m q p' m' : ℕ} → p + m' ≤ p' + m → LessThan n d p m q → LessThan n d p' m' q
less_wider {p} {m} {q} {p'} {m'} h l = less_larger l.root (over p m p' m' q h) l

pub more_narrower : {n d p m q p' m' : ℕ} → p' + m ≤ p + m' → MoreThan n d p m q → MoreThan n d p' m' q
more_narrower {p} {m} {q} {p'} {m'} h l = more_smaller l.root (over p' m' p m q h) l

-- ---- the reciprocal

-- d / n is less than 2 ^ -e where n / d is more than 2 ^ e
pub less_mirrored : {n d p m q : ℕ} → MoreThan n d p m q → LessThan d n m p q
less_mirrored {n} {d} {p} {m} {q} l = record { per = least_pos (more_least l); root = l.root; holds = rw (mul_comm (d ^ q), mul_comm (2 ^ m)) l.holds }

-- and more where it is less
pub more_mirrored : {n d p m q : ℕ} → 0 < n → LessThan n d p m q → MoreThan d n m p q
more_mirrored {n} {d} {p} {m} {q} pos l = record { per = pos; root = l.root; holds = rw (mul_comm (d ^ q), mul_comm (2 ^ m)) l.holds }

-- ---- through a power of two

-- n / d < 2 ^ e < n' / d
pub between : {n n' d p m q : ℕ} → LessThan n d p m q → MoreThan n' d p m q → n < n'
between {d} l m = lt_of_not-le (λ h. not_both (most_of_less l.per (mul-le-mul_right d h) (less_most l)) m)
