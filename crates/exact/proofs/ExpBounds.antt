-- Laws of `ExpAtMost` and `ExpAtLeast`: they speak of the number n / d, not of how it is written, obey the order, and leave no room between them. Assumes nothing.
use Prim.Native.Nat.{ℕ, ◌+◌, ◌*◌, ◌/◌, ◌^◌, ◌≤◌, ◌<◌, max}
use native.Mathlib.Nat.{le_trans, mul-le-mul_left, mul-le-mul_right, le_of_mul-le-mul_right, one-le-mul, le-mul_of_pos_right, le-max_left, le-max_right, div-mul-le_self, lt-div-mul-add}
use native.Mathlib.Omega.{arith}
use Rattle.exact.specs.Series.{partial, denominator}
use Rattle.exact.specs.Exponential.{every, powers, ExpAtMost, ExpAtLeast}
use Rattle.exact.proofs.Series.{over_pos, partial_grows, partial_tail, small_terms}
use Rattle.exact.proofs.Natural.{every_most}

-- every partial sum is at least 1
pub powers_least : (p q n : ℕ) → denominator q n ≤ powers p q n
unfolding partial denominator every
powers_least p q n = omega (arith, partial_grows every p q 0 n (omega arith))

pub powers_pos : (p q n : ℕ) → 0 < q → 0 < powers p q n
powers_pos p q n pos = le_trans (over_pos q n pos) (powers_least p q n)

-- ---- smaller fractions

-- a fraction n' / d' ≤ n / d is at most what n / d is at most
pub exp_most_of_less : {n d n' d' p m q : ℕ} → 0 < d' → n' * d ≤ n * d' → ExpAtMost n d p m q → ExpAtMost n' d' p m q
exp_most_of_less {n} {d} {n'} {d'} {p} {m} {q} pos less h = record {
  per = pos;
  root = h.root;
  from = h.from;
  holds = λ k l. le_of_mul-le-mul_right (through (powers m q k) (powers p q k) (h.holds k l)) h.per;
}
  where
    through : (E F : ℕ) → n * E ≤ F * d → n' * E * d ≤ F * d' * d
    through E F g = omega (arith, mul-le-mul_right E less, mul-le-mul_right d' g)

-- a fraction n' / d' ≥ n / d is at least what n / d is at least
pub exp_least_of_more : {n d n' d' p m q : ℕ} → 0 < d' → n * d' ≤ n' * d → ExpAtLeast n d p m q → ExpAtLeast n' d' p m q
exp_least_of_more {n} {d} {n'} {d'} {p} {m} {q} pos more h = record {
  per = pos;
  root = h.root;
  from = h.from;
  holds = λ k l. le_of_mul-le-mul_right (through (powers m q k) (powers p q k) (h.holds k l)) h.per;
}
  where
    through : (E F : ℕ) → F * d ≤ n * E → F * d' * d ≤ n' * E * d
    through E F g = omega (arith, mul-le-mul_right E more, mul-le-mul_right d' g)

-- ---- n / d ≤ e ^ t and e ^ t ≤ n' / d' give n / d ≤ n' / d'
pub through_exp : {n d n' d' p m q : ℕ} → ExpAtMost n d p m q → ExpAtLeast n' d' p m q → n * d' ≤ n' * d
through_exp {n} {d} {n'} {d'} {p} {m} {q} below above =
    le_of_mul-le-mul_right
    (through (powers m q k) (powers p q k) (below.holds k (le-max_left below.from above.from)) (above.holds k (le-max_right below.from above.from)))
    (powers_pos m q k below.root)
  where
    k : ℕ
    k = max below.from above.from

    through : (E F : ℕ) → n * E ≤ F * d → F * d' ≤ n' * E → n * d' * E ≤ n' * d * E
    through E F a b = omega (arith, mul-le-mul_right d' a, mul-le-mul_right d b)

-- ---- over every denominator d the power lies between l / d and (l + 2) / d
module _ (d p m q : ℕ) (per : 0 < d) (root : 0 < q) where
  -- no partial sum of e ^ (p / q) passes C
  abbrev first : ℕ
  first = (small_terms p q 1 root).from

  abbrev C : ℕ
  C = powers p q first + p ^ first

  bounded : (k : ℕ) → first ≤ k → powers p q k ≤ C * denominator q k
  bounded k l =
      le_trans (le-mul_of_pos_right (powers p q k) (over_pos q first root))
      (partial_tail every every_most p q first k ((small_terms p q 1 root).halve first (omega arith)) l)

  -- an order from which on both sums hardly grow
  abbrev n : ℕ
  n = max first (max (small_terms p q (2 * d) root).from (small_terms m q (2 * (d * C + 1)) root).from)

  late_first : first ≤ n
  late_first = le-max_left first _

  late_plus : (small_terms p q (2 * d) root).from ≤ n
  late_plus = le_trans (le-max_left (small_terms p q (2 * d) root).from _) (le-max_right first _)

  late_minus : (small_terms m q (2 * (d * C + 1)) root).from ≤ n
  late_minus = le_trans (le-max_right (small_terms p q (2 * d) root).from _) (le-max_right first _)

  abbrev U : ℕ
  U = powers m q n + m ^ n

  -- the greatest fraction that is surely not above it
  abbrev l : ℕ
  l = d * powers p q n / U

  upos : 0 < U
  upos = omega (arith, powers_pos m q n root)

  not_above : l * U ≤ d * powers p q n
  not_above = div-mul-le_self (d * powers p q n) U

  not_below : d * powers p q n < l * U + U
  not_below = lt-div-mul-add upos

  pub between : (l : ℕ) × ExpAtMost l d p m q × ExpAtLeast (l + 2) d p m q
  between = (
    l,
    record { per = per; root = root; from = n; holds = λ k h. under k h },
    record { per = per; root = root; from = n; holds = λ k h. over k h },
  )
    where
      few : l ≤ d * C
      few = le_of_mul-le-mul_right (through (powers p q n) (powers m q n) (m ^ n) (denominator q n) l not_above (bounded n late_first) (powers_least m q n)) upos
        where
          through : (F E M D l : ℕ) → l * (E + M) ≤ d * F → F ≤ C * D → D ≤ E → l * (E + M) ≤ d * C * (E + M)
          through F E M D l h g e = omega (arith, mul-le-mul_left d g, mul-le-mul_left (d * C) e)

      under : (k : ℕ) → n ≤ k → l * powers m q k ≤ powers p q k * d
      under k h =
          le_of_mul-le-mul_right
          (through l (powers p q n) (powers m q n + m ^ n) (powers p q k) (powers m q k) (denominator q n) (denominator q k) not_above
          (partial_tail every every_most m q n k ((small_terms m q (2 * (d * C + 1)) root).halve n late_minus) h) (partial_grows every p q n k h))
          (one-le-mul (over_pos q n root) (over_pos q k root))
        where
          through : (l F U F' E' D D' : ℕ) → l * U ≤ d * F → E' * D ≤ U * D' → F * D' ≤ F' * D → l * E' * (D * D') ≤ F' * d * (D * D')
          through l F U F' E' D D' a b c = omega (arith, mul-le-mul_right (D' * D') a, mul-le-mul_left (l * D') b, mul-le-mul_left (d * D') c)

      over : (k : ℕ) → n ≤ k → powers p q k * d ≤ (l + 2) * powers m q k
      over k h =
          le_of_mul-le-mul_right
          (through (l + 2) (powers p q n + p ^ n) (powers m q n) (powers p q k) (powers m q k) (denominator q n) (denominator q k) enough
          (partial_tail every every_most p q n k ((small_terms p q (2 * d) root).halve n late_plus) h) (partial_grows every m q n k h))
          (one-le-mul (over_pos q n root) (over_pos q k root))
        where
          enough : d * (powers p q n + p ^ n) ≤ (l + 2) * powers m q n
          enough = added (powers p q n) (powers m q n) (m ^ n) (p ^ n) (denominator q n) l not_below few ((small_terms p q (2 * d) root).small n late_plus) ((small_terms m q (2 * (d * C + 1)) root).small n late_minus) (powers_least m q n)
            where
              added : (F E M Q D l : ℕ) → d * F < l * (E + M) + (E + M) → l ≤ d * C → 2 * d * Q ≤ D → 2 * (d * C + 1) * M ≤ D → D ≤ E → d * (F + Q) ≤ (l + 2) * E
              added F E M Q D l a b c e f = omega (arith, mul-le-mul_right M b)

          through : (t G E F' E' D D' : ℕ) → d * G ≤ t * E → F' * D ≤ G * D' → E * D' ≤ E' * D → F' * d * (D * D') ≤ t * E' * (D * D')
          through t G E F' E' D D' a b c = omega (arith, mul-le-mul_right (D' * D') a, mul-le-mul_left (d * D') b, mul-le-mul_left (t * D') c)
