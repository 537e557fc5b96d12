-- What follows from the relative bound on the logarithm: its sign, every weaker bound, as change request Q2 asks for one, and the absolute bound that document 01 asks for. Assumes nothing.
use Rattle.std.proofs.Common.{◌≡◌, ℕ, ◌+◌, ◌-◌, ◌*◌, ◌^◌, ◌<◌, ◌≤◌, sym, ap, inl, inr, le_of_eq, le_of_lt, mul-le-mul_right, eq-zero-or-pos, eq-or-lt_of_le, mul-le-mul_left, mul-pos, ne_of_gt, zero-add, zero-mul, not-le_of_lt, arith, lit<, lit≤, pow_pos}
use native.Mathlib.Nat.{mul-sub}
use lib.Ieee.{Float}
use Rattle.exact.specs.Power.{AtMost, AtLeast}
use Rattle.exact.proofs.Power.{at_most, at_least, most_of_larger, least_of_smaller}
use Rattle.exact.proofs.Ratio.{exponents}
use Rattle.units.specs.Units.{mag, P, N}
use Rattle.units.proofs.Naturals.{le-or-lt}
use Rattle.units.proofs.Signs.{one_sided}
use Rattle.logs.specs.Log2.{AroundLog, NearLog, log2_error_num, log2_error_den}
use Rattle.logs.specs.Asked.{NearLogOrOne}
use Rattle.logs.proofs.Relative.{up_to_one, at_most_one}

-- ---- the sign
-- no units are the logarithm of 1, or of less
no_units : {n d T q : ℕ} (b : ℕ) → T ≡ 0 → AtMost n d (T * b) 0 q → n ≤ d
no_units b z h = at_most_one (rw (z, zero-mul b) at h)

-- and of 1, or of less, there are none
none : {n d T b q : ℕ} → 0 < b → n ≤ d → AtLeast n d (T * b) 0 q → T ≡ 0
none {T} {b} {q} pos l h = elim (eq-zero-or-pos T) [ inl z ↦ z | inr p ↦ absurd (omega (arith, mul-pos p pos, exponents h (up_to_one h.per l))) ]

module _ {a b : ℕ} {x r : Float} (w : NearLog a b x r) where
  -- positive above 1
  pub positive : 2 ^ 149 < mag x → 0 < P r
  positive h = elim (eq-zero-or-pos (P r)) [ inl z ↦ absurd (not-le_of_lt h (no_units b z (w.above (le_of_lt h)).most)) | inr p ↦ p ]

  -- negative below
  pub negative : mag x < 2 ^ 149 → 0 < N r
  negative h = elim (eq-zero-or-pos (N r)) [ inl z ↦ absurd (not-le_of_lt h (no_units b z (w.below (le_of_lt h)).most)) | inr p ↦ p ]

  -- and of one sign alone
  no_minus : 0 < b → 2 ^ 149 ≤ mag x → N r ≡ 0
  no_minus pos h = elim (eq-or-lt_of_le h) [
    | inl e ↦ none pos h (w.below (le_of_eq (sym e))).least
    | inr l ↦ elim (one_sided r) [ inl z ↦ absurd (ne_of_gt (positive l) z) | inr z ↦ z ]
  ]

  no_plus : mag x < 2 ^ 149 → P r ≡ 0
  no_plus h = elim (one_sided r) [ inl z ↦ z | inr z ↦ absurd (ne_of_gt (negative h) z) ]

-- ---- weaker bounds
-- what is within a / b of the logarithm is within every larger a' / b' of it
module _ {a b a' b' : ℕ} (less : a' < b') (wider : a * b' ≤ a' * b) where
  around_weaker : {T n d : ℕ} → AroundLog a b T n d → AroundLog a' b' T n d
  around_weaker {T} w = record {
    least = least_of_smaller (mul-pos (pow_pos 149) (omega arith)) (more T (2 ^ 149)) w.least;
    most = most_of_larger (mul-pos (pow_pos 149) (omega arith)) (fewer T (2 ^ 149)) w.most;
  }
    where
      more : (t u : ℕ) → t * b' * (u * (b + a)) + 0 * (u * (b' + a')) ≤ t * b * (u * (b' + a')) + 0 * (u * (b + a))
      more t u = omega (arith, mul-le-mul_right (t * u) wider)

      fewer : (t u : ℕ) → t * b * (u * (b' - a')) + 0 * (u * (b - a)) ≤ t * b' * (u * (b - a)) + 0 * (u * (b' - a'))
      fewer t u = through (b' - a') (b - a) (rw (mul-sub b b' a', mul-sub b' b a) (omega arith))
        where
          through : (c e : ℕ) → b * c ≤ b' * e → t * b * (u * c) + 0 * (u * e) ≤ t * b' * (u * e) + 0 * (u * c)
          through c e h = omega (arith, mul-le-mul_right (t * u) h)

  pub weaker : {x r : Float} → NearLog a b x r → NearLog a' b' x r
  weaker w = record { above = λ h. around_weaker (w.above h); below = λ h. around_weaker (w.below h) }

-- so the result is within 2 ^ -21 of the logarithm, relatively, which change request Q2 asks for
pub as_asked : {x r : Float} → NearLog log2_error_num log2_error_den x r → NearLog 1 (2 ^ 21) x r
as_asked = weaker (lit< tt) (lit≤ tt)

-- ---- the absolute bound
-- over plain numbers: T b / (U (b + a)) is at most p / q, and either of p / q and T b / (U c) may be the smaller, where c is b - a
module _ (a b c T p q U : ℕ) (e : b ≡ c + a) where
  from_below : T * b * q + 0 * (U * (b + a)) ≤ p * (U * (b + a)) + 0 * q → T * (b * q) * (U * (b + a)) + 0 * (U * (b * q)) ≤ T * b * (U * (b * q)) + a * p * U * (U * (b + a))
  from_below h = omega (arith, mul-le-mul_left (a * U) h)

  from_bound : p * (U * c) ≤ T * b * q → p * (U * (b * q)) + 0 * q ≤ (T * (b * q) + a * p * U) * q + 0 * (U * (b * q))
  from_bound h = omega (arith, mul-le-mul_right q h, ap (λ (i : ℕ). p * U * q * i) e)

  from_above : T * b * q ≤ p * (U * c) → T * b * (U * (b * q)) + 0 * (U * c) ≤ (T * (b * q) + a * p * U) * (U * c) + 0 * (U * (b * q))
  from_above h = omega (arith, mul-le-mul_left (a * U) h, ap (λ (i : ℕ). T * b * q * U * i) e)

-- T units are within a / b of log2 (n / d), which is at most p / q; so they are within (a / b) (p / q) of it. Units of the other sign there are none
module _ {a b T M n d p q : ℕ} (less : a < b) (w : AroundLog a b T n d) (z : M ≡ 0) (h : AtMost n d p 0 q) where
  whole : b ≡ b - a + a
  whole = omega arith

  wide : 0 < 2 ^ 149 * (b * q)
  wide = mul-pos (pow_pos 149) (mul-pos (omega arith) h.root)

  absolute_least : AtLeast n d (T * (b * q)) (M * (b * q) + a * p * 2 ^ 149) (2 ^ 149 * (b * q))
  absolute_least = rw (z, zero-mul (b * q), zero-add (a * p * 2 ^ 149)) (least_of_smaller wide (from_below a b (b - a) T p q (2 ^ 149) whole (exponents w.least h)) w.least)

  absolute_most : AtMost n d (T * (b * q) + a * p * 2 ^ 149) (M * (b * q)) (2 ^ 149 * (b * q))
  absolute_most = rw (z, zero-mul (b * q)) (elim (le-or-lt (p * (2 ^ 149 * (b - a))) (T * b * q)) [
    | inl l ↦ most_of_larger wide (from_bound a b (b - a) T p q (2 ^ 149) whole l) h
    | inr l ↦ most_of_larger wide (from_above a b (b - a) T p q (2 ^ 149) whole (le_of_lt l)) w.most
  ])

-- a relative error is an absolute one for every bound on the logarithm
absolute : {a b : ℕ} {x r : Float} → a < b → NearLog a b x r → NearLogOrOne a b x r
absolute {a} {b} {x} {r} less w = elim (le-or-lt (2 ^ 149) (mag x)) [
  | inl h ↦
      let v = w.above h in
      let z = no_minus w (omega arith) h in
      record { least = λ p q g l. absolute_least less v z l.most; most = λ p q g l. absolute_most less v z l.most }
  | inr h ↦
      let v = w.below (le_of_lt h) in
      let z = no_plus w h in
      record { least = λ p q g l. at_least (pow_pos 149) (absolute_most less v z (at_most l.least)); most = λ p q g l. at_most (absolute_least less v z (at_most l.least)) }
]

-- so the result is within 2 ^ -21 max (1, |log2 x|), which document 01 asks for
pub as_first_asked : {x r : Float} → NearLog log2_error_num log2_error_den x r → NearLogOrOne 1 (2 ^ 21) x r
as_first_asked w = absolute (lit< tt) (as_asked w)
