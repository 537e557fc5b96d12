-- Laws of a limit near a fraction, and of cosine and sine near two fractions at one place: signs, wider bounds, the place written with other numbers.
use mathlib.Core.Path.{◌≡◌}
use Prim.Native.Nat.{ℕ, ◌+◌, ◌*◌, ◌^◌, ◌≤◌, ◌<◌}
use native.Mathlib.Nat.{add-zero, zero-add, mul_comm, mul-le-mul_left, mul-le-mul_right, le_of_mul-le-mul_right, one-le-pow}
use native.Mathlib.Omega.{arith}
use Rattle.exact.specs.Series.{partial, denominator, fourth, LimitNear}
use Rattle.exact.specs.Circle.{Cosine, Sine, signed, bound}
use Rattle.exact.proofs.Series.{over_scale, partial_scale, partial-zero}
use Rattle.exact.proofs.Within.{Within}

-- ---- one limit

-- the limit of G - F is near N - P
pub near_minus : {F G D : ℕ → ℕ} {P N U a b : ℕ} → LimitNear F G D P N U a b → LimitNear G F D N P U a b
near_minus h = record { from = h.from; least = h.most; most = h.least }

-- within a / b, so within what is more
pub near_wider : {F G D : ℕ → ℕ} {P N U a b a' b' : ℕ} → 0 < b → a * b' ≤ a' * b → LimitNear F G D P N U a b → LimitNear F G D P N U a' b'
near_wider {a} {b} {a'} {b'} pos more h = record { from = h.from; least = λ n l. wider _ _ _ (h.least n l); most = λ n l. wider _ _ _ (h.most n l) }
  where
    wider : (X Y Z : ℕ) → b * X ≤ b * Y + a * Z → b' * X ≤ b' * Y + a' * Z
    wider X Y Z l = le_of_mul-le-mul_right (omega (arith, mul-le-mul_left b' l, mul-le-mul_right Z more)) pos

sum : (a b c e X Y g f g' f' z : ℕ) → b * (X + g) ≤ b * (Y + f) + a * z → e * (g' + f) ≤ e * (f' + g) + c * z → b * e * (X + g') ≤ b * e * (Y + f') + (a * e + b * c) * z
sum a b c e X Y g f g' f' z x y = omega (arith, mul-le-mul_left e x, mul-le-mul_left b y)

-- a sequence F' - G' that is within c / e of F - G has its limit near the same fraction
pub near_through : {F G D F' G' : ℕ → ℕ} {P N U a b : ℕ} (c e from' : ℕ) → ((n : ℕ) → from' ≤ n → Within (e * (F' n + G n)) (e * (G' n + F n)) (c * D n)) →
    LimitNear F G D P N U a b → LimitNear F' G' D P N U (a * e + b * c) (b * e)
near_through {F} {G} {D} {F'} {G'} {P} {N} {U} {a} {b} c e from' close h = record {
  from = h.from + from';
  least = λ n l. side P N (D n) (G n) (F n) (G' n) (F' n) (h.least n (omega arith)) (close n (omega arith)).most;
  most = λ n l. side N P (D n) (F n) (G n) (F' n) (G' n) (h.most n (omega arith)) (close n (omega arith)).least;
}
  where
    side : (P N D G F G' F' : ℕ) → b * (P * D + U * G) ≤ b * (N * D + U * F) + a * (U * D) → e * (G' + F) ≤ e * (F' + G) + c * D →
        b * e * (P * D + U * G') ≤ b * e * (N * D + U * F') + (a * e + b * c) * (U * D)
    side P N D G F G' F' x y = sum a b c e (P * D) (N * D) (U * G) (U * F) (U * G') (U * F') (U * D) x (omega (arith, mul-le-mul_left U y))

-- times K, in all three parts
near_times : {F G D F' G' D' : ℕ → ℕ} {P N U a b : ℕ} (K : ℕ → ℕ) → ((n : ℕ) → F' n ≡ F n * K n) → ((n : ℕ) → G' n ≡ G n * K n) → ((n : ℕ) → D' n ≡ D n * K n) →
    LimitNear F G D P N U a b → LimitNear F' G' D' P N U a b
near_times {P} {N} {U} {a} {b} K f g d h = record {
  from = h.from;
  least = λ n l. rw (f n, g n, d n) (side P N _ _ _ (K n) (h.least n l));
  most = λ n l. rw (f n, g n, d n) (side N P _ _ _ (K n) (h.most n l));
}
  where
    side : (P N D G F K : ℕ) → b * (P * D + U * G) ≤ b * (N * D + U * F) + a * (U * D) → b * (P * (D * K) + U * (G * K)) ≤ b * (N * (D * K) + U * (F * K)) + a * (U * (D * K))
    side P N D G F K x = omega (arith, mul-le-mul_right K x)

-- and without
near_part : {F G D F' G' D' : ℕ → ℕ} {P N U a b : ℕ} (K : ℕ → ℕ) → ((n : ℕ) → 0 < K n) → ((n : ℕ) → F' n ≡ F n * K n) → ((n : ℕ) → G' n ≡ G n * K n) → ((n : ℕ) → D' n ≡ D n * K n) →
    LimitNear F' G' D' P N U a b → LimitNear F G D P N U a b
near_part {P} {N} {U} {a} {b} K pos f g d h = record {
  from = h.from;
  least = λ n l. side P N _ _ _ (K n) (pos n) (rw (f n, g n, d n) at (h.least n l));
  most = λ n l. side N P _ _ _ (K n) (pos n) (rw (f n, g n, d n) at (h.most n l));
}
  where
    side : (P N D G F K : ℕ) → 0 < K → b * (P * (D * K) + U * (G * K)) ≤ b * (N * (D * K) + U * (F * K)) + a * (U * (D * K)) → b * (P * D + U * G) ≤ b * (N * D + U * F) + a * (U * D)
    side P N D G F K pos x = le_of_mul-le-mul_right (omega arith) pos

-- ---- cosine and sine

-- cos (p / q) is within a / b of (C - C') / U, and sin (p / q) of (S - S') / U
pub record Both (p q C C' S S' U a b : ℕ) : Type 0 where
  pub cosine : LimitNear (partial (fourth 0) p q) (partial (fourth 2) p q) (denominator q) C C' U a b
  pub sine : LimitNear (partial (fourth 1) p q) (partial (fourth 3) p q) (denominator q) S S' U a b

-- within a / b, so within what is more
pub both_wider : {p q C C' S S' U a b a' b' : ℕ} → 0 < b → a * b' ≤ a' * b → Both p q C C' S S' U a b → Both p q C C' S S' U a' b'
both_wider pos more h = record { cosine = near_wider pos more h.cosine; sine = near_wider pos more h.sine }

-- at p / q written with larger numbers
pub both_scaled : {p q C C' S S' U a b : ℕ} (k : ℕ) → Both p q C C' S S' U a b → Both (p * k) (q * k) C C' S S' U a b
both_scaled {p} {q} k h = record {
  cosine = near_times (λ n. k ^ n) (partial_scale (fourth 0) p q k) (partial_scale (fourth 2) p q k) (over_scale q k) h.cosine;
  sine = near_times (λ n. k ^ n) (partial_scale (fourth 1) p q k) (partial_scale (fourth 3) p q k) (over_scale q k) h.sine;
}

-- at p / q written with two numbers that have a common factor
pub both_cancel : {p q C C' S S' U a b : ℕ} (k : ℕ) → 0 < k → Both (p * k) (q * k) C C' S S' U a b → Both p q C C' S S' U a b
both_cancel {p} {q} k pos h = record {
  cosine = near_part (λ n. k ^ n) (λ n. one-le-pow n k pos) (partial_scale (fourth 0) p q k) (partial_scale (fourth 2) p q k) (over_scale q k) h.cosine;
  sine = near_part (λ n. k ^ n) (λ n. one-le-pow n k pos) (partial_scale (fourth 1) p q k) (partial_scale (fourth 3) p q k) (over_scale q k) h.sine;
}

-- at the same place written in another way
pub both_same : {p q p' q' C C' S S' U a b : ℕ} → 0 < q → p * q' ≡ p' * q → Both p q C C' S S' U a b → Both p' q' C C' S S' U a b
both_same {p} {q} {p'} {q'} pos same h = both_cancel q pos (rw (same, mul_comm q q') at (both_scaled q' h))

-- ---- as a promise says it: at p / q or at - m / q

-- cosine of either sign
pub cosine_of_lem : {p m q C C' S S' U a b : ℕ} → Both (p + m) q C C' S S' U a b → Cosine (signed p m q) (signed C C' U) (bound a b)
cosine_of_lem h = record { near = h.cosine }

-- the sums of sine at zero
first_zero : (q n : ℕ) → partial (fourth 1) 0 q n ≡ 0
unfolding fourth
first_zero q n = rw partial-zero (omega arith)

third_zero : (q n : ℕ) → partial (fourth 3) 0 q n ≡ 0
unfolding fourth
third_zero q n = rw partial-zero (omega arith)

-- sine of p / q
pub sine_plus : {p q C C' S S' U a b : ℕ} → Both p q C C' S S' U a b → Sine (signed p 0 q) (signed S S' U) (bound a b)
sine_plus {p} {q} h = record {
  near = record {
    from = h.sine.from;
    least = λ n l. rw (first_zero q n, third_zero q n, add-zero, add-zero) (h.sine.least n l);
    most = λ n l. rw (first_zero q n, third_zero q n, add-zero, add-zero) (h.sine.most n l);
  };
}

-- sine of - m / q
pub sine_minus : {m q C C' S S' U a b : ℕ} → Both m q C C' S S' U a b → Sine (signed 0 m q) (signed S' S U) (bound a b)
sine_minus {m} {q} h = record {
  near = record {
    from = h.sine.from;
    least = λ n l. rw (first_zero q n, third_zero q n, zero-add, zero-add) (h.sine.most n l);
    most = λ n l. rw (first_zero q n, third_zero q n, zero-add, zero-add) (h.sine.least n l);
  };
}
