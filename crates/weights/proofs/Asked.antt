-- What document 01 and change request Q3 ask follows from the promise: the powers in fixed point are an enclosure asTheyAre, which tells how large p_i is where q_i is above or below 2 ^ -100.
-- Assumes nothing.
use mathlib.Core.Path.{◌≡◌}
use mathlib.Core.Logic.{inl, inr}
use mathlib.Core.List.{List}
use Prim.Native.Nat.{ℕ, ◌+◌, ◌-◌, ◌*◌, ◌^◌, ◌≤◌, ◌<◌}
use native.Mathlib.Nat.{le_trans, le_of_eq, lt_of_lt_of_le, mul-pos, mul-le-mul_left, mul-le-mul_right, le_of_mul-le-mul_right}
use native.Mathlib.Omega.{arith}
use lib.Dec.{lit<, lit≤}
use lib.Pow.{pow_pos}
use lib.ListN.{length}
use lib.Ieee.{Float}
use Rattle.units.specs.Units.{P}
use Rattle.units.proofs.Naturals.{le-or-lt}
use Rattle.powers.specs.Base.{Base}
use Rattle.powers.specs.Fixed.{fixed_above, fixed_below}
use Rattle.powers.proofs.Base.{power_most_of_less, power_least_of_more}
use Rattle.weights.specs.Lists.{at, sum}
use Rattle.weights.specs.Softmax.{Elements, Encloses, NearQuotients, Whole, softmax_error_num, softmax_error_den, whole_error_num, whole_error_den}
use Rattle.weights.specs.Value.{power_at}
use Rattle.weights.specs.Asked.{QuotientAtLeast, QuotientAtMost, Asked}
use Rattle.weights.proofs.Range.{power}
use Rattle.weights.proofs.Families.{sum-le, member}
use Rattle.weights.proofs.Quotient.{ratio_trans, ratio_weaker}

abbrev D : ℕ
D = 2 ^ 32

-- the width of the enclosure
abbrev k : ℕ
k = (D + fixed_below) * (D + fixed_above)

-- ---- over plain numbers: p units, of t in the sum T, with the enclosure from D D to k times these
module _ (p t T : ℕ) where
  -- q ≥ 2 ^ -100 makes p 2 ^ 48 units at least
  large : 0 < t → (D - softmax_error_num) * (D * D * t * 2 ^ 149) ≤ D * (p * (k * T)) → D * D * T ≤ 2 ^ 100 * (k * t) → 2 ^ 48 ≤ p
  large pos near above =
      le_of_mul-le-mul_right
      (le_trans (ratio_weaker t (p * t) _ _ (2 ^ 48) 1 (lit< tt) (ratio_trans t (p * T) (p * t) ((D - softmax_error_num) * (D * D * 2 ^ 149)) (D * k) (D * D) (2 ^ 100 * k) (first (D - softmax_error_num) (D * D) (2 ^ 149) D k near) (second (D * D) (2 ^ 100) k above)) (lit≤ tt)) (omega arith))
      pos
    where
      first : (c E M D k : ℕ) → c * (E * t * M) ≤ D * (p * (k * T)) → t * (c * (E * M)) ≤ p * T * (D * k)
      first c E M D k h = omega arith

      second : (E m k : ℕ) → E * T ≤ m * (k * t) → p * T * E ≤ p * t * (m * k)
      second E m k h = omega (arith, mul-le-mul_left p h)

  -- q ≤ 2 ^ -100 makes p 2 ^ 50 units at most
  small : 0 < T → D * (p * (D * D * T)) ≤ (D + softmax_error_num) * (k * t * 2 ^ 149) → 2 ^ 100 * (D * D * t) ≤ k * T → p ≤ 2 ^ 50
  small pos near below =
      le_of_mul-le-mul_right
      (le_trans (omega arith) (ratio_weaker (p * T) T _ _ 1 (2 ^ 50) (lit< tt) (ratio_trans (p * T) t T (D * (D * D)) ((D + softmax_error_num) * (k * 2 ^ 149)) (2 ^ 100 * (D * D)) k (first (D + softmax_error_num) (D * D) (2 ^ 149) D k near) (second (D * D) (2 ^ 100) k below)) (lit≤ tt)))
      pos
    where
      first : (c E M D k : ℕ) → D * (p * (E * T)) ≤ c * (k * t * M) → p * T * (D * E) ≤ t * (c * (k * M))
      first c E M D k h = omega arith

      second : (E m k : ℕ) → m * (E * t) ≤ k * T → t * (m * E) ≤ T * k
      second E m k h = omega arith

-- ---- and for any enclosure, the one from l to u and the sum from L to R, with M for 2 ^ 149
module _ (p l u L R M b : ℕ) (fine : b ≤ 2 ^ 23) where
  relative_most : softmax_error_den * (p * L) ≤ (softmax_error_den + softmax_error_num) * (u * M) → b * (p * L) ≤ (b + 1) * (u * M)
  relative_most h = ratio_weaker (p * L) (u * M) softmax_error_den (softmax_error_den + softmax_error_num) b (b + 1) (lit< tt) (turned (p * L) (u * M) h) (omega arith)
    where
      turned : (a c : ℕ) → softmax_error_den * a ≤ (softmax_error_den + softmax_error_num) * c → a * softmax_error_den ≤ c * (softmax_error_den + softmax_error_num)
      turned a c h = omega arith

  -- one unit more of 2 ^ 48 counts for nothing
  relative_least : 2 ^ 48 ≤ p + 1 → (softmax_error_den - softmax_error_num) * (l * M) ≤ softmax_error_den * ((p + 1) * R) → (b - 1) * (l * M) ≤ b * (p * R)
  relative_least many h =
      ratio_weaker (l * M) (p * R) ((softmax_error_den - softmax_error_num) * (2 ^ 48 - 1)) (softmax_error_den * 2 ^ 48) (b - 1) b (lit< tt)
      (ratio_trans (l * M) ((p + 1) * R) (p * R) _ _ _ _ (turned (l * M) ((p + 1) * R) h) (one_less R)) (omega arith)
    where
      turned : (a c : ℕ) → (softmax_error_den - softmax_error_num) * a ≤ softmax_error_den * c → a * (softmax_error_den - softmax_error_num) ≤ c * softmax_error_den
      turned a c h = omega arith

      one_less : (R : ℕ) → (p + 1) * R * (2 ^ 48 - 1) ≤ p * R * 2 ^ 48
      one_less R = omega (arith, mul-le-mul_right R many)

  absolute_most : p ≤ 2 ^ 50 → softmax_error_den * (p * L) ≤ (softmax_error_den + softmax_error_num) * (u * M) → p * L ≤ u * M + 2 ^ 49 * L
  absolute_most few h = elim (le-or-lt (2 ^ 50 * L) (u * M)) [
    | inl g ↦ le_trans (mul-le-mul_right L few) (le_trans g (omega arith))
    | inr g ↦ closer (p * L) (u * M) h g
  ]
    where
      closer : (a c : ℕ) → softmax_error_den * a ≤ (softmax_error_den + softmax_error_num) * c → c < 2 ^ 50 * L → a ≤ c + 2 ^ 49 * L
      closer a c h g = omega arith

  absolute_least : l * M ≤ 2 ^ 49 * R → (softmax_error_den - softmax_error_num) * (l * M) ≤ softmax_error_den * ((p + 1) * R) → l * M ≤ (p + 2 ^ 49) * R
  absolute_least below h = closer (l * M) R below h
    where
      closer : (a R : ℕ) → a ≤ 2 ^ 49 * R → (softmax_error_den - softmax_error_num) * a ≤ softmax_error_den * ((p + 1) * R) → a ≤ (p + 2 ^ 49) * R
      closer a R g h = omega arith

-- ---- the powers in fixed point enclose the real powers
module _ (base : Base) (xs : List Float) (all : Elements xs) where
  abbrev below : ℕ → ℕ
  below j = D * D * power_at base xs j

  abbrev above : ℕ → ℕ
  above j = k * power_at base xs j

  own : Encloses base xs below above (D * (D + fixed_above) * 2 ^ 158)
  own = record {
    below = λ j h. power_most_of_less (lit< tt) (le_of_eq (under D (D + fixed_above) (2 ^ 158) (power_at base xs j))) (power (at xs j) (all.each j h) base).at_most;
    above = λ j h. power_least_of_more (lit< tt) (le_of_eq (over D (D + fixed_below) (D + fixed_above) (2 ^ 158) (power_at base xs j))) (power (at xs j) (all.each j h) base).at_least;
  }
    where
      under : (D c B t : ℕ) → D * D * t * (c * B) ≡ D * t * (D * c * B)
      under D c B t = omega arith

      over : (D c e B t : ℕ) → c * t * (D * e * B) ≡ c * e * t * (D * B)
      over D c e B t = omega arith

  -- a family in proportion has its sum in proportion
  sum_most : (c : ℕ) → sum (λ j. c * power_at base xs j) (length xs) ≤ c * sum (power_at base xs) (length xs)
  sum_most c = let h = sum-le (λ j. c * power_at base xs j) (power_at base xs) 1 c (length xs) (λ j l. omega arith) in omega arith

  sum_least : (c : ℕ) → c * sum (power_at base xs) (length xs) ≤ sum (λ j. c * power_at base xs j) (length xs)
  sum_least c = let h = sum-le (power_at base xs) (λ j. c * power_at base xs j) c 1 (length xs) (λ j l. omega arith) in omega arith

  module _ (ps : List Float) (near : NearQuotients base softmax_error_num softmax_error_den xs ps) (i : ℕ) (h : i < length xs) where
    abbrev p : ℕ
    p = P (at ps i)

    abbrev T : ℕ
    T = sum (power_at base xs) (length xs)

    positive : 0 < power_at base xs i
    positive = mul-pos (lt_of_lt_of_le (lit< tt) (power (at xs i) (all.each i h) base).least) (pow_pos _)

    -- p_i where q_i is at least 2 ^ -100
    output_large : QuotientAtLeast base xs i → 2 ^ 48 ≤ p + 1
    output_large q =
        large (p + 1) (power_at base xs i) T positive
        (le_trans (near.least below above _ own i h) (mul-le-mul_left softmax_error_den (mul-le-mul_left (p + 1) (sum_most k)))) (le_trans (sum_least (D * D)) (q.holds below above _ own))

    -- and where it is at most that
    output_small : QuotientAtMost base xs i → p ≤ 2 ^ 50
    output_small q =
        small p (power_at base xs i) T (lt_of_lt_of_le positive (member (power_at base xs) (length xs) i h))
        (le_trans (mul-le-mul_left softmax_error_den (mul-le-mul_left p (sum_least (D * D)))) (near.most below above _ own i h)) (le_trans (q.holds below above _ own) (sum_most k))

-- ---- the laws: from the promise to what is asked
-- rel 1 / b where q_i ≥ 2 ^ -100, otherwise abs 2 ^ -100, for every b up to 2 ^ 23
pub as_asked : (base : Base) (b : ℕ) → b ≤ 2 ^ 23 → (xs ps : List Float) → Elements xs → NearQuotients base softmax_error_num softmax_error_den xs ps → Asked base b xs ps
as_asked base b fine xs ps all near = record {
  relative = λ i h q. record {
    most = λ l u d e. relative_most (P (at ps i)) (l i) (u i) (sum l (length xs)) (sum u (length xs)) (2 ^ 149) b fine (near.most l u d e i h);
    least = λ l u d e. relative_least (P (at ps i)) (l i) (u i) (sum l (length xs)) (sum u (length xs)) (2 ^ 149) b fine (output_large base xs all ps near i h q) (near.least l u d e i h);
  };
  absolute = λ i h q. record {
    most = λ l u d e. absolute_most (P (at ps i)) (l i) (u i) (sum l (length xs)) (sum u (length xs)) (2 ^ 149) b fine (output_small base xs all ps near i h q) (near.most l u d e i h);
    least = λ l u d e. absolute_least (P (at ps i)) (l i) (u i) (sum l (length xs)) (sum u (length xs)) (2 ^ 149) b fine (scaled (l i) (2 ^ 100) (2 ^ 49) (sum u (length xs)) (q.holds l u d e)) (near.least l u d e i h);
  };
}
  where
    scaled : (l c e R : ℕ) → c * l ≤ R → l * (c * e) ≤ e * R
    scaled l c e R h = omega (arith, mul-le-mul_right e h)

-- the sum of all p_i within 1 / b of 1, for every b up to 2 ^ 23
pub whole_as_asked : (b : ℕ) → b ≤ 2 ^ 23 → (ps : List Float) → Whole whole_error_num whole_error_den ps → Whole 1 b ps
whole_as_asked b fine ps w = record {
  most = above (sum (λ i. P (at ps i)) (length ps)) (2 ^ 149) w.most;
  least = below (sum (λ i. P (at ps i)) (length ps)) (2 ^ 149) w.least;
}
  where
    above : (W M : ℕ) → whole_error_den * W ≤ (whole_error_den + whole_error_num) * M → b * W ≤ (b + 1) * M
    above W M h = ratio_weaker W M whole_error_den (whole_error_den + whole_error_num) b (b + 1) (lit< tt) (omega arith) (omega arith)

    below : (W M : ℕ) → (whole_error_den - whole_error_num) * M ≤ whole_error_den * W → (b - 1) * M ≤ b * W
    below W M h = ratio_weaker M W (whole_error_den - whole_error_num) whole_error_den (b - 1) b (lit< tt) (omega arith) (omega arith)

-- change request Q3's two numbers, rel 2 ^ -17 and 2 ^ -20 for the sum of all p_i; document 01 had 2 ^ -13 for both
pub as_asked_in_pairs : (base : Base) (xs ps : List Float) → Elements xs → NearQuotients base softmax_error_num softmax_error_den xs ps → Whole whole_error_num whole_error_den ps → Asked base (2 ^ 17) xs ps × Whole 1 (2 ^ 20) ps
as_asked_in_pairs base xs ps all near whole = (as_asked base (2 ^ 17) (lit≤ tt) xs ps all near, whole_as_asked (2 ^ 20) (lit≤ tt) ps whole)
