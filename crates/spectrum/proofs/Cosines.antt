-- The table's numbers are the cosines and sines of the real angles: computed partial sums of 47 terms at our own digits of pi / 2, one test over all angles, and from there
-- to every enclosure of pi / 2. Assumes nothing.
use mathlib.Core.Path.{◌≡◌, sym, subst}
use mathlib.Core.Logic.{inl, inr}
use mathlib.Core.Bool.{Bool}
use Prim.Native.Nat.{ℕ, suc, ◌+◌, ◌-◌, ◌*◌, ◌^◌, ◌≤◌, ◌<◌}
use native.Mathlib.Nat.{add-zero, mul-pos, mul-le-mul, mul-le-mul_left, mul-le-mul_right, le_of_mul-le-mul_left, le_of_mul-le-mul_right, le_trans}
use native.Mathlib.Omega.{arith}
use lib.Dec.{T, leb, leb→le, lit<, lit≤}
use lib.Pow.{pow_pos}
use Rattle.units.proofs.Naturals.{le-or-lt}
use Rattle.exact.specs.Series.{partial, denominator, fourth, LimitNear}
use Rattle.exact.specs.Circle.{QuarterTurn}
use Rattle.exact.proofs.Series.{over_pos, partial_grows, partial_tail, fourth_most}
use Rattle.exact.proofs.Limits.{Both, both_wider, cosine_of_lem, sine_plus}
use Rattle.exact.specs.Circle.{quarter, quarter_unit}
use Rattle.exact.proofs.Quarter.{quarter-unit_pos}
use Rattle.exact.proofs.Zero.{quarter_turn, enclosed}
use Rattle.spectrum.specs.Difference.{Difference, whole, times}
use Rattle.spectrum.specs.Table.{unit, entry, cosine_below, sine_below}
use Rattle.spectrum.specs.Transform.{Turns}
use Rattle.spectrum.proofs.Tests.{all, at}
use Rattle.spectrum.proofs.Differences.{Close}

-- ---- what a partial sum says of all later ones
-- the r-th of the four sums, up to the term n and with its tail, is at most the s-th plus (d - a) / e
unfoldable settled : ℕ → ℕ → ℕ → ℕ → ℕ → ℕ → ℕ → ℕ → Bool
settled r s e a d p q n = leb (e * (partial (fourth r) p q n + p ^ n) + a * denominator q n) (e * partial (fourth s) p q n + d * denominator q n)

later : (r s e a d p q n : ℕ) → 0 < q → 2 * p ≤ suc n * q → T (settled r s e a d p q n) → (m : ℕ) → n ≤ m →
    e * partial (fourth r) p q m + a * denominator q m ≤ e * partial (fourth s) p q m + d * denominator q m
unfolding settled
later r s e a d p q n pos halve t m l =
    le_of_mul-le-mul_right
    (through _ _ _ _ _ _ _ (leb→le _ _ t) (partial_tail (fourth r) (fourth_most r) p q n m halve l) (partial_grows (fourth s) p q n m l)) (over_pos q n pos)
  where
    through : (R S o R' S' o' t : ℕ) → e * (R + t) + a * o ≤ e * S + d * o → R' * o ≤ (R + t) * o' → S * o' ≤ S' * o → (e * R' + a * o') * o ≤ (e * S' + d * o') * o
    through R S o R' S' o' t x y z = omega (arith, mul-le-mul_right o' x, mul-le-mul_left e y, mul-le-mul_left e z)

-- two tests say that the limit is near
limit : (r s b U a P N p q n : ℕ) → 0 < q → 2 * p ≤ suc n * q → T (settled r s (b * U) (b * N) (b * P + a * U) p q n) → T (settled s r (b * U) (b * P) (b * N + a * U) p q n)
    → LimitNear (partial (fourth r) p q) (partial (fourth s) p q) (denominator q) P N U a b
limit r s b U a P N p q n pos halve t t' = record {
  from = n;
  least = λ m l. omega (arith, later s r (b * U) (b * P) (b * N + a * U) p q n pos halve t' m l);
  most = λ m l. omega (arith, later r s (b * U) (b * N) (b * P + a * U) p q n pos halve t m l);
}

-- ---- at j / 32 quarter turns
abbrev q : ℕ
q = quarter_unit * 32

unfoldable above : ℕ → ℕ → (ℕ → Difference) → ℕ → Bool
above r s w j = settled r s (2 ^ 61 * unit) (2 ^ 61 * (w j).minus) (2 ^ 61 * (w j).plus + 1 * unit) (quarter * j) q 47

unfoldable below : ℕ → ℕ → (ℕ → Difference) → ℕ → Bool
below r s w j = settled s r (2 ^ 61 * unit) (2 ^ 61 * (w j).plus) (2 ^ 61 * (w j).minus + 1 * unit) (quarter * j) q 47

cosine-above : T (all 64 (above 0 2 cosine_below))
unfolding all above settled partial denominator fourth quarter quarter_unit cosine_below entry
cosine-above = tt

cosine-above_2 : T (all 64 (λ i. above 0 2 cosine_below (64 + i)))
unfolding all above settled partial denominator fourth quarter quarter_unit cosine_below entry
cosine-above_2 = tt

cosine-below : T (all 64 (below 0 2 cosine_below))
unfolding all below settled partial denominator fourth quarter quarter_unit cosine_below entry
cosine-below = tt

cosine-below_2 : T (all 64 (λ i. below 0 2 cosine_below (64 + i)))
unfolding all below settled partial denominator fourth quarter quarter_unit cosine_below entry
cosine-below_2 = tt

sine-above : T (all 64 (above 1 3 sine_below))
unfolding all above settled partial denominator fourth quarter quarter_unit sine_below entry
sine-above = tt

sine-above_2 : T (all 64 (λ i. above 1 3 sine_below (64 + i)))
unfolding all above settled partial denominator fourth quarter quarter_unit sine_below entry
sine-above_2 = tt

sine-below : T (all 64 (below 1 3 sine_below))
unfolding all below settled partial denominator fourth quarter quarter_unit sine_below entry
sine-below = tt

sine-below_2 : T (all 64 (λ i. below 1 3 sine_below (64 + i)))
unfolding all below settled partial denominator fourth quarter quarter_unit sine_below entry
sine-below_2 = tt

-- both halves of the turn
whole_turn : (f : ℕ → Bool) → T (all 64 f) → T (all 64 (λ i. f (64 + i))) → (j : ℕ) → j < 128 → T (f j)
whole_turn f t t' j l = elim (le-or-lt 64 j) [ inl h ↦ subst (λ (k : ℕ). T (f k)) (back h) (at 64 (λ i. f (64 + i)) t' (j - 64) (rest h)) | inr h ↦ at 64 f t j h ]
  where
    back : 64 ≤ j → 64 + (j - 64) ≡ j
    back h = omega arith

    rest : 64 ≤ j → j - 64 < 64
    rest h = omega arith

q_pos : 0 < q
q_pos = mul-pos quarter-unit_pos (lit< tt)

quarter_most : quarter ≤ 2 * quarter_unit
unfolding quarter quarter_unit
quarter_most = leb→le quarter (2 * quarter_unit) tt

halves : (j : ℕ) → j < 128 → 2 * (quarter * j) ≤ 48 * q
halves j l = through quarter quarter_unit quarter_most
  where
    through : (Q W : ℕ) → Q ≤ 2 * W → 2 * (Q * j) ≤ 48 * (W * 32)
    through Q W h = omega (arith, mul-le-mul h (few l))
      where
        few : j < 128 → j ≤ 127
        few l = omega arith

-- the table is within 2 ^ -61 there
near : (j : ℕ) → j < 128 → Both (quarter * j) q (cosine_below j).plus (cosine_below j).minus (sine_below j).plus (sine_below j).minus unit 1 (2 ^ 61)
unfolding above below
near j l = record {
  cosine = limit 0 2 (2 ^ 61) unit 1 (cosine_below j).plus (cosine_below j).minus (quarter * j) q 47 q_pos (halves j l) (whole_turn (above 0 2 cosine_below) cosine-above cosine-above_2 j l) (whole_turn (below 0 2 cosine_below) cosine-below cosine-below_2 j l);
  sine = limit 1 3 (2 ^ 61) unit 1 (sine_below j).plus (sine_below j).minus (quarter * j) q 47 q_pos (halves j l) (whole_turn (above 1 3 sine_below) sine-above sine-above_2 j l) (whole_turn (below 1 3 sine_below) sine-below sine-below_2 j l);
}

-- so it is one of the tables that the promise speaks of
pub own_table : Turns cosine_below sine_below unit
own_table = record {
  positive = pow_pos 61;
  q = quarter;
  d = 1;
  w = quarter_unit;
  wide = quarter-unit_pos;
  quarter = quarter_turn;
  narrow = unfold quarter_unit in lit≤ tt;
  cosine = λ j l. cosine_of_lem {p = quarter * j} {m = 0} (subst (λ (p : ℕ). Both p q (cosine_below j).plus (cosine_below j).minus (sine_below j).plus (sine_below j).minus unit 1 (2 ^ 60)) (sym (add-zero (quarter * j))) (both_wider (pow_pos 61) (lit≤ tt) (near j l)));
  sine = λ j l. sine_plus (both_wider (pow_pos 61) (lit≤ tt) (near j l));
}

-- ---- by any enclosure of pi / 2, within 2 ^ -60 and what is left open
module _ (c d w : ℕ) (wpos : 0 < w) (turn : QuarterTurn c d w) (j : ℕ) (few : j < 128) where
  any_near : Both (c * j) (w * 32) (cosine_below j).plus (cosine_below j).minus (sine_below j).plus (sine_below j).minus unit (1 * (w * 32) + 2 ^ 60 * (d * j)) (2 ^ 60 * (w * 32))
  any_near = enclosed j 32 (2 ^ 62) 1 (2 ^ 60) wpos (lit< tt) (pow_pos 61) (pow_pos 62) turn room (near j few)
    where
      wide : (B E W : ℕ) → 4 * B ≤ E → 4 * B * j ≤ W * 32 → 2 * B * (j * E + W * 32) ≤ W * 32 * E
      wide B E W h g = omega (arith, mul-le-mul_right E g, mul-le-mul_left (W * 32) h)

      enough : 4 * 2 ^ 60 * j ≤ quarter_unit * 32
      enough = le_trans (most few) (unfold quarter_unit in lit≤ tt)
        where
          most : j < 128 → 4 * 2 ^ 60 * j ≤ 2 ^ 69
          most l = omega arith

      through : (B X Y : ℕ) → 2 * B * X ≤ Y → 1 * B * Y + 2 * B * B * X ≤ 1 * (2 * B) * Y
      through B X Y h = omega (arith, mul-le-mul_left B h)

      room : 1 * 2 ^ 60 * (quarter_unit * 32 * 2 ^ 62) + 2 ^ 61 * 2 ^ 60 * (j * 2 ^ 62 + quarter_unit * 32) ≤ 1 * 2 ^ 61 * (quarter_unit * 32 * 2 ^ 62)
      room = through (2 ^ 60) (j * 2 ^ 62 + quarter_unit * 32) (quarter_unit * 32 * 2 ^ 62) (wide (2 ^ 60) (2 ^ 62) quarter_unit (lit≤ tt) enough)

-- ---- two tables that are near the same limits are near each other
agree : {F G D : ℕ → ℕ} {P N U a b P' N' U' a' b' : ℕ} → ((n : ℕ) → 0 < D n) → LimitNear F G D P N U a b → LimitNear F G D P' N' U' a' b'
    → (b * b' * (P * U' + N' * U) ≤ b * b' * (N * U' + P' * U) + (a * b' + a' * b) * (U * U')) × (b * b' * (P' * U + N * U') ≤ b * b' * (N' * U + P * U') + (a * b' + a' * b) * (U * U'))
agree {F} {G} {D} {P} {N} {U} {a} {b} {P'} {N'} {U'} {a'} {b'} pos h h' =
    let n = h.from + h'.from in (
      side P N U a b P' N' U' a' b' (F n) (G n) (D n) (pos n) (h.least n (omega arith)) (h'.most n (omega arith)),
      turned (side P' N' U' a' b' P N U a b (F n) (G n) (D n) (pos n) (h'.least n (omega arith)) (h.most n (omega arith))),
    )
  where
    side : (P N U a b P' N' U' a' b' F G D : ℕ) → 0 < D → b * (P * D + U * G) ≤ b * (N * D + U * F) + a * (U * D) → b' * (N' * D + U' * F) ≤ b' * (P' * D + U' * G) + a' * (U' * D)
        → b * b' * (P * U' + N' * U) ≤ b * b' * (N * U' + P' * U) + (a * b' + a' * b) * (U * U')
    side P N U a b P' N' U' a' b' F G D p x y =
        le_of_mul-le-mul_right
        (pulled (b * b') P N P' N' U U' D (a * b') (a' * b)
        (sum (b * b') (P * U' * D) (U * U' * G) (N * U' * D) (U * U' * F) (N' * U * D) (P' * U * D) _ _ (first a b b' U' P N U F G D x) (second a' b b' U P' N' U' F G D y))) p
      where
        first : (a b b' U' P N U F G D : ℕ) → b * (P * D + U * G) ≤ b * (N * D + U * F) + a * (U * D) → b * b' * (P * U' * D + U * U' * G) ≤ b * b' * (N * U' * D + U * U' * F) + a * b' * (U * U' * D)
        first a b b' U' P N U F G D x = omega (arith, mul-le-mul_left (b' * U') x)

        second : (a' b b' U P' N' U' F G D : ℕ) → b' * (N' * D + U' * F) ≤ b' * (P' * D + U' * G) + a' * (U' * D) → b * b' * (N' * U * D + U * U' * F) ≤ b * b' * (P' * U * D + U * U' * G) + a' * b * (U * U' * D)
        second a' b b' U P' N' U' F G D y = omega (arith, mul-le-mul_left (b * U) y)

        sum : (k A G B F A' B' z w : ℕ) → k * (A + G) ≤ k * (B + F) + z → k * (A' + F) ≤ k * (B' + G) + w → k * (A + A') ≤ k * (B + B') + (z + w)
        sum k A G B F A' B' z w h g = omega arith

        pulled : (k P N P' N' U U' D z w : ℕ) → k * (P * U' * D + N' * U * D) ≤ k * (N * U' * D + P' * U * D) + (z * (U * U' * D) + w * (U * U' * D)) → k * (P * U' + N' * U) * D ≤ (k * (N * U' + P' * U) + (z + w) * (U * U')) * D
        pulled k P N P' N' U U' D z w h = omega arith

    turned : b' * b * (P' * U + N * U') ≤ b' * b * (N' * U + P * U') + (a' * b + a * b') * (U' * U) → b * b' * (P' * U + N * U') ≤ b * b' * (N' * U + P * U') + (a * b' + a' * b) * (U * U')
    turned l = omega arith

-- what that is in the table's units
module _ (c s : ℕ → Difference) (u : ℕ) (t : Turns c s u) (j : ℕ) (few : j < 128) where
  abbrev W : ℕ
  W = t.w * 32

  abbrev A : ℕ
  A = 1 * W + 2 ^ 60 * (t.d * j)

  spent : (B w d k : ℕ) → 4 * B * d ≤ w → k ≤ 127 → (1 * (w * 32) + B * (d * k)) * B + 1 * (B * (w * 32)) ≤ 4 * (B * (w * 32))
  spent B w d k h l = omega (arith, mul-le-mul_right (B * k) h, mul-le-mul_left (B * w) l)

  divided : (B w u X Y : ℕ) → 0 < B → 0 < w → (Z : ℕ) → Z ≤ 4 * (B * w) → B * w * B * X ≤ B * w * B * Y + Z * (2 * B * u) → X ≤ Y + 8 * u
  divided B w u X Y bpos vpos Z h l = le_of_mul-le-mul_left (omega (arith, l, mul-le-mul_right (2 * B * u) h)) (mul-pos (mul-pos bpos vpos) bpos)

  wpos : 0 < W
  wpos = mul-pos t.wide (lit< tt)

  small : (1 * (t.w * 32) + 2 ^ 60 * (t.d * j)) * 2 ^ 60 + 1 * (2 ^ 60 * (t.w * 32)) ≤ 4 * (2 ^ 60 * (t.w * 32))
  small = spent (2 ^ 60) t.w t.d j t.narrow (below_128 few)
    where
      below_128 : j < 128 → j ≤ 127
      below_128 l = omega arith

  close : (P N P' N' : ℕ)
      → (2 ^ 60 * W * 2 ^ 60 * (P * u + N' * unit) ≤ 2 ^ 60 * W * 2 ^ 60 * (N * u + P' * unit) + (A * 2 ^ 60 + 1 * (2 ^ 60 * W)) * (unit * u))
      × (2 ^ 60 * W * 2 ^ 60 * (P' * unit + N * u) ≤ 2 ^ 60 * W * 2 ^ 60 * (N' * unit + P * u) + (A * 2 ^ 60 + 1 * (2 ^ 60 * W)) * (unit * u))
      → Close (8 * u) (times (whole u) (record { plus = P; minus = N })) (times (whole unit) (record { plus = P'; minus = N' }))
  close P N P' N' h = both (2 ^ 61) (divided (2 ^ 60) W u (P * u + N' * unit) (N * u + P' * unit) (pow_pos 60) wpos _ small h.0) (divided (2 ^ 60) W u (P' * unit + N * u) (N' * unit + P * u) (pow_pos 60) wpos _ small h.1)
    where
      both : (U : ℕ) → P * u + N' * U ≤ N * u + P' * U + 8 * u → P' * U + N * u ≤ N' * U + P * u + 8 * u → Close (8 * u) (times (whole u) (record { plus = P; minus = N })) (times (whole U) (record { plus = P'; minus = N' }))
      both U a b = record { most = omega (arith, a); least = omega (arith, b) }

  pub table_cosine : Close (8 * u) (times (whole u) (cosine_below j)) (times (whole unit) (c j))
  table_cosine =
      close (cosine_below j).plus (cosine_below j).minus (c j).plus (c j).minus
      (agree (λ n. over_pos W n wpos) (cosine_of_lem {p = t.q * j} {m = 0} (subst (λ (p : ℕ). Both p W (cosine_below j).plus (cosine_below j).minus (sine_below j).plus (sine_below j).minus unit A (2 ^ 60 * W)) (sym (add-zero (t.q * j))) (any_near t.q t.d t.w t.wide t.quarter j few))).near (t.cosine j few).near)

  pub table_sine : Close (8 * u) (times (whole u) (sine_below j)) (times (whole unit) (s j))
  table_sine =
      close (sine_below j).plus (sine_below j).minus (s j).plus (s j).minus
      (agree (λ n. over_pos W n wpos) (sine_plus (any_near t.q t.d t.w t.wide t.quarter j few)).near (t.sine j few).near)
