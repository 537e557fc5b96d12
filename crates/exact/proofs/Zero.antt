-- The first zero of cosine is between quarter / quarter_unit and the next fraction; so every enclosure of pi / 2 is near them.
use mathlib.Core.Path.{◌≡◌, ap, ◌∙◌}
use Prim.Native.Nat.{ℕ, suc, ◌+◌, ◌-◌, ◌*◌, ◌/◌, ◌^◌, ◌≤◌, ◌<◌}
use native.Mathlib.Nat.{le_of_lt, lt_of_not-le, le_dest, mul_comm, mul-pos, mul-le-mul, mul-le-mul_left, mul-le-mul_right, le_of_mul-le-mul_left, le_of_mul-le-mul_right, one-le-pow, div-mul-le_self, lt-div-mul-add}
use native.Mathlib.Decide.{dec_le}
use native.Mathlib.Omega.{arith}
use lib.Dec.{leb→le}
use lib.Pow.{pow-add, pow_pos}
use Rattle.exact.specs.Series.{partial, denominator, fourth}
use Rattle.exact.specs.Circle.{QuarterTurn, quarter, quarter_unit}
use Rattle.exact.proofs.Series.{over_pos, over_scale, partial_scale}
use Rattle.exact.proofs.Addition.{Added, addition}
use Rattle.exact.proofs.Early.{cosine_most, cosine_least, cosine_plus, sine_least}
use Rattle.exact.proofs.Limits.{Both, both_wider}
use Rattle.exact.proofs.Shift.{moved_to}
use Rattle.exact.proofs.Quarter.{sharp, quarter-unit_pos, quarter-above, next_beneath}

-- ---- cosine is above zero up to quarter / quarter_unit

-- from some term on, cos (p / q) is at least 1 / sharp
record Above (p q : ℕ) : Type 0 where
  from : ℕ
  holds : (n : ℕ) → from ≤ n → sharp * partial (fourth 2) p q n + denominator q n ≤ sharp * partial (fourth 0) p q n

sharp_least : 3 ≤ sharp
unfolding sharp
sharp_least = leb→le 3 sharp tt

quarter-below : 5 * quarter ≤ 8 * quarter_unit
unfolding quarter quarter_unit
quarter-below = leb→le (5 * quarter) (8 * quarter_unit) tt

-- by the first terms, where t is at most 4 / 5
above_small : (p q : ℕ) → 0 < q → 5 * p ≤ 4 * q → Above p q
above_small p q pos small = record { from = 5; holds = λ n l. through sharp _ _ _ sharp_least (cosine_least p q n l pos (omega arith) (omega arith)) }
  where
    through : (s E F o : ℕ) → 3 ≤ s → q * q * (F + o) ≤ q * q * E + p * p * o → s * F + o ≤ s * E
    through s E F o least h =
        let up : F ≤ E = omega (arith, part) in
        let (d, e) = le_dest up in
        omega (arith, part, ap (λ (n : ℕ). s * n) e, mul-le-mul_right d least)
      where
        part : 25 * F + 9 * o ≤ 25 * E
        part = le_of_mul-le-mul_left (omega (arith, mul-le-mul_right o (mul-le-mul small small))) (mul-pos pos pos)

-- x - x' is at least o / s, where its product with u - u', at most o, is at least o o / s
divided : (s x x' u u' o : ℕ) → 0 < o → u' ≤ u → u ≤ u' + o → s * (x * u' + x' * u) + o * o ≤ s * (x * u + x' * u') → s * x' + o ≤ s * x
divided s x x' u u' o pos l m h =
    let (w, e) = le_dest l in
    let less : s * x' * w + o * o ≤ s * x * w = omega (arith, ap (λ (n : ℕ). s * x * n) e, ap (λ (n : ℕ). s * x' * n) e) in
    elim (dec_le x' x) [ yes up ↦ part w (omega arith) less up | no up ↦ absurd (none w less (le_of_lt (lt_of_not-le up))) ]
  where
    part : (w : ℕ) → w ≤ o → s * x' * w + o * o ≤ s * x * w → x' ≤ x → s * x' + o ≤ s * x
    part w small less up =
        let (d, e) = le_dest up in
        let enough : o * o ≤ s * d * o = omega (arith, ap (λ (n : ℕ). s * w * n) e, mul-le-mul_left (s * d) small) in
        omega (arith, le_of_mul-le-mul_right enough pos, ap (λ (n : ℕ). s * n) e)

    none : (w : ℕ) → s * x' * w + o * o ≤ s * x * w → x ≤ x' → ⊥
    none w less down = omega (arith, mul-le-mul_left (s * w) down, mul-pos pos pos)

-- cos s is at least 1 / S, where cos (s + t) is at least 2 / S, sin s and sin t are not below zero, and cos t is from 0 to 1
above-sum : (S p r q n : ℕ) → 0 < q → Added p r q S n → S * partial (fourth 2) (p + r) q n + 2 * denominator q n ≤ S * partial (fourth 0) (p + r) q n →
    partial (fourth 3) p q n ≤ partial (fourth 1) p q n → partial (fourth 3) r q n ≤ partial (fourth 1) r q n →
    partial (fourth 2) r q n ≤ partial (fourth 0) r q n → partial (fourth 0) r q n ≤ partial (fourth 2) r q n + denominator q n →
    S * partial (fourth 2) p q n + denominator q n ≤ S * partial (fourth 0) p q n
above-sum S p r q n pos h up ly lv lu mu =
    divided S _ _ _ _ (denominator q n) (over_pos q n pos) lu mu (through _ _ _ _ _ _ _ _ _ _ _ h.least0 h.most2 up (product _ _ _ _ ly lv))
  where
    product : (y y' v v' : ℕ) → y' ≤ y → v' ≤ v → y * v' + y' * v ≤ y * v + y' * v'
    product y y' v v' l m =
        let (i, e) = le_dest l in
        let (j, f) = le_dest m in
        omega (arith, ap (λ (n : ℕ). n * v) e, ap (λ (n : ℕ). n * v') e, ap (λ (n : ℕ). i * n) f)

    through : (x x' y y' u u' v v' F F' o : ℕ) → F * o ≤ x * u + y * v' + x' * u' + y' * v → S * (x * u' + y * v + x' * u + y' * v') ≤ S * (F' * o) + o * o →
        S * F' + 2 * o ≤ S * F → y * v' + y' * v ≤ y * v + y' * v' → S * (x * u' + x' * u) + o * o ≤ S * (x * u + x' * u')
    through x x' y y' u u' v v' F F' o l m d k = omega (arith, mul-le-mul_left S l, mul-le-mul_right o d, mul-le-mul_left S k)

-- where t is at least 4 / 5, by the sum of t and a rest r of at most 4 / 5, which is quarter / quarter_unit
module _ (p q r : ℕ) (pos : 0 < q) (large : 4 * q ≤ 5 * p) (sum : p * quarter_unit + r ≡ quarter * q) where
  wide : 0 < q * quarter_unit
  wide = mul-pos pos quarter-unit_pos

  whole : 5 * quarter * q ≤ 8 * quarter_unit * q
  whole = mul-le-mul_right q quarter-below

  rest : 5 * r ≤ 4 * (q * quarter_unit)
  rest = omega (arith, whole, mul-le-mul_right quarter_unit large)

  at_sum : (n : ℕ) → 70 ≤ n → sharp * partial (fourth 2) (p * quarter_unit + r) (q * quarter_unit) n + 2 * denominator (q * quarter_unit) n ≤ sharp * partial (fourth 0) (p * quarter_unit + r) (q * quarter_unit) n
  at_sum n l =
      rw (sum, mul_comm q quarter_unit, partial_scale (fourth 0) quarter quarter_unit q n, partial_scale (fourth 2) quarter quarter_unit q n, over_scale quarter_unit q n)
      (times sharp _ _ _ (q ^ n) (quarter-above n l))
    where
      times : (S E F o K : ℕ) → S * F + 2 * o ≤ S * E → S * (F * K) + 2 * (o * K) ≤ S * (E * K)
      times S E F o K h = omega (arith, mul-le-mul_right K h)

  above_large : Above p q
  above_large =
      let a = addition (p * quarter_unit) r (q * quarter_unit) sharp wide in
      record {
        from = a.from + 70;
        holds = λ n l.
            part sharp _ _ _ (quarter_unit ^ n) (one-le-pow n quarter_unit quarter-unit_pos)
            (rw (partial_scale (fourth 0) p q quarter_unit n, partial_scale (fourth 2) p q quarter_unit n, over_scale q quarter_unit n)
            at (above-sum sharp (p * quarter_unit) r (q * quarter_unit) n wide (a.holds n (omega arith)) (at_sum n (omega arith))
            (sine_least (p * quarter_unit) (q * quarter_unit) n (omega arith) wide (omega (arith, whole))) (sine_least r (q * quarter_unit) n (omega arith) wide (omega (arith, rest)))
            (cosine_plus r (q * quarter_unit) n (omega arith) wide (omega (arith, rest)) (omega (arith, rest))) (cosine_most r (q * quarter_unit) n (omega arith) wide (omega (arith, rest)))));
      }
    where
      part : (S E F o K : ℕ) → 0 < K → S * (F * K) + o * K ≤ S * (E * K) → S * F + o ≤ S * E
      part S E F o K kpos h = le_of_mul-le-mul_right (omega arith) kpos

above : (p q : ℕ) → 0 < q → p * quarter_unit ≤ quarter * q → Above p q
above p q pos less =
    elim (dec_le (5 * p) (4 * q)) [
      | yes l ↦ above_small p q pos l
      | no l ↦ let (r, e) = le_dest less in above_large p q r pos (le_of_lt (lt_of_not-le l)) e
    ]

-- ---- the record of pi / 2

-- quarter / quarter_unit ≤ pi / 2 ≤ (quarter + 1) / quarter_unit
pub quarter_turn : QuarterTurn quarter 1 quarter_unit
quarter_turn = record {
  before = λ p q pos l. let a = above p q pos l in record { holds = record { from = λ b. a.from; least = λ b n m. plus sharp b _ _ _ sharp_least (a.holds n m) } };
  s = suc quarter;
  t = quarter_unit;
  positive = quarter-unit_pos;
  up_to = omega arith;
  after = record { holds = record { from = λ b. 70; least = λ b n m. plus sharp b _ _ _ sharp_least (omega (arith, next_beneath n m)) } };
}
  where
    plus : (S b E F o : ℕ) → 3 ≤ S → S * F + o ≤ S * E → b * F ≤ b * E + o
    plus S b E F o l h =
        let less : S * F ≤ S * E = omega arith in
        omega (arith, mul-le-mul_left b (le_of_mul-le-mul_left less (omega arith)))

-- what encloses an enclosure is one
encloses : {c d w c' d' w' : ℕ} → 0 < w → 0 < w' → c' * w ≤ c * w' → (c + d) * w' ≤ (c' + d') * w → QuarterTurn c d w → QuarterTurn c' d' w'
encloses {c} {d} {w} {c'} {d'} {w'} pos pos' low high h = record {
  before = λ p q qpos l. h.before p q qpos (le_of_mul-le-mul_right (omega (arith, mul-le-mul_right w l, mul-le-mul_right q low)) pos');
  s = h.s;
  t = h.t;
  positive = h.positive;
  up_to = le_of_mul-le-mul_right (omega (arith, mul-le-mul_right w' h.up_to, mul-le-mul_right h.t high)) pos;
  after = h.after;
}

unit_split : (n : ℕ) → n ≤ 256 → quarter_unit ≡ 2 ^ n * 2 ^ (256 - n)
unfolding quarter_unit
unit_split n few = let e : 256 ≡ n + (256 - n) = omega arith in ap (λ (k : ℕ). 2 ^ k) e ∙ pow-add 2 n (256 - n)

-- so there are enclosures as narrow as one likes: of the width 2 ^ -n for every n up to 256, pi / 2 cut off after n binary places
pub narrow : (n : ℕ) → n ≤ 256 → QuarterTurn (quarter / 2 ^ (256 - n)) 1 (2 ^ n)
narrow n few =
    let c = quarter / 2 ^ (256 - n) in
    encloses quarter-unit_pos (pow_pos n) (rw (unit_split n few) (low c quarter _ _ (div-mul-le_self quarter (2 ^ (256 - n))))) (rw (unit_split n few) (high c quarter _ _ (lt-div-mul-add (pow_pos (256 - n))))) quarter_turn
  where
    low : (c Q a b : ℕ) → c * b ≤ Q → c * (a * b) ≤ Q * a
    low c Q a b h = omega (arith, mul-le-mul_right a h)

    high : (c Q a b : ℕ) → Q < c * b + b → (Q + 1) * a ≤ (c + 1) * (a * b)
    high c Q a b h = omega (arith, mul-le-mul_right a h)

-- every enclosure c / w ≤ pi / 2 ≤ (c + d) / w starts at most at the next fraction, and ends at least at the fraction
pub quarter_known : {c d w : ℕ} → 0 < w → QuarterTurn c d w → (c * quarter_unit ≤ suc quarter * w) × (quarter * w ≤ (c + d) * quarter_unit)
quarter_known {c} {d} {w} pos h = (
  elim (dec_le (c * quarter_unit) (suc quarter * w)) [ yes l ↦ l | no l ↦ absurd (late (le_of_lt (lt_of_not-le l))) ],
  elim (dec_le (quarter * w) ((c + d) * quarter_unit)) [ yes l ↦ l | no l ↦ absurd (early (le_of_lt (lt_of_not-le l))) ],
)
  where
    late : suc quarter * w ≤ c * quarter_unit → ⊥
    late l =
        let limit = (h.before (suc quarter) quarter_unit quarter-unit_pos l).holds in
        let n = limit.from sharp + 70 in
        omega (arith, limit.least sharp n (omega arith), next_beneath n (omega arith), over_pos quarter_unit n quarter-unit_pos)

    early : (c + d) * quarter_unit ≤ quarter * w → ⊥
    early l =
        let zero-at : h.s * quarter_unit * w ≤ quarter * h.t * w = omega (arith, mul-le-mul_right quarter_unit h.up_to, mul-le-mul_right h.t l) in
        let limit = h.after.holds in
        let a = above h.s h.t h.positive (le_of_mul-le-mul_right zero-at pos) in
        let n = limit.from (2 * sharp) + a.from in
        omega (arith, limit.least (2 * sharp) n (omega arith), a.holds n (omega arith), over_pos h.t n h.positive)

-- ---- any enclosure instead of ours

wider : (a b a' b' v z Y T : ℕ) → a * b' * Y + b * b' * T ≤ a' * b * Y → (a * (v * Y) + b * (v * T + z * Y)) * (b' * v) ≤ (a' * v + b' * z) * (b * (v * Y))
wider a b a' b' v z Y T room = omega (arith, mul-le-mul_left (v * v) room)

-- what is within a / b at x / D times ours is within a' / b' + d x / (w D) at x / D times c / w, where a' / b' leaves room for x / (quarter_unit D) + 1 / e
pub enclosed : {c d w C C' S S' U a b : ℕ} (x D e a' b' : ℕ) → 0 < w → 0 < D → 0 < b → 0 < e → QuarterTurn c d w →
    a * b' * (quarter_unit * D * e) + b * b' * (x * e + quarter_unit * D) ≤ a' * b * (quarter_unit * D * e) →
    Both (quarter * x) (quarter_unit * D) C C' S S' U a b → Both (c * x) (w * D) C C' S S' U (a' * (w * D) + b' * (d * x)) (b' * (w * D))
enclosed {c} {d} {w} {a = a} {b = b} x D e a' b' wpos dpos bpos epos turn room h =
    both_wider (mul-pos bpos (mul-pos (mul-pos (mul-pos quarter-unit_pos dpos) (mul-pos wpos dpos)) epos)) (rw (split quarter_unit, same quarter_unit) (wider _ _ _ _ _ _ _ _ room))
    (moved_to (x * D * (d * quarter_unit + w)) e (mul-pos quarter-unit_pos dpos) (mul-pos wpos dpos) bpos epos
    (far quarter quarter_unit (quarter_known wpos turn).1) (near quarter quarter_unit (quarter_known wpos turn).0) h)
  where
    far : (Q W : ℕ) → Q * w ≤ (c + d) * W → Q * x * (w * D) ≤ c * x * (W * D) + x * D * (d * W + w)
    far Q W l = omega (arith, mul-le-mul_left (x * D) l)

    near : (Q W : ℕ) → c * W ≤ suc Q * w → c * x * (W * D) ≤ Q * x * (w * D) + x * D * (d * W + w)
    near Q W l = omega (arith, mul-le-mul_left (x * D) l)

    same : (W : ℕ) → W * D * (w * D) * e ≡ w * D * (W * D * e)
    same W = omega arith

    split : (W : ℕ) → x * D * (d * W + w) * e + W * D * (w * D) ≡ w * D * (x * e + W * D) + d * x * (W * D * e)
    split W = omega arith
