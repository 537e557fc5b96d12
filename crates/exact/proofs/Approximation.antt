-- A power series near a polynomial: the limit of the sums with the weights f less those with g, at (c x) / (w d), is within a / b of (cs - bs) / K at x / d, for every
-- fraction x / d from 0 to 1, where two computed tests at one order pass.
use mathlib.Core.Path.{◌≡◌}
use mathlib.Core.Bool.{Bool}
use mathlib.Core.List.{List, [], ◌∷◌}
use Prim.Native.Nat.{ℕ, suc, ◌+◌, ◌*◌, ◌^◌, ◌≤◌, ◌<◌}
use native.Mathlib.Nat.{le_trans, le_of_eq, one-le-mul, mul-le-mul_left, mul-le-mul_right, le_of_mul-le-mul_right, pow-le-pow_left}
use native.Mathlib.Omega.{arith}
use lib.Dec.{T}
use lib.ListN.{length}
use lib.Pow.{pow-add}
use Rattle.exact.specs.Polynomial.{value}
use Rattle.exact.specs.Series.{partial, denominator, LimitNear}
use Rattle.exact.proofs.Power.{mul-pow}
use Rattle.exact.proofs.Forms.{add, scale, value-add, value_scale_by, value_raise, length-add, length_scale}
use Rattle.exact.proofs.Pieces.{each, end, below, below_sound}
use Rattle.exact.proofs.Series.{over_pos, over_scale, partial_grows, partial_tail, terms, terms_length, partial-value}

-- ---- a limit, by the sums of one order

-- what the sums of order n show, with a last term t to spare, later ones show
later : (P N U a b F G F' G' t O o : ℕ) → F * o ≤ F' * O → G' * O ≤ (G + t) * o → b * (P * O + U * (G + t)) ≤ b * (N * O + U * F) + a * (U * O) → b * (P * o + U * G') * O ≤ (b * (N * o + U * F') + a * (U * o)) * O
later P N U a b F G F' G' t O o up down h =
    let x : b * (P * o + U * G') * O ≤ b * (P * O + U * (G + t)) * o = omega (arith, mul-le-mul_left (b * U) down) in
    let y : (b * (N * O + U * F) + a * (U * O)) * o ≤ (b * (N * o + U * F') + a * (U * o)) * O = omega (arith, mul-le-mul_left (b * U) up) in
    le_trans x (le_trans (mul-le-mul_right o h) y)

-- the weights are at most 1, and terms halve from the order n on
module _ (f g : ℕ → ℕ) (f-small : (k : ℕ) → f k ≤ 1) (g-small : (k : ℕ) → g k ≤ 1) (p q n : ℕ) (pos : 0 < q) (halve : 2 * p ≤ suc n * q) (P N U a b : ℕ) where
  abbrev O : ℕ
  O = denominator q n

  pub near-by-order :
      b * (P * O + U * (partial g p q n + p ^ n)) ≤ b * (N * O + U * partial f p q n) + a * (U * O) →
      b * (N * O + U * (partial f p q n + p ^ n)) ≤ b * (P * O + U * partial g p q n) + a * (U * O) →
      LimitNear (partial f p q) (partial g p q) (denominator q) P N U a b
  near-by-order low high = record {
    from = n;
    least = λ m l. le_of_mul-le-mul_right (later P N U a b _ _ _ _ (p ^ n) O (denominator q m) (partial_grows f p q n m l) (partial_tail g g-small p q n m halve l) low) (over_pos q n pos);
    most = λ m l. le_of_mul-le-mul_right (later N P U a b _ _ _ _ (p ^ n) O (denominator q m) (partial_grows g p q n m l) (partial_tail f f-small p q n m halve l) high) (over_pos q n pos);
  }

-- ---- another fraction

-- near P - N over U, so near the same fraction with larger numbers
pub near_finer : {F G O : ℕ → ℕ} {P N U a b : ℕ} (k : ℕ) → LimitNear F G O P N U a b → LimitNear F G O (P * k) (N * k) (U * k) a b
near_finer {F} {G} {O} {P} {N} {U} {a} {b} k h = record { from = h.from; least = λ n l. side P N (F n) (G n) (O n) (h.least n l); most = λ n l. side N P (G n) (F n) (O n) (h.most n l) }
  where
    side : (P N F G O : ℕ) → b * (P * O + U * G) ≤ b * (N * O + U * F) + a * (U * O) → b * (P * k * O + U * k * G) ≤ b * (N * k * O + U * k * F) + a * (U * k * O)
    side P N F G O x = omega (arith, mul-le-mul_left k x)

-- near P - N over U E, so near any P' - N' over U that is within κ units of it
pub near_instead : {F G O : ℕ → ℕ} {P N U E a b : ℕ} (P' N' κ : ℕ) → 0 < E → P' * E + N ≤ P + N' * E + κ * E → P + N' * E ≤ P' * E + N + κ * E →
    LimitNear F G O P N (U * E) a b → LimitNear F G O P' N' U (a * U + κ * b) (b * U)
near_instead {F} {G} {O} {P} {N} {U} {E} {a} {b} P' N' κ pos low high h = record {
  from = h.from;
  least = λ n l. le_of_mul-le-mul_right (side P N P' N' (F n) (G n) (O n) low (h.least n l)) pos;
  most = λ n l. le_of_mul-le-mul_right (side N P N' P' (G n) (F n) (O n) (omega arith) (h.most n l)) pos;
}
  where
    exchanged : (P N p n k O f g u : ℕ) → p + N ≤ P + n + k → b * (P * O + g) ≤ b * (N * O + f) + a * u → b * (p * O + g) ≤ b * (n * O + f) + b * (k * O) + a * u
    exchanged P N p n k O f g u c x = omega (arith, mul-le-mul_left (b * O) c)

    side : (P N P' N' F G O : ℕ) → P' * E + N ≤ P + N' * E + κ * E → b * (P * O + U * E * G) ≤ b * (N * O + U * E * F) + a * (U * E * O) →
        b * U * (P' * O + U * G) * E ≤ (b * U * (N' * O + U * F) + (a * U + κ * b) * (U * O)) * E
    side P N P' N' F G O c x =
        let y = mul-le-mul_left U (exchanged P N (P' * E) (N' * E) (κ * E) O (U * E * F) (U * E * G) (U * E * O) c x) in
        le_trans (le_of_eq (left P' G O)) (le_trans y (le_of_eq (right N' F O)))
      where
        left : (p g o : ℕ) → b * U * (p * o + U * g) * E ≡ U * (b * (p * E * o + U * E * g))
        left p g o = omega arith

        right : (n f o : ℕ) → U * (b * (n * E * o + U * E * f) + b * (κ * E * o) + a * (U * E * o)) ≡ (b * U * (n * o + U * f) + (a * U + κ * b) * (U * o)) * E
        right n f o = omega arith

-- ---- the tests

-- the sums have the order j + k, the polynomials degree k; N knots es cut the interval from 0 to 1
module _ (j k c w K a b N : ℕ) (es : List ℕ) where
  -- cs over K, and a last term, at most the sum
  abbrev least_list : (ℕ → ℕ) → List ℕ → List ℕ
  least_list g cs = scale b (add (scale (denominator w (j + k)) cs) (scale K (add (terms g c w (j + k)) ((c ^ (j + k)) ∷ []))))

  abbrev most_list : (ℕ → ℕ) → List ℕ → List ℕ
  most_list f bs = add (scale b (add (scale (denominator w (j + k)) bs) (scale K (terms f c w (j + k))))) ((a * (K * denominator w (j + k))) ∷ [])

  unfoldable pub not_above : (ℕ → ℕ) → (ℕ → ℕ) → List ℕ → List ℕ → Bool
  unfolding scale add denominator terms each below
  not_above f g cs bs = each (below N (j + k) (least_list g cs) (most_list f bs)) 0 es

  module _ (pos : 0 < N) (whole : end 0 es ≡ N) (f g : ℕ → ℕ) (cs bs : List ℕ) (fits : length cs ≤ suc k) (fits' : length bs ≤ suc k) (test : T (not_above f g cs bs)) (x d : ℕ) (small : x ≤ d) where
    abbrev n : ℕ
    n = j + k

    constant : (t : ℕ) → value n (t ∷ []) x d ≡ t * d ^ n
    unfolding value
    constant t = omega arith

    least_length : length (least_list g cs) ≤ suc n
    least_length =
        rw length_scale
        (length-add (suc n) (scale (denominator w n) cs) (scale K (add (terms g c w n) ((c ^ n) ∷ []))) (rw length_scale (omega arith))
        (rw length_scale (length-add (suc n) (terms g c w n) ((c ^ n) ∷ []) (terms_length g c w n) (omega arith))))

    most_length : length (most_list f bs) ≤ suc n
    most_length =
        length-add (suc n) (scale b (add (scale (denominator w n) bs) (scale K (terms f c w n)))) ((a * (K * denominator w n)) ∷ [])
        (rw length_scale (length-add (suc n) (scale (denominator w n) bs) (scale K (terms f c w n)) (rw length_scale (omega arith)) (rw length_scale (terms_length f c w n)))) (omega arith)

    -- the tested inequality, at x / d
    tested : b * (denominator w n * (d ^ j * value k cs x d) + K * (value n (terms g c w n) x d + c ^ n * d ^ n))
        ≤ b * (denominator w n * (d ^ j * value k bs x d) + K * value n (terms f c w n) x d) + a * (K * denominator w n) * d ^ n
    unfolding not_above
    tested =
        let h : value n (least_list g cs) x d ≤ value n (most_list f bs) x d = below_sound N n (least_list g cs) (most_list f bs) pos least_length most_length 0 es test x d (omega arith) (rw whole (mul-le-mul_left N small)) in
        rw (
          value_scale_by n b (add (scale (denominator w n) cs) (scale K (add (terms g c w n) ((c ^ n) ∷ [])))) x d,
          value-add n (scale (denominator w n) cs) (scale K (add (terms g c w n) ((c ^ n) ∷ []))) x d,
          value_scale_by n (denominator w n) cs x d,
          value_raise j k cs x d fits,
          value_scale_by n K (add (terms g c w n) ((c ^ n) ∷ [])) x d,
          value-add n (terms g c w n) ((c ^ n) ∷ []) x d,
          constant (c ^ n),
          value-add n (scale b (add (scale (denominator w n) bs) (scale K (terms f c w n)))) ((a * (K * denominator w n)) ∷ []) x d,
          value_scale_by n b (add (scale (denominator w n) bs) (scale K (terms f c w n))) x d,
          value-add n (scale (denominator w n) bs) (scale K (terms f c w n)) x d,
          value_scale_by n (denominator w n) bs x d,
          value_raise j k bs x d fits',
          value_scale_by n K (terms f c w n) x d,
          constant (a * (K * denominator w n)),
        ) at h

    -- as the law of one order asks for it
    asked : b * (value k cs x d * denominator (w * d) n + K * d ^ k * (partial g (c * x) (w * d) n + (c * x) ^ n))
        ≤ b * (value k bs x d * denominator (w * d) n + K * d ^ k * partial f (c * x) (w * d) n) + a * (K * d ^ k * denominator (w * d) n)
    asked =
        rw (over_scale w d n, partial-value g c w x d n, partial-value f c w x d n, mul-pow c x n, pow-add d j k)
        (through (denominator w n) (d ^ j) (d ^ k) (value k cs x d) (value k bs x d) (value n (terms g c w n) x d) (value n (terms f c w n) x d) (c ^ n * x ^ n)
        (mul-le-mul_left (c ^ n) (le_trans (pow-le-pow_left small n) (le_of_eq (pow-add d j k))))
        (rw (pow-add d j k) at tested))
      where
        through : (o J D P Q G F t : ℕ) → t ≤ c ^ n * (J * D) → b * (o * (J * P) + K * (G + c ^ n * (J * D))) ≤ b * (o * (J * Q) + K * F) + a * (K * o) * (J * D)
            → b * (P * (o * (J * D)) + K * D * (G + t)) ≤ b * (Q * (o * (J * D)) + K * D * F) + a * (K * D * (o * (J * D)))
        through o J D P Q G F t less h =
            let l : b * (P * (o * (J * D)) + K * D * (G + t)) ≤ b * (o * (J * P) + K * (G + c ^ n * (J * D))) * D = omega (arith, mul-le-mul_left (b * (K * D)) less) in
            le_trans l (le_trans (mul-le-mul_right D h) (omega arith))

  -- both tests, and the limit is near the polynomials' difference
  pub near_polynomial : 0 < N → end 0 es ≡ N → 0 < w → 2 * c ≤ suc (j + k) * w → (f g : ℕ → ℕ) → ((i : ℕ) → f i ≤ 1) → ((i : ℕ) → g i ≤ 1) →
      (cs bs : List ℕ) → length cs ≤ suc k → length bs ≤ suc k → T (not_above f g cs bs) → T (not_above g f bs cs) → (x d : ℕ) → 0 < d → x ≤ d →
      LimitNear (partial f (c * x) (w * d)) (partial g (c * x) (w * d)) (denominator (w * d)) (value k cs x d) (value k bs x d) (K * d ^ k) a b
  near_polynomial pos whole wpos halve f g f-small g-small cs bs fits fits' low high x d dpos small =
      near-by-order f g f-small g-small (c * x) (w * d) (j + k) (one-le-mul wpos dpos) halved (value k cs x d) (value k bs x d) (K * d ^ k) a b
      (asked pos whole f g cs bs fits fits' low x d small) (asked pos whole g f bs cs fits' fits high x d small)
    where
      halved : 2 * (c * x) ≤ suc (j + k) * (w * d)
      halved = le_trans (omega (arith, mul-le-mul_left (2 * c) small)) (le_trans (mul-le-mul_right d halve) (omega arith))
