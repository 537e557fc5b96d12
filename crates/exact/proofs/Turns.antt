-- Quarter turns: cosine and sine at k c + t, for c just below pi / 2, are those at t turned k times by a quarter, within k / fine.
use mathlib.Core.Path.{◌≡◌, refl}
use Prim.Native.Nat.{ℕ, zero, suc, ◌+◌, ◌*◌, ◌/◌, ◌%◌, ◌^◌, ◌≤◌, ◌<◌}
use native.Mathlib.Nat.{zero-add, zero-mul, div-add-mod, mul_comm, mul_assoc, mul-pos, mul-le-mul_right}
use native.Mathlib.Omega.{arith}
use Rattle.exact.specs.Series.{partial, denominator, fourth}
use Rattle.exact.specs.Circle.{quarter, quarter_unit}
use Rattle.exact.proofs.Series.{over_scale, partial_scale}
use Rattle.exact.proofs.Addition.{addition}
use Rattle.exact.proofs.Within.{Within}
use Rattle.exact.proofs.Rotation.{Known, Rotated, rotated}
use Rattle.exact.proofs.Round.{bounded}
use Rattle.exact.proofs.Limits.{near_minus, near_through, Both, both_wider, both_scaled}
use Rattle.exact.proofs.Quarter.{fine, quarter-unit_pos, fine_pos, quarter_near}

-- ---- one quarter

-- the place written with larger numbers
known_scaled : {α β A B e p q n : ℕ} (k : ℕ) → Known α β A B e p q n → Known α β A B e (p * k) (q * k) n
known_scaled {α} {β} {A} {B} {e} {p} {q} {n} k h = record {
  cosine = rw (partial_scale (fourth 0) p q k n, partial_scale (fourth 2) p q k n, over_scale q k n) (times A α _ _ _ (k ^ n) h.cosine);
  sine = rw (partial_scale (fourth 1) p q k n, partial_scale (fourth 3) p q k n, over_scale q k n) (times B β _ _ _ (k ^ n) h.sine);
}
  where
    times : (A α F G o K : ℕ) → Within (e * F) (e * (G + α * o)) (A * o) → Within (e * (F * K)) (e * (G * K + α * (o * K))) (A * (o * K))
    times A α F G o K w = record { least = omega (arith, mul-le-mul_right K w.least); most = omega (arith, mul-le-mul_right K w.most) }

-- the k-th of four numbers that come round
unfoldable pub pick : ℕ → ℕ → ℕ → ℕ → ℕ → ℕ
pick zero w x y z = w
pick (suc k) w x y z = pick k x y z w

module _ (f c q : ℕ) (from : ℕ) (turn : (n : ℕ) → from ≤ n → Known 0 1 1 1 (5 * f) c q n) (fpos : 0 < f) (qpos : 0 < q) where
  -- a further quarter turns (C, S) to (- S, C)
  one : {p C C' S S' U a b : ℕ} → 0 < b → Both p q C C' S S' U a b → Both (p + c) q S' S C C' U (a * f + b) (b * f)
  one {p} {a = a} {b = b} bpos h =
      both_wider (mul-pos bpos (mul-pos (omega arith) (mul-pos (omega arith) fpos))) wider (record {
        cosine = near_through 5 (1 * (5 * f)) start (λ n l. step_cosine (rotation n l)) (near_minus h.sine);
        sine = near_through 5 (1 * (5 * f)) start (λ n l. step_sine (rotation n l)) h.cosine;
      })
    where
      start : ℕ
      start = (addition p c q (5 * f) qpos).from + (bounded 1 p q qpos).from + from

      rotation : (n : ℕ) → start ≤ n → Rotated 0 1 5 (1 * (5 * f)) p (p + c) q n
      rotation n l = rotated qpos ((addition p c q (5 * f) qpos).holds n (omega arith)) ((bounded 1 p q qpos).holds n (omega arith)) (turn n (omega arith))

      step_cosine : {e n : ℕ} → Rotated 0 1 5 e p (p + c) q n →
          Within (e * (partial (fourth 0) (p + c) q n + partial (fourth 1) p q n)) (e * (partial (fourth 2) (p + c) q n + partial (fourth 3) p q n)) (5 * denominator q n)
      step_cosine r = omega (arith, r.cosine)

      step_sine : {e n : ℕ} → Rotated 0 1 5 e p (p + c) q n →
          Within (e * (partial (fourth 1) (p + c) q n + partial (fourth 2) p q n)) (e * (partial (fourth 3) (p + c) q n + partial (fourth 0) p q n)) (5 * denominator q n)
      step_sine r = omega (arith, r.sine)

      wider : (a * (1 * (5 * f)) + b * 5) * (b * f) ≤ (a * f + b) * (b * (1 * (5 * f)))
      wider = omega arith

  -- k of them
  many : {p C C' S S' U a b : ℕ} (k : ℕ) → 0 < b → Both p q C C' S S' U a b →
      Both (k * c + p) q (pick k C S' C' S) (pick k C' S C S') (pick k S C S' C') (pick k S' C' S C) U (a * f + k * b) (b * f)
  unfolding pick
  many {p} {a = a} {b = b} zero bpos h = rw (zero-mul, zero-add) (both_wider bpos (omega arith) h)
  many {p} {a = a} {b = b} (suc k) bpos h =
      rw (place k c p) (both_wider (mul-pos (mul-pos bpos fpos) fpos) (wider a b f k) (one (mul-pos bpos fpos) (many k bpos h)))
    where
      place : (k c p : ℕ) → suc k * c + p ≡ k * c + p + c
      place k c p = omega arith

      wider : (a b f k : ℕ) → ((a * f + k * b) * f + b * f) * (b * f) ≤ (a * f + suc k * b) * (b * f * f)
      wider a b f k = omega arith

-- ---- quarters of pi / 2, cut off

-- at any p / q and k quarters more
pub turned : {p q C C' S S' U a b : ℕ} (k : ℕ) → 0 < q → 0 < b → Both p q C C' S S' U a b →
    Both (k * quarter * q + p * quarter_unit) (q * quarter_unit) (pick k C S' C' S) (pick k C' S C S') (pick k S C S' C') (pick k S' C' S C) U (a * fine + k * b) (b * fine)
turned {p} {q} k qpos bpos h =
    rw (mul_assoc k quarter q)
    (many fine (quarter * q) (q * quarter_unit) 70 (λ n l. rw (mul_comm q quarter_unit) (known_scaled q (quarter_near n l))) fine_pos (mul-pos qpos quarter-unit_pos) k bpos (both_scaled quarter_unit h))

-- ---- at x / d quarters and k more, by what k leaves when divided by 4

pick_rest : (m i w x y z : ℕ) → pick (4 * m + i) w x y z ≡ pick i w x y z
unfolding pick
pick_rest zero i w x y z = rw (zero-add i) refl
pick_rest (suc m) i w x y z = rw (more m i) (pick_rest m i w x y z)
  where
    more : (m i : ℕ) → 4 * suc m + i ≡ suc (suc (suc (suc (4 * m + i))))
    more m i = omega arith

pick_by : (k i : ℕ) → k % 4 ≡ i → (w x y z : ℕ) → pick k w x y z ≡ pick i w x y z
pick_by k i e w x y z = rw (div-add-mod k 4, e) at (pick_rest (k / 4) (k % 4) w x y z)

module _ {C C' S S' U a b : ℕ} (x d k : ℕ) (dpos : 0 < d) (bpos : 0 < b) (h : Both (quarter * x) (quarter_unit * d) C C' S S' U a b) where
  by_rest : (i : ℕ) → k % 4 ≡ i →
      Both (quarter * (k * d + x)) (quarter_unit * d) (pick i C S' C' S) (pick i C' S C S') (pick i S C S' C') (pick i S' C' S C) U (a * fine + k * b) (b * fine)
  by_rest i e =
      rw (place quarter k d x, ← pick_by k i e C S' C' S, ← pick_by k i e C' S C S', ← pick_by k i e S C S' C', ← pick_by k i e S' C' S C)
      (many fine (quarter * d) (quarter_unit * d) 70 (λ n l. known_scaled d (quarter_near n l)) fine_pos (mul-pos quarter-unit_pos dpos) k bpos h)
    where
      place : (c k d x : ℕ) → c * (k * d + x) ≡ k * (c * d) + c * x
      place c k d x = omega arith

  -- whole turns
  pub turned0 : k % 4 ≡ 0 → Both (quarter * (k * d + x)) (quarter_unit * d) C C' S S' U (a * fine + k * b) (b * fine)
  unfolding pick
  turned0 = by_rest 0

  -- and one quarter
  pub turned1 : k % 4 ≡ 1 → Both (quarter * (k * d + x)) (quarter_unit * d) S' S C C' U (a * fine + k * b) (b * fine)
  unfolding pick
  turned1 = by_rest 1

  -- and two
  pub turned2 : k % 4 ≡ 2 → Both (quarter * (k * d + x)) (quarter_unit * d) C' C S' S U (a * fine + k * b) (b * fine)
  unfolding pick
  turned2 = by_rest 2

  -- and three
  pub turned3 : k % 4 ≡ 3 → Both (quarter * (k * d + x)) (quarter_unit * d) S S' C' C U (a * fine + k * b) (b * fine)
  unfolding pick
  turned3 = by_rest 3
