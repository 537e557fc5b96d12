-- A small change of the argument changes cosine and sine by no more, of either direction: many small steps, each by the addition theorem, at bounded cosine and sine.
use mathlib.Core.Path.{◌≡◌, refl, ap}
use Prim.Native.Nat.{ℕ, zero, suc, ◌+◌, ◌*◌, ◌^◌, ◌≤◌, ◌<◌}
use native.Mathlib.Nat.{le_trans, le-mul_of_pos_right, mul-pos, mul-le-mul_left, mul-le-mul_right, le_of_mul-le-mul_right, one-le-pow, le_dest, le_of_lt, lt_of_not-le}
use native.Mathlib.Decide.{dec_le}
use native.Mathlib.Omega.{arith}
use Rattle.exact.specs.Series.{partial, denominator, fourth}
use Rattle.exact.proofs.Series.{over_scale, partial_scale}
use Rattle.exact.proofs.Addition.{addition}
use Rattle.exact.proofs.Within.{Within, within_cancel}
use Rattle.exact.proofs.Rotation.{Known, Rotated, rotated}
use Rattle.exact.proofs.Early.{cosine_most, cosine_least, sine_least, sine_most}
use Rattle.exact.proofs.Round.{bounded}
use Rattle.exact.proofs.Limits.{near_through, Both, both_wider, both_scaled, both_same}

-- up to the term n, cosine and sine at p' / q are within c / e of those at p / q
record Steady (c e p p' q n : ℕ) : Type 0 where
  cosine : Within (e * (partial (fourth 0) p' q n + partial (fourth 2) p q n)) (e * (partial (fourth 2) p' q n + partial (fourth 0) p q n)) (c * denominator q n)
  sine : Within (e * (partial (fourth 1) p' q n + partial (fourth 3) p q n)) (e * (partial (fourth 3) p' q n + partial (fourth 1) p q n)) (c * denominator q n)

-- from some term on
record Steadily (c e p p' q : ℕ) : Type 0 where
  from : ℕ
  holds : (n : ℕ) → from ≤ n → Steady c e p p' q n

-- ---- one small step

-- cos t is within t / g of 1 and sin t within t of 0, where t = h / q is at most 1 / g
nearly_still : (h g q n : ℕ) → 0 < q → 0 < g → h * g ≤ q → 5 ≤ n → Known 1 0 h (h * g) (q * g) h q n
nearly_still h g q n qpos gpos small many = record {
  cosine = record {
    least = omega (arith, mul-le-mul_left (q * g) (cosine_most h q n many qpos (omega (arith, less))));
    most = le_of_mul-le-mul_right (low (partial (fourth 0) h q n) (partial (fourth 2) h q n) (denominator q n) (cosine_least h q n many qpos (omega (arith, less)) (omega (arith, less)))) qpos;
  };
  sine = record {
    least = omega (arith, mul-le-mul_left g (sine_most h q n many qpos (omega (arith, less))));
    most = omega (arith, mul-le-mul_left (q * g) (sine_least h q n many qpos (omega (arith, less))));
  };
}
  where
    less : h ≤ q
    less = le_trans (le-mul_of_pos_right h gpos) small

    low : (E F o : ℕ) → q * q * (F + o) ≤ q * q * E + h * h * o → q * g * (F + 1 * o) * q ≤ (q * g * E + h * o) * q
    low E F o l = omega (arith, mul-le-mul_left g l, mul-le-mul_right (h * o) small)

-- one step of at most 1 / g
step : (h g p q : ℕ) → 0 < q → 0 < g → h * g ≤ q → Steadily (g + (suc g * h + suc g * (h * g))) (g * (q * g)) p (p + h) q
step h g p q qpos gpos small =
    let a = addition p h q (q * g) qpos in
    let b = bounded g p q qpos in
    record { from = a.from + b.from + 5; holds = λ n l. still (rotated qpos (a.holds n (omega arith)) (b.holds n (omega arith)) (nearly_still h g q n qpos gpos small (omega arith))) }
  where
    still : {c e p p' q n : ℕ} → Rotated 1 0 c e p p' q n → Steady c e p p' q n
    still r = record { cosine = omega (arith, r.cosine); sine = omega (arith, r.sine) }

-- ---- many steps

steadily_sym : {c e p p' q : ℕ} → Steadily c e p p' q → Steadily c e p' p q
steadily_sym h = record { from = h.from; holds = λ n l. turn (h.holds n l) }
  where
    turn : {c e p p' q n : ℕ} → Steady c e p p' q n → Steady c e p' p q n
    turn s = record { cosine = omega (arith, s.cosine); sine = omega (arith, s.sine) }

steadily_trans : {c c' e p p' p'' q : ℕ} → Steadily c e p p' q → Steadily c' e p' p'' q → Steadily (c' + c) e p p'' q
steadily_trans h k = record { from = h.from + k.from; holds = λ n l. join (h.holds n (omega arith)) (k.holds n (omega arith)) }
  where
    join : {c c' e p p' p'' q n : ℕ} → Steady c e p p' q n → Steady c' e p' p'' q n → Steady (c' + c) e p p'' q n
    join s t = record { cosine = omega (arith, s.cosine, t.cosine); sine = omega (arith, s.sine, t.sine) }

steps : {c e q : ℕ} (h : ℕ) → ((p : ℕ) → Steadily c e p (p + h) q) → (i p : ℕ) → Steadily (i * c) e p (p + i * h) q
steps {c} {e} {q} h each zero p = rw (same p h) (record { from = 0; holds = λ n l. record { cosine = omega arith; sine = omega arith } })
  where
    same : (p h : ℕ) → p + 0 * h ≡ p
    same p h = omega arith
steps {c} {e} {q} h each (suc i) p = rw (more p h i, count i c) (steadily_trans (steps h each i p) (each (p + i * h)))
  where
    more : (p h i : ℕ) → p + suc i * h ≡ p + i * h + h
    more p h i = omega arith

    count : (i c : ℕ) → suc i * c ≡ c + i * c
    count i c = omega arith

steadily_cancel : {c e p p' q : ℕ} (k : ℕ) → 0 < k → Steadily c e (p * k) (p' * k) (q * k) → Steadily c e p p' q
steadily_cancel {c} {e} {p} {p'} {q} k pos h = record {
  from = h.from;
  holds = λ n l. record {
    cosine =
        part _ _ _ _ _ (k ^ n) (one-le-pow n k pos)
        (rw (partial_scale (fourth 0) p q k n, partial_scale (fourth 0) p' q k n, partial_scale (fourth 2) p q k n, partial_scale (fourth 2) p' q k n, over_scale q k n) at (h.holds n l).cosine);
    sine =
        part _ _ _ _ _ (k ^ n) (one-le-pow n k pos)
        (rw (partial_scale (fourth 1) p q k n, partial_scale (fourth 1) p' q k n, partial_scale (fourth 3) p q k n, partial_scale (fourth 3) p' q k n, over_scale q k n) at (h.holds n l).sine);
  };
}
  where
    part : (F G F' G' o K : ℕ) → 0 < K → Within (e * (F * K + G * K)) (e * (F' * K + G' * K)) (c * (o * K)) → Within (e * (F + G)) (e * (F' + G')) (c * o)
    part F G F' G' o K kpos w = within_cancel K kpos (omega (arith, w))

-- from p / q to (p + h) / q in m steps of h / (q m), at most 1 / g each
walk : (h g m p q : ℕ) → 0 < q → 0 < g → 0 < m → h * g ≤ q * m → Steadily (m * (g + (suc g * h + suc g * (h * g)))) (g * (q * m * g)) p (p + h) q
walk h g m p q qpos gpos mpos small = steadily_cancel m mpos (rw (same p h m) (steps h (λ r. step h g r (q * m) (mul-pos qpos mpos) gpos small) m (p * m)))
  where
    same : (p h m : ℕ) → (p + h) * m ≡ p * m + m * h
    same p h m = omega arith

-- the walk's bound is at most h / q + 1 / e, where steps are as small as 1 / (e (3 h + 1))
short : (h e g m q : ℕ) → 0 < q → 0 < g → g ≡ e * (3 * h + 1) → m * (g + (suc g * h + suc g * (h * g))) * (q * e) ≤ (h * e + q) * (g * (q * m * g))
short h e g m q qpos gpos fine = omega (arith, mul-le-mul_left (m * q) each)
  where
    each : (g + (suc g * h + suc g * (h * g))) * e ≤ (h * e + q) * (g * g)
    each = omega (arith, ap (λ (n : ℕ). g * n) fine, mul-le-mul_left (e * h) gpos, mul-le-mul_right (g * g) qpos)

-- ---- cosine and sine near two fractions, at another place

carried : {p p' q C C' S S' U a b : ℕ} (c e c' e''' : ℕ) → 0 < b → 0 < e → c * e''' ≤ c' * e → Steadily c e p p' q → Both p q C C' S S' U a b → Both p' q C C' S S' U (a * e''' + b * c') (b * e''')
carried {a = a} {b = b} c e c' e''' bpos epos more s h = both_wider (mul-pos bpos epos) wider (record {
  cosine = near_through c e s.from (λ n l. (s.holds n l).cosine) h.cosine;
  sine = near_through c e s.from (λ n l. (s.holds n l).sine) h.sine;
})
  where
    wider : (a * e + b * c) * (b * e''') ≤ (a * e''' + b * c') * (b * e)
    wider = omega (arith, mul-le-mul_left (b * b) more)

module _ (h e i q : ℕ) (qpos : 0 < q) (epos : 0 < e) (near : i ≤ h) where
  grain : ℕ
  grain = e * (3 * i + 1)

  grain_pos : 0 < grain
  unfolding grain
  grain_pos = mul-pos epos (omega arith)

  count : ℕ
  count = suc (grain * i)

  along : (p : ℕ) → Steadily (count * (grain + (suc grain * i + suc grain * (i * grain)))) (grain * (q * count * grain)) p (p + i) q
  unfolding count
  along p = walk i grain count p q qpos grain_pos (omega arith) (omega (arith, mul-le-mul_right count qpos))

  bound : count * (grain + (suc grain * i + suc grain * (i * grain))) * (q * e) ≤ (h * e + q) * (grain * (q * count * grain))
  unfolding grain
  bound = le_trans (short i e grain count q qpos grain_pos refl) (mul-le-mul_right (grain * (q * count * grain)) (omega (arith, mul-le-mul_right e near)))

  pos : 0 < grain * (q * count * grain)
  unfolding count
  pos = mul-pos grain_pos (mul-pos (mul-pos qpos (omega arith)) grain_pos)

  module _ {p C C' S S' U a b : ℕ} (bpos : 0 < b) where
    onward : Both p q C C' S S' U a b → Both (p + i) q C C' S S' U (a * (q * e) + b * (h * e + q)) (b * (q * e))
    onward near = carried _ _ _ _ bpos pos bound (along p) near

    back : Both (p + i) q C C' S S' U a b → Both p q C C' S S' U (a * (q * e) + b * (h * e + q)) (b * (q * e))
    back near = carried _ _ _ _ bpos pos bound (steadily_sym (along p)) near

-- what is within a / b at p / q is within a / b + h / q + 1 / e at p' / q, for |p - p'| ≤ h and every e
pub moved : {p p' q C C' S S' U a b : ℕ} (h e : ℕ) → 0 < q → 0 < b → 0 < e → p ≤ p' + h → p' ≤ p + h →
    Both p q C C' S S' U a b → Both p' q C C' S S' U (a * (q * e) + b * (h * e + q)) (b * (q * e))
moved {p} {p'} {q} h e qpos bpos epos l l' near =
    elim (dec_le p p') [
      | yes up ↦ let (i, s) = le_dest up in rw s at (onward h e i q qpos epos (omega arith) bpos near)
      | no up ↦ let (i, s) = le_dest (le_of_lt (lt_of_not-le up)) in back h e i q qpos epos (omega arith) bpos (rw (← s) at near)
    ]

-- the same between places of any denominators: within a / b + |p / q - p' / q'| + 1 / e
pub moved_to : {p q p' q' C C' S S' U a b : ℕ} (h e : ℕ) → 0 < q → 0 < q' → 0 < b → 0 < e → p * q' ≤ p' * q + h → p' * q ≤ p * q' + h →
    Both p q C C' S S' U a b → Both p' q' C C' S S' U (a * (q * q' * e) + b * (h * e + q * q')) (b * (q * q' * e))
moved_to {p} {q} {p'} {q'} h e qpos qpos' bpos epos l l' near =
    both_same (mul-pos qpos qpos') (same p' q q') (moved h e (mul-pos qpos qpos') bpos epos l l' (both_scaled q' near))
  where
    same : (p q r : ℕ) → p * q * r ≡ p * (q * r)
    same p q r = omega arith
