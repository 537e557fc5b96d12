-- Cosine and sine are nowhere far above 1: the sum of their squares at t is the square of that at t / 2, and at a small t it is at most 1 + t ^ 2. So after enough halvings it is as near 1 as one likes.
use mathlib.Core.Path.{◌≡◌, refl, ap}
use Prim.Native.Nat.{ℕ, zero, suc, ◌+◌, ◌*◌, ◌^◌, ◌≤◌, ◌<◌}
use native.Mathlib.Nat.{le_trans, le-mul_of_pos_right, mul_comm, mul-one, pow-zero, pow-suc, mul-pos, mul-le-mul, mul-le-mul_left, mul-le-mul_right, le_of_mul-le-mul_right, one-le-pow}
use native.Mathlib.Omega.{arith}
use Rattle.exact.specs.Series.{partial, denominator, fourth}
use Rattle.exact.proofs.Series.{below_power, over_pos, over_scale, partial_scale}
use Rattle.exact.proofs.Addition.{Added, addition}
use Rattle.exact.proofs.Within.{Within, within_mul, distance, root_order}
use Rattle.exact.proofs.Rotation.{Sized}
use Rattle.exact.proofs.Early.{cosine_most, cosine_plus, sine_least, sine_most}

-- ---- one doubling, by plain numbers

-- the squares of two numbers that are at most b Z + T and b W + T, where Z ^ 2 + W ^ 2 = R ^ 2
squares : (b c d Z W R T : ℕ) → c ≤ b * Z + T → d ≤ b * W + T → Z * Z + W * W ≡ R * R → Z ≤ R → W ≤ R → c * c + d * d ≤ (b * R + 2 * T) * (b * R + 2 * T)
squares b c d Z W R T lc ld sum lz lw = omega (arith, mul-le-mul lc lc, mul-le-mul ld ld, ap (λ (n : ℕ). b * b * n) sum, mul-le-mul_left (b * T) lz, mul-le-mul_left (b * T) lw)

-- with L = 8 M ^ 2 + 4 M + 1 for M = N + 1: a square of at most 1 + 1 / (2 M), within 1 / (16 M ^ 2), is at most 1 + 1 / N
fifths : (N : ℕ) → N * ((8 * (suc N * suc N) + 4 * suc N + 1) * (8 * (suc N * suc N) + 4 * suc N + 1)) ≤ 64 * (suc N * suc N * (suc N * suc N)) * suc N
fifths N = omega arith

tamed : (N M L R S T : ℕ) → 0 < M → 0 < T → 8 * (M * M) + 4 * M + 1 ≡ L → N * (L * L) ≤ 64 * (M * M * (M * M)) * M → 2 * M * R ≤ suc (2 * M) * T →
    16 * (M * M) * (16 * (M * M)) * (T * S) ≤ (16 * (M * M) * R + 2 * T) * (16 * (M * M) * R + 2 * T) → N * S ≤ M * T
tamed N M L R S T mpos tpos long least small h = le_of_mul-le-mul_right last (mul-pos (omega arith) (mul-pos (mul-pos mpos mpos) (mul-pos mpos mpos)))
  where
    root : 16 * (M * M) * R + 2 * T ≤ 2 * L * T
    root = rw (← long) (omega (arith, mul-le-mul_left (8 * M) small))

    cancelled : 64 * (M * M * (M * M)) * S ≤ L * L * T
    cancelled = le_of_mul-le-mul_right squared (mul-pos (omega arith) tpos)
      where
        squared : 64 * (M * M * (M * M)) * S * (4 * T) ≤ L * L * T * (4 * T)
        squared = omega (arith, mul-le-mul root root)

    last : N * S * (64 * (M * M * (M * M))) ≤ M * T * (64 * (M * M * (M * M)))
    last = omega (arith, mul-le-mul_left N cancelled, mul-le-mul_right T least)

-- two numbers as far apart as two others over o
carried : (b o F F' M M' Z : ℕ) → F * o ≤ M → b * M ≤ b * (F * o) + o * o → F' * o ≤ M' → b * M' ≤ b * (F' * o) + o * o → Within M M' Z → Within (b * o * F) (b * o * F') (b * Z + o * o)
carried b o F F' M M' Z l m l' m' c = record {
  least = omega (arith, mul-le-mul_left b l, mul-le-mul_left b c.least);
  most = omega (arith, mul-le-mul_left b l', mul-le-mul_left b c.most);
}

abbrev gap : ℕ → ℕ → ℕ
gap x y = (distance x y).d

-- the products that make cosine of twice t, from its cosine and sine x - x' and y - y'
cosine_gap : (x x' y y' : ℕ) → Within (x * x + y * y' + x' * x' + y' * y) (x * x' + y * y + x' * x + y' * y') (gap (gap x x' * gap x x') (gap y y' * gap y y'))
cosine_gap x x' y y' = through (gap x x') (gap y y') _ (distance x x').square (distance y y').square (distance (gap x x' * gap x x') (gap y y' * gap y y')).close
  where
    through : (X Y Z : ℕ) → X * X + 2 * (x * x') ≡ x * x + x' * x' → Y * Y + 2 * (y * y') ≡ y * y + y' * y' → Within (X * X) (Y * Y) Z →
        Within (x * x + y * y' + x' * x' + y' * y) (x * x' + y * y + x' * x + y' * y') Z
    through X Y Z a b c = omega arith

sine_gap : (x x' y y' : ℕ) → Within (x * y + y * x + x' * y' + y' * x') (x * y' + y * x' + x' * y + y' * x) (2 * (gap x x' * gap y y'))
sine_gap x x' y y' = let c = within_mul (distance x x').close (distance y y').close in record { least = omega (arith, c.least); most = omega (arith, c.most) }

-- up to the term n, the sum of the squares of cos (p / q) and sin (p / q) is at most 1 + 1 / N
record Round (N p q n : ℕ) : Type 0 where
  holds : N * (gap (partial (fourth 0) p q n) (partial (fourth 2) p q n) * gap (partial (fourth 0) p q n) (partial (fourth 2) p q n) +
      gap (partial (fourth 1) p q n) (partial (fourth 3) p q n) * gap (partial (fourth 1) p q n) (partial (fourth 3) p q n)) ≤ suc N * (denominator q n * denominator q n)

circle : (X Y : ℕ) → gap (X * X) (Y * Y) * gap (X * X) (Y * Y) + 2 * (X * Y) * (2 * (X * Y)) ≡ (X * X + Y * Y) * (X * X + Y * Y)
circle X Y = omega (arith, (distance (X * X) (Y * Y)).square)

gap_most : (x y : ℕ) → gap x y ≤ x + y
gap_most x y = omega (arith, (distance x y).tight 1 (x + y) (record { least = omega arith; most = omega arith }))

-- the numbers X' and Y' at twice t, from X and Y at t
doubled : (N o X Y X' Y' : ℕ) → 0 < o → 16 * (suc N * suc N) * o * X' ≤ 16 * (suc N * suc N) * gap (X * X) (Y * Y) + o * o → 16 * (suc N * suc N) * o * Y' ≤ 16 * (suc N * suc N) * (2 * (X * Y)) + o * o →
    2 * suc N * (X * X + Y * Y) ≤ suc (2 * suc N) * (o * o) → N * (X' * X' + Y' * Y') ≤ suc N * (o * o)
doubled N o X Y X' Y' pos c s r =
    tamed N (suc N) _ (X * X + Y * Y) (X' * X' + Y' * Y') (o * o) (omega arith) (mul-pos pos pos) refl (fifths N) r
    (rw (regroup (16 * (suc N * suc N))) (squares (16 * (suc N * suc N)) _ _ (gap (X * X) (Y * Y)) (2 * (X * Y)) (X * X + Y * Y) (o * o) c s (circle X Y) (gap_most (X * X) (Y * Y)) (omega (arith, (distance X Y).square))))
  where
    regroup : (b : ℕ) → b * b * (o * o * (X' * X' + Y' * Y')) ≡ b * o * X' * (b * o * X') + b * o * Y' * (b * o * Y')
    regroup b = omega arith

-- at twice t
twice : (N p q n : ℕ) → 0 < q → Added p p q (16 * (suc N * suc N)) n → Round (2 * suc N) p q n → Round N (p + p) q n
twice N p q n pos h r = record {
  holds =
      doubled N (denominator q n) _ _ _ _ (over_pos q n pos)
      ((distance (partial (fourth 0) (p + p) q n) (partial (fourth 2) (p + p) q n)).tight _ _ (carried _ _ _ _ _ _ _ h.least0 h.most0 h.least2 h.most2 (cosine_gap _ _ _ _)))
      ((distance (partial (fourth 1) (p + p) q n) (partial (fourth 3) (p + p) q n)).tight _ _ (carried _ _ _ _ _ _ _ h.least1 h.most1 h.least3 h.most3 (sine_gap _ _ _ _)))
      r.holds;
}

-- ---- the place written with smaller numbers

gap_scale : (K x y : ℕ) → gap x y * K ≤ gap (x * K) (y * K)
gap_scale K x y = rw (mul_comm (gap x y) K) ((distance x y).tight K _ (rw (mul_comm K x, mul_comm K y) (distance (x * K) (y * K)).close))

rescaled : (N p q k n : ℕ) → 0 < k → Round N (p * k) (q * k) n → Round N p q n
rescaled N p q k n pos r = record {
  holds =
      through _ _ _ _ _ _ (one-le-pow n k pos) (gap_scale (k ^ n) (partial (fourth 0) p q n) (partial (fourth 2) p q n)) (gap_scale (k ^ n) (partial (fourth 1) p q n) (partial (fourth 3) p q n))
      (rw (partial_scale (fourth 0) p q k n, partial_scale (fourth 1) p q k n, partial_scale (fourth 2) p q k n, partial_scale (fourth 3) p q k n, over_scale q k n) at r.holds);
}
  where
    through : (X Y X' Y' K o : ℕ) → 0 < K → X * K ≤ X' → Y * K ≤ Y' → N * (X' * X' + Y' * Y') ≤ suc N * (o * K * (o * K)) → N * (X * X + Y * Y) ≤ suc N * (o * o)
    through X Y X' Y' K o kpos lx ly h = le_of_mul-le-mul_right (omega (arith, mul-le-mul_left N (mul-le-mul lx lx), mul-le-mul_left N (mul-le-mul ly ly))) (mul-pos kpos kpos)

-- ---- small places, and all

-- from some term on
record Rounds (N p q : ℕ) : Type 0 where
  from : ℕ
  holds : (n : ℕ) → from ≤ n → Round N p q n

-- where t ^ 2 is at most 1 / (N + 2)
round_small : (N p q n : ℕ) → 0 < q → p * p * (N + 2) ≤ q * q → 5 ≤ n → Round N p q n
round_small N p q n pos small many = record {
  holds =
      through _ _ (denominator q n) ((distance (partial (fourth 0) p q n) (partial (fourth 2) p q n)).tight 1 _ cosine)
      ((distance (partial (fourth 1) p q n) (partial (fourth 3) p q n)).tight q _ sine);
}
  where
    less : p ≤ q
    less = root_order p q (omega arith)

    early : 5 * p ≤ 8 * q
    early = omega (arith, less)

    cosine : Within (1 * partial (fourth 0) p q n) (1 * partial (fourth 2) p q n) (denominator q n)
    cosine = record { least = omega (arith, cosine_most p q n many pos early); most = omega (arith, cosine_plus p q n many pos early less) }

    sine : Within (q * partial (fourth 1) p q n) (q * partial (fourth 3) p q n) (p * denominator q n)
    sine = record { least = sine_most p q n many pos early; most = omega (arith, mul-le-mul_left q (sine_least p q n many pos early)) }

    through : (X Y o : ℕ) → 1 * X ≤ o → q * Y ≤ p * o → N * (X * X + Y * Y) ≤ suc N * (o * o)
    through X Y o lx ly =
        let lx' : X ≤ o = omega arith in
        le_of_mul-le-mul_right (omega (arith, mul-le-mul_left (N * q * q) (mul-le-mul lx' lx'), mul-le-mul_left N (mul-le-mul ly ly), mul-le-mul_right (o * o) small)) (mul-pos pos pos)

-- after j halvings
rounds : (j N p q : ℕ) → 0 < q → p * p * (N + 2) ≤ q * q * 2 ^ j → Rounds N p q
rounds zero N p q pos small = record { from = 5; holds = λ n l. round_small N p q n pos (rw (pow-zero, mul-one) at small) l }
rounds (suc j) N p q pos small =
    let r = rounds j (2 * suc N) p (q * 2) (omega arith) (half (2 ^ j) (rw pow-suc at small)) in
    let a = addition p p (q * 2) (16 * (suc N * suc N)) (omega arith) in
    record { from = r.from + a.from; holds = λ n l. rescaled N p q 2 n (omega arith) (rw (same p) at (twice N p (q * 2) n (omega arith) (a.holds n (omega arith)) (r.holds n (omega arith)))) }
  where
    same : (p : ℕ) → p + p ≡ p * 2
    same p = omega arith

    half : (J : ℕ) → p * p * (N + 2) ≤ q * q * (J * 2) → p * p * (2 * suc N + 2) ≤ q * 2 * (q * 2) * J
    half J h = omega arith

-- from some term on, cos (p / q) and sin (p / q) are at most 1 + 1 / N from zero
pub record Bounded (N p q : ℕ) : Type 0 where
  pub from : ℕ
  pub holds : (n : ℕ) → from ≤ n → Sized (suc N) N p q n

-- everywhere and for every N
pub bounded : (N p q : ℕ) → 0 < q → Bounded N p q
bounded N p q pos = record {
  from = r.from;
  holds = λ n l. record {
    cosine = side _ _ _ _ _ (distance (partial (fourth 0) p q n) (partial (fourth 2) p q n)).close (r.holds n l).holds;
    sine = side _ _ _ _ _ (distance (partial (fourth 1) p q n) (partial (fourth 3) p q n)).close (swapped _ _ _ (r.holds n l).holds);
  };
}
  where
    r : Rounds N p q
    r = rounds (p * p * (N + 2)) N p q pos (le_trans (below_power (p * p * (N + 2))) (rw (mul_comm (q * q)) (le-mul_of_pos_right (2 ^ (p * p * (N + 2))) (mul-pos pos pos))))

    swapped : (X Y T : ℕ) → N * (X * X + Y * Y) ≤ suc N * T → N * (Y * Y + X * X) ≤ suc N * T
    swapped X Y T h = omega arith

    side : (x x' X Y o : ℕ) → Within x x' X → N * (X * X + Y * Y) ≤ suc N * (o * o) → Within (N * x) (N * x') (suc N * o)
    side x x' X Y o c h =
        let small : N * X ≤ suc N * o = root_order (N * X) (suc N * o) (omega (arith, mul-le-mul_left N h)) in
        record { least = omega (arith, mul-le-mul_left N c.least); most = omega (arith, mul-le-mul_left N c.most) }
