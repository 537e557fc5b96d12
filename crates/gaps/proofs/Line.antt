-- Powers 2 ^ t in equal steps of t lie near a straight line: bounds of (1 + c) ^ j by its first terms, and from them bounds by a line whose numbers were rounded.
-- A number v stands for v / O. The numbers c and lo, d, u, hi are what a computed test accepts. Assumes nothing.
use mathlib.Core.Path.{◌≡◌, refl, ap}
use Prim.Native.Nat.{ℕ, zero, suc, ◌+◌, ◌*◌, ◌/◌, ◌≤◌, ◌<◌}
use native.Mathlib.Nat.{le_trans, le_dest, one-le-mul, mul-zero, mul-suc, add-zero, add_assoc, mul-le-mul, mul-le-mul_left, mul-le-mul_right, le-div_iff_mul-le, le_of_lt, lt_of_not-le}
use native.Mathlib.Decide.{dec_le}
use native.Mathlib.Omega.{arith}
use Rattle.exact.specs.Power.{AtMost, AtLeast}
use Rattle.exact.proofs.Power.{most_of_less, least_of_more, most_mul, least_mul}

-- pairs among j things
unfoldable pairs : ℕ → ℕ
pairs zero = 0
pairs (suc j) = pairs j + j

-- twice the pairs and the things are the square
twice_pairs : (j : ℕ) → 2 * pairs j + j ≡ j * j
unfolding pairs
twice_pairs zero = refl
twice_pairs (suc j) = omega (arith, twice_pairs j)

-- ---- the first terms of (1 + c) ^ j

module _ {O Q st p : ℕ} (pos : 0 < O) where
  -- 1 + j c + pairs c c, all over O
  low_terms : {A : ℕ} (c : ℕ) → AtMost A O p 0 Q → AtMost (O + c) O st 0 Q → (j : ℕ) →
      AtMost (A * (O * O + j * c * O + pairs j * c * c)) (O * O * O) (p + st * j) 0 Q
  unfolding pairs
  low_terms {A} c start step zero = rw (mul-zero st, add-zero p) (most_of_less (one-le-mul (one-le-mul pos pos) pos) (omega arith) start)
  low_terms {A} c start step (suc j) =
      rw (mul-suc st j, ← add_assoc p (st * j) st) (most_of_less (one-le-mul (one-le-mul pos pos) pos) (through (pairs j)) (most_mul (low_terms c start step j) step))
    where
      through : (t : ℕ) → A * (O * O + suc j * c * O + (t + j) * c * c) * (O * O * O * O) ≤ A * (O * O + j * c * O + t * c * c) * (O + c) * (O * O * O)
      through t = omega arith

  -- 1 + j c + pairs c c + j ^ 3 c ^ 3 / 5, all over O, as long as j c is at most 1 / 2
  high_terms : {A : ℕ} (c : ℕ) → AtLeast A O p 0 Q → AtLeast (O + c) O st 0 Q → (j : ℕ) → 2 * (j * c) ≤ O →
      AtLeast (A * (10 * (O * O * O) + 10 * (j * c * O * O) + 10 * (pairs j * c * c * O) + 2 * (j * j * j * c * c * c))) (10 * (O * O * O * O)) (p + st * j) 0 Q
  unfolding pairs
  high_terms {A} c start step zero small =
      rw (mul-zero st, add-zero p) (least_of_more (one-le-mul (omega arith) (one-le-mul (one-le-mul (one-le-mul pos pos) pos) pos)) (omega arith) start)
  high_terms {A} c start step (suc j) small =
      rw (mul-suc st j, ← add_assoc p (st * j) st)
      (least_of_more (one-le-mul (omega arith) (one-le-mul (one-le-mul (one-le-mul pos pos) pos) pos)) (rw (grown (pairs j)) (through (P (pairs j)) Δ (enough (pairs j) (twice_pairs j) (omega arith))))
      (least_mul (high_terms c start step j (omega arith)) step))
    where
      -- the polynomial at j, how much more it is at j + 1, and why that is enough
      P : ℕ → ℕ
      P t = 10 * (O * O * O) + 10 * (j * c * O * O) + 10 * (t * c * c * O) + 2 * (j * j * j * c * c * c)

      Δ : ℕ
      Δ = 10 * (c * O * O) + 10 * (j * c * c * O) + 6 * (j * j * c * c * c) + 6 * (j * c * c * c) + 2 * (c * c * c)

      grown : (t : ℕ) → 10 * (O * O * O) + 10 * (suc j * c * O * O) + 10 * ((t + j) * c * c * O) + 2 * (suc j * suc j * suc j * c * c * c) ≡ P t + Δ
      grown t = omega arith

      enough : (t : ℕ) → 2 * t + j ≡ j * j → 2 * (j * c) ≤ O → P t * c ≤ Δ * O
      enough t e l = omega (arith, ap (λ (x : ℕ). x * (5 * (c * c * c * O))) e, mul-le-mul_right (j * j * c * c * c) l)

      through : (X Y : ℕ) → X * c ≤ Y * O → A * X * (O + c) * (10 * (O * O * O * O)) ≤ A * (X + Y) * (10 * (O * O * O * O) * O)
      through X Y h = omega (arith, mul-le-mul_left (A * (10 * (O * O * O * O))) h)

-- ---- a line below

-- a product of two numbers of a given sum is at most a fourth of its square
product_le : (j f : ℕ) → j * f ≤ (j + f) * (j + f) / 4
product_le j f = (le-div_iff_mul-le {k = 4} (omega arith)).1 (elim (dec_le j f) [ yes h ↦ apart j f h | no h ↦ omega (arith, apart f j (le_of_lt (lt_of_not-le h))) ])
  where
    apart : (a b : ℕ) → a ≤ b → a * b * 4 ≤ (a + b) * (a + b)
    apart a b h = let (k, sum) = le_dest h in rw (← sum) (omega arith)

-- a slope d rounded down: 2 d ≤ 2 c + (n - 1) c c, and lo the most that the line is above the powers inside, all over O
pub record LineBelow (O c n d lo : ℕ) : Type 0 where
  pub slope : 2 * (O * d) + c * c ≤ 2 * (O * c) + n * (c * c)
  pub bow : n * n / 4 * (c * c) ≤ O * lo

module _ {O A : ℕ} (c n d lo : ℕ) (pos : 0 < O) (line : LineBelow O c n d lo) (low : A ≤ 2 * O) where
  below_terms : (b j f t v : ℕ) → b * O ≤ A * d → j + f ≡ n → 2 * t + j ≡ j * j → v + lo ≤ A + j * b → v * (O * O) ≤ A * (O * O + j * c * O + t * c * c)
  below_terms b j f t v floor sum e le =
      le_trans (together (A * O * O) _ (A * j * c * O) _ (A * t * c * c) _ (mul-le-mul_left (j * O) floor) sloped bowed (omega (arith, mul-le-mul_right (O * O) le))) (omega arith)
    where
      -- the slope, times A j; j j is twice the pairs and j
      sloped : 2 * (j * O * (A * d)) ≤ 2 * (A * j * c * O) + 2 * (A * t * c * c) + A * (j * f * (c * c))
      sloped = through (rw sum line.slope)
        where
          through : 2 * (O * d) + c * c ≤ 2 * (O * c) + (j + f) * (c * c) → 2 * (j * O * (A * d)) ≤ 2 * (A * j * c * O) + 2 * (A * t * c * c) + A * (j * f * (c * c))
          through l = omega (arith, mul-le-mul_left (A * j) l, ap (λ (x : ℕ). A * (c * c) * x) e)

      bowed : A * (j * f * (c * c)) ≤ 2 * (O * (O * lo))
      bowed = le_trans (mul-le-mul low (le_trans (mul-le-mul_right (c * c) (rw sum at (product_le j f))) line.bow)) (omega arith)

      together : (o x y z w s : ℕ) → j * O * (b * O) ≤ x → 2 * x ≤ 2 * y + 2 * w + z → z ≤ 2 * s → v * (O * O) + s ≤ o + j * O * (b * O) → v * (O * O) ≤ o + y + w
      together o x y z w s h k l m = omega arith

  -- what is lo less than the line is at most the power
  pub line_below : {Q st p : ℕ} → AtMost A O p 0 Q → AtMost (O + c) O st 0 Q → (b j v : ℕ) → b * O ≤ A * d → j ≤ n → v + lo ≤ A + j * b → AtMost v O (p + st * j) 0 Q
  line_below start step b j v floor less le =
      let (f, sum) = le_dest less in
      most_of_less pos (through (pairs j) (below_terms b j f (pairs j) v floor sum (twice_pairs j) le)) (low_terms pos c start step j)
    where
      through : (t : ℕ) → v * (O * O) ≤ A * (O * O + j * c * O + t * c * c) → v * (O * O * O) ≤ A * (O * O + j * c * O + t * c * c) * O
      through t h = omega (arith, mul-le-mul_right O h)

-- ---- a line above

-- with that slope, 8 more make up for its rounding; u is what the third terms add, hi the most that the powers are above the line inside; e is the doubt about A
pub record LineAbove (O c n d u e hi : ℕ) : Type 0 where
  pub slope : 2 * (O * c) + n * (c * c) ≤ 2 * (O * (d + 8)) + c * c
  pub third : n * n * n * (c * c * c) ≤ 5 * (O * O * u)
  pub half : 2 * (n * c) ≤ O
  pub rise : n * d ≤ O
  pub sum : 2 * e + 25 * n + 3 * u ≤ hi

module _ {O : ℕ} (A c N d u e hi : ℕ) (pos : 0 < O) (line : LineAbove O c (suc N) d u e hi) (low : A + e ≤ 3 * O) where
  -- the terms above the first
  more : (j t : ℕ) → j ≤ N → 2 * t + j ≡ j * j → 10 * (j * c * O * O) + 10 * (t * c * c * O) + 2 * (j * j * j * c * c * c) ≤ 10 * (O * O * (j * d + 8 * j + u))
  more j t less e' = together (sloped (omega (arith, line.slope))) cubes
    where
      -- the slope, times 5 j O, and that twice the pairs are at most j N
      sloped : 2 * (O * c) + N * (c * c) ≤ 2 * (O * (d + 8)) → 10 * (j * c * O * O) + 10 * (t * c * c * O) ≤ 10 * (O * O * (j * d + 8 * j))
      sloped l = through (omega (arith, mul-le-mul_left j less))
        where
          through : 2 * t ≤ j * N → 10 * (j * c * O * O) + 10 * (t * c * c * O) ≤ 10 * (O * O * (j * d + 8 * j))
          through m = omega (arith, mul-le-mul_right (5 * (j * O)) l, mul-le-mul_right (5 * (c * c * O)) m)

      cubes : j * j * j * (c * c * c) ≤ 5 * (O * O * u)
      cubes = let l : j ≤ suc N = omega arith in le_trans (mul-le-mul_right (c * c * c) (mul-le-mul (mul-le-mul l l) l)) line.third

      together : 10 * (j * c * O * O) + 10 * (t * c * c * O) ≤ 10 * (O * O * (j * d + 8 * j)) → j * j * j * (c * c * c) ≤ 5 * (O * O * u) →
          10 * (j * c * O * O) + 10 * (t * c * c * O) + 2 * (j * j * j * c * c * c) ≤ 10 * (O * O * (j * d + 8 * j + u))
      together l m = omega arith

  above_terms : (b j v X : ℕ) → A * d ≤ b * O + O → j ≤ N → X ≤ 10 * (O * O * (j * d + 8 * j + u)) → A + j * b + hi ≤ v → (A + e) * (10 * (O * O * O) + X) ≤ v * (10 * (O * O * O))
  above_terms b j v X ceil less x le =
      omega (
        arith,
        mul-le-mul_left (A + e) x,
        mul-le-mul_right (10 * (j * O * O)) ceil,
        mul-le-mul_left (10 * (e * O * O)) rises,
        mul-le-mul_right (10 * (O * O * (8 * j + u))) low,
        mul-le-mul_right (10 * (O * O * O)) whole,
      )
    where
      rises : j * d ≤ O
      rises = le_trans (mul-le-mul_right d (omega arith)) line.rise

      whole : A + j * b + (2 * e + j + 24 * j + 3 * u) ≤ v
      whole = omega (arith, line.sum)

  -- what is hi more than the line is at least the power
  pub line_above : {Q st p : ℕ} → AtLeast (A + e) O p 0 Q → AtLeast (O + c) O st 0 Q → (b j v : ℕ) → A * d ≤ b * O + O → j ≤ N → A + j * b + hi ≤ v → AtLeast v O (p + st * j) 0 Q
  line_above start step b j v ceil less le =
      least_of_more pos (through (pairs j) (above_terms b j v (10 * (j * c * O * O) + 10 * (pairs j * c * c * O) + 2 * (j * j * j * c * c * c)) ceil less (more j (pairs j) less (twice_pairs j)) le))
      (high_terms pos c start step j (le_trans (mul-le-mul_left 2 (mul-le-mul_right c (omega arith))) line.half))
    where
      through : (t : ℕ) → (A + e) * (10 * (O * O * O) + (10 * (j * c * O * O) + 10 * (t * c * c * O) + 2 * (j * j * j * c * c * c))) ≤ v * (10 * (O * O * O)) →
          (A + e) * (10 * (O * O * O) + 10 * (j * c * O * O) + 10 * (t * c * c * O) + 2 * (j * j * j * c * c * c)) * O ≤ v * (10 * (O * O * O * O))
      through t h = omega (arith, mul-le-mul_right O h)
