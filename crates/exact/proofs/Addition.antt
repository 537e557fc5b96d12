-- The addition theorem: the partial sum at (p + r) / q against the products of partial sums at p / q and at r / q, for any weights.
-- The products' terms p ^ i r ^ j / (i! j!) fill a square i, j ≤ n; those of the partial sum of order n, by the binomial theorem, the triangle i + j ≤ n within it; and the triangle i + j ≤ 2 n holds the square.
use mathlib.Core.Path.{◌≡◌, refl, ap}
use mathlib.Core.Logic.{inl, inr}
use mathlib.Core.Bool.{Bool, true, ◌&&◌}
use Prim.Native.Nat.{ℕ, zero, suc, ◌+◌, ◌*◌, ◌%◌, ◌^◌, ◌≤◌, ◌<◌}
use native.Mathlib.Nat.{le_trans, mul-le-mul_left, mul-le-mul_right, le_of_mul-le-mul_right, zero-add, add-zero, pow-zero, mod-lt, mod-mod, add-mod, eq-or-lt_of_le, le_of_suc-le-suc}
use native.Mathlib.Omega.{arith}
use lib.Dec.{T, eqb, eqb→eq}
use lib.Ieee.Fits.{and_l, and_r}
use Rattle.exact.specs.Series.{partial, denominator, fourth}
use Rattle.exact.proofs.Series.{over_pos, partial_grows, partial_tail, fourth_most, Small, small_terms}
use Rattle.exact.proofs.Binomial.{binomial, binomial_over, binomial_next, row, row_grows, powers, row-powers}

-- the partial sum of order i with the weights from the j-th on
abbrev pub later : (ℕ → ℕ) → ℕ → ℕ → ℕ → ℕ → ℕ
later f p q i j = partial (λ k. f (k + j)) p q i

-- the sum of f (i + j) (p / q) ^ i (r / q) ^ j / (i! j!) for i and j from 0 to n, times (n! q ^ n) ^ 2
unfoldable pub square : (ℕ → ℕ) → ℕ → ℕ → ℕ → ℕ → ℕ
square f p r q n = partial (later f p q n) r q n

-- a shorter partial sum is at most a longer one
partial_least : (g : ℕ → ℕ) (p q i j : ℕ) → 0 < q → binomial i j * partial g p q i * denominator q j ≤ partial g p q (i + j)
partial_least g p q i j pos =
    le_of_mul-le-mul_right
    (through (binomial i j) (partial g p q i) (denominator q i) (denominator q j) (partial g p q (i + j)) (denominator q (i + j)) (binomial_over q i j) (partial_grows g p q i (i + j) (omega arith)))
    (over_pos q i pos)
  where
    through : (b E D C F G : ℕ) → b * (D * C) ≡ G → E * G ≤ F * D → b * E * C * D ≤ F * D
    through b E D C F G e h = omega (arith, ap (λ (x : ℕ). E * x) e)

module _ (f : ℕ → ℕ) (p r q : ℕ) where
  -- what stands over r ^ j / j!, cut off after the i-th power of p
  unfoldable column : ℕ → ℕ → ℕ
  column i j = r ^ j * later f p q i j

  -- ---- the triangle

  -- an order more
  column_next : (i j : ℕ) → row column (suc i) j ≡ row column i j * (suc (i + j) * q) + f (suc (i + j)) * row (powers p r) (suc i) j
  unfolding row column partial powers
  column_next i zero = rw (add-zero i, add-zero (suc i), pow-zero r) (through (later f p q i 0) (f (suc i)) (p ^ suc i))
    where
      through : (E c P : ℕ) → 1 * (E * (suc i * q) + c * P) ≡ 1 * E * (suc i * q) + c * (P * 1)
      through E c P = omega arith
  column_next i (suc j) =
      let e : suc i + suc j ≡ suc (i + suc j) = omega arith in
      let before : suc i + j ≡ i + suc j = omega arith in
      rw e
      (through (suc (i + suc j)) (row column (suc (suc i)) j) (row column (suc i) j) (row (powers p r) (suc (suc i)) j) (binomial i (suc j)) (binomial (suc i) (suc j)) (r ^ suc j) (p ^ suc i)
      (later f p q i (suc j)) (f (suc (i + suc j))) (rw before at (column_next (suc i) j)) (binomial_next i (suc j)))
    where
      through : (m A B C b c R P E F : ℕ) → A ≡ B * (m * q) + F * C → c * suc i ≡ b * m → A + c * (R * (E * (suc i * q) + F * P)) ≡ (B + b * (R * E)) * (m * q) + F * (C + c * (P * R))
      through m A B C b c R P E F h l = omega (arith, ap (λ (x : ℕ). x * (R * E * q)) l)

  -- Taylor's theorem for partial sums
  triangle : (n : ℕ) → row column 0 n ≡ partial f (p + r) q n
  unfolding row column partial powers binomial
  triangle zero = rw pow-zero (omega arith)
  triangle (suc n) =
      rw (zero-add (suc n), ← row-powers p r (suc n))
      (through (row column 1 n) (row column 0 n) (row (powers p r) 1 n) (row (powers p r) 0 (suc n)) (r ^ suc n) (f (suc n)) (partial f (p + r) q n)
      (rw (zero-add n) at (column_next 0 n)) (triangle n) (rw (pow-zero p) refl))
    where
      through : (A B C D R F X : ℕ) → A ≡ B * (suc n * q) + F * C → B ≡ X → D ≡ C + 1 * (1 * R) → A + 1 * (R * F) ≡ X * (suc n * q) + F * D
      through A B C D R F X h k l = omega (arith, ap (λ (x : ℕ). x * (suc n * q)) k, ap (λ (x : ℕ). F * x) l)

  -- ---- within the square

  square_holds : 0 < q → (n i j : ℕ) → i + j ≡ n → row column i j * denominator q j ≤ partial (later f p q n) r q j
  unfolding row column partial denominator
  square_holds pos n i zero e = let same : i ≡ n = omega arith in rw (same, pow-zero r) (omega arith)
  square_holds pos n i (suc j) e =
      through (row column (suc i) j) (partial (later f p q n) r q j) (denominator q j) (binomial i (suc j)) (r ^ suc j) (later f p q i (suc j))
      (later f p q n (suc j)) (suc j * q) (square_holds pos n (suc i) j (omega arith)) (rw e at (partial_least (λ k. f (k + suc j)) p q i (suc j) pos))
    where
      through : (A W D b R E G s : ℕ) → A * D ≤ W → b * E * (D * s) ≤ G → (A + b * (R * E)) * (D * s) ≤ W * s + G * R
      through A W D b R E G s h l = omega (arith, mul-le-mul_right s h, mul-le-mul_right R l)

  -- the partial sum at the sum is at most the product
  pub sum_least : 0 < q → (n : ℕ) → partial f (p + r) q n * denominator q n ≤ square f p r q n
  unfolding square
  sum_least pos n = rw (← triangle n) (square_holds pos n 0 n (zero-add n))

  -- ---- about the square

  square_held : (n i j : ℕ) → n ≤ i → partial (later f p q n) r q j * denominator q (i + j) ≤ row column i j * (denominator q j * denominator q n)
  unfolding row column partial denominator
  square_held n i zero l = rw (add-zero i, pow-zero r) (omega (arith, partial_grows (λ k. f (k + 0)) p q n i l))
  square_held n i (suc j) l =
      let before : suc i + j ≡ i + suc j = omega arith in
      through (row column (suc i) j) (partial (later f p q n) r q j) (denominator q j) (binomial i (suc j)) (r ^ suc j) (later f p q i (suc j))
      (later f p q n (suc j)) (suc j * q) (denominator q i) (denominator q n) (denominator q (i + suc j))
      (rw before at (square_held n (suc i) j (omega arith))) (partial_grows (λ k. f (k + suc j)) p q n i l) (binomial_over q i (suc j))
    where
      through : (A W D b R E G s O N M : ℕ) → W * M ≤ A * (D * N) → G * O ≤ E * N → b * (O * (D * s)) ≡ M → (W * s + G * R) * M ≤ (A + b * (R * E)) * (D * s * N)
      through A W D b R E G s O N M h k e = omega (arith, mul-le-mul_right s h, mul-le-mul_right (b * D * s * R) k, ap (λ (x : ℕ). G * R * x) e)

  -- the product is at most the partial sum of twice the order at the sum
  pub square_most : (n : ℕ) → square f p r q n * denominator q (n + n) ≤ partial f (p + r) q (n + n) * (denominator q n * denominator q n)
  unfolding square
  square_most n = rw (← triangle (n + n)) (le_trans (square_held n n n (omega arith)) (mul-le-mul_right (denominator q n * denominator q n) (row_grows column n n)))

-- ---- the theorem for any weights

-- S / D is at most M / D ^ 2, and within 1 / b of it
pub record Close (S D M b : ℕ) : Type 0 where
  pub least : S * D ≤ M
  pub most : b * M ≤ b * (S * D) + D * D

-- the partial sum at the sum is close to the product, from where terms at the sum are small
pub summed : (f : ℕ → ℕ) → ((k : ℕ) → f k ≤ 1) → (p r q b : ℕ) → 0 < q → (s : Small (p + r) q b) → (n : ℕ) → s.from ≤ n → Close (partial f (p + r) q n) (denominator q n) (square f p r q n) b
summed f weights p r q b pos s n h =
    record {
      least = sum_least f p r q pos n;
      most = through (square f p r q n) (denominator q (n + n)) (partial f (p + r) q (n + n)) (partial f (p + r) q n) ((p + r) ^ n) (denominator q n)
          (square_most f p r q n) (partial_tail f weights (p + r) q n (n + n) (s.halve n h) (omega arith)) (s.small n h) (over_pos q (n + n) pos);
    }
  where
    through : (M D' F' F P D : ℕ) → M * D' ≤ F' * (D * D) → F' * D ≤ (F + P) * D' → b * P ≤ D → 0 < D' → b * M ≤ b * (F * D) + D * D
    through M D' F' F P D h k l positive =
        let whole : M * D' ≤ (F + P) * D * D' = omega (arith, mul-le-mul_right D k) in
        let less : M ≤ (F + P) * D = le_of_mul-le-mul_right whole positive in
        omega (arith, mul-le-mul_left b less, mul-le-mul_right D l)

-- ---- the weights of cosine and sine

-- a partial sum goes with its weights
pub partial_linear : (a b c d : ℕ) (e f g h w : ℕ → ℕ) (p q n : ℕ) → ((k : ℕ) → w k ≡ a * e k + b * f k + c * g k + d * h k) →
    partial w p q n ≡ a * partial e p q n + b * partial f p q n + c * partial g p q n + d * partial h p q n
unfolding partial
partial_linear a b c d e f g h w p q zero same = same 0
partial_linear a b c d e f g h w p q (suc n) same =
    rw (partial_linear a b c d e f g h w p q n same, same (suc n))
    (through (partial e p q n) (partial f p q n) (partial g p q n) (partial h p q n) (e (suc n)) (f (suc n)) (g (suc n)) (h (suc n)) (suc n * q) (p ^ suc n))
  where
    through : (E F G H e f g h s P : ℕ) →
        (a * E + b * F + c * G + d * H) * s + (a * e + b * f + c * g + d * h) * P ≡ a * (E * s + e * P) + b * (F * s + f * P) + c * (G * s + g * P) + d * (H * s + h * P)
    through E F G H e f g h s P = omega arith

-- a test of all numbers below n
unfoldable below : ℕ → (ℕ → Bool) → Bool
below zero t = true
below (suc n) t = t n && below n t

below_sound : (n : ℕ) (t : ℕ → Bool) → T (below n t) → (k : ℕ) → k < n → T (t k)
unfolding below
below_sound zero t h k l = absurd (omega arith)
below_sound (suc n) t h k l = elim (eq-or-lt_of_le (le_of_suc-le-suc l)) [ inl e ↦ rw e (and_l (t n) (below n t) h) | inr less ↦ below_sound n t (and_r (t n) (below n t) h) k less ]

-- k + j leaves t where k leaves 0, 1, 2 or 3 and j leaves a, b, c or d
unfoldable at_sum : ℕ → ℕ → ℕ → ℕ → ℕ → ℕ → ℕ → Bool
unfolding fourth
at_sum t a b c d j k = eqb (fourth t (k + j)) (fourth a j * fourth 0 k + fourth b j * fourth 1 k + fourth c j * fourth 2 k + fourth d j * fourth 3 k)

-- so for all remainders
unfoldable splits : ℕ → ℕ → ℕ → ℕ → ℕ → Bool
unfolding below at_sum
splits t a b c d = below 4 (λ j. below 4 (at_sum t a b c d j))

fourth-mod : (t k : ℕ) → fourth t (k % 4) ≡ fourth t k
unfolding fourth
fourth-mod t k = rw (mod-mod k 4) refl

fourth-add : (t k j : ℕ) → fourth t (k % 4 + j % 4) ≡ fourth t (k + j)
unfolding fourth
fourth-add t k j = rw (← add-mod k j 4) refl

-- four products of a partial sum at p / q and one at p' / q
abbrev pub products : ℕ → ℕ → ℕ → ℕ → ℕ → ℕ → ℕ → ℕ → ℕ
products p p' q n a b c d =
    partial (fourth 0) p q n * partial (fourth a) p' q n + partial (fourth 1) p q n * partial (fourth b) p' q n + partial (fourth 2) p q n * partial (fourth c) p' q n
    + partial (fourth 3) p q n * partial (fourth d) p' q n

module _ (t a b c d : ℕ) (test : T (splits t a b c d)) where
  small_splits : (k j : ℕ) → k < 4 → j < 4 → fourth t (k + j) ≡ fourth a j * fourth 0 k + fourth b j * fourth 1 k + fourth c j * fourth 2 k + fourth d j * fourth 3 k
  unfolding splits at_sum
  small_splits k j h l = eqb→eq _ _ (below_sound 4 (at_sum t a b c d j) (below_sound 4 (λ j. below 4 (at_sum t a b c d j)) test j l) k h)

  fourth_splits : (k j : ℕ) → fourth t (k + j) ≡ fourth a j * fourth 0 k + fourth b j * fourth 1 k + fourth c j * fourth 2 k + fourth d j * fourth 3 k
  fourth_splits k j = simp (fourth-add, fourth-mod) at (small_splits (k % 4) (j % 4) (mod-lt k (omega arith)) (mod-lt j (omega arith)))

  square_splits : (p p' q n : ℕ) → square (fourth t) p p' q n ≡ products p p' q n a b c d
  unfolding square
  square_splits p p' q n =
      partial_linear (partial (fourth 0) p q n) (partial (fourth 1) p q n) (partial (fourth 2) p q n) (partial (fourth 3) p q n) (fourth a) (fourth b) (fourth c) (fourth d)
      (later (fourth t) p q n) p' q n inner
    where
      inner : (j : ℕ) → later (fourth t) p q n j
          ≡ partial (fourth 0) p q n * fourth a j + partial (fourth 1) p q n * fourth b j + partial (fourth 2) p q n * fourth c j + partial (fourth 3) p q n * fourth d j
      inner j =
          rw (partial_linear (fourth a j) (fourth b j) (fourth c j) (fourth d j) (fourth 0) (fourth 1) (fourth 2) (fourth 3) (λ k. fourth t (k + j)) p q n (λ k. fourth_splits k j))
          (omega arith)

  -- the theorem for a class
  class_summed : (p p' q e : ℕ) → 0 < q → (s : Small (p + p') q e) → (n : ℕ) → s.from ≤ n → Close (partial (fourth t) (p + p') q n) (denominator q n) (products p p' q n a b c d) e
  class_summed p p' q e pos s n h = rw (square_splits p p' q n) at (summed (fourth t) (fourth_most t) p p' q e pos s n h)

-- each class at the sum p + p' is at most the products whose classes add up to it, and within 1 / b of them
pub record Added (p p' q b n : ℕ) : Type 0 where
  pub least0 : partial (fourth 0) (p + p') q n * denominator q n ≤ products p p' q n 0 3 2 1
  pub most0 : b * products p p' q n 0 3 2 1 ≤ b * (partial (fourth 0) (p + p') q n * denominator q n) + denominator q n * denominator q n
  pub least1 : partial (fourth 1) (p + p') q n * denominator q n ≤ products p p' q n 1 0 3 2
  pub most1 : b * products p p' q n 1 0 3 2 ≤ b * (partial (fourth 1) (p + p') q n * denominator q n) + denominator q n * denominator q n
  pub least2 : partial (fourth 2) (p + p') q n * denominator q n ≤ products p p' q n 2 1 0 3
  pub most2 : b * products p p' q n 2 1 0 3 ≤ b * (partial (fourth 2) (p + p') q n * denominator q n) + denominator q n * denominator q n
  pub least3 : partial (fourth 3) (p + p') q n * denominator q n ≤ products p p' q n 3 2 1 0
  pub most3 : b * products p p' q n 3 2 1 0 ≤ b * (partial (fourth 3) (p + p') q n * denominator q n) + denominator q n * denominator q n

-- that holds from some order on
pub record Addition (p p' q b : ℕ) : Type 0 where
  pub from : ℕ
  pub holds : (n : ℕ) → from ≤ n → Added p p' q b n

-- the addition theorem
pub addition : (p p' q b : ℕ) → 0 < q → Addition p p' q b
unfolding splits
addition p p' q b pos = record { from = small.from; holds = added }
  where
    small : Small (p + p') q b
    small = small_terms (p + p') q b pos

    added : (n : ℕ) → small.from ≤ n → Added p p' q b n
    added n h =
        let zeroth = class_summed 0 0 3 2 1 tt p p' q b pos small n h in
        let first = class_summed 1 1 0 3 2 tt p p' q b pos small n h in
        let second = class_summed 2 2 1 0 3 tt p p' q b pos small n h in
        let third = class_summed 3 3 2 1 0 tt p p' q b pos small n h in
        record {
          least0 = zeroth.least;
          most0 = zeroth.most;
          least1 = first.least;
          most1 = first.most;
          least2 = second.least;
          most2 = second.most;
          least3 = third.least;
          most3 = third.most;
        }
