-- From the bound of each output to the sum of all squared errors: the largest value is at most 256 times the largest outputs, so that its part of the bound is nothing beside them. Assumes nothing.
use mathlib.Core.Path.{◌≡◌, refl, ap}
use mathlib.Core.Logic.{inl, inr, ◌⊎◌}
use Prim.Native.Nat.{ℕ, zero, suc, ◌+◌, ◌-◌, ◌*◌, ◌^◌, ◌≤◌, ◌<◌, zero-le}
use native.Mathlib.Nat.{le_trans, le_of_eq, mul-le-mul, mul-le-mul_left, mul-le-mul_right, le_of_mul-le-mul_left}
use native.Mathlib.Omega.{arith}
use lib.Dec.{lit<, lit≤}
use lib.Pow.{pow_pos}
use Rattle.units.proofs.Naturals.{le-or-lt}
use Rattle.spectrum.specs.Difference.{Difference, whole, times, size}
use Rattle.spectrum.specs.Table.{unit, cosine, sine}
use Rattle.spectrum.specs.Transform.{sum_of, square}
use Rattle.spectrum.proofs.Differences.{Close, length, close_sym, close_trans, close_weaken, total_close, total-times}
use Rattle.spectrum.proofs.Halving.{plain}
use Rattle.spectrum.proofs.Inverse.{Most, Bounded, values}

-- ---- squares
twice : (a b : ℕ) → 2 * (a * b) ≤ a * a + b * b
twice a b = elim (le-or-lt a b) [ inl l ↦ up a (b - a) b (gap l) | inr l ↦ down b (a - b) a (gap (less l)) ]
  where
    gap : {x y : ℕ} → x ≤ y → y ≡ x + (y - x)
    gap l = omega arith

    less : {x y : ℕ} → x < y → x ≤ y
    less l = omega arith

    up : (a d b : ℕ) → b ≡ a + d → 2 * (a * b) ≤ a * a + b * b
    up a d b e = rw e (omega arith)

    down : (b d a : ℕ) → a ≡ b + d → 2 * (a * b) ≤ a * a + b * b
    down b d a e = rw e (omega arith)

-- the square of a sum of three
three : (y p q r : ℕ) → y ≤ p + (q + r) → 480 * square y ≤ 1056 * square p + (14960 * square q + 935 * square r)
three y p q r h = omega (arith, mul-le-mul h h, twice (6 * p) (5 * (q + r)), twice (16 * q) r)

-- one output: error d, size a, the largest value times u, and u
pub one-square : (d a w u : ℕ) → 2 ^ 42 * d ≤ 2 ^ 18 * a + (w + 2 ^ 41 * u) → 480 * 2 ^ 84 * square d ≤ 1056 * 2 ^ 36 * square a + (14960 * square w + 935 * 2 ^ 82 * square u)
one-square d a w u h = omega (arith, three (2 ^ 42 * d) (2 ^ 18 * a) w (2 ^ 41 * u) h)

-- ---- sums
sum_most : (A B C : ℕ) (f g : ℕ → ℕ) (n : ℕ) → ((k : ℕ) → k < n → A * f k ≤ B * g k + C) → A * sum_of f n ≤ B * sum_of g n + n * C
unfolding sum_of
sum_most A B C f g zero h = omega arith
sum_most A B C f g (suc n) h = omega (arith, sum_most A B C f g n (λ k l. h k (omega arith)), h n (omega arith))

-- the largest of some numbers, and its square
record Top (f : ℕ → ℕ) (n : ℕ) : Type 0 where
  q : ℕ
  most : (k : ℕ) → k < n → f k ≤ q
  within : square q ≤ sum_of (λ k. square (f k)) n

top : (f : ℕ → ℕ) (n : ℕ) → Top f n
unfolding sum_of
top f zero = record { q = 0; most = λ k l. absurd (omega arith); within = zero-le }
top f (suc n) = let t = top f n in elim (le-or-lt (f n) t.q) [
  | inl l ↦ record { q = t.q; most = λ k m. elim (le-or-lt n k) [ inl a ↦ old k m a l | inr a ↦ t.most k a ]; within = le_trans t.within (omega arith) }
  | inr l ↦ record { q = f n; most = λ k m. elim (le-or-lt n k) [ inl a ↦ new k m a | inr a ↦ le_trans (t.most k a) (omega arith) ]; within = omega arith }
]
  where
    last : (k : ℕ) → k < suc n → n ≤ k → k ≡ n
    last k m a = omega arith

    old : (k : ℕ) → k < suc n → n ≤ k → {q : ℕ} → f n ≤ q → f k ≤ q
    old k m a l = le_trans (le_of_eq (ap f (last k m a))) l

    new : (k : ℕ) → k < suc n → n ≤ k → f k ≤ f n
    new k m a = le_of_eq (ap f (last k m a))

sum-add : (f g : ℕ → ℕ) (n : ℕ) → sum_of (λ k. f k + g k) n ≡ sum_of f n + sum_of g n
unfolding sum_of
sum-add f g zero = refl
sum-add f g (suc n) = omega (arith, sum-add f g n)

-- ---- the largest value by the outputs
module _ (X R I : ℕ → Difference) (u M p : ℕ) (few : p < 128) (covers : (i : ℕ) → length (X i) ≤ M) (there : length (X p) ≡ M) (side : ((X p).plus ≡ 0) ⊎ ((X p).minus ≡ 0))
    (re : (k : ℕ) → k ≤ 64 → Close (128 * (M * (8 * u))) (times (whole u) (plain X cosine 0 1 k 128)) (times (whole unit) (R k)))
    (im : (k : ℕ) → k ≤ 64 → Close (128 * (M * (8 * u))) (times (whole u) (plain X sine 0 1 k 128)) (times (whole unit) (I k))) where
  abbrev Z : ℕ → Difference
  Z i = times (whole u) (X i)

  covered : (i : ℕ) → length (Z i) ≤ u * M
  covered i = scaled u (X i) (mul-le-mul_left u (covers i))
    where
      scaled : (u : ℕ) (a : Difference) → u * length a ≤ u * M → length (times (whole u) a) ≤ u * M
      scaled u a h = omega (arith, h)

  -- the scale goes through the sum
  through : (w : ℕ → Difference) (k : ℕ) → Close 0 (plain Z w 0 1 k 128) (times (whole u) (plain X w 0 1 k 128))
  through w k =
      close_weaken (omega arith)
      (close_trans (total_close 0 (λ m. times (Z (0 + m * 1)) (w (k * (m * 1)))) (λ m. times (whole u) (times (X (0 + m * 1)) (w (k * (m * 1))))) 128 (λ m l. regroup u (X (0 + m * 1)) (w (k * (m * 1)))))
      (close_sym (total-times (whole u) (λ m. times (X (0 + m * 1)) (w (k * (m * 1)))) 128)))
    where
      regroup : (u : ℕ) (a y : Difference) → Close 0 (times (times (whole u) a) y) (times (whole u) (times a y))
      regroup u a y = record { most = omega arith; least = omega arith }

  module _ (q : ℕ) (sr : (k : ℕ) → k ≤ 64 → size (R k) ≤ q) (si : (k : ℕ) → k ≤ 64 → size (I k) ≤ q) where
    sized : (U : ℕ) (a : Difference) → size a ≤ q → Most (U * q) (times (whole U) a)
    sized U a h = record { most = omega (arith, mul-le-mul_left U up); least = omega (arith, mul-le-mul_left U down) }
      where
        up : a.plus ≤ a.minus + q
        up = omega arith

        down : a.minus ≤ a.plus + q
        down = omega arith

    bounded : Bounded Z (u * M) covered 128 1 0 (unit * q + 128 * (M * (8 * u)))
    bounded = record {
      re = λ k l. close_weaken (swap (128 * (M * (8 * u))) (unit * q)) (close_trans (through cosine k) (close_trans (re k (omega arith)) (sized unit (R k) (sr k (omega arith)))));
      im = λ k l. close_weaken (swap (128 * (M * (8 * u))) (unit * q)) (close_trans (through sine k) (close_trans (im k (omega arith)) (sized unit (I k) (si k (omega arith)))));
    }
      where
        swap : (a b : ℕ) → 0 + (a + b) ≤ b + a
        swap a b = omega arith

    pub largest_by : u * M ≤ 256 * q
    largest_by = small (M * u) (product unit (X p) side (values Z (u * M) covered (unit * q + 128 * (M * (8 * u))) bounded p few))
      where
        product : (U : ℕ) (a : Difference) → (a.plus ≡ 0) ⊎ (a.minus ≡ 0) → {e : ℕ} → Most e (times (times (whole u) a) (whole U)) → length a * u * U ≤ e
        product U a (inl z) h = omega (arith, h.least, ap (λ (i : ℕ). u * i * U) z)
        product U a (inr z) h = omega (arith, h.most, ap (λ (i : ℕ). u * i * U) z)

        small : (t : ℕ) → length (X p) * u * unit ≤ 128 * (unit * q + 128 * (M * (8 * u))) + 127 * (320 * (u * M)) → u * M ≤ 256 * q
        small t h = omega (arith, rw there at h)

-- ---- the sum of all squared errors
final : (K S T v : ℕ) (w : ℕ) → K * 277796464 ≤ 480 * 2 ^ 66 → w ≤ 131072 * T → 480 * 2 ^ 84 * S ≤ 1056 * 2 ^ 36 * T + 65 * (2 * (14960 * w + 935 * 2 ^ 82 * v)) → K * S ≤ T + K * (64 * v)
final K S T v w hk hw h = let pos : 0 < 480 * 2 ^ 66 = lit< tt in le_of_mul-le-mul_left (omega (arith, mul-le-mul_left K (less S T v w hw h), mul-le-mul_right T hk)) pos
  where
    less : (S T v w : ℕ) → w ≤ 131072 * T → 480 * 2 ^ 84 * S ≤ 1056 * 2 ^ 36 * T + 65 * (2 * (14960 * w + 935 * 2 ^ 82 * v)) → 480 * 2 ^ 66 * S ≤ 277796464 * T + 121550 * 2 ^ 64 * v
    less S T v w hw h = le_of_mul-le-mul_left (omega arith) (pow_pos 18)

module _ (R I : ℕ → Difference) (dr di : ℕ → ℕ) (u M : ℕ) (by : (q : ℕ) → ((k : ℕ) → k ≤ 64 → size (R k) ≤ q) → ((k : ℕ) → k ≤ 64 → size (I k) ≤ q) → u * M ≤ 256 * q)
    (hr : (k : ℕ) → k ≤ 64 → 2 ^ 42 * dr k ≤ 2 ^ 18 * size (R k) + (M + 2 ^ 41) * u) (hi : (k : ℕ) → k ≤ 64 → 2 ^ 42 * di k ≤ 2 ^ 18 * size (I k) + (M + 2 ^ 41) * u) where
  abbrev T : ℕ
  T = sum_of (λ k. square (size (R k)) + square (size (I k))) 65

  w_most : square (u * M) ≤ 131072 * T
  w_most =
      let a = top (λ k. size (R k)) 65 in
      let b = top (λ k. size (I k)) 65 in
      let h = by (a.q + b.q) (λ k l. le_trans (a.most k (omega arith)) (omega arith)) (λ k l. le_trans (b.most k (omega arith)) (omega arith)) in
      squares (u * M) a.q b.q _ _ _ h a.within b.within (sum-add (λ k. square (size (R k))) (λ k. square (size (I k))) 65)
    where
      squares : (t a b x y z : ℕ) → t ≤ 256 * (a + b) → a * a ≤ x → b * b ≤ y → z ≡ x + y → t * t ≤ 131072 * z
      squares t a b x y z h g k e = omega (arith, mul-le-mul h h, twice a b)

  each : (k : ℕ) → k < 65 → 480 * 2 ^ 84 * (square (dr k) + square (di k)) ≤ 1056 * 2 ^ 36 * (square (size (R k)) + square (size (I k))) + 2 * (14960 * square (u * M) + 935 * 2 ^ 82 * square u)
  each k l = sums _ _ _ _ _ (one-square (dr k) (size (R k)) (u * M) u (spread _ _ (hr k (omega arith)))) (one-square (di k) (size (I k)) (u * M) u (spread _ _ (hi k (omega arith))))
    where
      spread : (d a : ℕ) → 2 ^ 42 * d ≤ 2 ^ 18 * a + (M + 2 ^ 41) * u → 2 ^ 42 * d ≤ 2 ^ 18 * a + (u * M + 2 ^ 41 * u)
      spread d a h = omega arith

      sums : (a b x y c : ℕ) → 480 * 2 ^ 84 * a ≤ 1056 * 2 ^ 36 * x + c → 480 * 2 ^ 84 * b ≤ 1056 * 2 ^ 36 * y + c → 480 * 2 ^ 84 * (a + b) ≤ 1056 * 2 ^ 36 * (x + y) + 2 * c
      sums a b x y c h g = omega arith

  pub energy : 10 ^ 14 * sum_of (λ k. square (dr k) + square (di k)) 65 ≤ T + 10 ^ 14 * (64 * square u)
  energy = final (10 ^ 14) _ T (square u) (square (u * M)) (lit≤ tt) w_most (sum_most (480 * 2 ^ 84) (1056 * 2 ^ 36) (2 * (14960 * square (u * M) + 935 * 2 ^ 82 * square u)) (λ k. square (dr k) + square (di k)) (λ k. square (size (R k)) + square (size (I k))) 65 each)
