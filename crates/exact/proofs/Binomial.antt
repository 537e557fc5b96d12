-- The binomial theorem. A number on the antidiagonal i + j of Pascal's triangle is named by the two places i and j, so that nothing is subtracted.
use mathlib.Core.Path.{◌≡◌, refl, ap}
use Prim.Native.Nat.{ℕ, zero, suc, ◌+◌, ◌*◌, ◌^◌, ◌≤◌}
use native.Mathlib.Nat.{le_trans, one-le-mul, mul_assoc, mul_left_comm, add-suc, suc-add, zero-add, add-zero, pow-zero, pow-suc, pow-succ', eq_of_mul-eq-mul_right}
use native.Mathlib.Omega.{arith}
use Rattle.exact.specs.Series.{denominator}
use Rattle.exact.proofs.Series.{over_pos}

-- (i + j)! / (i! j!)
unfoldable pub binomial : ℕ → ℕ → ℕ
binomial zero j = 1
binomial (suc i) zero = 1
binomial (suc i) (suc j) = binomial i (suc j) + binomial (suc i) j

-- it is the ratio of the denominators
pub binomial_over : (q i j : ℕ) → binomial i j * (denominator q i * denominator q j) ≡ denominator q (i + j)
unfolding binomial denominator
binomial_over q zero j = rw zero-add (omega arith)
binomial_over q (suc i) zero = rw (add-zero (suc i)) (omega arith)
binomial_over q (suc i) (suc j) =
    let e : suc i + suc j ≡ suc (suc (i + j)) = omega arith in
    rw e
    (through (binomial i (suc j)) (binomial (suc i) j) (denominator q i) (denominator q j) (denominator q (suc (i + j)))
    (rw add-suc at (binomial_over q i (suc j))) (rw suc-add at (binomial_over q (suc i) j)))
  where
    through : (B C D E F : ℕ) → B * (D * (E * (suc j * q))) ≡ F → C * (D * (suc i * q) * E) ≡ F →
        (B + C) * (D * (suc i * q) * (E * (suc j * q))) ≡ F * (suc (suc (i + j)) * q)
    through B C D E F h l = omega (arith, ap (λ (x : ℕ). x * (suc i * q)) h, ap (λ (x : ℕ). x * (suc j * q)) l)

-- the next of a row by the last
pub binomial_next : (i j : ℕ) → binomial (suc i) j * suc i ≡ binomial i j * suc (i + j)
unfolding denominator
binomial_next i j =
    eq_of_mul-eq-mul_right (denominator 1 i * denominator 1 j) (one-le-mul (over_pos 1 i (omega arith)) (over_pos 1 j (omega arith)))
    (binomial (suc i) j * suc i) (binomial i j * suc (i + j))
    (through (binomial (suc i) j) (binomial i j) (denominator 1 i) (denominator 1 j) (denominator 1 (i + j)) (binomial_over 1 i j) (rw suc-add at (binomial_over 1 (suc i) j)))
  where
    through : (B C D E F : ℕ) → C * (D * E) ≡ F → B * (D * (suc i * 1) * E) ≡ F * (suc (i + j) * 1) → B * suc i * (D * E) ≡ C * suc (i + j) * (D * E)
    through B C D E F h l = omega (arith, ap (λ (x : ℕ). x * suc (i + j)) h)

-- ---- sums on an antidiagonal

-- the sum of binomials times h, on the antidiagonal from (i + j, 0) to (i, j)
unfoldable pub row : (ℕ → ℕ → ℕ) → ℕ → ℕ → ℕ
unfolding binomial
row h i zero = h i 0
row h i (suc j) = row h (suc i) j + binomial i (suc j) * h i (suc j)

-- it grows
pub row_grows : (h : ℕ → ℕ → ℕ) (i j : ℕ) → row h i j ≤ row h 0 (i + j)
row_grows h zero j = rw (zero-add j) (omega arith)
row_grows h (suc i) j =
    let e : suc i + j ≡ i + suc j = omega arith in
    let more : row h (suc i) j ≤ row h i (suc j) = unfold row in omega arith in
    rw e (le_trans more (row_grows h i (suc j)))

-- the terms of (p + r) ^ (i + j), without the binomials
unfoldable pub powers : ℕ → ℕ → ℕ → ℕ → ℕ
powers p r i j = p ^ i * r ^ j

module _ (p r : ℕ) where
  powers_left : (i j : ℕ) → powers p r (suc i) j ≡ p * powers p r i j
  unfolding powers
  powers_left i j = rw (pow-succ' p i) (mul_assoc p (p ^ i) (r ^ j))

  powers_right : (i j : ℕ) → powers p r i (suc j) ≡ r * powers p r i j
  unfolding powers
  powers_right i j = rw (pow-succ' r j) (mul_left_comm (p ^ i) r (r ^ j))

  -- Pascal's rule
  pascal : (i j : ℕ) → row (powers p r) (suc i) (suc j) ≡ p * row (powers p r) i (suc j) + r * row (powers p r) (suc i) j
  unfolding row binomial
  pascal i zero = rw (powers_right (suc i) 0, powers_right i 0, powers_left (suc i) 0, powers_left i 0) (omega arith)
  pascal i (suc j) =
      through (row (powers p r) (suc (suc i)) (suc j)) (row (powers p r) (suc i) (suc j)) (row (powers p r) (suc (suc i)) j) (binomial i (suc (suc j))) (binomial (suc i) (suc j))
      (powers p r (suc i) (suc (suc j))) (powers p r i (suc (suc j))) (powers p r (suc i) (suc j)) (pascal (suc i) j) (powers_left i (suc (suc j))) (powers_right (suc i) (suc j))
    where
      through : (A B C b c P Q R : ℕ) → A ≡ p * B + r * C → P ≡ p * Q → P ≡ r * R → A + (b + c) * P ≡ p * (B + b * Q) + r * (C + c * R)
      through A B C b c P Q R h k l = omega (arith, ap (λ (x : ℕ). b * x) k, ap (λ (x : ℕ). c * x) l)

  next : (n : ℕ) → row (powers p r) 0 (suc n) ≡ row (powers p r) 0 n * (p + r)
  unfolding row binomial
  next zero = rw (powers_right 0 0, powers_left 0 0) (omega arith)
  next (suc n) = through (row (powers p r) 1 (suc n)) (row (powers p r) 0 (suc n)) (row (powers p r) 1 n) (powers p r 0 (suc n)) (powers p r 0 (suc (suc n))) (pascal 0 n) refl (powers_right 0 (suc n))
    where
      through : (A B C P Q : ℕ) → A ≡ p * B + r * C → B ≡ C + 1 * P → Q ≡ r * P → A + 1 * Q ≡ B * (p + r)
      through A B C P Q h k l = omega (arith, ap (λ (x : ℕ). r * x) k)

  -- the binomial theorem
  pub row-powers : (n : ℕ) → row (powers p r) 0 n ≡ (p + r) ^ n
  row-powers zero = unfold row powers in rw (pow-zero, pow-zero, pow-zero) refl
  row-powers (suc n) = rw (next n, row-powers n, pow-suc (p + r) n) refl
