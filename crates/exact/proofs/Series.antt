-- Laws of partial sums of power series: they depend on the fraction p / q alone, grow with their order, and stay within the last term once terms halve.
use mathlib.Core.Path.{◌≡◌, refl}
use mathlib.Core.Bool.{Bool, true, false, cond}
use mathlib.Core.List.{List, [], ◌∷◌, ◌++◌}
use Prim.Native.Nat.{ℕ, zero, suc, ◌+◌, ◌*◌, ◌%◌, ◌^◌, ◌≤◌, ◌<◌}
use native.Mathlib.Nat.{le_trans, le_of_eq, mul-le-mul_left, mul-le-mul_right, le_of_mul-le-mul_right, le-mul_of_pos_right, one-le-mul, one-le-pow, add-zero, add-suc, pow-zero, pow-suc, pow-succ', le_dest, suc_inj}
use native.Mathlib.Omega.{arith}
use lib.Dec.{eqb}
use lib.ListN.{length, length-append}
use Rattle.exact.specs.Polynomial.{value}
use Rattle.exact.specs.Series.{partial, denominator, fourth}
use Rattle.exact.proofs.Power.{mul-pow, pow-one}
use Rattle.exact.proofs.Forms.{scale, value_raise, value_scale_by, length_scale}

-- ---- denominators

-- the denominators are above zero
pub over_pos : (q n : ℕ) → 0 < q → 0 < denominator q n
unfolding denominator
over_pos q zero pos = omega arith
over_pos q (suc n) pos = one-le-mul (over_pos q n pos) (one-le-mul (omega arith) pos)

-- the denominator of a fraction written with larger numbers
pub over_scale : (q k n : ℕ) → denominator (q * k) n ≡ denominator q n * k ^ n
unfolding denominator
over_scale q k zero = rw pow-zero refl
over_scale q k (suc n) = rw (over_scale q k n, pow-suc k n) (through (denominator q n) (k ^ n))
  where
    through : (D K : ℕ) → D * K * (suc n * (q * k)) ≡ D * (suc n * q) * (K * k)
    through D K = omega arith

-- ---- partial sums

-- the partial sum at a fraction written with larger numbers
pub partial_scale : (f : ℕ → ℕ) (p q k n : ℕ) → partial f (p * k) (q * k) n ≡ partial f p q n * k ^ n
unfolding partial
partial_scale f p q k zero = rw pow-zero (omega arith)
partial_scale f p q k (suc n) = rw (partial_scale f p q k n, mul-pow p k (suc n), pow-suc k n) (through (partial f p q n) (k ^ n) (f (suc n)) (p ^ suc n))
  where
    through : (E K c P : ℕ) → E * K * (suc n * (q * k)) + c * (P * (K * k)) ≡ (E * (suc n * q) + c * P) * (K * k)
    through E K c P = omega arith

-- at zero, the first term alone
pub partial-zero : (f : ℕ → ℕ) (q n : ℕ) → partial f 0 q n ≡ f 0 * denominator q n
unfolding partial denominator
partial-zero f q zero = omega arith
partial-zero f q (suc n) = rw (partial-zero f q n, pow-suc 0 n) (through (f 0) (denominator q n) (f (suc n)) (0 ^ n))
  where
    through : (a D c P : ℕ) → a * D * (suc n * q) + c * (P * 0) ≡ a * (D * (suc n * q))
    through a D c P = omega arith

-- by induction from n on
from_on : (P : ℕ → Type 0) (n : ℕ) → P n → ((m : ℕ) → n ≤ m → P m → P (suc m)) → (m : ℕ) → n ≤ m → P m
from_on P n base step m h = let (k, e) = le_dest h in rw (← e) (go k)
  where
    go : (k : ℕ) → P (n + k)
    go zero = rw (add-zero n) base
    go (suc k) = rw (add-suc n k) (step (n + k) (omega arith) (go k))

-- partial sums grow
pub partial_grows : (f : ℕ → ℕ) (p q n m : ℕ) → n ≤ m → partial f p q n * denominator q m ≤ partial f p q m * denominator q n
unfolding partial denominator
partial_grows f p q n = from_on (λ (m : ℕ). partial f p q n * denominator q m ≤ partial f p q m * denominator q n) n (omega arith) step
  where
    through : (E D E' D' s t : ℕ) → E * D' ≤ E' * D → E * (D' * s) ≤ (E' * s + t) * D
    through E D E' D' s t h = omega (arith, mul-le-mul_right s h)

    step : (m : ℕ) → n ≤ m → partial f p q n * denominator q m ≤ partial f p q m * denominator q n → partial f p q n * denominator q (suc m) ≤ partial f p q (suc m) * denominator q n
    step m l h = through (partial f p q n) (denominator q n) (partial f p q m) (denominator q m) (suc m * q) (f (suc m) * p ^ suc m) h

-- where terms halve from n on, all later partial sums are within the n-th term of the n-th
pub partial_tail : (f : ℕ → ℕ) → ((k : ℕ) → f k ≤ 1) → (p q n m : ℕ) → 2 * p ≤ suc n * q → n ≤ m → partial f p q m * denominator q n ≤ (partial f p q n + p ^ n) * denominator q m
unfolding partial denominator
partial_tail f most p q n m halve l =
    let h = from_on (λ (m : ℕ). (partial f p q m + p ^ m) * denominator q n ≤ (partial f p q n + p ^ n) * denominator q m) n (omega arith) step m l in
    omega (arith, h)
  where
    through : (A D E P D' s c : ℕ) → c ≤ 1 → 2 * p ≤ s → (E + P) * D ≤ A * D' → (E * s + c * (P * p) + P * p) * D ≤ A * (D' * s)
    through A D E P D' s c small less h = omega (arith, mul-le-mul_right s h, mul-le-mul_right (P * p * D) small, mul-le-mul_left (P * D) less)

    step : (m : ℕ) → n ≤ m → (partial f p q m + p ^ m) * denominator q n ≤ (partial f p q n + p ^ n) * denominator q m →
        (partial f p q (suc m) + p ^ suc m) * denominator q n ≤ (partial f p q n + p ^ n) * denominator q (suc m)
    step m less h =
        let later : suc n * q ≤ suc m * q = mul-le-mul_right q (omega arith) in
        rw (pow-suc p m) (through (partial f p q n + p ^ n) (denominator q n) (partial f p q m) (p ^ m) (denominator q m) (suc m * q) (f (suc m)) (most (suc m)) (le_trans halve later) h)

-- the weights of cosine and sine are at most 1
pub fourth_most : (r k : ℕ) → fourth r k ≤ 1
unfolding fourth
fourth_most r k = go (eqb (k % 4) r)
  where
    go : (b : Bool) → cond b 1 0 ≤ 1
    go true = omega arith
    go false = omega arith

-- ---- small terms

-- from some order on, terms halve and are at most 1 / b
pub record Small (p q b : ℕ) : Type 0 where
  pub from : ℕ
  pub halve : (n : ℕ) → from ≤ n → 2 * p ≤ suc n * q
  pub small : (n : ℕ) → from ≤ n → b * p ^ n ≤ denominator q n

-- powers of two pass every number
pub below_power : (d : ℕ) → d ≤ 2 ^ d
below_power zero = omega arith
below_power (suc d) = rw pow-suc (omega (arith, below_power d, one-le-pow d 2 (omega arith)))

-- from order 2 p on, each term is at most half of the one before
halving : (p q n : ℕ) → 0 < q → 2 * p ≤ n → 2 * p ≤ suc n * q
halving p q n pos h = le_trans h (le_trans (omega arith) (le-mul_of_pos_right (suc n) pos))

halved : (p q d : ℕ) → 0 < q → 2 ^ d * p ^ (2 * p + d) ≤ p ^ (2 * p) * denominator q (2 * p + d)
unfolding denominator
halved p q zero pos = rw (add-zero, pow-zero) (omega (arith, le-mul_of_pos_right (p ^ (2 * p)) (over_pos q (2 * p) pos)))
halved p q (suc d) pos =
    rw (add-suc (2 * p) d, pow-suc 2 d, pow-suc p (2 * p + d))
    (through (2 ^ d) (p ^ (2 * p + d)) (p ^ (2 * p)) (denominator q (2 * p + d)) (suc (2 * p + d) * q) (halved p q d pos) (halving p q (2 * p + d) pos (omega arith)))
  where
    through : (T P A D s : ℕ) → T * P ≤ A * D → 2 * p ≤ s → T * 2 * (P * p) ≤ A * (D * s)
    through T P A D s h l = omega (arith, mul-le-mul_right (2 * p) h, mul-le-mul_left (A * D) l)

-- terms become as small as one likes
pub small_terms : (p q b : ℕ) → 0 < q → Small p q b
small_terms p q b pos = record { from = 2 * p + b * p ^ (2 * p); halve = λ n h. halving p q n pos (omega arith); small = at }
  where
    through : (T A P D d : ℕ) → T * P ≤ A * D → b * A ≤ d → d ≤ T → b * P * T ≤ D * T
    through T A P D d h l m = omega (arith, mul-le-mul_left b h, mul-le-mul_right D l, mul-le-mul_right D m)

    at : (n : ℕ) → 2 * p + b * p ^ (2 * p) ≤ n → b * p ^ n ≤ denominator q n
    at n h =
        let first : 2 * p ≤ n = omega arith in
        let (d, e) = le_dest first in
        rw (← e)
        (le_of_mul-le-mul_right (through (2 ^ d) (p ^ (2 * p)) (p ^ (2 * p + d)) (denominator q (2 * p + d)) d (halved p q d pos) (omega arith) (below_power d)) (one-le-pow d 2 (omega arith)))

-- ---- a partial sum is a polynomial

-- the coefficients of the partial sum at (c x) / (w d), as a polynomial in x / d
unfoldable pub terms : (ℕ → ℕ) → ℕ → ℕ → ℕ → List ℕ
unfolding scale
terms f c w zero = f 0 ∷ []
terms f c w (suc n) = scale (suc n * w) (terms f c w n) ++ (f (suc n) * c ^ suc n) ∷ []

length_terms : (f : ℕ → ℕ) (c w n : ℕ) → length (terms f c w n) ≡ suc n
unfolding terms
length_terms f c w zero = refl
length_terms f c w (suc n) = rw (length-append, length_scale, length_terms f c w n) (omega arith)

-- its degree is at most n
pub terms_length : (f : ℕ → ℕ) (c w n : ℕ) → length (terms f c w n) ≤ suc n
terms_length f c w n = le_of_eq (length_terms f c w n)

-- a leading coefficient more
value-append : (n : ℕ) (cs : List ℕ) (a x d : ℕ) → length cs ≡ n → value n (cs ++ a ∷ []) x d ≡ value n cs x d + a * x ^ n
unfolding value
value-append zero [] a x d e = rw (pow-zero, pow-zero) (omega arith)
value-append (suc n) [] a x d e = absurd (omega arith)
value-append zero (c ∷ cs) a x d e = absurd (omega arith)
value-append (suc n) (c ∷ cs) a x d e = rw (value-append n cs a x d (suc_inj e), pow-succ' x n) (through (c * d ^ suc n) (value n cs x d) (x ^ n))
  where
    through : (A F X : ℕ) → A + x * (F + a * X) ≡ A + x * F + a * (x * X)
    through A F X = omega arith

-- the partial sum is the polynomial's value
pub partial-value : (f : ℕ → ℕ) (c w x d n : ℕ) → partial f (c * x) (w * d) n ≡ value n (terms f c w n) x d
unfolding partial terms
partial-value f c w x d zero = unfold value in rw pow-zero (omega arith)
partial-value f c w x d (suc n) =
    rw (
      value-append (suc n) (scale (suc n * w) (terms f c w n)) (f (suc n) * c ^ suc n) x d (rw (length_scale, length_terms) refl),
      value_scale_by (suc n) (suc n * w) (terms f c w n) x d,
      raised,
      partial-value f c w x d n,
      mul-pow c x (suc n),
    )
    (through (value n (terms f c w n) x d) (f (suc n)) (c ^ suc n) (x ^ suc n))
  where
    raised : value (suc n) (terms f c w n) x d ≡ d * value n (terms f c w n) x d
    raised = let one : 1 + n ≡ suc n = omega arith in rw (pow-one d, one) at (value_raise 1 n (terms f c w n) x d (terms_length f c w n))

    through : (F a C X : ℕ) → F * (suc n * (w * d)) + a * (C * X) ≡ suc n * w * (d * F) + a * C * X
    through F a C X = omega arith
