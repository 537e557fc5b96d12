-- Differences of natural numbers that are close to each other, and sums of them.
use mathlib.Core.Path.{◌≡◌, refl, sym, ap, ap₂, subst}
use Prim.Native.Nat.{ℕ, zero, suc, ◌+◌, ◌*◌, ◌≤◌, ◌<◌}
use native.Mathlib.Nat.{mul-le-mul_left, mul-le-mul_right, le_of_mul-le-mul_left, le_trans}
use native.Mathlib.Omega.{arith}
use Rattle.spectrum.specs.Difference.{Difference, whole, opposite, add, times, total}

-- |a - b| ≤ e
pub record Close (e : ℕ) (a b : Difference) : Type 0 where
  pub most : a.plus + b.minus ≤ b.plus + a.minus + e
  pub least : b.plus + a.minus ≤ a.plus + b.minus + e

-- plus + minus, the size where one of them is zero
abbrev pub length : Difference → ℕ
length a = a.plus + a.minus

pub close_sym : {e : ℕ} {a b : Difference} → Close e a b → Close e b a
close_sym h = record { most = h.least; least = h.most }

pub close_trans : {e f : ℕ} {a b c : Difference} → Close e a b → Close f b c → Close (e + f) a c
close_trans h g = record { most = omega (arith, h.most, g.most); least = omega (arith, h.least, g.least) }

pub close_weaken : {e f : ℕ} {a b : Difference} → e ≤ f → Close e a b → Close f a b
close_weaken l h = record { most = omega (arith, h.most); least = omega (arith, h.least) }

pub close_add : {e f : ℕ} {a b c d : Difference} → Close e a b → Close f c d → Close (e + f) (add a c) (add b d)
close_add h g = record { most = omega (arith, h.most, g.most); least = omega (arith, h.least, g.least) }

pub close_times : {e : ℕ} (w : Difference) {a b : Difference} → Close e a b → Close (length w * e) (times w a) (times w b)
close_times w h = record { most = products w _ _ _ _ _ h.most h.least; least = products w _ _ _ _ _ h.least h.most }
  where
    products : (w : Difference) (ap am bp bm e : ℕ) → ap + bm ≤ bp + am + e → bp + am ≤ ap + bm + e
        → w.plus * ap + w.minus * am + (w.plus * bm + w.minus * bp) ≤ w.plus * bp + w.minus * bm + (w.plus * am + w.minus * ap) + (w.plus + w.minus) * e
    products w ap am bp bm e m l = omega (arith, mul-le-mul_left w.plus m, mul-le-mul_left w.minus l)

pub times_comm : (a b : Difference) → Close 0 (times a b) (times b a)
times_comm a b = record { most = omega arith; least = omega arith }

pub close_by : {e : ℕ} {a b : Difference} (y : Difference) → Close e a b → Close (length y * e) (times a y) (times b y)
close_by {a = a} {b = b} y h = close_weaken (omega arith) (close_trans (close_trans (times_comm a y) (close_times y h)) (times_comm y b))

pub close_unscale : {e : ℕ} (u : ℕ) {a b : Difference} → 0 < u → Close (u * e) (times (whole u) a) (times (whole u) b) → Close e a b
close_unscale {e} u {a} {b} pos h = record { most = divided a.plus a.minus b.plus b.minus h.most; least = divided b.plus b.minus a.plus a.minus h.least }
  where
    divided : (p m q n : ℕ) → u * p + 0 * m + (u * n + 0 * q) ≤ u * q + 0 * n + (u * m + 0 * p) + u * e → p + n ≤ q + m + e
    divided p m q n l = le_of_mul-le-mul_left (omega (arith, l)) pos

pub swapped : (a b c : Difference) → Close 0 (times a (times b c)) (times b (times a c))
swapped a b c = record { most = omega arith; least = omega arith }

pub distributed : (a b c : Difference) → Close 0 (times a (add b c)) (add (times a b) (times a c))
distributed a b c = record { most = omega arith; least = omega arith }

-- ---- sums
pub total_same : (f g : ℕ → Difference) (n : ℕ) → ((i : ℕ) → f i ≡ g i) → total f n ≡ total g n
unfolding total
total_same f g zero h = refl
total_same f g (suc n) h = ap₂ add (total_same f g n h) (h n)

pub total_close : (e : ℕ) (f g : ℕ → Difference) (n : ℕ) → ((i : ℕ) → i < n → Close e (f i) (g i)) → Close (n * e) (total f n) (total g n)
unfolding total
total_close e f g zero h = record { most = omega arith; least = omega arith }
total_close e f g (suc n) h = close_weaken (omega arith) (close_add (total_close e f g n (λ i l. h i (omega arith))) (h n (omega arith)))

pub total-times : (w : Difference) (f : ℕ → Difference) (n : ℕ) → Close 0 (times w (total f n)) (total (λ i. times w (f i)) n)
unfolding total
total-times w f zero = record { most = omega arith; least = omega arith }
total-times w f (suc n) = let h = total-times w f n in record { most = omega (arith, h.most); least = omega (arith, h.least) }

pub total-add : (f g : ℕ → Difference) (n : ℕ) → Close 0 (add (total f n) (total g n)) (total (λ i. add (f i) (g i)) n)
unfolding total
total-add f g zero = record { most = omega arith; least = omega arith }
total-add f g (suc n) = let h = total-add f g n in record { most = omega (arith, h.most); least = omega (arith, h.least) }

pub total-opposite : (f : ℕ → Difference) (n : ℕ) → Close 0 (opposite (total f n)) (total (λ i. opposite (f i)) n)
unfolding total
total-opposite f zero = record { most = omega arith; least = omega arith }
total-opposite f (suc n) = let h = total-opposite f n in record { most = omega (arith, h.most); least = omega (arith, h.least) }

-- the even and the odd terms
pub total_split : (f : ℕ → Difference) (n : ℕ) → Close 0 (total f (2 * n)) (add (total (λ i. f (2 * i)) n) (total (λ i. f (2 * i + 1)) n))
unfolding total
total_split f zero = record { most = omega arith; least = omega arith }
total_split f (suc n) =
    subst (λ (k : ℕ). Close 0 (total f k) (add (total (λ i. f (2 * i)) (suc n)) (total (λ i. f (2 * i + 1)) (suc n)))) (sym two)
    (let h = total_split f n in
    subst (λ (k : ℕ). Close 0 (add (add (total f (2 * n)) (f (2 * n))) (f k)) (add (total (λ i. f (2 * i)) (suc n)) (total (λ i. f (2 * i + 1)) (suc n)))) one
    (record { most = omega (arith, h.most); least = omega (arith, h.least) }))
  where
    two : 2 * suc n ≡ suc (suc (2 * n))
    two = omega arith

    one : 2 * n + 1 ≡ suc (2 * n)
    one = omega arith

pub total-length : (a : ℕ) (f : ℕ → Difference) (n : ℕ) → ((i : ℕ) → i < n → length (f i) ≤ a) → length (total f n) ≤ n * a
unfolding total
total-length a f zero h = omega arith
total-length a f (suc n) h = omega (arith, total-length a f n (λ i l. h i (omega arith)), h n (omega arith))

-- the length of a product
pub times-length : (a b : Difference) (m n : ℕ) → length a ≤ m → length b ≤ n → length (times a b) ≤ m * n
times-length a b m n h g = le_trans (le_of_eq' a b) (le_trans (mul-le-mul_right (length b) h) (mul-le-mul_left m g))
  where
    le_of_eq' : (a b : Difference) → length (times a b) ≤ length a * length b
    le_of_eq' a b = omega arith
