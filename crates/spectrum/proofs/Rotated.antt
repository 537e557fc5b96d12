-- A butterfly's turned words against a turned sum, over any unit u.
use mathlib.Core.Path.{◌≡◌, ap}
use Prim.Native.Nat.{ℕ, ◌+◌, ◌*◌, ◌≤◌, ◌<◌}
use native.Mathlib.Nat.{mul-le-mul_right}
use native.Mathlib.Omega.{arith}
use Rattle.spectrum.specs.Difference.{Difference, whole, opposite, add, times}
use Rattle.spectrum.proofs.Differences.{Close, length, close_sym, close_trans, close_weaken, close_add, close_times, close_unscale, swapped, distributed}

-- the number t - 2 u
abbrev pub less : ℕ → ℕ → Difference
less u t = record { plus = t; minus = 2 * u }

-- d is v - u
abbrev pub Value : ℕ → ℕ → Difference → Type 0
Value u v d = d.plus + u ≡ v + d.minus

-- ---- the two parts of the product, as three floors a product leave them
module _ (u c s or oi p q t : ℕ) (R I : Difference) (hr : Value u or R) (hi : Value u oi I) where
  pub real_part : p * u ≤ or * c → or * c < (p + 3) * u → q * u ≤ oi * s → oi * s < (q + 3) * u → t + (c + s) ≡ p + q + 2 * u
      → Close (6 * u) (times (whole u) (less u t)) (add (times (whole c) R) (times (whole s) I))
  real_part a b a' b' e = record {
    most = omega (arith, a, a', ap (λ (x : ℕ). x * c) hr, ap (λ (x : ℕ). x * s) hi, ap (λ (x : ℕ). u * x) e);
    least = omega (arith, b, b', ap (λ (x : ℕ). x * c) hr, ap (λ (x : ℕ). x * s) hi, ap (λ (x : ℕ). u * x) e);
  }

  pub imaginary_part : p * u ≤ oi * c → oi * c < (p + 3) * u → q * u ≤ or * s → or * s < (q + 3) * u → t + (q + c) ≡ p + (2 * u + s)
      → Close (6 * u) (times (whole u) (less u t)) (add (times (whole c) I) (times (opposite (whole s)) R))
  imaginary_part a b a' b' e = record {
    most = omega (arith, a, b', ap (λ (x : ℕ). x * s) hr, ap (λ (x : ℕ). x * c) hi, ap (λ (x : ℕ). u * x) e);
    least = omega (arith, b, a', ap (λ (x : ℕ). x * s) hr, ap (λ (x : ℕ). x * c) hi, ap (λ (x : ℕ). u * x) e);
  }

-- ---- signs
pub flipped : {e : ℕ} (u : ℕ) (a : Difference) {b : Difference} → Close e (times (whole u) a) b → Close e (times (whole u) (opposite a)) (opposite b)
flipped u a h = record { most = omega (arith, h.least); least = omega (arith, h.most) }

pub unflipped : {e : ℕ} (u : ℕ) (a : Difference) {b : Difference} → Close e (times (whole u) (opposite a)) b → Close e (times (whole u) a) (opposite b)
unflipped u a h = record { most = omega (arith, h.least); least = omega (arith, h.most) }

exchanged : (a b : Difference) → Close 0 (times a (opposite b)) (times (opposite a) b)
exchanged a b = record { most = omega arith; least = omega arith }

-- both multiples of one
pulled : (u : ℕ) (c s a b : Difference) → Close 0 (times (whole u) (add (times c a) (times s b))) (add (times c (times (whole u) a)) (times s (times (whole u) b)))
pulled u c s a b = close_trans (distributed (whole u) (times c a) (times s b)) (close_add (swapped (whole u) c a) (swapped (whole u) s b))

-- ---- against the sums
module _ (u e x : ℕ) (pos : 0 < u) where
  -- a multiple of numbers that are near
  against : (m : ℕ) (c s T a b A B d : Difference) → length c + length s ≤ m → Close (6 * u) (times (whole u) T) (add (times c a) (times s b)) → Close (e * u) (times (whole u) a) A
      → Close (e * u) (times (whole u) b) B → Close (x * u) (times (whole u) d) (add (times c A) (times s B)) → Close (6 * u + m * e + x) (times (whole u) T) d
  against m c s T a b A B d l h ha hb hd =
      close_unscale u pos
      (close_weaken (omega (arith, mul-le-mul_right (e * u) l))
      (close_trans (close_times (whole u) h) (close_trans (pulled u c s a b) (close_trans (close_add (close_times c ha) (close_times s hb)) (close_sym hd)))))

  module _ (c s or oi p q : ℕ) (R I ro so O S : Difference) (hr : Value u or R) (hi : Value u oi I) (nr : Close (e * u) (times (whole u) R) O) (ni : Close (e * u) (times (whole u) (opposite I)) S) where
    pub real_near : (t : ℕ) → p * u ≤ or * c → or * c < (p + 3) * u → q * u ≤ oi * s → oi * s < (q + 3) * u → t + (c + s) ≡ p + q + 2 * u
        → Close (x * u) (times (whole u) ro) (add (times (whole c) O) (times (opposite (whole s)) S)) → Close (6 * u + (c + s) * e + x) (times (whole u) (less u t)) ro
    real_near t a b a' b' f h =
        against (c + s) (whole c) (whole s) (less u t) R I O (opposite S) ro (omega arith) (real_part u c s or oi p q t R I hr hi a b a' b' f) nr (unflipped u I ni)
        (close_weaken (omega arith) (close_trans h (close_add {e = 0} {f = 0} zero_close (close_sym (exchanged (whole s) S)))))
      where
        zero_close : {d : Difference} → Close 0 d d
        zero_close = record { most = omega arith; least = omega arith }

    pub imaginary_near : (t : ℕ) → p * u ≤ oi * c → oi * c < (p + 3) * u → q * u ≤ or * s → or * s < (q + 3) * u → t + (q + c) ≡ p + (2 * u + s)
        → Close (x * u) (times (whole u) so) (add (times (whole s) O) (times (whole c) S)) → Close (6 * u + (c + s) * e + x) (times (whole u) (opposite (less u t))) so
    imaginary_near t a b a' b' f h =
        back (against (c + s) (whole c) (opposite (whole s)) (less u t) I R (opposite S) O (opposite so) (omega arith) (imaginary_part u c s or oi p q t R I hr hi a b a' b' f) (unflipped u I ni) nr
        (turned (flipped u so h)))
      where
        turned : Close (x * u) (times (whole u) (opposite so)) (opposite (add (times (whole s) O) (times (whole c) S))) → Close (x * u) (times (whole u) (opposite so)) (add (times (whole c) (opposite S)) (times (opposite (whole s)) O))
        turned g = record { most = omega (arith, g.most); least = omega (arith, g.least) }

        back : {k : ℕ} → Close k (times (whole u) (less u t)) (opposite so) → Close k (times (whole u) (opposite (less u t))) so
        back g = record { most = omega (arith, g.least); least = omega (arith, g.most) }

-- ---- a word that is a sum of two
pub joined : {x k : ℕ} (u : ℕ) (a E T R O D : Difference) → Close 0 a (add E T) → Close 0 D (add R O) → Close x (times (whole u) E) R → Close k (times (whole u) T) O → Close (x + k) (times (whole u) a) D
joined {x} {k} u a E T R O D h g he ht =
    close_weaken (omega arith) (close_trans (close_times (whole u) h) (close_trans (distributed (whole u) E T) (close_trans (close_add he ht) (close_sym g))))

-- what a stage adds up to
pub budget : (u c s e e''' x : ℕ) → 2 * (c + s) ≤ 3 * u → x ≤ u → 5 * e + 14 ≤ 2 * e''' → e * u + (6 * u + (c + s) * e + x) ≤ e''' * u
budget u c s e e''' x h m l = omega (arith, mul-le-mul_right e h, mul-le-mul_right u l)
