-- A frame of products: its words are small, its block holds its transform, and every part is near the exact one. Assumes nothing.
use mathlib.Core.Path.{◌≡◌, refl, sym, ap, ◌∙◌, subst}
use mathlib.Core.Logic.{inl, inr, ◌⊎◌}
use mathlib.Core.List.{List}
use Prim.Native.Nat.{ℕ, zero, suc, ◌+◌, ◌-◌, ◌*◌, ◌%◌, ◌^◌, ◌≤◌, ◌<◌, zero-le}
use native.Mathlib.Nat.{le_trans, le_of_eq, add_comm}
use native.Mathlib.Omega.{arith}
use lib.ListN.{length, get_or, get_or-eq_default}
use lib.Ieee.{Float}
use Rattle.units.proofs.Naturals.{le-or-lt}
use Rattle.units.proofs.Signs.{size-sum}
use Rattle.spectrum.specs.Difference.{Difference, whole, opposite, times, size}
use Rattle.spectrum.specs.Table.{unit}
use Rattle.spectrum.specs.Words.{value_of, Small as SmallWord, FilledWith}
use Rattle.spectrum.specs.Transform.{at, units_of, turned_total, Turns}
use Rattle.spectrum.proofs.Differences as D
use Rattle.spectrum.proofs.Differences.{Close, times-length}
use Rattle.spectrum.proofs.Stage.{Transformed}
use Rattle.spectrum.proofs.Filling.{loss, filled, sizes}
use Rattle.spectrum.proofs.Blocks.{within}
use Rattle.spectrum.proofs.Exact.{real_sum, imaginary_sum, end_sum}
use Rattle.path.specs.Path.{product}
use Rattle.path.specs.Steps.{product_word, Products, size_of, real_size, imaginary_size}
use Rattle.path.specs.Ready.{Small}
use Rattle.path.proofs.Products.{small_size, word_small, word_near}
use Rattle.path.proofs.Bins.{real_is, imaginary_none, imaginary_some}

-- ---- a value and an exact number that are close, by their sizes
-- v, of a size of s, is close to 2 ^ 53 X
pub record Beside (G K s : ℕ) (X : Difference) : Type 0 where
  pub most : G * s ≤ 2 ^ 53 * size X + K
  pub least : 2 ^ 53 * size X ≤ G * s + K

pub beside : (E u K : ℕ) (v X : Difference) → (v.plus ≡ 0) ⊎ (v.minus ≡ 0) → Close K (times (whole E) (times (whole u) v)) (times (whole (2 ^ 53)) X) → Beside (E * u) K (v.plus + v.minus) X
beside E u K v X (inl z) h = go v.plus v.minus X.plus X.minus z h.most h.least
  where
    go : (p m a b : ℕ) → p ≡ 0 → E * (u * p + 0 * m) + 0 * (u * m + 0 * p) + (2 ^ 53 * b + 0 * a) ≤ 2 ^ 53 * a + 0 * b + (E * (u * m + 0 * p) + 0 * (u * p + 0 * m)) + K
        → 2 ^ 53 * a + 0 * b + (E * (u * m + 0 * p) + 0 * (u * p + 0 * m)) ≤ E * (u * p + 0 * m) + 0 * (u * m + 0 * p) + (2 ^ 53 * b + 0 * a) + K → Beside (E * u) K (p + m) (record { plus = a; minus = b })
    go p m a b e x y = record { most = omega (arith, ap (λ (i : ℕ). E * u * i) e); least = omega (arith, ap (λ (i : ℕ). E * u * i) e) }
beside E u K v X (inr z) h = go v.plus v.minus X.plus X.minus z h.most h.least
  where
    go : (p m a b : ℕ) → m ≡ 0 → E * (u * p + 0 * m) + 0 * (u * m + 0 * p) + (2 ^ 53 * b + 0 * a) ≤ 2 ^ 53 * a + 0 * b + (E * (u * m + 0 * p) + 0 * (u * p + 0 * m)) + K
        → 2 ^ 53 * a + 0 * b + (E * (u * m + 0 * p) + 0 * (u * p + 0 * m)) ≤ E * (u * p + 0 * m) + 0 * (u * m + 0 * p) + (2 ^ 53 * b + 0 * a) + K → Beside (E * u) K (p + m) (record { plus = a; minus = b })
    go p m a b e x y = record { most = omega (arith, ap (λ (i : ℕ). E * u * i) e); least = omega (arith, ap (λ (i : ℕ). E * u * i) e) }

-- a word's value has one sign
one_sided : (v : ℕ) → (v - unit ≡ 0) ⊎ (unit - v ≡ 0)
one_sided v = elim (le-or-lt v unit) [ inl l ↦ inl (omega arith) | inr l ↦ inr (omega arith) ]

turned : {p q : ℕ} → (p ≡ 0) ⊎ (q ≡ 0) → (q ≡ 0) ⊎ (p ≡ 0)
turned (inl e) = inr e
turned (inr e) = inl e

-- ---- the frame
module _ (xs ws : List Float) (small : (i : ℕ) → i < 128 → Small (at xs i) × Small (at ws i)) (ys : List ℕ) (products : Products xs ws ys) where
  pub small_words : (i : ℕ) → i < 128 → SmallWord (get_or ys i 0)
  small_words i l = subst SmallWord (sym (products.each i l)) (word_small (at xs i) (at ws i) (small i l).0 (small i l).1)

  word : (i : ℕ) → i < 128 → get_or ys i unit ≡ product_word (at xs i) (at ws i)
  word i l = within ys i unit 0 (omega (arith, products.as_many)) ∙ products.each i l

  lengths : (i : ℕ) → D.length (value_of (get_or ys i unit)) ≤ 2 ^ 53
  lengths i = elim (le-or-lt 128 i) [
    | inl l ↦ subst (λ (v : ℕ). D.length (value_of v) ≤ 2 ^ 53) (sym (get_or-eq_default ys unit (omega (arith, products.as_many)))) zero-le
    | inr l ↦ subst (λ (v : ℕ). D.length (value_of v) ≤ 2 ^ 53) (sym (word i l)) (few _ (word_small (at xs i) (at ws i) (small i l).0 (small i l).1))
  ]
    where
      few : (v : ℕ) → SmallWord v → D.length (value_of v) ≤ 2 ^ 53
      few v s = omega (arith, s.least, s.most)

  near_words : (n : ℕ) → n < 128 → Close (2 ^ 298) (times (whole (2 ^ 298)) (value_of (get_or ys n unit))) (times (whole (2 ^ 53)) (product xs ws n))
  near_words n l = rw (word n l) (word_near (at xs n) (at ws n) (small n l).0 (small n l).1)

  covers : (n : ℕ) → n < 128 → D.length (product xs ws n) ≤ 2 ^ 298
  covers n l = times-length (units_of (at xs n)) (units_of (at ws n)) (2 ^ 149) (2 ^ 149) (le_trans (le_of_eq (size-sum (at xs n))) (small_size (at xs n) (small n l).0)) (le_trans (le_of_eq (size-sum (at ws n))) (small_size (at ws n) (small n l).1))

  module _ (r : List ℕ) (count : length r ≡ 128) (fills : FilledWith ys 0 1 r) where
    block : Transformed (λ i. get_or ys i unit) 462 128 0 1 (λ i. get_or r i 0)
    unfolding loss
    block = filled (λ i. get_or ys i unit) lengths (fills 5 32 refl count) refl

    pub parts_few : (i : ℕ) → i < 128 → size_of (get_or r i 0) ≤ 2 ^ 60 + 2 ^ 10
    parts_few i l = let b = sizes (λ i. get_or ys i unit) (2 ^ 53) lengths block i l in omega (arith, b.0, b.1)

    module _ (c s : ℕ → Difference) (u : ℕ) (turns : Turns c s u) where
      abbrev lost : ℕ
      lost = 590 * (2 ^ 298 * u) + 4 * (2 ^ 298 * u)

      pub real_beside : (k : ℕ) → k ≤ 64 → Beside (2 ^ 298 * u) lost (real_size r k) (turned_total (product xs ws) c k)
      real_beside k l =
          let v = get_or r k 0 in
          subst (λ (z : ℕ). Beside (2 ^ 298 * u) lost z (turned_total (product xs ws) c k)) (real_is r k)
          (beside (2 ^ 298) u lost (value_of v) (turned_total (product xs ws) c k) (one_sided v) (real_sum (product xs ws) ys (2 ^ 298) near_words c s u (2 ^ 298) turns covers k (value_of v) (block.re k (omega arith))))

      inner : (k : ℕ) → 1 ≤ k → k < 64 → ¬ (k % 64 ≡ 0) → Beside (2 ^ 298 * u) lost (imaginary_size r k) (turned_total (product xs ws) s k)
      inner k a b n =
          let v = get_or r (128 - k) 0 in
          subst (λ (z : ℕ). Beside (2 ^ 298 * u) lost z (turned_total (product xs ws) s k)) (add_comm (unit - v) (v - unit) ∙ imaginary_some r k n)
          (beside (2 ^ 298) u lost (opposite (value_of v)) (turned_total (product xs ws) s k) (turned (one_sided v)) (imaginary_sum (product xs ws) ys (2 ^ 298) near_words c s u (2 ^ 298) turns covers k (opposite (value_of v)) (block.im k a (omega arith))))

      ends : (k : ℕ) → (k ≡ 0) ⊎ (k ≡ 64) → k % 64 ≡ 0 → Beside (2 ^ 298 * u) lost (imaginary_size r k) (turned_total (product xs ws) s k)
      ends k e z =
          subst (λ (x : ℕ). Beside (2 ^ 298 * u) lost x (turned_total (product xs ws) s k)) (imaginary_none r k z)
          (beside (2 ^ 298) u lost (whole 0) (turned_total (product xs ws) s k) (inl refl) (imaginary_sum (product xs ws) ys (2 ^ 298) near_words c s u (2 ^ 298) turns covers k (whole 0) (end_sum (λ i. value_of (get_or ys i unit)) k e)))

      pub imaginary_beside : (k : ℕ) → k ≤ 64 → Beside (2 ^ 298 * u) lost (imaginary_size r k) (turned_total (product xs ws) s k)
      imaginary_beside k l = elim (place k l) [ inl e ↦ ends k e (whole_place k e) | inr (a, b) ↦ inner k a b (no_place a b) ]
        where
          zero_or : (k : ℕ) → (k ≡ 0) ⊎ (1 ≤ k)
          zero_or zero = inl refl
          zero_or (suc k) = inr (omega arith)

          place : (k : ℕ) → k ≤ 64 → ((k ≡ 0) ⊎ (k ≡ 64)) ⊎ ((1 ≤ k) × (k < 64))
          place k l = elim (le-or-lt 64 k) [ inl g ↦ inl (inr (both l g)) | inr g ↦ elim (zero_or k) [ inl z ↦ inl (inl z) | inr a ↦ inr (a, g) ] ]
            where
              both : k ≤ 64 → 64 ≤ k → k ≡ 64
              both a b = omega arith

          whole_place : (k : ℕ) → (k ≡ 0) ⊎ (k ≡ 64) → k % 64 ≡ 0
          whole_place k (inl e) = rw e refl
          whole_place k (inr e) = rw e refl

          no_place : {k : ℕ} → 1 ≤ k → k < 64 → ¬ (k % 64 ≡ 0)
          no_place a b z = omega arith
