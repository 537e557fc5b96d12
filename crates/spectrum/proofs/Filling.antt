-- A block that is filled holds the transform of its values: stage by stage from blocks of four, which are exact.
use mathlib.Core.Path.{◌≡◌, sym, ap, subst}
use mathlib.Core.Logic.{inl, inr}
use Prim.Native.Nat.{ℕ, zero, suc, ◌+◌, ◌-◌, ◌*◌, ◌/◌, ◌^◌, ◌≤◌, ◌<◌}
use native.Mathlib.Nat.{add-zero, eq-or-lt_of_le, le_of_mul-le-mul_right, le_trans}
use native.Mathlib.Omega.{arith}
use lib.Pow.{pow_pos}
use Rattle.units.proofs.Naturals.{le-or-lt}
use Rattle.spectrum.specs.Difference.{Difference, whole, opposite, add, times, total}
use Rattle.spectrum.specs.Table.{unit, entry, cosine_below, sine_below, cosine, sine}
use Rattle.spectrum.specs.Words.{value_of, Four, Filled, four, halves}
use Rattle.spectrum.proofs.Differences.{Close, length, total-length, times-length}
use Rattle.spectrum.proofs.Turning.{cosine-length, sine-length}
use Rattle.spectrum.proofs.Halving.{plain}
use Rattle.spectrum.proofs.Rotated.{Value}
use Rattle.spectrum.proofs.Stage.{Transformed, stage}

-- how far the words are off after s stages: 0, 7, 25, 70, 182, 462
unfoldable pub loss : ℕ → ℕ
loss zero = 0
loss (suc s) = (5 * loss s + 15) / 2

-- ---- four values, over any unit
module _ (u : ℕ) (A B C D R : Difference) (a b c d r : ℕ) (ha : Value u a A) (hb : Value u b B) (hc : Value u c C) (hd : Value u d D) (hr : Value u r R) where
  abbrev sum : Difference → Difference → Difference → Difference → Difference
  sum p q s t = add (add (add (add (whole 0) (times A p)) (times B q)) (times C s)) (times D t)

  abbrev U : Difference
  U = whole u

  abbrev O : Difference
  O = whole 0

  abbrev M : Difference
  M = opposite (whole u)

  four_first : r + 3 * u ≡ a + b + c + d → Close 0 (times U R) (sum U U U U)
  four_first h = record { most = omega (arith, ap (λ (z : ℕ). u * z) flat); least = omega (arith, ap (λ (z : ℕ). u * z) flat) }
    where
      flat : R.plus + (A.minus + B.minus + C.minus + D.minus) ≡ A.plus + B.plus + C.plus + D.plus + R.minus
      flat = omega arith

  four_second : r + c ≡ a + u → Close 0 (times U R) (sum U O M O)
  four_second h = record { most = omega (arith, ap (λ (z : ℕ). u * z) flat); least = omega (arith, ap (λ (z : ℕ). u * z) flat) }
    where
      flat : R.plus + (A.minus + C.plus) ≡ A.plus + C.minus + R.minus
      flat = omega arith

  four_third : r + (b + d) ≡ a + c + u → Close 0 (times U R) (sum U M U M)
  four_third h = record { most = omega (arith, ap (λ (z : ℕ). u * z) flat); least = omega (arith, ap (λ (z : ℕ). u * z) flat) }
    where
      flat : R.plus + (A.minus + B.plus + C.minus + D.plus) ≡ A.plus + B.minus + C.plus + D.minus + R.minus
      flat = omega arith

  four_fourth : r + b ≡ d + u → Close 0 (times U (opposite R)) (sum O U O M)
  four_fourth h = record { most = omega (arith, ap (λ (z : ℕ). u * z) flat); least = omega (arith, ap (λ (z : ℕ). u * z) flat) }
    where
      flat : R.plus + (D.minus + B.plus) ≡ D.plus + B.minus + R.minus
      flat = omega arith

value : (v : ℕ) → Value unit v (value_of v)
value v = omega arith

module _ (y : ℕ → ℕ) (off : ℕ) (r : ℕ → ℕ) (h : Four (y off) (y (off + 32)) (y (off + 64)) (y (off + 96)) r) where
  start : y off ≡ y (off + 0)
  start = ap y (sym (add-zero off))

  leaf_re : (k : ℕ) → k ≤ 2 → Close (0 * unit) (times (whole unit) (value_of (r k))) (plain (λ i. value_of (y i)) cosine off 32 k 4)
  unfolding total entry cosine_below
  leaf_re k l = elim (eq-or-lt_of_le l) [
    | inl e ↦ subst (λ (k : ℕ). Close (0 * unit) (times (whole unit) (value_of (r k))) (plain (λ i. value_of (y i)) cosine off 32 k 4)) (sym e)
        (four_third unit _ _ _ _ _ (y (off + 0)) (y (off + 32)) (y (off + 64)) (y (off + 96)) (r 2) (value _) (value _) (value _) (value _) (value _) (omega (arith, h.third, start)))
    | inr m ↦ elim (eq-or-lt_of_le (below m)) [
      | inl e ↦ subst (λ (k : ℕ). Close (0 * unit) (times (whole unit) (value_of (r k))) (plain (λ i. value_of (y i)) cosine off 32 k 4)) (sym e)
          (four_second unit _ _ _ _ _ (y (off + 0)) (y (off + 32)) (y (off + 64)) (y (off + 96)) (r 1) (value _) (value _) (value _) (value _) (value _) (omega (arith, h.second, start)))
      | inr n ↦ subst (λ (k : ℕ). Close (0 * unit) (times (whole unit) (value_of (r k))) (plain (λ i. value_of (y i)) cosine off 32 k 4)) (sym (none n))
          (four_first unit _ _ _ _ _ (y (off + 0)) (y (off + 32)) (y (off + 64)) (y (off + 96)) (r 0) (value _) (value _) (value _) (value _) (value _) (omega (arith, h.first, start)))
    ]
  ]
    where
      below : k < 2 → k ≤ 1
      below m = omega arith

      none : k < 1 → k ≡ 0
      none n = omega arith

  leaf_im : Close (0 * unit) (times (whole unit) (opposite (value_of (r 3)))) (plain (λ i. value_of (y i)) sine off 32 1 4)
  unfolding total entry sine_below
  leaf_im = four_fourth unit _ _ _ _ _ (y (off + 0)) (y (off + 32)) (y (off + 64)) (y (off + 96)) (r 3) (value _) (value _) (value _) (value _) (value _) (omega (arith, h.fourth))

  leaf : Transformed y 0 4 off 32 r
  leaf = record {
    re = λ k l. leaf_re k (omega arith);
    im = λ k l m. subst (λ (k : ℕ). Close (0 * unit) (times (whole unit) (opposite (value_of (r (4 - k))))) (plain (λ i. value_of (y i)) sine off 32 k 4)) (one l m) leaf_im;
  }
    where
      one : {k : ℕ} → 1 ≤ k → 2 * k < 4 → 1 ≡ k
      one l m = omega arith

-- ---- all blocks
module _ (y : ℕ → ℕ) (small : (i : ℕ) → length (value_of (y i)) ≤ 2 ^ 53) where
  pub filled : {s g off st : ℕ} {r : ℕ → ℕ} → Filled y s g off st r → g * st ≡ 32 → Transformed y (loss s) (4 * g) off st r
  unfolding loss
  filled (four {off} {st} {r} h) e = subst (λ (st : ℕ). Four (y off) (y (off + st)) (y (off + 2 * st)) (y (off + 3 * st)) r → Transformed y 0 4 off st r) (sym (same st e)) (leaf y off r) h
    where
      same : (st : ℕ) → 1 * st ≡ 32 → st ≡ 32
      same st e = omega arith
  filled (halves {s} {g} {off} {st} {f} {o} {r} a b c) e =
      stage y small off st (2 * g) (loss s) ((5 * loss s + 15) / 2) (some g st e) e (omega arith) f o r (subst (λ (n : ℕ). Transformed y (loss s) n off (2 * st) f) (four_of g) (filled a (inner g st e)))
      (subst (λ (n : ℕ). Transformed y (loss s) n (off + st) (2 * st) o) (four_of g) (filled b (inner g st e))) c
    where
      some : (g st : ℕ) → 2 * g * st ≡ 32 → 1 ≤ 2 * g
      some zero st e = absurd (omega arith)
      some (suc g) st e = omega arith

      inner : (g st : ℕ) → 2 * g * st ≡ 32 → g * (2 * st) ≡ 32
      inner g st e = omega arith

      four_of : (g : ℕ) → 4 * g ≡ 2 * (2 * g)
      four_of g = omega arith

-- ---- how large its words are
bounded : (u e m v : ℕ) (W D : Difference) → 0 < u → Close (e * u) (times (whole u) W) D → length D ≤ m * u → Value u v W → (u ≤ v + (e + m)) × (v ≤ u + (e + m))
bounded u e m v W D pos h l hv = (
  le_of_mul-le-mul_right (omega (arith, h.least, l, ap (λ (z : ℕ). z * u) hv)) pos,
  le_of_mul-le-mul_right (omega (arith, h.most, l, ap (λ (z : ℕ). z * u) hv)) pos,
)

module _ (y : ℕ → ℕ) (a : ℕ) (small : (i : ℕ) → length (value_of (y i)) ≤ a) {e n off st : ℕ} {r : ℕ → ℕ} (h : Transformed y e n off st r) where
  plain_length : (w : ℕ → Difference) → ((j : ℕ) → length (w j) ≤ unit) → (k : ℕ) → length (plain (λ i. value_of (y i)) w off st k n) ≤ n * a * unit
  plain_length w l k =
      le_trans (total-length (a * unit) (λ m. times (value_of (y (off + m * st))) (w (k * (m * st)))) n (λ m b. times-length (value_of (y (off + m * st))) (w (k * (m * st))) a unit (small _) (l _))) (regroup n a unit)
    where
      regroup : (n a u : ℕ) → n * (a * u) ≤ n * a * u
      regroup n a u = omega arith

  pub sizes : (i : ℕ) → i < n → (unit ≤ r i + (e + n * a)) × (r i ≤ unit + (e + n * a))
  sizes i l = elim (le-or-lt (2 * i) n) [
    | inl b ↦ bounded unit e (n * a) (r i) (value_of (r i)) _ (pow_pos 61) (h.re i b) (plain_length cosine cosine-length i) (value (r i))
    | inr b ↦ subst (λ (j : ℕ). (unit ≤ r j + (e + n * a)) × (r j ≤ unit + (e + n * a))) (back l)
        (bounded unit e (n * a) (r (n - (n - i))) (value_of (r (n - (n - i)))) (opposite' (plain (λ i. value_of (y i)) sine off st (n - i) n)) (pow_pos 61) (turned unit _ (h.im (n - i) (above l) (below b l))) (plain_length' (n - i)) (value (r (n - (n - i)))))
  ]
    where
      opposite' : Difference → Difference
      opposite' d = record { plus = d.minus; minus = d.plus }

      back : i < n → n - (n - i) ≡ i
      back l = omega arith

      above : i < n → 1 ≤ n - i
      above l = omega arith

      below : n < 2 * i → i < n → 2 * (n - i) < n
      below b l = omega arith

      turned : {k : ℕ} (u : ℕ) (d : Difference) {D : Difference} → Close k (times (whole u) (opposite d)) D → Close k (times (whole u) d) (opposite' D)
      turned u d g = record { most = omega (arith, g.least); least = omega (arith, g.most) }

      plain_length' : (k : ℕ) → length (opposite' (plain (λ i. value_of (y i)) sine off st k n)) ≤ n * a * unit
      plain_length' k = le_trans (swap (plain (λ i. value_of (y i)) sine off st k n)) (plain_length sine sine-length k)
        where
          swap : (d : Difference) → length (opposite' d) ≤ length d
          swap d = omega arith
