-- The last rounding, and the sign: from what is computed at a phase to the float, which is within 2 ^ -25 of it. Assumes nothing.
use Rattle.std.proofs.Common.{◌≡◌, ℕ, ◌+◌, ◌*◌, ◌%◌, ◌^◌, ◌<◌, ◌≤◌, Bool, true, false, cond, ◌⊎◌, sym, refl, ap, ◌∙◌, inl, inr, add-zero, zero-add, arith, lit<, lit≤, le-ltb, lt-ltb}
use lib.Ieee.{Float}
use Rattle.units.specs.Units.{P, N}
use Rattle.units.proofs.Naturals.{le-or-lt}
use Rattle.exact.specs.Series.{LimitNear}
use Rattle.exact.specs.Circle.{Sine, Cosine, signed, bound}
use Rattle.exact.proofs.Approximation.{near_finer, near_instead}
use Rattle.exact.proofs.Limits.{near_wider, Both, cosine_of_lem, sine_plus, sine_minus}
use Rattle.fixed.proofs.Rounding.{units_of, zero_units}
use Rattle.circle.specs.Wave.{size_of, wave_bits, wave}
use Rattle.circle.proofs.Method.{D}
use Rattle.circle.proofs.Pattern.{plus_of, minus_of, Computed, wave-signed, size_top, units_most, units_least}
use Rattle.circle.proofs.Turn.{opposite}

-- units of 2 ^ -149 in one of 2 ^ -32
abbrev H : ℕ
H = 2 ^ 117

module _ (t : ℕ) (few : t < 2 ^ 64) where
  -- one of the two is zero
  one_side : ((plus_of t ≡ size_of t) × (minus_of t ≡ 0)) ⊎ ((plus_of t ≡ 0) × (minus_of t ≡ size_of t))
  unfolding plus_of minus_of
  one_side = elim (le-or-lt (2 ^ 63) t) [ inl h ↦ inr (rw (le-ltb t (2 ^ 63) h) (refl, refl)) | inr h ↦ inl (rw (lt-ltb t (2 ^ 63) h) (refl, refl)) ]

  abbrev r : Float
  r = wave t

  -- the float is within half a step of it
  rounded : (P r * 1 + minus_of t * H ≤ plus_of t * H + N r * 1 + 2 ^ 124 * 1) × (plus_of t * H + N r * 1 ≤ P r * 1 + minus_of t * H + 2 ^ 124 * 1)
  rounded = go one_side
    where
      s : Computed t (wave_bits t) r
      s = wave-signed t few

      n : ℕ
      n = size_of t

      above : (p m a b u W : ℕ) → p ≡ u → m ≡ 0 → a ≡ n → b ≡ 0 → u ≤ n * H + W → n * H ≤ u + W → (p * 1 + b * H ≤ a * H + m * 1 + W * 1) × (a * H + m * 1 ≤ p * 1 + b * H + W * 1)
      above p m a b u W e f g k l h = rw (e, f, g, k) (omega arith, omega arith)

      under : (p m a b u W : ℕ) → p ≡ 0 → m ≡ u → a ≡ 0 → b ≡ n → u ≤ n * H + W → n * H ≤ u + W → (p * 1 + b * H ≤ a * H + m * 1 + W * 1) × (a * H + m * 1 ≤ p * 1 + b * H + W * 1)
      under p m a b u W e f g k l h = rw (e, f, g, k) (omega arith, omega arith)

      units : {m k : ℕ} → m ≡ k → units_of m 157 ≡ units_of k 157
      units e = ap (λ (m : ℕ). units_of m 157) e

      go : ((plus_of t ≡ size_of t) × (minus_of t ≡ 0)) ⊎ ((plus_of t ≡ 0) × (minus_of t ≡ size_of t)) → (P r * 1 + minus_of t * H ≤ plus_of t * H + N r * 1 + 2 ^ 124 * 1) × (plus_of t * H + N r * 1 ≤ P r * 1 + minus_of t * H + 2 ^ 124 * 1)
      go (inl (a, b)) =
          above (P r) (N r) (plus_of t) (minus_of t) (units_of n 157) (2 ^ 124) (s.plus ∙ units a) (s.minus ∙ units b ∙ zero_units 0 157 refl) a b (units_most n (size_top t)) (units_least n (size_top t))
      go (inr (a, b)) =
          under (P r) (N r) (plus_of t) (minus_of t) (units_of n 157) (2 ^ 124) (s.plus ∙ units a ∙ zero_units 0 157 refl) (s.minus ∙ units b) a b (units_most n (size_top t)) (units_least n (size_top t))

  -- so a limit that is within 7 units of what is computed is within 135 of the float
  near_float : {F G O : ℕ → ℕ} → LimitNear F G O (plus_of t) (minus_of t) D 7 D → LimitNear F G O (P r) (N r) (2 ^ 149) 135 D
  near_float h = near_wider (lit< tt) (lit≤ tt) (near_instead (P r) (N r) (2 ^ 124) (lit< tt) rounded.0 rounded.1 (near_finer H h))

-- of cosine and sine
pub both_float : {p q : ℕ} (on here : ℕ) → on < 2 ^ 64 → here < 2 ^ 64 → Both p q (plus_of on) (minus_of on) (plus_of here) (minus_of here) D 7 D →
    Both p q (P (wave on)) (N (wave on)) (P (wave here)) (N (wave here)) (2 ^ 149) 135 D
both_float on here few few' h = record { cosine = near_float on few h.cosine; sine = near_float here few' h.sine }

-- half a turn on, the float is the opposite one
module _ (t : ℕ) (few : t < 2 ^ 64) where
  abbrev across : ℕ
  across = (t + 2 ^ 63) % 2 ^ 64

  turned_float : (P (wave across) ≡ N (wave t)) × (N (wave across) ≡ P (wave t))
  turned_float =
      let (e, f) = opposite t few in
      let a = wave-signed across (omega arith) in
      let b = wave-signed t few in
      (a.plus ∙ ap (λ (n : ℕ). units_of n 157) e ∙ sym b.minus, a.minus ∙ ap (λ (n : ℕ). units_of n 157) f ∙ sym b.plus)

-- ---- of an angle of either sign, whose size is p / q

-- the sine: the float at its phase, or half a turn on
pub sine_joined : {p q C C' U a b : ℕ} (s : Bool) (t : ℕ) → t < 2 ^ 64 → Both p q C C' (P (wave t)) (N (wave t)) U a b → (r : Float) →
    r ≡ wave ((t + cond s 1 0 * 2 ^ 63) % 2 ^ 64) → Sine (signed (cond s 0 p) (cond s p 0) q) (signed (P r) (N r) U) (bound a b)
sine_joined true t few h r e = let (i, j) = turned_float t few in rw (e, i, j) (sine_minus h)
sine_joined false t few h r e = let same : (t + 0) % 2 ^ 64 ≡ t = omega arith in rw (e, same) (sine_plus h)

-- the cosine, whatever the sign
pub cosine_joined : {p q S S' U a b : ℕ} (s : Bool) (t : ℕ) → Both p q (P (wave t)) (N (wave t)) S S' U a b → (r : Float) → r ≡ wave t →
    Cosine (signed (cond s 0 p) (cond s p 0) q) (signed (P r) (N r) U) (bound a b)
cosine_joined {p} true t h r e = rw e (cosine_of_lem (rw (← zero-add p) at h))
cosine_joined {p} false t h r e = rw e (cosine_of_lem (rw (← add-zero p) at h))
