-- The current of one band against the exact path's. Assumes nothing.
use mathlib.Core.Path.{◌≡◌, refl, sym, ap, ◌∙◌, subst}
use mathlib.Core.Logic.{inl, inr}
use mathlib.Core.List.{List}
use Prim.Native.Nat.{ℕ, suc, ◌+◌, ◌-◌, ◌*◌, ◌^◌, ◌≤◌, ◌<◌}
use native.Mathlib.Nat.{le_trans, le_of_eq, lt_of_lt_of_le, mul-le-mul_left, mul-le-mul_right, mul-pos, mul_assoc, pow-le-pow_left, pow-zero, le_of_mul-le-mul_right}
use native.Mathlib.Omega.{arith}
use lib.Dec.{lit≤, lit<}
use lib.Pow.{pow_pos}
use lib.ListN.{length, get_or}
use lib.Ieee.{Float}
use Rattle.units.specs.Units.{P}
use Rattle.units.proofs.Naturals.{le-or-lt}
use Rattle.spectrum.specs.Difference.{Difference, size}
use Rattle.spectrum.specs.Words.{FilledWith}
use Rattle.spectrum.specs.Transform.{at, turned_total, Turns, square}
use Rattle.loudness.specs.Map.{Channel, RatioAtMost, RatioAtLeast, map_error_num}
use Rattle.loudness.specs.Value.{step_of}
use Rattle.path.specs.Path.{product, power, band_sum, in_sums, between, NearPath, path_error_num, path_error_den}
use Rattle.path.specs.Steps.{Products, real_size, imaginary_size, Moduli, envelope_of, sum_from}
use Rattle.path.specs.Ready.{Small}
use Rattle.path.proofs.Frames.{Beside, real_beside, imaginary_beside}
use Rattle.path.proofs.Bandwise.{bin_low, bin_high, band_low, band_high, band_silent}
use Rattle.path.proofs.Adding.{zeros}
use Rattle.path.proofs.Envelopes.{envelope, full, most, least}
use Rattle.path.proofs.Ratios.{above, between_most, between_least, between-above, between_either, rising, law, Starred, starred, scaled_most, scaled_least, most_wider, least_wider, Allows, allows}

renamed : {g g' k k' z : ℕ} {X : Difference} → g ≡ g' → k ≡ k' → Beside g k z X → Beside g' k' z X
renamed {g' = g'} {k = k} {z = z} {X = X} e f h = subst (λ (i : ℕ). Beside g' i z X) f (subst (λ (i : ℕ). Beside i k z X) e h)

module _ (xs ws : List Float) (small : (i : ℕ) → i < 128 → Small (at xs i) × Small (at ws i)) (ys : List ℕ) (products : Products xs ws ys) (r : List ℕ) (count : length r ≡ 128) (fills : FilledWith ys 0 1 r) (gs : List ℕ) (moduli : Moduli r gs)
    (c s : ℕ → Difference) (u : ℕ) (turns : Turns c s u) (low high : ℕ) (order : low ≤ high) (bins : high ≤ 64) where
  -- a level's unit, and the unit of words of a sum
  abbrev f : ℕ
  f = 64 * u * 2 ^ 149

  abbrev v : ℕ
  v = 2 ^ 69 * f

  abbrev n : ℕ
  n = suc high - low

  few : n ≤ 65
  few = omega arith

  bin : (j : ℕ) → j < n → low + j ≤ high
  bin j l = omega arith

  unit_is : 2 ^ 298 * u ≡ 2 ^ 74 * v
  unit_is = regroup (2 ^ 298) (2 ^ 74) (2 ^ 69) 64 (2 ^ 149) refl
    where
      regroup : (e p q k w : ℕ) → e ≡ p * q * k * w → e * u ≡ p * (q * (k * u * w))
      regroup e p q k w h = rw h (omega arith)

  lost_is : 590 * (2 ^ 298 * u) + 4 * (2 ^ 298 * u) ≡ 594 * (2 ^ 74 * v)
  lost_is = ap (λ (g : ℕ). 590 * g + 4 * g) unit_is ∙ both (2 ^ 74 * v)
    where
      both : (g : ℕ) → 590 * g + 4 * g ≡ 594 * g
      both g = omega arith

  abbrev X : ℕ → ℕ
  X k = size (turned_total (product xs ws) c k)

  abbrev Y : ℕ → ℕ
  Y k = size (turned_total (product xs ws) s k)

  real : (k : ℕ) → k ≤ 64 → Beside (2 ^ 74 * v) (594 * (2 ^ 74 * v)) (real_size r k) (turned_total (product xs ws) c k)
  real k l = renamed unit_is lost_is (real_beside xs ws small ys products r count fills c s u turns k l)

  imaginary : (k : ℕ) → k ≤ 64 → Beside (2 ^ 74 * v) (594 * (2 ^ 74 * v)) (imaginary_size r k) (turned_total (product xs ws) s k)
  imaginary k l = renamed unit_is lost_is (imaginary_beside xs ws small ys products r count fills c s u turns k l)

  -- ---- the bins of the band
  abbrev gj : ℕ → ℕ
  gj j = get_or gs (low + j) 0

  lower : (l : ℕ → ℕ) → ((k : ℕ) → low ≤ k → k ≤ high → square (l k) ≤ power xs ws c s k) → (j : ℕ) → j < n → 8 * l (low + j) ≤ v * ((2 ^ 24 + 2) * 8) * gj j + v * ((2 ^ 24 + 2) * 8 + 1188 * 2 ^ 24)
  lower l h j b =
      let k = low + j in
      let i = le_trans (bin j b) bins in
      bin_low (real_size r k) (imaginary_size r k) (gj j) (X k) (Y k) v (moduli.known k i) (l k) (real k i).least (imaginary k i).least (h k (more low j) (bin j b))
    where
      more : (a j : ℕ) → a ≤ a + j
      more a j = omega arith

  upper : (h : ℕ → ℕ) → ((k : ℕ) → low ≤ k → k ≤ high → power xs ws c s k ≤ square (h k)) → (j : ℕ) → j < n → 2 ^ 48 * v * gj j ≤ (2 ^ 24 + 2) * h (low + j) + (2 ^ 24 + 2) * (1188 * (2 ^ 21 * v))
  upper h g j b =
      let k = low + j in
      let i = le_trans (bin j b) bins in
      bin_high (real_size r k) (imaginary_size r k) (gj j) (X k) (Y k) v (moduli.known k i) (h k) (real k i).most (imaginary k i).most (g k (more low j) (bin j b))
    where
      more : (a j : ℕ) → a ≤ a + j
      more a j = omega arith

  -- ---- the channel and the envelope
  module _ (top : ℕ) (b m : Float) (t k : ℕ) (ch : Channel top b m t k) where
    abbrev S : ℕ
    S = sum_from (λ i. get_or gs i 0) low high

    abbrev a : Float
    a = envelope_of S

    abbrev p : ℕ
    p = between (P b) (P m) (P a)

    up : P b ≤ P m
    up = rising top b m t k ch a (envelope S)

    -- a level of the channel is at least 2 ^ 56 words
    floor : 2 ^ 56 * v ≤ in_sums u b
    floor = le_trans (le_of_eq (regroup (2 ^ 125) (2 ^ 56) (2 ^ 69) f refl)) (mul-le-mul_right f ch.levels.quietest)
      where
        regroup : (e p q f : ℕ) → e ≡ p * q → p * (q * f) ≡ e * f
        regroup e p q f h = rw h (omega arith)

    at_most : P a * f ≤ S * (v * (2 ^ 24 + 1))
    at_most = le_trans (mul-le-mul_right f bound) (le_of_eq (regroup S (2 ^ 69) (2 ^ 24 + 1) f))
      where
        regroup : (s q w f : ℕ) → s * (q * w) * f ≡ s * (q * f * w)
        regroup s q w f = omega arith

        bound : P a ≤ S * (2 ^ 69 * (2 ^ 24 + 1))
        bound = elim (le-or-lt 72057594037927936 S) [ inl l ↦ le_trans (le_of_eq (full S l)) (le_trans (lit≤ tt) (mul-le-mul_right (2 ^ 69 * (2 ^ 24 + 1)) l)) | inr l ↦ most S l ]

    at_least : P a < P m → S * (v * (2 ^ 24 - 1)) ≤ P a * f
    at_least less = le_trans (le_of_eq (sym (regroup S (2 ^ 69) (2 ^ 24 - 1) f))) (mul-le-mul_right f (elim (le-or-lt 72057594037927936 S) [ inl l ↦ absurd (wrong less (le_trans ch.levels.loudest (le_of_eq (sym (full S l))))) | inr l ↦ least S l ]))
      where
        regroup : (s q w f : ℕ) → s * (q * w) * f ≡ s * (q * f * w)
        regroup s q w f = omega arith

        wrong : {x y : ℕ} → x < y → y ≤ x → ⊥
        wrong l g = omega arith

    -- ---- the two numbers between b and m
    near_low : (l : ℕ → ℕ) → ((i : ℕ) → low ≤ i → i ≤ high → square (l i) ≤ power xs ws c s i) → 2 ^ 24 * between (in_sums u b) (in_sums u m) (band_sum l low high) ≤ (2 ^ 24 + 42) * (p * f)
    near_low l h = elim (le-or-lt (P m) (P a)) [
      | inl g ↦ le_trans (mul-le-mul_left (2 ^ 24) (between_most (in_sums u b) (in_sums u m) (mul-le-mul_right f up) (band_sum l low high))) (le_trans (more (in_sums u m)) (mul-le-mul_left (2 ^ 24 + 42) (mul-le-mul_right f (loudest g))))
      | inr g ↦
          let y = mul-le-mul_right f (between-above (P b) (P m) up (P a) g) in
          let z = mul-le-mul_right f (between_least (P b) (P m) up (P a)) in
          elim (between_either (in_sums u b) (in_sums u m) (mul-le-mul_right f up) (band_sum l low high)) [
            | inl e ↦ le_trans (mul-le-mul_left (2 ^ 24) (le_trans e z)) (more (p * f))
            | inr e ↦ le_trans (mul-le-mul_left (2 ^ 24) e) (band_low v n few gj (λ j. l (low + j)) (lower l h) (P a * f) (in_sums u b) (at_least g) floor (p * f) y z)
          ]
    ]
      where
        more : (x : ℕ) → 2 ^ 24 * x ≤ (2 ^ 24 + 42) * x
        more x = omega arith

        loudest : P m ≤ P a → P m ≤ p
        loudest g = elim (le-or-lt (P a) (P b)) [ inl l ↦ le_trans g (le_trans l (between_least (P b) (P m) up (P a))) | inr l ↦ le_of_eq (sym (above (P b) (P m) (P a) l g)) ]

    near_high : (h : ℕ → ℕ) → ((i : ℕ) → low ≤ i → i ≤ high → power xs ws c s i ≤ square (h i)) → 2 ^ 24 * (p * f) ≤ (2 ^ 24 + 42) * between (in_sums u b) (in_sums u m) (band_sum h low high)
    near_high h g = elim (le-or-lt (in_sums u m) (band_sum h low high)) [
      | inl l ↦ le_trans (mul-le-mul_left (2 ^ 24) (mul-le-mul_right f (between_most (P b) (P m) up (P a)))) (le_trans (more (in_sums u m)) (mul-le-mul_left (2 ^ 24 + 42) (loudest l)))
      | inr l ↦
          let y = between-above (in_sums u b) (in_sums u m) (mul-le-mul_right f up) (band_sum h low high) l in
          let z = between_least (in_sums u b) (in_sums u m) (mul-le-mul_right f up) (band_sum h low high) in
          elim (between_either (P b) (P m) up (P a)) [
            | inl e ↦ le_trans (mul-le-mul_left (2 ^ 24) (le_trans (mul-le-mul_right f e) z)) (more _)
            | inr e ↦ le_trans (mul-le-mul_left (2 ^ 24) (mul-le-mul_right f e)) (band_high v n few gj (λ j. h (low + j)) (upper h g) (P a * f) (in_sums u b) at_most floor _ y z)
          ]
    ]
      where
        more : (x : ℕ) → 2 ^ 24 * x ≤ (2 ^ 24 + 42) * x
        more x = omega arith

        loudest : in_sums u m ≤ band_sum h low high → in_sums u m ≤ between (in_sums u b) (in_sums u m) (band_sum h low high)
        loudest q = elim (le-or-lt (band_sum h low high) (in_sums u b)) [ inl w ↦ le_trans q (le_trans w (between_least (in_sums u b) (in_sums u m) (mul-le-mul_right f up) (band_sum h low high))) | inr w ↦ le_of_eq (sym (above (in_sums u b) (in_sums u m) (band_sum h low high) w q)) ]

    -- ---- the current
    pub near : NearPath (path_error_num top) path_error_den (power xs ws c s) low high (in_sums u b) (in_sums u m) t k (step_of b m t k a)
    near = record { not_below = under; not_above = over }
      where
        i : ℕ
        i = step_of b m t k a

        st : Starred top (P b) (P m) t k p (step_of b m t k a)
        st = starred top b m t k ch a (envelope S)

        al : Allows top (k - t)
        al = allows top (k - t) (steps ch.steps) ch.highest
          where
            steps : k ≤ top → k - t ≤ top
            steps l = omega arith

        octave : 2 * in_sums u b ≤ in_sums u m
        octave = le_trans (le_of_eq (sym (mul_assoc 2 (P b) f))) (mul-le-mul_right f ch.levels.octave)

        under : (l : ℕ → ℕ) → ((q : ℕ) → low ≤ q → q ≤ high → square (l q) ≤ power xs ws c s q) → RatioAtMost (between (in_sums u b) (in_sums u m) (band_sum l low high)) (in_sums u b) (in_sums u m) (1000000 * (k - t)) (1000000 * (step_of b m t k a - t) + path_error_num top)
        under l h =
            subst (λ (j : ℕ). RatioAtMost (between (in_sums u b) (in_sums u m) (band_sum l low high)) (in_sums u b) (in_sums u m) (1000000 * (k - t)) j) (sum (1000000 * (step_of b m t k a - t)) (map_error_num top) al.e (path_error_num top) al.sum)
            (most_wider (2 ^ 24 + 42) (2 ^ 24) (1000000 * (k - t)) al.e (in_sums u b) (in_sums u m) (pow_pos 24) al.grown octave _ (p * f) (1000000 * (step_of b m t k a - t) + map_error_num top) (near_low l h) (scaled_most p (P b) (P m) _ _ f st.most))
          where
            sum : (x n e s : ℕ) → n + e ≡ s → x + n + e ≡ x + s
            sum x n e s h = omega arith

        over : (h : ℕ → ℕ) → ((q : ℕ) → low ≤ q → q ≤ high → power xs ws c s q ≤ square (h q)) → RatioAtLeast (between (in_sums u b) (in_sums u m) (band_sum h low high)) (in_sums u b) (in_sums u m) (1000000 * (k - t)) (1000000 * (step_of b m t k a - t) - path_error_num top)
        over h g = elim (le-or-lt (1000000 * (step_of b m t k a - t)) (path_error_num top)) [
          | inl l ↦ subst (λ (j : ℕ). RatioAtLeast (between (in_sums u b) (in_sums u m) (band_sum h low high)) (in_sums u b) (in_sums u m) (1000000 * (k - t)) j) (sym (none l)) (nothing (in_sums u b) (in_sums u m) _ (1000000 * (k - t)) (between_least (in_sums u b) (in_sums u m) (mul-le-mul_right f up) (band_sum h low high)))
          | inr l ↦ least_wider (2 ^ 24 + 42) (2 ^ 24) (1000000 * (k - t)) al.e (in_sums u b) (in_sums u m) (pow_pos 24) al.grown octave _ (p * f) (1000000 * (step_of b m t k a - t) - path_error_num top) above_zero (near_high h g)
              (subst (λ (j : ℕ). RatioAtLeast (p * f) (in_sums u b) (in_sums u m) (1000000 * (k - t)) j) (split (1000000 * (step_of b m t k a - t)) (map_error_num top) al.e (path_error_num top) al.sum l) (scaled_least p (P b) (P m) _ _ f st.least))
        ]
          where
            none : {x y : ℕ} → x ≤ y → x - y ≡ 0
            none l = omega arith

            nothing : (b m a k : ℕ) → b ≤ a → RatioAtLeast a b m k 0
            nothing b m a k l = rw (pow-zero m, pow-zero b) (mul-le-mul_right 1 (pow-le-pow_left l k))

            split : (x n e s : ℕ) → n + e ≡ s → s < x → x - n ≡ x - s + e
            split x n e s h l = omega arith

            above_zero : 0 < in_sums u m
            above_zero = lt_of_lt_of_le (mul-pos (lt_of_lt_of_le (pow_pos 125) ch.levels.quietest) (mul-pos (mul-pos (lit< tt) turns.positive) (pow_pos 149))) (mul-le-mul_right f up)

    -- silence: nothing above zero in the band
    pub silent : ((i : ℕ) → low ≤ i → i ≤ high → power xs ws c s i ≤ 0) → step_of b m t k a ≡ t
    silent q = (law top b m t k ch a (envelope S)).quiet ch (envelope S) (le_of_mul-le-mul_right (band_silent v n few gj (λ j. 0) (upper (λ i. 0) (λ i x y. le_trans (q i x y) (le_of_eq refl))) (P a * f) (in_sums u b) at_most floor (zeros n)) (mul-pos (mul-pos (lit< tt) turns.positive) (pow_pos 149)))
