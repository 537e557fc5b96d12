-- From the parts of a bin to its size, and from sizes to the envelope of a band: each against the exact one. Assumes nothing.
use mathlib.Core.Path.{◌≡◌, ap, ◌∙◌}
use Prim.Native.Nat.{ℕ, ◌+◌, ◌-◌, ◌*◌, ◌^◌, ◌≤◌, ◌<◌}
use native.Mathlib.Nat.{le_trans, le_of_eq, mul-le-mul_left, mul-le-mul_right, le_of_mul-le-mul_left}
use native.Mathlib.Omega.{arith}
use lib.Pow.{pow_pos}
use Rattle.spectrum.specs.Transform.{sum_of, square}
use Rattle.path.specs.Steps.{Modulus}
use Rattle.path.proofs.Squares.{squared, unsquared, lengthened}
use Rattle.path.proofs.Adding.{sum_by}

-- ---- a bin, over any units: the parts re and im, G of them to a unit, are within e of X and Y, B of them to a unit
module _ (a B G e re im X Y : ℕ) where
  pub at_most : (T l : ℕ) → a * a * (square re + square im) ≤ square T → B * X ≤ G * re + e * G → B * Y ≤ G * im + e * G → square l ≤ square X + square Y → a * B * l ≤ G * (T + 2 * (e * a))
  at_most T l root hx hy hl =
      unsquared _ _
      (le_trans (le_of_eq (outward a B l))
      (le_trans (mul-le-mul_left (a * a) (le_trans (mul-le-mul_left (B * B) hl) (le_trans (le_of_eq (spread B X Y)) (sums (squared hx) (squared hy)))))
      (le_trans (le_of_eq (gathered re im)) (le_trans (mul-le-mul_left (square G) (lengthened (a * re) (a * im) T (e * a) (le_trans (le_of_eq (inward re im)) root))) (le_of_eq (joined (T + 2 * (e * a))))))))
    where
      outward : (a B l : ℕ) → square (a * B * l) ≡ a * a * (B * B * square l)
      outward a B l = omega arith

      spread : (B x y : ℕ) → B * B * (square x + square y) ≡ square (B * x) + square (B * y)
      spread B x y = omega arith

      sums : {x y p q : ℕ} → x ≤ p → y ≤ q → x + y ≤ p + q
      sums h g = omega arith

      gathered : (x y : ℕ) → a * a * (square (G * x + e * G) + square (G * y + e * G)) ≡ square G * (square (a * x + e * a) + square (a * y + e * a))
      gathered x y = omega arith

      inward : (x y : ℕ) → square (a * x) + square (a * y) ≡ a * a * (square x + square y)
      inward x y = omega arith

      joined : (t : ℕ) → square G * square t ≡ square (G * t)
      joined t = omega arith

  pub at_least : (g h : ℕ) → square g ≤ square a * (square re + square im) → G * re ≤ B * X + e * G → G * im ≤ B * Y + e * G → square X + square Y ≤ square h → g * G ≤ a * (B * h + 2 * (e * G))
  at_least g h root hx hy hh =
      unsquared _ _
      (le_trans (le_of_eq (outward g))
      (le_trans (mul-le-mul_right (square G) root)
      (le_trans (le_of_eq (spread re im))
      (le_trans (mul-le-mul_left (square a) (le_trans (sums (squared hx) (squared hy)) (lengthened (B * X) (B * Y) (B * h) (e * G) (le_trans (le_of_eq (inward X Y)) (le_trans (mul-le-mul_left (B * B) hh) (le_of_eq (side h))))))) (le_of_eq (joined (B * h + 2 * (e * G))))))))
    where
      outward : (g : ℕ) → square (g * G) ≡ square g * square G
      outward g = omega arith

      spread : (x y : ℕ) → square a * (square x + square y) * square G ≡ square a * (square (G * x) + square (G * y))
      spread x y = omega arith

      sums : {x y p q : ℕ} → x ≤ p → y ≤ q → x + y ≤ p + q
      sums h g = omega arith

      inward : (x y : ℕ) → square (B * x) + square (B * y) ≡ B * B * (square x + square y)
      inward x y = omega arith

      side : (h : ℕ) → B * B * square h ≡ square (B * h)
      side h = omega arith

      joined : (t : ℕ) → square a * square t ≡ square (a * t)
      joined t = omega arith

-- ---- in the program's units: G is 2 ^ 74 v, and 2 ^ 56 v are full scale of a sum
module _ (re im g X Y v : ℕ) (m : Modulus re im g) where
  abbrev G : ℕ
  G = 2 ^ 74 * v

  pub bin_low : (l : ℕ) → 2 ^ 53 * X ≤ G * re + 594 * G → 2 ^ 53 * Y ≤ G * im + 594 * G → square l ≤ square X + square Y → 8 * l ≤ v * ((2 ^ 24 + 2) * 8) * g + v * ((2 ^ 24 + 2) * 8 + 1188 * 2 ^ 24)
  bin_low l hx hy hl = le_of_mul-le-mul_left (le_trans (le_of_eq (eights l)) (le_trans (at_most (2 ^ 24) (2 ^ 53) G 594 re im X Y ((2 ^ 24 + 2) * (8 * g + 8)) l m.low hx hy hl) (le_of_eq (regroup g)))) (pow_pos 74)
    where
      eights : (l : ℕ) → 2 ^ 74 * (8 * l) ≡ 2 ^ 24 * 2 ^ 53 * l
      eights l = omega arith

      regroup : (g : ℕ) → 2 ^ 74 * v * ((2 ^ 24 + 2) * (8 * g + 8) + 2 * (594 * 2 ^ 24)) ≡ 2 ^ 74 * (v * ((2 ^ 24 + 2) * 8) * g + v * ((2 ^ 24 + 2) * 8 + 1188 * 2 ^ 24))
      regroup g = omega arith

  pub bin_high : (h : ℕ) → G * re ≤ 2 ^ 53 * X + 594 * G → G * im ≤ 2 ^ 53 * Y + 594 * G → square X + square Y ≤ square h → 2 ^ 48 * v * g ≤ (2 ^ 24 + 2) * h + (2 ^ 24 + 2) * (1188 * (2 ^ 21 * v))
  bin_high h hx hy hh = le_of_mul-le-mul_left (le_trans (le_of_eq (regroup g)) (le_trans (at_least (2 ^ 24 + 2) (2 ^ 53) G 594 re im X Y (2 ^ 27 * g) h m.high hx hy hh) (le_of_eq (spread h)))) (pow_pos 53)
    where
      regroup : (g : ℕ) → 2 ^ 53 * (2 ^ 48 * v * g) ≡ 2 ^ 27 * g * (2 ^ 74 * v)
      regroup g = omega arith

      spread : (h : ℕ) → (2 ^ 24 + 2) * (2 ^ 53 * h + 2 * (594 * (2 ^ 74 * v))) ≡ 2 ^ 53 * ((2 ^ 24 + 2) * h + (2 ^ 24 + 2) * (1188 * (2 ^ 21 * v)))
      spread h = omega arith

-- ---- the steps of the last sums, in small numbers
sizes_part : (w a y : ℕ) → (2 ^ 24 - 1) * w ≤ a → a ≤ y → 2 ^ 24 * ((2 ^ 24 + 2) * w) ≤ (2 ^ 24 + 4) * y
sizes_part w a y h l = omega arith

bins_part : (k v y : ℕ) → k ≤ 65 * v → 2 ^ 56 * v ≤ y → 2 ^ 24 * (((2 ^ 24 + 2) * 8 + 1188 * 2 ^ 24) * k) ≤ 304 * y
bins_part k v y h l = omega arith

most : (H k v y : ℕ) → k ≤ 65 * v → 2 ^ 56 * v ≤ y → H ≤ y → 2 ^ 27 * (H + 1188 * 2 ^ 21 * k) ≤ (2 ^ 27 + 302) * y
most H k v y h l o = omega arith

rounded : (w a y : ℕ) → a ≤ (2 ^ 24 + 1) * w → 2 ^ 51 * w ≤ (2 ^ 27 + 319) * y → 2 ^ 27 * (2 ^ 24 * a) ≤ 2 ^ 27 * ((2 ^ 24 + 42) * y)
rounded w a y h l = le_trans (mul-le-mul_left (2 ^ 27) (mul-le-mul_left (2 ^ 24) h)) (le_trans (le_of_eq (regroup w)) (le_trans (mul-le-mul_left (2 ^ 24 + 1) l) (last y)))
  where
    regroup : (w : ℕ) → 2 ^ 27 * (2 ^ 24 * ((2 ^ 24 + 1) * w)) ≡ (2 ^ 24 + 1) * (2 ^ 51 * w)
    regroup w = omega arith

    last : (y : ℕ) → (2 ^ 24 + 1) * ((2 ^ 27 + 319) * y) ≤ 2 ^ 27 * ((2 ^ 24 + 42) * y)
    last y = omega arith

-- ---- a band of at most 65 bins
module _ (v n : ℕ) (few : n ≤ 65) (gs : ℕ → ℕ) where
  abbrev S : ℕ
  S = sum_of gs n

  bins : n * v ≤ 65 * v
  bins = mul-le-mul_right v few

  -- a sum L of numbers below the sizes, against the float's a and the channel's b
  pub band_low : (ls : ℕ → ℕ) → ((i : ℕ) → i < n → 8 * ls i ≤ v * ((2 ^ 24 + 2) * 8) * gs i + v * ((2 ^ 24 + 2) * 8 + 1188 * 2 ^ 24)) → (a b : ℕ) → S * (v * (2 ^ 24 - 1)) ≤ a → 2 ^ 56 * v ≤ b → (y : ℕ) → a ≤ y → b ≤ y
      → 2 ^ 24 * sum_of ls n ≤ (2 ^ 24 + 42) * y
  band_low ls each a b la lb y ly lz = final (S * v) (sum_of ls n) (n * v) (le_trans (sum_by ls gs 8 (v * ((2 ^ 24 + 2) * 8)) (v * ((2 ^ 24 + 2) * 8 + 1188 * 2 ^ 24)) n each) (le_of_eq (regroup S n))) (le_trans (le_of_eq (scaled S)) la) bins
    where
      regroup : (s n : ℕ) → v * ((2 ^ 24 + 2) * 8) * s + n * (v * ((2 ^ 24 + 2) * 8 + 1188 * 2 ^ 24)) ≡ (2 ^ 24 + 2) * 8 * (s * v) + ((2 ^ 24 + 2) * 8 + 1188 * 2 ^ 24) * (n * v)
      regroup s n = omega arith

      scaled : (s : ℕ) → (2 ^ 24 - 1) * (s * v) ≡ s * (v * (2 ^ 24 - 1))
      scaled s = omega arith

      final : (w L k : ℕ) → 8 * L ≤ (2 ^ 24 + 2) * 8 * w + ((2 ^ 24 + 2) * 8 + 1188 * 2 ^ 24) * k → (2 ^ 24 - 1) * w ≤ a → k ≤ 65 * v → 2 ^ 24 * L ≤ (2 ^ 24 + 42) * y
      final w L k p q r = eighth (together (sizes_part w a y q ly) (bins_part k v y r (le_trans lb lz)) p)
        where
          eighth : {x y : ℕ} → 8 * x ≤ 8 * y → x ≤ y
          eighth h = omega arith

          together : 2 ^ 24 * ((2 ^ 24 + 2) * w) ≤ (2 ^ 24 + 4) * y → 2 ^ 24 * (((2 ^ 24 + 2) * 8 + 1188 * 2 ^ 24) * k) ≤ 304 * y → 8 * L ≤ (2 ^ 24 + 2) * 8 * w + ((2 ^ 24 + 2) * 8 + 1188 * 2 ^ 24) * k → 8 * (2 ^ 24 * L) ≤ 8 * ((2 ^ 24 + 42) * y)
          together e f g = omega arith

  -- a sum H of numbers above the sizes
  pub band_high : (hs : ℕ → ℕ) → ((i : ℕ) → i < n → 2 ^ 48 * v * gs i ≤ (2 ^ 24 + 2) * hs i + (2 ^ 24 + 2) * (1188 * (2 ^ 21 * v))) → (a b : ℕ) → a ≤ S * (v * (2 ^ 24 + 1)) → 2 ^ 56 * v ≤ b → (y : ℕ) → sum_of hs n ≤ y → b ≤ y
      → 2 ^ 24 * a ≤ (2 ^ 24 + 42) * y
  band_high hs each a b la lb y lh lz = final (S * v) (sum_of hs n) (n * v) (le_trans (le_of_eq (regroup S)) (le_trans (sum_by gs hs (2 ^ 48 * v) (2 ^ 24 + 2) ((2 ^ 24 + 2) * (1188 * (2 ^ 21 * v))) n each) (le_of_eq (side n (sum_of hs n))))) (le_trans la (le_of_eq (scaled S))) bins lh
    where
      regroup : (s : ℕ) → 2 ^ 48 * (s * v) ≡ 2 ^ 48 * v * s
      regroup s = omega arith

      side : (n h : ℕ) → (2 ^ 24 + 2) * h + n * ((2 ^ 24 + 2) * (1188 * (2 ^ 21 * v))) ≡ (2 ^ 24 + 2) * h + (2 ^ 24 + 2) * (1188 * 2 ^ 21) * (n * v)
      side n h = omega arith

      scaled : (s : ℕ) → s * (v * (2 ^ 24 + 1)) ≡ (2 ^ 24 + 1) * (s * v)
      scaled s = omega arith

      final : (w H k : ℕ) → 2 ^ 48 * w ≤ (2 ^ 24 + 2) * H + (2 ^ 24 + 2) * (1188 * 2 ^ 21) * k → a ≤ (2 ^ 24 + 1) * w → k ≤ 65 * v → H ≤ y → 2 ^ 24 * a ≤ (2 ^ 24 + 42) * y
      final w H k p q r o = cancelled (rounded w a y q (lengthy w (most H k v y r (le_trans lb lz) o) p))
        where
          lengthy : (w : ℕ) → 2 ^ 27 * (H + 1188 * 2 ^ 21 * k) ≤ (2 ^ 27 + 302) * y → 2 ^ 48 * w ≤ (2 ^ 24 + 2) * H + (2 ^ 24 + 2) * (1188 * 2 ^ 21) * k → 2 ^ 51 * w ≤ (2 ^ 27 + 319) * y
          lengthy w e f = factor (le_trans (mul-le-mul_left (2 ^ 27) f) (le_trans (le_of_eq (regroup' H k)) (mul-le-mul_left (2 ^ 24 + 2) e)))
            where
              regroup' : (H k : ℕ) → 2 ^ 27 * ((2 ^ 24 + 2) * H + (2 ^ 24 + 2) * (1188 * 2 ^ 21) * k) ≡ (2 ^ 24 + 2) * (2 ^ 27 * (H + 1188 * 2 ^ 21 * k))
              regroup' H k = omega arith

              factor : 2 ^ 27 * (2 ^ 48 * w) ≤ (2 ^ 24 + 2) * ((2 ^ 27 + 302) * y) → 2 ^ 51 * w ≤ (2 ^ 27 + 319) * y
              factor h = le_of_mul-le-mul_left (le_trans (le_of_eq (twenties w)) (le_trans h (more y))) (pow_pos 24)
                where
                  twenties : (w : ℕ) → 2 ^ 24 * (2 ^ 51 * w) ≡ 2 ^ 27 * (2 ^ 48 * w)
                  twenties w = omega arith

                  more : (y : ℕ) → (2 ^ 24 + 2) * ((2 ^ 27 + 302) * y) ≤ 2 ^ 24 * ((2 ^ 27 + 319) * y)
                  more y = omega arith

          cancelled : 2 ^ 27 * (2 ^ 24 * a) ≤ 2 ^ 27 * ((2 ^ 24 + 42) * y) → 2 ^ 24 * a ≤ (2 ^ 24 + 42) * y
          cancelled h = le_of_mul-le-mul_left h (pow_pos 27)

  -- of nothing it is below every channel
  pub band_silent : (hs : ℕ → ℕ) → ((i : ℕ) → i < n → 2 ^ 48 * v * gs i ≤ (2 ^ 24 + 2) * hs i + (2 ^ 24 + 2) * (1188 * (2 ^ 21 * v))) → (a b : ℕ) → a ≤ S * (v * (2 ^ 24 + 1)) → 2 ^ 56 * v ≤ b → sum_of hs n ≡ 0 → a ≤ b
  band_silent hs each a b la lb z = final (S * v) (n * v) (le_trans (le_of_eq (regroup S)) (le_trans (sum_by gs hs (2 ^ 48 * v) (2 ^ 24 + 2) ((2 ^ 24 + 2) * (1188 * (2 ^ 21 * v))) n each) (le_of_eq (ap (λ (h : ℕ). (2 ^ 24 + 2) * h + n * ((2 ^ 24 + 2) * (1188 * (2 ^ 21 * v)))) z ∙ side n)))) (le_trans la (le_of_eq (scaled S))) bins
    where
      regroup : (s : ℕ) → 2 ^ 48 * (s * v) ≡ 2 ^ 48 * v * s
      regroup s = omega arith

      side : (n : ℕ) → (2 ^ 24 + 2) * 0 + n * ((2 ^ 24 + 2) * (1188 * (2 ^ 21 * v))) ≡ (2 ^ 24 + 2) * (1188 * 2 ^ 21) * (n * v)
      side n = omega arith

      scaled : (s : ℕ) → s * (v * (2 ^ 24 + 1)) ≡ (2 ^ 24 + 1) * (s * v)
      scaled s = omega arith

      final : (w k : ℕ) → 2 ^ 48 * w ≤ (2 ^ 24 + 2) * (1188 * 2 ^ 21) * k → a ≤ (2 ^ 24 + 1) * w → k ≤ 65 * v → a ≤ b
      final w k p q r = last (rest w (le_trans p (mul-le-mul_left ((2 ^ 24 + 2) * (1188 * 2 ^ 21)) r)))
        where
          rest : (w : ℕ) → 2 ^ 48 * w ≤ (2 ^ 24 + 2) * (1188 * 2 ^ 21) * (65 * v) → w ≤ 2 ^ 15 * v
          rest w h = le_of_mul-le-mul_left (le_trans h (wide v)) (pow_pos 48)
            where
              wide : (v : ℕ) → (2 ^ 24 + 2) * (1188 * 2 ^ 21) * (65 * v) ≤ 2 ^ 48 * (2 ^ 15 * v)
              wide v = omega arith

          last : w ≤ 2 ^ 15 * v → a ≤ b
          last h = le_trans q (le_trans (mul-le-mul_left (2 ^ 24 + 1) h) (le_trans (small v) lb))
            where
              small : (v : ℕ) → (2 ^ 24 + 1) * (2 ^ 15 * v) ≤ 2 ^ 56 * v
              small v = omega arith
