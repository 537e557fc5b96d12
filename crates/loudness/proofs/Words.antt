-- The words of two rises, and their quotient times the number of steps, to the nearest whole number: what is cut off of the rises is little, and a larger rise
-- gives no smaller step. Assumes nothing.
use Rattle.std.proofs.Common.{◌≡◌, ℕ, suc, ◌+◌, ◌*◌, ◌/◌, ◌^◌, ◌<◌, ◌≤◌, sym, ap, ◌∙◌, le_trans, le_of_eq, le_refl, lt_of_le_of_lt, add-le-add, mul-le-mul_right, div-lt_iff_lt-mul, mul-le-mul_left, div-mul-le_self, le_of_mul-le-mul_right, arith, lit<, pow_pos, pow-add}
use native.Mathlib.Nat.{lt-div-mul-add}
use lib.Count.{leading_top}
use lib.Ieee.Nearest.{div_mono}
use Rattle.units.proofs.Naturals.{pow_back_lt}
use Rattle.loudness.specs.Value.{places_of, word_of, nearest_step, steps_of}
use Rattle.loudness.proofs.Steps.{Rounded}

-- ---- over plain numbers: n and h are the words of N and D, which are shifted up by S
module _ (k N D S n h : ℕ) (ps : 0 < S) (nd : n ≤ h) (full : 2147483648 ≤ h) (n-low : n * 4294967296 ≤ N * S) (n-high : N * S ≤ (n + 1) * 4294967296)
    (h-low : h * 4294967296 ≤ D * S) (h-high : D * S ≤ (h + 1) * 4294967296) where
  abbrev i : ℕ
  i = (k * n + h / 2) / h

  i_floor : 2 * (i * h) ≤ 2 * (k * n) + h
  i_floor = let a = div-mul-le_self (k * n + h / 2) h in omega arith

  i_ceiling : 2 * (k * n) ≤ 2 * (i * h) + h
  i_ceiling = let a = lt-div-mul-add {a = k * n + h / 2} {b = h} (omega arith) in omega arith

  i_most : i ≤ k
  i_most = below ((div-lt_iff_lt-mul {k = h} (omega arith)).1 (next (k * n) (mul-le-mul_left k nd)))
    where
      next : (p : ℕ) → p ≤ k * h → p + h / 2 < suc k * h
      next p l = omega arith

      below : i < suc k → i ≤ k
      below l = omega arith

  -- a part of the words' unit, against the rise D
  part : 9223372036854775808 * k ≤ k * (D * S)
  part = le_trans (le_of_eq (turned k)) (mul-le-mul_left k (lower h full h-low))
    where
      turned : (k : ℕ) → 9223372036854775808 * k ≡ k * 9223372036854775808
      turned k = omega arith

      lower : (h : ℕ) → 2147483648 ≤ h → h * 4294967296 ≤ D * S → 9223372036854775808 ≤ D * S
      lower h f l = omega arith

  pub rounded : Rounded k N D 1073741824 i
  rounded = record {
    parts = lit< tt;
    floor = le_of_mul-le-mul_right {k = S} (down i i_floor i_most (mul-le-mul_left (2 * i) h-high) (mul-le-mul_left (2 * k) n-low)) ps;
    ceiling = le_of_mul-le-mul_right {k = S} (up i i_ceiling (mul-le-mul_left (2 * k) n-high) (mul-le-mul_left (2 * i) h-low)) ps;
    most = i_most;
  }
    where
      down : (i : ℕ) → 2 * (i * h) ≤ 2 * (k * n) + h → i ≤ k → 2 * i * (D * S) ≤ 2 * i * ((h + 1) * 4294967296) → 2 * k * (n * 4294967296) ≤ 2 * k * (N * S)
          → 2 * D * i * 1073741824 * S ≤ (2 * N * k * 1073741824 + D * 1073741824 + k * D) * S
      down i a b c e = let f = part in omega arith

      up : (i : ℕ) → 2 * (k * n) ≤ 2 * (i * h) + h → 2 * k * (N * S) ≤ 2 * k * ((n + 1) * 4294967296) → 2 * i * (h * 4294967296) ≤ 2 * i * (D * S)
          → 2 * N * k * 1073741824 * S ≤ (2 * D * i * 1073741824 + D * 1073741824 + k * D) * S
      up i a b c = let f = part in omega arith

-- ---- the places that a rise of an octave or more is shifted by
pub floors : {a b c : ℕ} → a ≤ b → 0 < c → a / c ≤ b / c
floors {a} {b} {c} h p = div_mono a c b c p p (mul-le-mul_right c h)

module _ (d : ℕ) (long : 2 ^ 53 ≤ d) (few : d < 2 ^ 59) where
  abbrev s : ℕ
  s = places_of d

  abbrev h : ℕ
  h = word_of s d

  pub places : (5 ≤ s) × (s ≤ 10) × (2 ^ 63 ≤ d * 2 ^ s) × (d * 2 ^ s < 2 ^ 64)
  unfolding places_of
  places =
      let (j, e, l, u) = leading_top 32 (d / 4294967296) (omega arith) (omega arith) in
      let j-low : 21 < suc j = pow_back_lt 21 (suc j) (lt_of_le_of_lt (least d long) u) in
      let j-high : j < 27 = pow_back_lt j 27 (lt_of_le_of_lt l (most d few)) in
      let e''' : j + s ≡ 31 = omega arith in
      let e'' : suc j + s ≡ 32 = omega arith in
      let low : 2 ^ 31 ≤ d / 4294967296 * 2 ^ s = le_trans (le_of_eq (ap (λ (i : ℕ). 2 ^ i) (sym e''') ∙ pow-add 2 j s)) (mul-le-mul_right (2 ^ s) l) in
      let high : (d / 4294967296 + 1) * 2 ^ s ≤ 2 ^ 32 = le_trans (mul-le-mul_right (2 ^ s) (next (d / 4294967296) (2 ^ suc j) u)) (le_of_eq (sym (pow-add 2 (suc j) s) ∙ ap (λ (i : ℕ). 2 ^ i) e'')) in
      (omega arith, omega arith, through_low (2 ^ s) (d / 4294967296) low (omega arith), through_high (2 ^ s) (d / 4294967296) (pow_pos s) high (omega arith))
    where
      least : (d : ℕ) → 2 ^ 53 ≤ d → 2 ^ 21 ≤ d / 4294967296
      least d h = omega arith

      most : (d : ℕ) → d < 2 ^ 59 → d / 4294967296 < 2 ^ 27
      most d h = omega arith

      next : (x y : ℕ) → x < y → x + 1 ≤ y
      next x y h = omega arith

      through_low : (S u : ℕ) → 2 ^ 31 ≤ u * S → u * 4294967296 ≤ d → 2 ^ 63 ≤ d * S
      through_low S u a b = omega (arith, mul-le-mul_right S b)

      through_high : (S u : ℕ) → 0 < S → (u + 1) * S ≤ 2 ^ 32 → d < (u + 1) * 4294967296 → d * S < 2 ^ 64
      through_high S u p a b = omega (arith, mul-le-mul_right S b)

  -- the word of the whole rise has its first digit set
  pub full : (2147483648 ≤ h) × (h < 4294967296)
  unfolding word_of
  full = let (a, b, c, e) = places in (omega arith, omega arith)

  module _ (n : ℕ) (le : n ≤ d) where
    pub word_most : word_of s n ≤ h
    unfolding word_of
    word_most = floors (mul-le-mul_right (2 ^ s) le) (lit< tt)

    pub rise_whole : n * 2 ^ s < 2 ^ 64
    rise_whole = lt_of_le_of_lt (mul-le-mul_right (2 ^ s) le) places.3

    pub steps_rounded : (k : ℕ) → Rounded k n d 1073741824 (steps_of k n d)
    unfolding steps_of nearest_step word_of
    steps_rounded k = rounded k n d (2 ^ s) (word_of s n) h (pow_pos s) word_most full.0 (omega arith) (omega arith) (omega arith) (omega arith)

  -- a larger rise gives no smaller step
  pub steps_mono : (n n' k : ℕ) → n ≤ n' → steps_of k n d ≤ steps_of k n' d
  unfolding steps_of nearest_step word_of
  steps_mono n n' k l = floors (add-le-add (mul-le-mul_left k (floors (mul-le-mul_right (2 ^ s) l) (lit< tt))) (le_refl (h / 2))) (positive h full.0)
    where
      positive : (h : ℕ) → 2147483648 ≤ h → 0 < h
      positive h l = omega arith
