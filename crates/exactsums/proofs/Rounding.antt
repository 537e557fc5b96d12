-- The last rounding: the first digits of an exact sum and one more, which says whether anything is left, round as the sum itself. Assumes nothing.
use mathlib.Core.Path.{◌≡◌, refl, sym, ap, ap₂, ◌∙◌, subst}
use mathlib.Core.Logic.{◌⊎◌, inl, inr}
use mathlib.Core.Bool.{Bool, true, false}
use Prim.Native.Nat.{ℕ, suc, ◌+◌, ◌-◌, ◌*◌, ◌/◌, ◌^◌, ◌≤◌, ◌<◌}
use native.Mathlib.Nat.{le_trans, le_of_eq, lt_of_lt_of_le, lt_of_le_of_lt, le_of_lt, min-eq_left, mul_assoc, mul_comm, mul-pos, mul-le-mul_left, mul-le-mul_right, mul-lt-mul_of_pos_right, eq-zero-or-pos, mul-zero, zero-mul, zero-add, add-zero, add_comm}
use native.Mathlib.Omega.{arith}
use lib.Dec.{lit<, lit≤}
use borrow.Author.Tests.{le-ltb, lt-ltb}
use lib.Pow.{pow-add, pow_pos, pow_mono}
use lib.Ieee.{Float, binary32, of_bits, to_bits, round, size}
use lib.Ieee.Nearest.{closest, closest_same}
use lib.Ieee.Digits.{size-lt, size_reaches}
use Rattle.units.specs.Units.{mag, negative, Number}
use Rattle.units.specs.Answers.{float_bits}
use Rattle.units.proofs.Naturals.{pow_back_lt}
use Rattle.units.proofs.Size.{mag-lt}
use Rattle.units.proofs.Round.{rnd, rnd_same, rnd_upto}
use Rattle.units.proofs.Nearest.{rnd_at}
use Rattle.units.proofs.Rounded.{cap, round_mag, round_sign, round_number}
use Rattle.units.proofs.Bits.{Is, sign_bit, pattern, no_nan, no_nan_positive}
use Rattle.units.proofs.Patterns.{pattern_back}
use Rattle.units.proofs.Ties.{sticky}
use Rattle.fixed.specs.Rounded.{Normal, even_bits}
use Rattle.fixed.proofs.Even.{even_is, bits_below, even_zero}
use Rattle.sums.specs.Sum.{apart}
use Rattle.exactsums.specs.Nearest.{rounded}
use Rattle.exactsums.specs.Work.{Sticky}
use Rattle.exactsums.proofs.Bins.{sixteen}

-- X A / C units, with 24 digits of X above the step t, where t A / C is 2 ^ g
kept : (X A C g t : ℕ) → 0 < C → 0 < t → t * A ≡ C * 2 ^ g → 2 ^ 23 * t ≤ X → X < 2 ^ 24 * t → rnd (X * A) C ≡ closest X t * 2 ^ g
kept X A C g t pos step e low high =
    rnd_at (X * A) C g pos (top (2 ^ g) e) (λ l. bottom (2 ^ g) e) ∙ ap (λ (q : ℕ). q * 2 ^ g) (closest_same (X * A) (C * 2 ^ g) X t (mul-pos pos (pow_pos g)) step (mul_assoc X A t ∙ ap (λ (n : ℕ). X * n) (mul_comm A t ∙ e)))
  where
    some : 0 < A
    some = elim (eq-zero-or-pos A) [ inl z ↦ absurd (none (mul-pos pos (pow_pos g)) (sym e ∙ ap (λ (n : ℕ). t * n) z ∙ mul-zero t)) | inr l ↦ l ]
      where
        none : {n : ℕ} → 0 < n → n ≡ 0 → ⊥
        none l f = omega arith

    top : (G : ℕ) → t * A ≡ C * G → X * A < 2 ^ 24 * G * C
    top G f = let l : X * A < 2 ^ 24 * t * A = mul-lt-mul_of_pos_right high some in omega arith

    bottom : (G : ℕ) → t * A ≡ C * G → 2 ^ 23 * G * C ≤ X * A
    bottom G f = let l : 2 ^ 23 * t * A ≤ X * A = mul-le-mul_right A low in omega arith

-- ---- h K + r, with K = 2 ^ k, in units of 2 ^ -126, is 2 h + s, with e = 62 + k, to 24 digits
module _ (h k r s D : ℕ) (is : h * 2 ^ k + r ≡ D) (pos : 0 < h) where
  -- nothing is left: the same fraction
  plain : r ≡ 0 → s ≡ 0 → rnd (D * 2 ^ 172) (2 ^ 149) ≡ rnd ((2 * h + s) * 2 ^ (62 + k)) (2 ^ 40)
  plain z o = rnd_same (D * 2 ^ 172) (2 ^ 149) ((2 * h + s) * 2 ^ (62 + k)) (2 ^ 40) (pow_pos 149) (pow_pos 40) (rw (pow-add 2 62 k, ← is) (same (2 ^ k) (2 ^ 172) (2 ^ 40) (2 ^ 62) (2 ^ 149) refl))
    where
      same : (K W X Y Z : ℕ) → W * X ≡ 2 * Y * Z → (h * K + r) * W * X ≡ (2 * h + s) * (Y * K) * Z
      same K W X Y Z e = rw (z, o) (left ∙ ap (λ (n : ℕ). h * K * n) e ∙ right)
        where
          left : (h * K + 0) * W * X ≡ h * K * (W * X)
          left = omega arith

          right : h * K * (2 * Y * Z) ≡ (2 * h + 0) * (Y * K) * Z
          right = omega arith

  -- something is left: h has j + 25 digits, so that the digits to be dropped are whole ones
  module _ (small : r < 2 ^ k) (j : ℕ) (low : 2 ^ 24 * 2 ^ j ≤ h) (high : h < 2 ^ 25 * 2 ^ j) where
    abbrev g : ℕ
    g = 24 + j + k

    kept_sum : rnd (D * 2 ^ 172) (2 ^ 149) ≡ closest D (2 * 2 ^ j * 2 ^ k) * 2 ^ g
    kept_sum = kept D (2 ^ 172) (2 ^ 149) g (2 * 2 ^ j * 2 ^ k) (pow_pos 149) (mul-pos (mul-pos (lit< tt) (pow_pos j)) (pow_pos k)) (rw (pow-add 2 (24 + j) k, pow-add 2 24 j) (step (2 ^ j) (2 ^ k) (2 ^ 172) (2 ^ 149) refl)) (bottom (2 ^ j) (2 ^ k) low is) (top (2 ^ j) (2 ^ k) high small is)
      where
        step : (u K W Z : ℕ) → 2 * W ≡ Z * 2 ^ 24 → 2 * u * K * W ≡ Z * (2 ^ 24 * u * K)
        step u K W Z e = let f : u * K * (2 * W) ≡ u * K * (Z * 2 ^ 24) = ap (λ (n : ℕ). u * K * n) e in omega arith

        bottom : (u K : ℕ) → 2 ^ 24 * u ≤ h → h * K + r ≡ D → 2 ^ 23 * (2 * u * K) ≤ D
        bottom u K l e = let m : 2 ^ 24 * u * K ≤ h * K = mul-le-mul_right K l in omega arith

        top : (u K : ℕ) → h < 2 ^ 25 * u → r < K → h * K + r ≡ D → D < 2 ^ 24 * (2 * u * K)
        top u K l q e = let m : suc h * K ≤ 2 ^ 25 * u * K = mul-le-mul_right K l in omega arith

    kept_digits : rnd ((2 * h + 1) * 2 ^ (62 + k)) (2 ^ 40) ≡ closest (2 * h + 1) (4 * 2 ^ j) * 2 ^ g
    kept_digits = kept (2 * h + 1) (2 ^ (62 + k)) (2 ^ 40) g (4 * 2 ^ j) (pow_pos 40) (mul-pos (lit< tt) (pow_pos j)) (rw (pow-add 2 (24 + j) k, pow-add 2 24 j, pow-add 2 62 k) (step (2 ^ j) (2 ^ k))) (omega arith) (omega arith)
      where
        step : (u K : ℕ) → 4 * u * (2 ^ 62 * K) ≡ 2 ^ 40 * (2 ^ 24 * u * K)
        step u K = omega arith

    between : 0 < r → s ≡ 1 → rnd (D * 2 ^ 172) (2 ^ 149) ≡ rnd ((2 * h + s) * 2 ^ (62 + k)) (2 ^ 40)
    between some o =
        kept_sum ∙ ap (λ (q : ℕ). q * 2 ^ g) (ap (λ (n : ℕ). closest n (2 * 2 ^ j * 2 ^ k)) (sym is) ∙ sticky h (2 ^ k) r 1 (2 ^ j) (pow_pos j) small (inr (some, refl)))
        ∙ sym kept_digits ∙ ap (λ (i : ℕ). rnd ((2 * h + i) * 2 ^ (62 + k)) (2 ^ 40)) (sym o)

-- whatever is left
pub same_rounding : (h k r s D : ℕ) → h * 2 ^ k + r ≡ D → 0 < h → r < 2 ^ k → Sticky r s → (0 < r → 2 ^ 57 ≤ h) → rnd (D * 2 ^ 172) (2 ^ 149) ≡ rnd ((2 * h + s) * 2 ^ (62 + k)) (2 ^ 40)
same_rounding h k r s D is pos small (inl (z, o)) many = plain h k r s D is pos z o
same_rounding h k r s D is pos small (inr (some, o)) many =
    let z = size h in
    let more : 57 < z = pow_back_lt 57 z (lt_of_le_of_lt (many some) (size-lt h)) in
    let j = z - 25 in
    let e : z ≡ 25 + j = omega arith in
    between h k r s D is pos small j (le_trans (le_of_eq (sym (pow-add 2 24 j))) (size_reaches h (24 + j) (omega arith)))
    (lt_of_lt_of_le (size-lt h) (le_of_eq (ap (λ (i : ℕ). 2 ^ i) e ∙ pow-add 2 25 j))) some o

-- ---- the float of a fraction X / 2 ^ 298 with the sign s
abbrev pub float : Bool → ℕ → Float
float s X = round binary32 s X (2 ^ 298)

float_size : (s : Bool) (X : ℕ) → mag (float s X) ≡ cap (rnd X (2 ^ 149))
float_size s X = round_mag s X (2 ^ 298) ∙ ap cap (rnd_same (X * 2 ^ 149) (2 ^ 298) X (2 ^ 149) (pow_pos 298) (pow_pos 149) (mul_assoc X (2 ^ 149) (2 ^ 149)))

float_number : (s : Bool) (X : ℕ) → rnd X (2 ^ 149) < 2 ^ 277 → Number (float s X)
float_number s X l = round_number s X (2 ^ 298) (lt_of_le_of_lt (le_of_eq (rnd_same (X * 2 ^ 149) (2 ^ 298) X (2 ^ 149) (pow_pos 298) (pow_pos 149) (mul_assoc X (2 ^ 149) (2 ^ 149)))) l)

-- floats with one sign and size have one pattern
same_pattern : (x y : Float) → Number x → Number y → negative x ≡ negative y → mag x ≡ mag y → to_bits binary32 x ≡ to_bits binary32 y
same_pattern x y n m e f = pattern x n ∙ rw (e, f) (sym (pattern y m))

-- a pattern b of the right size is its pattern
pub pattern_of_lem : (s : Bool) (X b : ℕ) → b < 255 * 8388608 → Is (of_bits binary32 (sign_bit s + b)) s (rnd X (2 ^ 149)) → to_bits binary32 (float s X) ≡ sign_bit s + b
pattern_of_lem s X b less is =
    let x = of_bits binary32 (sign_bit s + b) in
    let l : rnd X (2 ^ 149) < 2 ^ 277 = lt_of_le_of_lt (le_of_eq (sym is.units)) (mag-lt x is.number) in
    same_pattern (float s X) x (float_number s X l) is.number (round_sign s X (2 ^ 298) ∙ sym is.sign) (float_size s X ∙ min-eq_left (le_of_lt l) ∙ sym is.units)
    ∙ pattern_back (sign_bit s + b) (bound s) (no_nan s b less)
  where
    bound : (s : Bool) → sign_bit s + b < 4294967296
    bound true = omega arith
    bound false = omega arith

-- the other sign is one bit more
pub turned : (X : ℕ) → X ≤ 2 ^ 400 → to_bits binary32 (float true X) ≡ 2147483648 + to_bits binary32 (float false X)
turned X l = one_more ((size v - 24) * 8388608) (v / 2 ^ (size v - 24)) (shape true) (shape false)
  where
    less : rnd X (2 ^ 149) < 2 ^ 277
    less = lt_of_le_of_lt (rnd_upto X (2 ^ 149) 1 251 (pow_pos 149) (lit≤ tt) l) (lit< tt)

    v : ℕ
    v = cap (rnd X (2 ^ 149))

    shape : (s : Bool) → to_bits binary32 (float s X) ≡ sign_bit s + (size v - 24) * 8388608 + v / 2 ^ (size v - 24)
    shape s = pattern (float s X) (float_number s X less) ∙ rw (round_sign s X (2 ^ 298), float_size s X) refl

    one_more : {x y : ℕ} (a b : ℕ) → x ≡ 2147483648 + a + b → y ≡ 0 + a + b → x ≡ 2147483648 + y
    one_more a b e f = omega arith

-- ---- p - n rounded, by its sign
pub rounded_plus : (p n X : ℕ) → p ≡ X + n → rounded p n ≡ float false X
unfolding apart
rounded_plus p n X e = rw (le-ltb p n (omega arith)) (ap (float false) (rest p n X e))
  where
    rest : (p n X : ℕ) → p ≡ X + n → p - n + (n - p) ≡ X
    rest p n X e = omega arith

pub rounded_minus : (p n X : ℕ) → n ≡ X + p → 0 < X → rounded p n ≡ float true X
unfolding apart
rounded_minus p n X e l = rw (lt-ltb p n (omega arith)) (ap (float true) (rest p n X e))
  where
    rest : (p n X : ℕ) → n ≡ X + p → p - n + (n - p) ≡ X
    rest p n X e = omega arith

-- 0 is +0
pub float_zero : float false 0 ≡ of_bits binary32 0
unfolding round of_bits
float_zero = refl

-- ---- the end: h and what is left below the place i, r, are D
module _ (h i r s : ℕ) (w : Sticky r s) (many : 0 < r → 2 ^ 57 ≤ h) (few : i ≤ 41) where
  -- s is a digit, and set only beside a large h
  pub bit : s ≤ 1
  bit = elim w [ inl (e, o) ↦ omega arith | inr (e, o) ↦ omega arith ]

  two : 0 < 2 * h + s → 2 ≤ 2 * h + s
  two l = elim w [ inl (e, o) ↦ omega arith | inr (e, o) ↦ let m = many e in omega arith ]

  -- what is rounded is no subnormal and no infinity
  pub normal : Normal (2 * h + s) (62 + 4 * i)
  normal = record { least = λ l. le_trans (twice (two l)) (mul-le-mul_left (2 * h + s) (pow_mono {i = 62} {j = 62 + 4 * i} (omega arith))); most = omega arith }
    where
      twice : {n : ℕ} → 2 ≤ n → 2 ^ 63 ≤ n * 2 ^ 62
      twice l = omega arith

  pub rounds_all : (D : ℕ) → r + h * 16 ^ i ≡ D → r < 16 ^ i → h < 2 ^ 62 → even_bits (2 * h + s) (62 + 4 * i) ≡ float_bits (rounded (D * 2 ^ 172) 0)
  rounds_all D is small top = go (eq-zero-or-pos h)
    where
      sum : D ≡ h * 2 ^ (4 * i) + r
      sum = sym is ∙ add_comm r (h * 16 ^ i) ∙ ap (λ (n : ℕ). h * n + r) (sixteen i)

      less : 2 * h + s < 2 ^ 63
      less = let b = bit in omega arith

      none : h ≡ 0 → (2 * h + s ≡ 0) × (D ≡ 0)
      none e = elim w [
        | inl (z, o) ↦ (omega arith, sym is ∙ ap₂ (λ (a b : ℕ). a + b * 16 ^ i) z e ∙ zero-add (0 * 16 ^ i) ∙ zero-mul (16 ^ i))
        | inr (z, o) ↦ absurd (let m = many z in omega arith)
      ]

      go : (h ≡ 0) ⊎ (0 < h) → even_bits (2 * h + s) (62 + 4 * i) ≡ float_bits (rounded (D * 2 ^ 172) 0)
      go (inl e) =
          even_zero (2 * h + s) (62 + 4 * i) (none e).0 ∙ sym (pattern_back 0 (lit< tt) (no_nan_positive 0 (lit< tt)))
          ∙ ap float_bits (sym (rounded_plus (D * 2 ^ 172) 0 0 (ap (λ (n : ℕ). n * 2 ^ 172) (none e).1 ∙ zero-mul (2 ^ 172)) ∙ float_zero))
      go (inr l) =
          let n = 2 * h + s in
          let e = 62 + 4 * i in
          let some : 0 < n = omega arith in
          sym (ap float_bits (rounded_plus (D * 2 ^ 172) 0 (D * 2 ^ 172) (sym (add-zero (D * 2 ^ 172))))
          ∙ pattern_of_lem false (D * 2 ^ 172) (even_bits n e) (bits_below n e some less normal)
          (subst (λ (u : ℕ). Is (of_bits binary32 (sign_bit false + even_bits n e)) false u) (sym (same_rounding h (4 * i) r s D (sym sum) l (rw (sixteen i) at small) w many)) (even_is n e some less normal false))
          ∙ zero-add (even_bits n e))
