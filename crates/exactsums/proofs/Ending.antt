-- The end: the rows' difference from its digits, by its sign, and the rows that the program starts from. Assumes nothing.
use mathlib.Core.Path.{◌≡◌, refl, sym, ap, ◌∙◌}
use mathlib.Core.List.{List}
use mathlib.Core.Bool.{true, false}
use Prim.Native.Nat.{ℕ, zero, suc, ◌+◌, ◌-◌, ◌*◌, ◌^◌, ◌≤◌, ◌<◌, zero-le}
use native.Mathlib.Nat.{le_trans, le_of_eq, lt_of_le_of_lt, add-zero, one-mul, add-mul, mul-pos, mul-le-mul_right}
use native.Mathlib.Omega.{arith}
use lib.Dec.{lit<, lit≤}
use lib.ListN.{get_or, replicate}
use lib.Pow.{pow_pos}
use lib.Ieee.{Float, binary32}
use lib.Ieee.Bits.{to_bits-lt}
use lib.Ieee.Fits.{round-fits}
use Rattle.units.specs.Answers.{float_bits}
use Rattle.exactsums.specs.Nearest.{rounded}
use Rattle.exactsums.specs.Work.{number, Digits, Level, Subtracted, size_of}
use Rattle.exactsums.proofs.Bins.{number_less}
use Rattle.exactsums.proofs.Rounding.{float, turned, rounded_plus, rounded_minus}

-- ---- arrays of ones
ones_each : (n k : ℕ) → get_or (replicate n 1) k 0 ≤ 1
ones_each zero k = zero-le
ones_each (suc n) zero = lit≤ tt
ones_each (suc n) (suc k) = ones_each n k

pub ones_digits : Digits (replicate 41 1)
ones_digits = record { long = refl; each = λ k. lt_of_le_of_lt (ones_each 41 k) (lit< tt) }

pub ones_level : Level (replicate 82 1)
unfolding number
ones_level = record { small = record { long = refl; each = λ k. le_trans (ones_each 82 k) (lit≤ tt) }; same = refl }

-- ---- the first row less the second, by its sign
module _ (bins digits : List ℕ) (over under : ℕ) (h : Subtracted bins digits over under) where
  abbrev x : ℕ
  x = number bins 0 41

  abbrev y : ℕ
  y = number bins 41 41

  abbrev z : ℕ
  z = number digits 0 41

  -- rounded alone, a size D is a float above zero
  alone : (D : ℕ) → rounded (D * 2 ^ 172) 0 ≡ float false (D * 2 ^ 172)
  alone D = rounded_plus (D * 2 ^ 172) 0 (D * 2 ^ 172) (sym (add-zero (D * 2 ^ 172)))

  scaled : (b D : ℕ) {a : ℕ} → a ≡ D + b → a * 2 ^ 172 ≡ D * 2 ^ 172 + b * 2 ^ 172
  scaled b D e = ap (λ (n : ℕ). n * 2 ^ 172) e ∙ add-mul D b (2 ^ 172)

  -- no more borrowed than carried: above zero, or 0
  pub positive : under ≤ over → rounded (size_of (over - under) digits false * 2 ^ 172) 0 ≡ rounded (x * 2 ^ 172) (y * 2 ^ 172)
  positive l = alone (z + (over - under) * 16 ^ 41) ∙ sym (rounded_plus (x * 2 ^ 172) (y * 2 ^ 172) ((z + (over - under) * 16 ^ 41) * 2 ^ 172) (scaled y (z + (over - under) * 16 ^ 41) (go x y z ((over - under) * 16 ^ 41) (under * 16 ^ 41) h.same parts)))
    where
      parts : over * 16 ^ 41 ≡ (over - under) * 16 ^ 41 + under * 16 ^ 41
      parts = ap (λ (n : ℕ). n * 16 ^ 41) (back over under l) ∙ add-mul (over - under) under (16 ^ 41)
        where
          back : (o u : ℕ) → u ≤ o → o ≡ o - u + u
          back o u k = omega arith

      go : (x y z d u : ℕ) {o : ℕ} → x + u ≡ y + (z + o) → o ≡ d + u → x ≡ z + d + y
      go x y z d u f g = omega arith

  -- more borrowed than carried: below zero
  module _ (l : over < under) where
    abbrev size : ℕ
    size = size_of (under - over - 1) digits true

    -- the second row is the larger, by this size
    second : (size + x ≡ y) × (0 < size)
    second = go (under - over - 1 + 1) x y z (16 ^ 41) (over * 16 ^ 41) h.same (number_less digits 0 41 h.digits_each) parts (positive_part (under - over - 1))
      where
        positive_part : (n : ℕ) → 16 ^ 41 ≤ (n + 1) * 16 ^ 41
        positive_part n = le_trans (le_of_eq (sym (one-mul (16 ^ 41)))) (mul-le-mul_right (16 ^ 41) (some n))
          where
            some : (n : ℕ) → 1 ≤ n + 1
            some n = omega arith

        parts : under * 16 ^ 41 ≡ (under - over - 1 + 1) * 16 ^ 41 + over * 16 ^ 41
        parts = ap (λ (n : ℕ). n * 16 ^ 41) (back over under l) ∙ add-mul (under - over - 1 + 1) over (16 ^ 41)
          where
            back : (o u : ℕ) → o < u → u ≡ u - o - 1 + 1 + o
            back o u k = omega arith

        go : (t x y z e o : ℕ) {u : ℕ} → x + u ≡ y + (z + o) → z < e → u ≡ t * e + o → e ≤ t * e → (t * e - z + x ≡ y) × (0 < t * e - z)
        go t x y z e o f k g m = (omega arith, omega arith)

    -- 41 digits, and 60 binary places above them
    size_small : size * 2 ^ 172 ≤ 2 ^ 400
    size_small = le_trans (mul-le-mul_right (2 ^ 172) (le_trans (less ((under - over - 1 + 1) * 16 ^ 41) z) (mul-le-mul_right (16 ^ 41) (few over under h.under_small l)))) (lit≤ tt)
      where
        less : (n m : ℕ) → n - m ≤ n
        less n m = omega arith

        few : (o u : ℕ) → u ≤ 2 ^ 60 → o < u → u - o - 1 + 1 ≤ 2 ^ 60
        few o u k j = omega arith

    -- so the pattern is one bit more than that of the size
    pub negative : 2147483648 + float_bits (rounded (size * 2 ^ 172) 0) ≡ float_bits (rounded (x * 2 ^ 172) (y * 2 ^ 172))
    negative =
        ap (λ (f : Float). 2147483648 + float_bits f) (alone size) ∙ sym (turned (size * 2 ^ 172) size_small)
        ∙ sym (ap float_bits (rounded_minus (x * 2 ^ 172) (y * 2 ^ 172) (size * 2 ^ 172) (scaled x size (sym second.0)) (mul-pos second.1 (pow_pos 172))))

-- every pattern is one of 32 bits
pub pattern_fits : (p n : ℕ) → float_bits (rounded p n) < 4294967296
pattern_fits p n = to_bits-lt binary32 (rounded p n) (round-fits binary32 _ _ _)
