-- What the program computes on the path, as whole numbers. A reader of the promise need not read this. Definitions only.
use Rattle.std.specs.Prelude.{◌≡◌, cond, List, ℕ, suc, ◌+◌, ◌-◌, ◌*◌, ◌/◌, ◌%◌, ◌^◌, ◌≤◌, ◌<◌, max, eqb, leb, length, get_or, Float}
use Rattle.std.specs.Int.Count.{count_leading_zeros}
use Rattle.std.specs.Float.{binary32}
use Rattle.std.specs.Float.Ieee.{of_bits}
use Rattle.units.specs.Units.{mag, negative}
use Rattle.fixed.specs.Rounded.{nearest_bits}
use Rattle.roots.specs.Value.{IsNear, near_root}
use Rattle.spectrum.specs.Table.{unit}
use Rattle.spectrum.specs.Words.{FilledWith}
use Rattle.spectrum.specs.Transform.{at, sum_of, square}
use Rattle.loudness.specs.Value.{step_of}

-- |x w| in units of 2 ^ -53, cut off
unfoldable pub product_size : Float → Float → ℕ
product_size x w = mag x * mag w * 2 ^ 53 / 2 ^ 298

-- x w as a word
unfoldable pub product_word : Float → Float → ℕ
product_word x w = cond (negative x) (cond (negative w) (unit + product_size x w) (unit - product_size x w)) (cond (negative w) (unit - product_size x w) (unit + product_size x w))

-- every word is that of its sample and its window
pub record Products (xs ws : List Float) (ys : List ℕ) : Type 0 where
  pub as_many : length ys ≡ 128
  pub each : (i : ℕ) → i < 128 → get_or ys i 0 ≡ product_word (at xs i) (at ws i)

-- the size of a word's value
abbrev pub size_of : ℕ → ℕ
size_of v = (v - unit) + (unit - v)

-- a part's size is at most this
abbrev pub part_most : ℕ
part_most = 2 ^ 60 + 2 ^ 10

-- a block whose words are such
pub record Parts (r : List ℕ) : Type 0 where
  pub few : (i : ℕ) → i < 128 → size_of (get_or r i 0) ≤ part_most

-- √(re ^ 2 + im ^ 2) in units eight times as large: the first 31 digits of both after z places, and a root of 24 digits
unfoldable pub squares : ℕ → ℕ → ℕ → ℕ
squares re im z = square (re * 2 ^ z / 8589934592) + square (im * 2 ^ z / 8589934592)

unfoldable pub rooted : ℕ → ℕ → ℕ
rooted n z = cond (leb (2 ^ 62) n) (near_root (n / 65536) * 2 ^ 38 / 2 ^ z) (near_root (n / 16384) * 2 ^ 37 / 2 ^ z)

unfoldable pub modulus_of : ℕ → ℕ → ℕ
modulus_of re im = cond (eqb (max re im) 0) 0 (rooted (squares re im (count_leading_zeros 64 (max re im))) (count_leading_zeros 64 (max re im)))

-- what is known of it where neither part is above 2 ^ 60 + 2 ^ 10: it is √(re ^ 2 + im ^ 2) / 8 within 2 ^ -23 and one unit, and fits
pub record Modulus (re im r : ℕ) : Type 0 where
  pub low : 2 ^ 48 * (square re + square im) ≤ square ((2 ^ 24 + 2) * (8 * r + 8))
  pub high : square (2 ^ 27 * r) ≤ square (2 ^ 24 + 2) * (square re + square im)
  pub few : r ≤ 3 * 2 ^ 56

-- how a root r of n was found, of parts that were shifted up by z places: s is the root of the first digits k of n, and r is s over 2 ^ z in its units
pub record Rooted (n z r : ℕ) : Type 0 where
  pub W : ℕ
  pub Q : ℕ
  pub T : ℕ
  pub k : ℕ
  pub s : ℕ
  pub wide : 2 ^ 14 ≤ W
  pub whole : Q * Q ≡ 2 ^ 66 * W
  pub eighth : 8 * T ≡ Q
  pub long : 2 ^ 23 ≤ s
  pub above : n < (k + 1) * W
  pub below : k * W ≤ n
  pub near : IsNear k s
  pub most : r * 2 ^ z ≤ s * T
  pub least : s * T ≤ (r + 1) * 2 ^ z

-- the parts of X_k in a block of 128 words
unfoldable pub real_size : List ℕ → ℕ → ℕ
real_size r k = size_of (get_or r k 0)

unfoldable pub imaginary_size : List ℕ → ℕ → ℕ
imaginary_size r k = cond (eqb (k % 64) 0) 0 (size_of (get_or r (128 - k) 0))

-- the first 65 words are the moduli of a block's parts
pub record Moduli (r gs : List ℕ) : Type 0 where
  pub as_many : length gs ≡ 128
  pub each : (k : ℕ) → k ≤ 64 → get_or gs k 0 ≡ modulus_of (real_size r k) (imaginary_size r k)
  pub known : (k : ℕ) → k ≤ 64 → Modulus (real_size r k) (imaginary_size r k) (get_or gs k 0)

-- a sum of moduli over 64 as the nearest float; from 1 on it counts as 1
unfoldable pub envelope_bits : ℕ → ℕ
envelope_bits s = cond (leb 72057594037927936 s) 1065353216 (nearest_bits s 133)

abbrev pub envelope_of : ℕ → Float
envelope_of s = of_bits binary32 (envelope_bits s)

-- f lo + ... + f hi
abbrev pub sum_from : (ℕ → ℕ) → ℕ → ℕ → ℕ
sum_from f low high = sum_of (λ j. f (low + j)) (suc high - low)

-- i is the current of a frame in the band from lo to hi with the channel b, m, t, c
pub record IsCurrent (xs ws : List Float) (low high : ℕ) (b m : Float) (t c i : ℕ) : Type 0 where
  pub ys : List ℕ
  pub r : List ℕ
  pub products : Products xs ws ys
  pub count : length r ≡ 128
  pub fills : FilledWith ys 0 1 r
  pub is : i ≡ step_of b m t c (envelope_of (sum_from (λ k. modulus_of (real_size r k) (imaginary_size r k)) low high))
