-- What the program computes, as whole numbers: a value v is the word v + 2 ^ 61. A reader of the promise need not read this. Definitions only.
use Rattle.std.specs.Prelude.{◌≡◌, List, [], ◌∷◌, ℕ, suc, ◌+◌, ◌-◌, ◌*◌, ◌/◌, ◌%◌, ◌^◌, ◌≤◌, ◌<◌, length, get_or}
use Rattle.spectrum.specs.Difference.{Difference}
use Rattle.spectrum.specs.Table.{unit, entry}

-- the value of a word
abbrev pub value_of : ℕ → Difference
value_of v = record { plus = v - unit; minus = unit - v }

-- a word whose value is small enough for a butterfly: no sum in it passes 2 ^ 64, and none below zero
pub record Inside (v : ℕ) : Type 0 where
  pub least : unit ≤ v + (2 ^ 59 + 2 ^ 10)
  pub most : v ≤ unit + (2 ^ 59 + 2 ^ 10)

-- the row of j / 128 turns: 8 times its cosine and its sine, and what takes the offsets out of the two parts of a product
unfoldable pub row_of : ℕ → List ℕ
row_of j = (8 * entry j) ∷ (8 * entry (32 - j)) ∷ (2 * unit - (entry j + entry (32 - j))) ∷ (2 * unit + entry (32 - j) - entry j) ∷ []

-- v w / 2 ^ 64, each product of words of 32 digits cut off, and the least of them left out
unfoldable pub part : ℕ → ℕ → ℕ
part v w = v / 4294967296 * (w / 4294967296) + v / 4294967296 * (w % 4294967296) / 4294967296 + v % 4294967296 * (w / 4294967296) / 4294967296

-- a word that is within 2 ^ 60 + 2 ^ 12 of 2 ^ 62
pub record Twice (t : ℕ) : Type 0 where
  pub least : 2 * unit ≤ t + (2 ^ 60 + 2 ^ 12)
  pub most : t ≤ 2 * unit + (2 ^ 60 + 2 ^ 12)

-- t + i u is (c - i s) (or + i oi), 2 ^ 62 added to each part, for the cosine c and the sine s of j / 128 turns
pub record Turned (j or oi t u : ℕ) : Type 0 where
  pub real : t + (entry j + entry (32 - j)) ≡ part or (8 * entry j) + part oi (8 * entry (32 - j)) + 2 * unit
  pub imaginary : u + (part or (8 * entry (32 - j)) + entry j) ≡ part oi (8 * entry j) + (2 * unit + entry (32 - j))
  pub room_real : Twice t
  pub room_imaginary : Twice u

-- (er + i ei) + (c - i s) (or + i oi) is (a + i d), and (er + i ei) - (c - i s) (or + i oi) is (b - i e), for the cosine c and the sine s of j / 128 turns
pub record Butterfly (j er ei or oi a b e d : ℕ) : Type 0 where
  -- the product's real and imaginary part, 2 ^ 62 added
  pub t : ℕ
  pub u : ℕ
  pub real : t + (entry j + entry (32 - j)) ≡ part or (8 * entry j) + part oi (8 * entry (32 - j)) + 2 * unit
  pub imaginary : u + (part or (8 * entry (32 - j)) + entry j) ≡ part oi (8 * entry j) + (2 * unit + entry (32 - j))
  pub sum_real : a + 2 * unit ≡ er + t
  pub difference_real : b + t ≡ er + 2 * unit
  pub sum_imaginary : d + 2 * unit ≡ ei + u
  pub difference_imaginary : e + ei ≡ u

-- a block of n words holds the transform of n values: the real part k at k, k from 0 to n / 2, the imaginary part k at n - k, k from 1 to n / 2 - 1
-- two blocks f and o, of 2 g words each, become one block r of 4 g words
pub record Combined (g st : ℕ) (f o r : ℕ → ℕ) : Type 0 where
  pub first : r 0 + unit ≡ f 0 + o 0
  pub middle : r (2 * g) + o 0 ≡ f 0 + unit
  pub each : (k : ℕ) → 1 ≤ k → k < g → Butterfly (k * st) (f k) (f (2 * g - k)) (o k) (o (2 * g - k)) (r k) (r (2 * g - k)) (r (2 * g + k)) (r (4 * g - k))
  pub same : r g ≡ f g
  pub turned : r (3 * g) + o g ≡ 2 * unit

-- one butterfly among them, in place: the words at k, 2 g - k, 2 g + k and 4 g - k
pub record Winged (g st k : ℕ) (f r : ℕ → ℕ) : Type 0 where
  pub wings : Butterfly (k * st) (f k) (f (2 * g - k)) (f (2 * g + k)) (f (4 * g - k)) (r k) (r (2 * g - k)) (r (2 * g + k)) (r (4 * g - k))
  pub others : (i : ℕ) → ¬ (i ≡ k) → ¬ (i ≡ 2 * g - k) → ¬ (i ≡ 2 * g + k) → ¬ (i ≡ 4 * g - k) → r i ≡ f i

-- and the words that take no turn, at 0, 2 g and 3 g
pub record Straight (g : ℕ) (f r : ℕ → ℕ) : Type 0 where
  pub first : r 0 + unit ≡ f 0 + f (2 * g)
  pub middle : r (2 * g) + f (2 * g) ≡ f 0 + unit
  pub turned : r (3 * g) + f (3 * g) ≡ 2 * unit
  pub others : (i : ℕ) → ¬ (i ≡ 0) → ¬ (i ≡ 2 * g) → ¬ (i ≡ 3 * g) → r i ≡ f i

-- a word whose value is at most 2 ^ 53, as an input is
pub record Small (v : ℕ) : Type 0 where
  pub least : unit ≤ v + 2 ^ 53
  pub most : v ≤ unit + 2 ^ 53

-- the block of four values a, b, c, d
pub record Four (a b c d : ℕ) (r : ℕ → ℕ) : Type 0 where
  pub first : r 0 + 3 * unit ≡ a + b + c + d
  pub second : r 1 + c ≡ a + unit
  pub third : r 2 + (b + d) ≡ a + c + unit
  pub fourth : r 3 + b ≡ d + unit

-- the block r of 4 g words, g = 2 ^ s, is made in this way of the words y at off, off + st, off + 2 st, ...
pub data Filled (y : ℕ → ℕ) : ℕ → ℕ → ℕ → ℕ → (ℕ → ℕ) → Type 0 where
  four : {off st : ℕ} {r : ℕ → ℕ} → Four (y off) (y (off + st)) (y (off + 2 * st)) (y (off + 3 * st)) r → Filled y 0 1 off st r
  halves : {s g off st : ℕ} {f o r : ℕ → ℕ} → Filled y s g off (2 * st) f → Filled y s g (off + st) (2 * st) o → Combined (2 * g) st f o r → Filled y (suc s) (2 * g) off st r

-- what is filled: 4 g words, g = 2 ^ s, from 128 small ones, st apart, g st = 32
pub record Fillable (y : List ℕ) (off st n : ℕ) : Type 0 where
  pub s : ℕ
  pub size : n ≡ 4 * 2 ^ s
  pub apart : 2 ^ s * st ≡ 32
  pub start : off < st
  pub as_many : length y ≡ 128
  pub small : (i : ℕ) → i < 128 → Small (get_or y i 0)

-- and with what
abbrev pub FilledWith : List ℕ → ℕ → ℕ → List ℕ → Type 0
FilledWith y off st r = (s g : ℕ) → g ≡ 2 ^ s → length r ≡ 4 * g → Filled (λ i. get_or y i unit) s g off st (λ i. get_or r i 0)
