-- What the program's parts do on the way. A reader of the promises need not read this. Definitions only.
use Rattle.std.specs.Prelude.{◌≡◌, ◌⊎◌, List, Bool, true, false, ℕ, zero, suc, ◌+◌, ◌-◌, ◌*◌, ◌/◌, ◌%◌, ◌^◌, ◌≤◌, ◌<◌, T, length, get_or, Float}
use Rattle.std.specs.Float.{binary32}
use Rattle.std.specs.Float.Ieee.{fits}
use Rattle.units.specs.Answers.{float_bits}
use Rattle.units.specs.Tests.{Tells}
use Rattle.sums.specs.Sum.{above, below}
use Rattle.exactsums.specs.Nearest.{Element, Elements, positives, negatives}

-- the answer tells whether the float with the pattern b is accepted
pub record Accepted (b : ℕ) (answer : Bool) : Type 0 where
  pub tells : (x : Float) → T (fits binary32 x) → b ≡ float_bits x → Tells (Element x) answer

-- a pattern from that of 2 ^ -40 to that of 2 ^ 40, but for its sign
pub record Sized (x : ℕ) : Type 0 where
  pub least : 729808896 ≤ x % 2147483648
  pub most : x % 2147483648 ≤ 1400897536

-- the exponent of such a pattern
pub record Exponent (x : ℕ) : Type 0 where
  pub least : 87 ≤ x / 8388608 % 256
  pub most : x / 8388608 % 256 ≤ 167

-- digits * 16 ^ place is the product of the significands of two patterns, with 2 to the sum of their exponents, in units of 2 ^ -126
pub record IsProduct (x y digits place : ℕ) : Type 0 where
  pub same : digits * 16 ^ place ≡ (x % 8388608 + 8388608) * (y % 8388608 + 8388608) * 2 ^ (x / 8388608 % 256 + y / 8388608 % 256 - 174)
  pub small : digits ≤ 2 ^ 51
  pub room : place ≤ 40

-- n digits base 16 from the place s of a list on, the lowest first, of any size: the number that they are
unfoldable pub number : List ℕ → ℕ → ℕ → ℕ
number ds s zero = 0
number ds s (suc n) = number ds s n + get_or ds (s + n) 0 * 16 ^ n

-- s is 0 where r is, and else 1
abbrev pub Sticky : ℕ → ℕ → Type 0
Sticky r s = ((r ≡ 0) × (s ≡ 0)) ⊎ ((0 < r) × (s ≡ 1))

-- 41 digits
pub record Digits (ds : List ℕ) : Type 0 where
  pub long : length ds ≡ 41
  pub each : (j : ℕ) → get_or ds j 0 < 16

-- 82 bins, none larger than t products can be
pub record Small (t : ℕ) (bins : List ℕ) : Type 0 where
  pub long : length bins ≡ 82
  pub each : (j : ℕ) → get_or bins j 0 ≤ t * 2 ^ 51

-- 82 bins before the first product: both rows are the same number
pub record Level (bins : List ℕ) : Type 0 where
  pub small : Small 1 bins
  pub same : number bins 0 41 ≡ number bins 41 41

-- where the row of a product starts: at 0 where the signs of the patterns are the same, else at 41
abbrev pub row_of : ℕ → ℕ → ℕ
row_of x y = (x / 2147483648 + y / 2147483648) % 2 * 41

-- the product of the floats with the patterns x and y was added to the bins
pub record Added (x y : ℕ) (before after : List ℕ) : Type 0 where
  pub plus : (u w : Float) → Element u → Element w → x ≡ float_bits u → y ≡ float_bits w → number after 0 41 * 2 ^ 172 ≡ number before 0 41 * 2 ^ 172 + above u w
  pub minus : (u w : Float) → Element u → Element w → x ≡ float_bits u → y ≡ float_bits w → number after 41 41 * 2 ^ 172 ≡ number before 41 41 * 2 ^ 172 + below u w
  pub small : (t : ℕ) → Small t before → Small (suc t) after

-- the answer tells whether the floats with the patterns x and y are accepted, and where they are, their product was added
pub record Taken (x y : ℕ) (before after : List ℕ) (answer : Bool) : Type 0 where
  pub tells : (u w : Float) → T (fits binary32 u) → T (fits binary32 w) → x ≡ float_bits u → y ≡ float_bits w → Tells (Element u × Element w) answer
  pub added : answer ≡ true → Added x y before after

-- all products stand in the bins: the row of the positive ones less that of the negative ones is the exact sum, in units of 2 ^ -126
pub record Gathered (a b : List Float) (bins : List ℕ) : Type 0 where
  pub elements : Elements a b
  pub sum : number bins 0 41 * 2 ^ 172 + negatives a b ≡ number bins 41 41 * 2 ^ 172 + positives a b
  pub small : Small 4097 bins

-- or an element is refused
pub record Judged (a b : List Float) (bins : List ℕ) (answer : Bool) : Type 0 where
  pub if_true : answer ≡ true → Gathered a b bins
  pub if_false : answer ≡ false → ¬ Elements a b

-- the first row less the second is the number of the digits and (over - under) 16 ^ 41
pub record Subtracted (bins digits : List ℕ) (over under : ℕ) : Type 0 where
  pub same : number bins 0 41 + under * 16 ^ 41 ≡ number bins 41 41 + (number digits 0 41 + over * 16 ^ 41)
  pub digits_each : Digits digits
  pub over_small : over ≤ 2 ^ 60
  pub under_small : under ≤ 2 ^ 60

-- r is the digit d, below zero what it lacks of 15
pub record IsDigit (d : ℕ) (below : Bool) (r : ℕ) : Type 0 where
  pub plus : below ≡ false → r ≡ d
  pub minus : below ≡ true → r + d ≡ 15
  pub small : r < 16

-- the number that top and the digits are: top 16 ^ 41 + digits, below zero (top + 1) 16 ^ 41 - digits
abbrev pub size_of : ℕ → List ℕ → Bool → ℕ
size_of top digits false = number digits 0 41 + top * 16 ^ 41
size_of top digits true = (top + 1) * 16 ^ 41 - number digits 0 41

-- it is h above the place i and the digits below; below zero h + 1 less these digits
pub record IsHead (top : ℕ) (digits : List ℕ) (below : Bool) (h i : ℕ) : Type 0 where
  pub room : i ≤ 41
  pub small : h < 2 ^ 61
  pub enough : 0 < number digits 0 i → 2 ^ 57 ≤ h
  pub plus : below ≡ false → number digits 0 i + h * 16 ^ i ≡ size_of top digits below
  pub minus : below ≡ true → size_of top digits below + number digits 0 i ≡ (h + 1) * 16 ^ i

-- r is h, below zero h + 1 - s
pub record IsClosed (h s : ℕ) (below : Bool) (r : ℕ) : Type 0 where
  pub plus : below ≡ false → r ≡ h
  pub minus : below ≡ true → r + s ≡ h + 1
