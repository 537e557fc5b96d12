-- What the program computes for log2. A reader of the promise need not read this: Log2 names `log2_of` and says all that is promised of it. Definitions only.
use Rattle.std.specs.Prelude.{◌≡◌, ℕ, ◌+◌, ◌-◌, ◌*◌, ◌/◌, ◌%◌, ◌^◌, ◌<◌, ◌≤◌, Bool, cond, ◌==◌, from_bits, nat_lt, to_bits, Float}
use Rattle.std.specs.Int.Count.{count_leading_zeros}
use Rattle.std.specs.Float.{binary32}
use Rattle.fixed.specs.Horner.{horner}
use Rattle.fine.specs.Value.{fine_of}
use Rattle.logs.specs.Rows.{row}

-- ---- in fixed point: log2 x + 127 in steps of 2 ^ -54
-- of the float with the bit pattern b: the logarithm over the distance from the nearer power of two, by the row of its sixteenth
unfoldable pub slope : ℕ → ℕ
slope b = horner 4294967296 (row (b / 524288 % 16)) ((524288 - b % 524288) * 512)

-- that power of two, as an exponent field; the cut is at 23 / 16
unfoldable pub nearer : ℕ → ℕ
nearer b = (b + 4718592) / 8388608

-- the exponent, and the product of slope and distance, which may be negative
unfoldable pub fixed_bits : ℕ → ℕ
fixed_bits b = nearer b * 18014398509481984 + b * slope b - nearer b * 8388608 * slope b

-- the upper word of half of k, less p where b is below k: there the product of p with b - k, which wraps, has p too much in that word
pub record Upper (b k p h : ℕ) : Type 0 where
  pub below : b < k → (h + p) % 4294967296 ≡ k / 2
  pub above : k ≤ b → h ≡ k / 2

-- of a float
unfoldable pub fixed_of : Float → ℕ
fixed_of x = fixed_bits (to_bits binary32 x)

-- ---- rounded to a float
-- log2 1 in fixed point
abbrev pub log_of_one : ℕ
log_of_one = 2287828610704211968

-- the sign's bit of a logarithm in fixed point
unfoldable pub sign_of : ℕ → ℕ
sign_of w = cond (nat_lt w log_of_one) 2147483648 0

-- how far it is above log2 1, how far below, and how far from it
abbrev pub steps_above : ℕ → ℕ
steps_above w = w - log_of_one

abbrev pub steps_below : ℕ → ℕ
steps_below w = log_of_one - w

abbrev pub distance_of : ℕ → ℕ
distance_of w = steps_above w + steps_below w

-- ---- the digits of a distance n from log2 1: the first 32, and 24 of them rounded
-- the first 32
unfoldable pub first_word : ℕ → ℕ
first_word n = n * 2 ^ count_leading_zeros 64 n / 4294967296

-- how many of the last of these digits the logarithm may be off, for digits with z zeros before them: from 1 on the error is an absolute one, below relative
unfoldable pub width_of : ℕ → ℕ
width_of z = cond (nat_lt z 10) 2 8

-- whether the middle of two floats is so near to them, h of these digits, that they do not tell on which side of it the logarithm is
unfoldable pub is_left_open : ℕ → ℕ → Bool
is_left_open u h = nat_lt ((u % 256 + 128 + h) % 256) (2 * h)

-- the fraction of that middle in units of 2 ^ -64, as log2 x has one: of a negative logarithm what the fraction of its size lacks to 1
unfoldable pub fraction_of : ℕ → ℕ → ℕ → ℕ
fraction_of w u z = let y = (2 * (u / 256) + 1) * 2 ^ (49 - z) % 2 ^ 64 in cond (nat_lt w log_of_one) ((2 ^ 64 - y) % 2 ^ 64) y

-- whether the float with the pattern b is above 2 to the power of that middle: its digits after the first, against those of the power
unfoldable pub is_above : ℕ → ℕ → Bool
is_above b t = nat_lt (fine_of t / 2199023255552) (b % 8388608)

-- the digits, where the first 32 leave them open
unfoldable pub settled_digits : ℕ → ℕ → ℕ → ℕ → ℕ
settled_digits b w u z = u / 256 + cond (nat_lt w log_of_one) (cond (is_above b (fraction_of w u z)) 0 1) (cond (is_above b (fraction_of w u z)) 1 0)

-- the 24 digits
unfoldable pub log2_digits : ℕ → ℕ → ℕ → ℕ → ℕ
log2_digits b w u z = cond (is_left_open u (width_of z)) (settled_digits b w u z) ((u / 128 + 1) / 2)

-- the bit pattern of the float nearest to a logarithm w in fixed point, of the float with the pattern b: a step of 2 ^ -54 is 2 ^ (135 - 40) units
unfoldable pub rounded_bits : ℕ → ℕ → ℕ
rounded_bits b w =
    let n = distance_of w in
    let z = count_leading_zeros 64 n in
    cond (n == 0) 0 (sign_of w + ((135 - z) * 8388608 + log2_digits b w (first_word n) z))

-- the logarithm of x
unfoldable pub log2_of : Float → Float
log2_of x = from_bits binary32 (rounded_bits (to_bits binary32 x) (fixed_of x))
