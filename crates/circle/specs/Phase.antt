-- The phase of an angle: how many turns it is, in units of 2 ^ -64, whole turns left out. A reader of the promises need not read this. Definitions only.
use Rattle.std.specs.Prelude.{ℕ, ◌+◌, ◌-◌, ◌*◌, ◌/◌, ◌%◌, ◌^◌, List, [], ◌∷◌, slice_index}

-- of the float's size with the bit pattern b: its 24 digits, and the exponent field that belongs to them
abbrev pub significand_of : ℕ → ℕ
significand_of b = b % 8388608 + 8388608

abbrev pub exponent_field : ℕ → ℕ
exponent_field b = b / 8388608

-- pi times that size: half as many turns, cut off
unfoldable pub half_turns : ℕ → ℕ
half_turns b = significand_of b * 2 ^ exponent_field b / 2 ^ 87 % 2 ^ 64

-- the binary digits of 1 / (2 pi), the turns of one radian, in words of 32 and after 64 zeros; tools/circle.py prints them
abbrev pub words : List ℕ
words = 0 ∷ 0 ∷ 0x28be60db ∷ 0x9391054a ∷ 0x7f09d5f4 ∷ 0x7d4d3770 ∷ 0x36d8a566 ∷ 0x4f10e410 ∷ []

abbrev pub word_of : ℕ → ℕ
word_of j = slice_index words j

-- a word's digits from the s-th on, and as many of the next word as are wanted to 32
abbrev pub joined_of : ℕ → ℕ → ℕ → ℕ
joined_of word next s = (word * 2 ^ s % 2 ^ 32 + next / 2 / 2 ^ (31 - s)) % 2 ^ 32

-- the 64 of them from the i-th on, so up to the i-th after the point
unfoldable pub window_of : ℕ → ℕ
window_of i = joined_of (word_of (i / 32)) (word_of (i / 32 + 1)) (i % 32) * 4294967296 + joined_of (word_of (i / 32 + 1)) (word_of (i / 32 + 2)) (i % 32)

-- the first 31 digits after the point in one number, and the first 63: all that the windows of sizes below 2 ^ -9 and 2 ^ 23 are made of
abbrev pub first_word : ℕ
first_word = 0x145f306d

abbrev pub first_digits : ℕ
first_digits = 0x145f306dc9c882a5

-- the size itself as an angle: its digits times the window at its exponent
unfoldable pub radians : ℕ → ℕ
radians b = significand_of b * window_of (exponent_field b - 86) % 2 ^ 64
