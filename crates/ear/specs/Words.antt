-- What words are, and which are bit patterns. A reader of the promises need not read this. Definitions only.
use Rattle.std.specs.Prelude.{ℕ, ◌≤◌, ◌==◌, Bool, true, if◌then◌else◌, not, List, [], ◌∷◌, ◌++◌, length, Float, from_bits}
use Rattle.std.specs.Float.{binary32}
use Rattle.std.specs.List.{filter, flat_map, slice_split}
use Rattle.std.specs.Str.Parse.{IsNumeral, digits_value}

-- the byte is a space, a tab or a carriage return
abbrev pub is_blank : ℕ → Bool
is_blank byte = if byte == 32 then true else (if byte == 9 then true else byte == 13)

-- the words of a line: what stands between blanks and is not empty
abbrev pub words_of : List ℕ → List (List ℕ)
words_of line = filter (λ word. not (length word == 0)) (slice_split is_blank line)

-- 1 to 8 hexadecimal digits
abbrev pub IsPattern : List ℕ → Type 0
IsPattern bytes = IsNumeral 16 bytes × (length bytes ≤ 8)

-- the float that a word says
abbrev pub float_of : List ℕ → Float
float_of word = from_bits binary32 (digits_value 16 word)

-- words as one line, with a blank behind each
abbrev pub one_line : List (List ℕ) → List ℕ
one_line words = flat_map (λ word. word ++ 32 ∷ []) words
