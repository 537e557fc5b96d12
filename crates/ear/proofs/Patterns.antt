-- Which words `u32::from_str_radix` reads as bit patterns.
use Rattle.std.proofs.Common.{arith, ◌≡◌, ◌≢◌, ◌^◌, ◌<◌, ◌≤◌, ℕ, zero, suc, subst}
use Rattle.std.proofs.Common.{List, [], ◌∷◌, length, slice_index, Result, Ok, Err}
use Rattle.std.proofs.Math.Nat.{pow-le-pow_right}
use Rattle.std.proofs.lemmas.Int.Digits.{digits_value-lt}
use Rattle.std.proofs.lemmas.Str.{IsUtf8-from_ascii}
use Rattle.std.specs.Char.{digit_value}
use Rattle.std.specs.Str.{IsAscii, IsUtf8}
use Rattle.std.specs.Str.Parse.{AllDigits, IsNumeral, ParsesUnsigned, digits_value, without_leading_plus}
use Rattle.std.specs.Result.{OkIff}
use Rattle.ear.specs.Words.{IsPattern}

digit_is_ascii : (c : ℕ) → digit_value c < 16 → c < 128
digit_is_ascii c small = grind arith

digits_are_ascii : (bs : List ℕ) → AllDigits 16 bs → IsAscii bs
digits_are_ascii [] digits i = omega arith
digits_are_ascii (c ∷ cs) digits zero = digit_is_ascii c digits.0
digits_are_ascii (c ∷ cs) digits (suc i) = digits_are_ascii cs digits.1 i

-- a bit pattern is text
pub pattern_is_text : (bs : List ℕ) → IsPattern bs → IsUtf8 bs
pattern_is_text bs pattern = IsUtf8-from_ascii bs (digits_are_ascii bs pattern.0.1)

-- its number is below 2 ^ 32
pub pattern_fits : (bs : List ℕ) → IsPattern bs → digits_value 16 bs < 2 ^ 32
pattern_fits bs pattern =
    omega (arith, digits_value-lt 16 bs pattern.0.1, pow-le-pow_right {n = 16} (omega arith) pattern.1)

no_plus : (bs : List ℕ) → slice_index bs 0 ≢ 43 → without_leading_plus bs ≡ bs
no_plus bs other = grind arith

-- of a word with no plus before it, of at most 8 bytes, the pattern is read, and nothing else is
pub read_as_pattern : {E : Type 0} (bs : List ℕ) (r : Result ℕ E) → length bs ≤ 8 → slice_index bs 0 ≢ 43
    → ParsesUnsigned 32 16 bs r → OkIff r (IsPattern bs) (digits_value 16 bs)
read_as_pattern bs (Ok n) short other parsed =
    let IsRead = λ (ds : List ℕ). (IsNumeral 16 ds × (digits_value 16 ds < 2 ^ 32)) × (n ≡ digits_value 16 ds) in
    let read = subst IsRead (no_plus bs other) parsed in
    ((read.0.0, short), read.1)
read_as_pattern bs (Err e) short other parsed =
    let IsRefused = λ (ds : List ℕ). IsNumeral 16 ds × (digits_value 16 ds < 2 ^ 32) → ⊥ in
    λ pattern. subst IsRefused (no_plus bs other) parsed (pattern.0, pattern_fits bs pattern)
