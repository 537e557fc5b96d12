-- Adding -0 changes no float, not even the sign of a zero. Assumes nothing.
use mathlib.Core.Path.{◌≡◌, refl, sym, ap, ap₂, ◌∙◌}
use mathlib.Core.Bool.{Bool, true, false}
use Prim.Native.Nat.{ℕ, ◌+◌, ◌-◌, ◌*◌, ◌/◌, ◌^◌}
use native.Mathlib.Nat.{lt_of_le_of_lt, le_of_eq, mul-one}
use native.Mathlib.Omega.{arith}
use lib.IntN.{ℤ}
use lib.Dec.{T}
use lib.Pow.{pow_pos}
use borrow.Author.Tests.{le-ltb}
use lib.Ieee.{Float, nan, inf, fin, up, down, binary32, size, fits, of_bits, round, sum, add}
use lib.Ieee.Bits.{of_bits-to_bits}
use lib.Ieee.Exact.{round_exact}
use lib.Ieee.Fits.{down_pos, round-fits}
use lib.Ieee.Scale.{round_same}
use Rattle.units.specs.Units.{mag, negative, Number}
use Rattle.units.proofs.Size.{mag_exact, value-mag, mag-lt, mag_digits, finite_of_mag}
use Rattle.units.proofs.Rounded.{round_real}
use Rattle.units.proofs.Bits.{sign_bit, pattern}

-- a finite float is known by its sign and its size
same_float : (x y : Float) → Number x → Number y → negative x ≡ negative y → mag x ≡ mag y → x ≡ y
same_float x y h k s m =
    sym (of_bits-to_bits binary32 x h.fits32)
    ∙ ap (of_bits binary32) (pattern x h ∙ ap₂ (λ (t : Bool) (n : ℕ). sign_bit t + (size n - 24) * 8388608 + n / 2 ^ (size n - 24)) s m ∙ sym (pattern y k))
    ∙ of_bits-to_bits binary32 y k.fits32

-- rounding leaves it as it is
round_own : (s : Bool) (m : ℕ) (e : ℤ) → T (fits binary32 (fin s m e)) → round binary32 s (m * up e) (down e) ≡ fin s m e
unfolding negative
round_own s m e f =
    round_same binary32 s (m * up e) (down e) (mag x) (2 ^ 149) (down_pos e) (pow_pos 149) (sym (mag_exact s m e f))
    ∙ same_float z x (finite_of_mag z (round-fits binary32 s (mag x) (2 ^ 149)) (round_real s (mag x) (2 ^ 149)) (lt_of_le_of_lt (le_of_eq is.0) (mag-lt x n))) n is.1 is.0
  where
    x : Float
    x = fin s m e

    n : Number x
    n = record { fits32 = f; is_finite = tt }

    z : Float
    z = round binary32 s (mag x) (2 ^ 149)

    is : (mag z ≡ mag x) × (negative z ≡ s)
    is =
        let d = mag_digits x n in
        value-mag z s (mag x)
        (round_exact binary32 s (mag x) (2 ^ 149) d.0 d.1 (pow_pos 149) d.2 (lt_of_le_of_lt (le_of_eq (sym d.3)) (mag-lt x n)) (ap (λ (u : ℕ). u * 2 ^ 149) d.3))

-- a size and nothing, with the sign -
sum_nothing : (s : Bool) (a b c : ℕ) → b ≡ 0 → sum binary32 s a true b c ≡ round binary32 s a c
unfolding sum
sum_nothing true a b c z = ap (λ (n : ℕ). round binary32 true n c) (omega arith)
sum_nothing false a b c z = rw (z, le-ltb a 0 (omega arith)) (ap (λ (n : ℕ). round binary32 false n c) (omega arith))

-- -0 is the pattern of the sign alone
pub add_minus_zero : (x : Float) → T (fits binary32 x) → add binary32 x (of_bits binary32 2147483648) ≡ x
unfolding add of_bits
add_minus_zero nan f = refl
add_minus_zero (inf s) f = refl
add_minus_zero (fin s m e) f =
    sum_nothing s (m * up e * 1) (0 * 1 * down e) (down e * 1) (omega arith)
    ∙ ap₂ (round binary32 s) (mul-one (m * up e)) (mul-one (down e))
    ∙ round_own s m e f
