-- A quarter of the sine as the program computes it. A reader of the promises need not read this. Definitions only.
-- Proofs outside of proofs/Method.antt and proofs/Rounding.antt cite laws of `quarter_sine`, never its text; only its values at a quarter's ends are computed.
use Rattle.std.specs.Prelude.{ℕ, ◌-◌, ◌*◌, ◌/◌, List, [], ◌∷◌}
use Rattle.fixed.specs.Horner.{alternating}

-- sin (pi t / 2) is near t (first - rest(t ^ 2) t ^ 2), the signs of rest alternating; tools/circle.py finds the coefficients
-- the first is in units of 2 ^ -31
abbrev pub kernel_first : ℕ
kernel_first = 0xc90fdaa2

-- the others in units of 2 ^ -32
abbrev pub kernel_second : ℕ
kernel_second = 0xa55de723

unfoldable pub kernel_rest : List ℕ
kernel_rest = kernel_second ∷ 0x1466bbde ∷ 0x0132d0c8 ∷ 0x000a8033 ∷ 0x0000396a ∷ []

-- the square of t = w / 2 ^ 32, in units of 2 ^ -32, cut off
abbrev pub square_of : ℕ → ℕ
square_of w = w * w / 4294967296

-- what t is multiplied by, in units of 2 ^ -31
unfoldable pub slope_of : ℕ → ℕ
unfolding kernel_rest
slope_of w = kernel_first - alternating 4294967296 kernel_rest (square_of w) * square_of w / 8589934592

-- sin (pi / 2 * w / 2 ^ 32) in units of 2 ^ -32, but for a few of them
unfoldable pub quarter_sine : ℕ → ℕ
quarter_sine w = w * slope_of w / 2147483648
