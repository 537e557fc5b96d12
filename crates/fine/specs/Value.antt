-- 2 ^ t - 1 for a fraction t, to 58 digits after the point, as the program computes it: where a result in 32 digits leaves open which float is the nearest, this decides. A reader
-- of the promises need not read this. Definitions only.
use Rattle.std.specs.Prelude.{List, [], ◌∷◌, ℕ, ◌*◌, ◌/◌, ◌^◌}
use Rattle.fixed.specs.Horner.{horner}

-- the power series of 2 ^ t after the 1, in units of 2 ^ -64, cut off; tools/enclosure.py finds them
unfoldable pub coefficients : List ℕ
coefficients =
    0xb17217f7d1cf79ab ∷ 0x3d7f7bff058b1d50 ∷ 0xe35846b82505fc5 ∷ 0x276556df749cee5 ∷ 0x5761ff9e299cc4 ∷ 0xa184897c363c3 ∷ 0xffe5fe2c4586 ∷ 0x162c0223a5c8 ∷ 0x1b5253d395e ∷ 0x1e4cf5158b ∷ 0x1e8cac735 ∷ 0x1c3bd650 ∷ 0x1816193 ∷ 0x131496 ∷ 0xe1b7 ∷ 0x9c7 ∷ 0x66 ∷ []

-- 2 ^ (t / 2 ^ 64) - 1 in units of 2 ^ -64, but for a few of them: never above it
unfoldable pub fine_of : ℕ → ℕ
fine_of t = horner (2 ^ 64) coefficients t * t / 2 ^ 64
