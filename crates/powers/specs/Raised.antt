-- 2 ^ t for a fraction t from 0 to 1, as the program computes it. A reader of the promises need not read this. Definitions only.
-- Proofs outside of proofs/Method.antt cite the laws of `raised`, never its text: another polynomial, or another way to add it up, is a change to this file, to that one and to the function `raise`.
use Rattle.std.specs.Prelude.{ℕ, ◌^◌, List, [], ◌∷◌}
use Rattle.fixed.specs.Horner.{chains}

-- the coefficients of a polynomial near 2 ^ t, in units of 2 ^ -32; tools/exp2.py finds them
unfoldable pub coefficients : List ℕ
coefficients =
    (2 ^ 32) ∷ 0xb1721808 ∷ 0x3d7f7a4b ∷ 0x0e3593ba ∷ 0x02761501 ∷ 0x0057f139 ∷ 0x00096c36 ∷ 0x00016783 ∷ []

-- 2 ^ (f / 2 ^ 32) in units of 2 ^ -32, but for a few of them
unfoldable pub raised : ℕ → ℕ
unfolding coefficients
raised f = chains (2 ^ 32) coefficients f
