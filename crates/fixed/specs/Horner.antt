-- A polynomial by Horner's rule in whole numbers. A reader of the promises need not read this. Definitions only.
use Rattle.std.specs.Prelude.{ℕ, ◌+◌, ◌-◌, ◌*◌, ◌/◌, List, [], ◌∷◌}

-- the polynomial with the coefficients cs, lowest first, at f / D, each product cut off to a whole number
unfoldable pub horner : ℕ → List ℕ → ℕ → ℕ
horner D [] f = 0
horner D (c ∷ cs) f = c + horner D cs f * f / D

-- the same with alternating signs: each product, cut off, is taken away
unfoldable pub alternating : ℕ → List ℕ → ℕ → ℕ
alternating D [] f = 0
alternating D (c ∷ cs) f = c - alternating D cs f * f / D

-- every second coefficient, from the first on and from the second on
unfoldable pub alternate : List ℕ → List ℕ
alternate [] = []
alternate (c ∷ []) = c ∷ []
alternate (c ∷ b ∷ cs) = c ∷ alternate cs

unfoldable pub others : List ℕ → List ℕ
unfolding alternate
others [] = []
others (c ∷ cs) = alternate cs

-- the polynomial by two chains in z / D, the square of f / D cut off, which do not wait for each other and meet in one floor
unfoldable pub chains : ℕ → List ℕ → ℕ → ℕ
unfolding horner alternate others
chains D [] f = 0
chains D (c ∷ cs) f = let z = f * f / D in c + (f * horner D (alternate cs) z + z * horner D (others cs) z) / D
