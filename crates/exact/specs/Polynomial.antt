-- Polynomials with whole coefficients, at a fraction. A reader of the promises need not read this. Definitions only.
use Rattle.std.specs.Prelude.{ℕ, pred, ◌+◌, ◌*◌, ◌^◌, List, [], ◌∷◌}

-- the polynomial with the coefficients cs, lowest first, at x / d, times d ^ n; n is at least its degree
unfoldable pub value : ℕ → List ℕ → ℕ → ℕ → ℕ
value n [] x d = 0
value n (c ∷ cs) x d = c * d ^ n + x * value (pred n) cs x d
