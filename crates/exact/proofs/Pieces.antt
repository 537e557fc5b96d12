-- An inequality of polynomials on an interval, tested piece by piece: on a / N ≤ x / d ≤ b / N the fraction is (a v + b u) / (N v + N u),
-- with u = N x - a d and v = b d - N x at least 0, so a comparison of the coefficients of u and v decides.
use mathlib.Core.Path.{◌≡◌, ap}
use mathlib.Core.Bool.{Bool, false, ◌&&◌}
use mathlib.Core.List.{List, [], ◌∷◌}
use Prim.Native.Nat.{ℕ, zero, suc, ◌+◌, ◌*◌, ◌^◌, ◌≤◌, ◌<◌}
use native.Mathlib.Nat.{le_refl, le_of_lt, lt_of_not-le, le_dest, mul-pos, one-le-pow, le_of_mul-le-mul_right}
use native.Mathlib.Decide.{dec_le}
use native.Mathlib.Omega.{arith}
use lib.Dec.{T, ltb, ltb→lt}
use lib.ListN.{length}
use lib.Ieee.Fits.{and_l, and_r}
use Rattle.exact.specs.Polynomial.{value}
use Rattle.exact.proofs.Power.{mul-pow}
use Rattle.exact.proofs.Polynomial.{value_scale, value_linear}
use Rattle.exact.proofs.Forms.{compose, dominated, value_dominated, value_compose, value-denominator, length_compose, length-denominator}

-- ---- many pieces

-- a test of each piece between a knot and the next, from the knot a on; there is at least one
unfoldable pub each : (ℕ → ℕ → Bool) → ℕ → List ℕ → Bool
each test a [] = false
each test a (b ∷ []) = test a b
each test a (b ∷ e ∷ es) = test a b && each test b (e ∷ es)

-- the last knot
unfoldable pub end : ℕ → List ℕ → ℕ
end a [] = a
end a (b ∷ bs) = end b bs

-- count knots after a, evenly apart
unfoldable pub knots : ℕ → ℕ → ℕ → List ℕ
knots step zero a = []
knots step (suc count) a = (a + step) ∷ knots step count (a + step)

-- what each piece's test shows of the piece's fractions x / d, all tests show of the interval's
pub over : (N : ℕ) (test : ℕ → ℕ → Bool) (S : ℕ → ℕ → Type 0) →
    ((a b : ℕ) → T (test a b) → (x d : ℕ) → a * d ≤ N * x → N * x ≤ b * d → S x d) →
    (a : ℕ) (bs : List ℕ) → T (each test a bs) → (x d : ℕ) → a * d ≤ N * x → N * x ≤ end a bs * d → S x d
unfolding each end
over N test S sound a [] t x d low high = absurd t
over N test S sound a (b ∷ []) t x d low high = sound a b t x d low high
over N test S sound a (b ∷ e ∷ es) t x d low high =
    elim (dec_le (N * x) (b * d)) [
      | yes h ↦ sound a b (and_l (test a b) (each test b (e ∷ es)) t) x d low h
      | no h ↦ over N test S sound b (e ∷ es) (and_r (test a b) (each test b (e ∷ es)) t) x d (le_of_lt (lt_of_not-le h)) high
    ]

-- ---- one piece

-- the fraction x / d of the piece from a / N to b / N, as k times its two numbers are made of u and v
pub record Inside (N a b x d : ℕ) : Type 0 where
  pub u : ℕ
  pub v : ℕ
  pub k : ℕ
  pub pos : 0 < k
  pub at_x : a * v + b * u ≡ x * k
  pub at_d : N * v + N * u ≡ d * k

-- every fraction of the piece is such
pub inside : (N a b x d : ℕ) → 0 < N → a < b → a * d ≤ N * x → N * x ≤ b * d → Inside N a b x d
inside N a b x d pos less low high =
    let (u, eu) = le_dest low in
    let (v, ev) = le_dest high in
    let (w, ew) = le_dest (le_of_lt less) in
    record {
      u = u;
      v = v;
      k = N * w;
      pos = mul-pos pos (omega arith);
      at_x = omega (arith, ap (λ (n : ℕ). b * n) eu, ap (λ (n : ℕ). a * n) ev, ap (λ (n : ℕ). n * (N * x)) ew);
      at_d = omega (arith, ap (λ (n : ℕ). N * n) eu, ap (λ (n : ℕ). N * n) ev, ap (λ (n : ℕ). n * (N * d)) ew);
    }

-- a polynomial of degree n as a form in u and v, and its denominator
unfoldable pub piece : ℕ → ℕ → ℕ → ℕ → List ℕ → List ℕ × List ℕ
unfolding compose
piece N a b n cs = compose (a ∷ b ∷ []) (N ∷ N ∷ []) n cs

module _ {N a b x d : ℕ} (i : Inside N a b x d) (n : ℕ) (cs : List ℕ) where
  -- the form's value
  pub value_piece : length cs ≤ suc n → value (n * 1) (piece N a b n cs).0 i.u i.v ≡ value n cs x d * i.k ^ n
  unfolding piece
  value_piece fits =
      rw (value_compose (a ∷ b ∷ []) (N ∷ N ∷ []) 1 (le_refl 2) (le_refl 2) n cs i.u i.v fits, value_linear, i.at_x, value_linear, i.at_d) (value_scale n cs x d i.k fits)

  -- the denominator's value
  pub denominator_piece : value (n * 1) (piece N a b n cs).1 i.u i.v ≡ d ^ n * i.k ^ n
  unfolding piece
  denominator_piece = rw (value-denominator (a ∷ b ∷ []) (N ∷ N ∷ []) 1 (le_refl 2) (le_refl 2) n cs i.u i.v, value_linear, i.at_d) (mul-pow d i.k n)

-- the form's length
pub length_piece : (N a b n : ℕ) (cs : List ℕ) → length cs ≤ suc n → length (piece N a b n cs).0 ≤ suc (n * 1)
unfolding piece
length_piece N a b n cs fits = length_compose (a ∷ b ∷ []) (N ∷ N ∷ []) 1 (le_refl 2) (le_refl 2) n cs fits

-- the denominator's length
pub length-denominator_piece : (N a b n : ℕ) (cs : List ℕ) → length (piece N a b n cs).1 ≤ suc (n * 1)
unfolding piece
length-denominator_piece N a b n cs = length-denominator (a ∷ b ∷ []) (N ∷ N ∷ []) 1 (le_refl 2) (le_refl 2) n cs

-- ---- one polynomial below another

-- the test of a piece: cs at most bs, both of degree n
unfoldable pub below : ℕ → ℕ → List ℕ → List ℕ → ℕ → ℕ → Bool
unfolding piece dominated
below N n cs bs a b = ltb a b && dominated (piece N a b n cs).0 (piece N a b n bs).0

module _ (N n : ℕ) (cs bs : List ℕ) (pos : 0 < N) (fits : length cs ≤ suc n) (fits' : length bs ≤ suc n) where
  below_piece : (a b : ℕ) → T (below N n cs bs a b) → (x d : ℕ) → a * d ≤ N * x → N * x ≤ b * d → value n cs x d ≤ value n bs x d
  unfolding below
  below_piece a b t x d low high =
      let f = (piece N a b n cs).0 in
      let g = (piece N a b n bs).0 in
      let i = inside N a b x d pos (ltb→lt a b (and_l (ltb a b) (dominated f g) t)) low high in
      le_of_mul-le-mul_right
      (rw (value_piece i n cs fits, value_piece i n bs fits') at (value_dominated (n * 1) f g i.u i.v (and_r (ltb a b) (dominated f g) t)))
      (one-le-pow n i.k i.pos)

  -- the polynomial cs is at most bs from a / N to the last knot
  pub below_sound : (a : ℕ) (es : List ℕ) → T (each (below N n cs bs) a es) → (x d : ℕ) → a * d ≤ N * x → N * x ≤ end a es * d → value n cs x d ≤ value n bs x d
  below_sound = over N (below N n cs bs) (λ x d. value n cs x d ≤ value n bs x d) below_piece
