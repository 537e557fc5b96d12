-- An inequality with a composite on an interval, tested piece by piece: cs(x) us(t(x)) against ds(x) us(t(x)) + bs(x), where t(x) = (plus(x) - minus(x)) / B.
-- It is how a bound us of 2 ^ t meets a polynomial t near log2: (cs - ds)(x) us(t) ≤ bs(x), or ≥.
use mathlib.Core.Path.{◌≡◌, sym, ap}
use mathlib.Core.Bool.{Bool, true, false, ◌&&◌}
use mathlib.Core.List.{List}
use Prim.Native.Nat.{ℕ, suc, ◌+◌, ◌*◌, ◌^◌, ◌≤◌, ◌<◌}
use native.Mathlib.Nat.{mul_comm, mul-mul-mul_comm, le_dest, mul_assoc, add-mul, one-le-pow, le_of_mul-le-mul_right}
use native.Mathlib.Omega.{arith}
use lib.Dec.{T, ltb, ltb→lt}
use lib.ListN.{length}
use lib.Ieee.Fits.{and_l, and_r}
use lib.Pow.{pow-add}
use Rattle.exact.specs.Polynomial.{value}
use Rattle.exact.proofs.Power.{pow-mul}
use Rattle.exact.proofs.Polynomial.{value_scale}
use Rattle.exact.proofs.Forms.{add, scale, subtract, mul, compose, dominated, value-add, value_scale_by, value_subtract, value-mul, value_dominated, value_compose, length_scale, length_subtract, length_compose}
use Rattle.exact.proofs.Pieces.{each, end, over, Inside, inside, piece, value_piece, denominator_piece, length_piece, length-denominator_piece}

-- ---- an inequality either way

-- a ≤ b, or b ≤ a
abbrev pub Ordered : Bool → ℕ → ℕ → Type 0
Ordered true a b = a ≤ b
Ordered false a b = b ≤ a

-- the same of coefficients
unfoldable pub ordered : Bool → List ℕ → List ℕ → Bool
unfolding dominated
ordered true f g = dominated f g
ordered false f g = dominated g f

value_ordered : (up : Bool) (n : ℕ) (f g : List ℕ) (x d : ℕ) → T (ordered up f g) → Ordered up (value n f x d) (value n g x d)
unfolding ordered
value_ordered true n f g x d t = value_dominated n f g x d t
value_ordered false n f g x d t = value_dominated n g f x d t

cancel : (up : Bool) (a b k : ℕ) → 0 < k → Ordered up (a * k) (b * k) → Ordered up a b
cancel true a b k pos h = le_of_mul-le-mul_right h pos
cancel false a b k pos h = le_of_mul-le-mul_right h pos

-- ---- the composite

-- at x / d: t is z / (B d ^ j), with z no less than 0, and the inequality; the degrees of cs and ds, of t and of us are at most n, j and m, and that of bs n + m j
pub record Composite (up : Bool) (n : ℕ) (cs ds : List ℕ) (j : ℕ) (plus minus : List ℕ) (B m : ℕ) (us bs : List ℕ) (x d : ℕ) : Type 0 where
  pub z : ℕ
  pub at_z : z + value j minus x d ≡ value j plus x d
  pub sides : Ordered up (value n cs x d * value m us z (B * d ^ j)) (value n ds x d * value m us z (B * d ^ j) + B ^ m * value (n + m * j) bs x d)

-- a difference of multiples is a multiple
split : (f m p k : ℕ) → 0 < k → f + m * k ≡ p * k → (z : ℕ) × (z + m ≡ p) × (f ≡ z * k)
split f m p k pos e =
    let less : m * k ≤ p * k = omega arith in
    let (z, sum) = le_dest (le_of_mul-le-mul_right less pos) in
    (z, omega arith, omega (arith, ap (λ (y : ℕ). y * k) sum))

module _ (up : Bool) (N n : ℕ) (cs ds : List ℕ) (j : ℕ) (plus minus : List ℕ) (B m : ℕ) (us bs : List ℕ) where
  -- the numerator of t, as a form
  unfoldable pub top : ℕ → ℕ → List ℕ
  unfolding piece subtract
  top a b = subtract (piece N a b j plus).0 (piece N a b j minus).0

  -- us at t, as a form
  unfoldable pub inner : ℕ → ℕ → List ℕ
  unfolding piece compose scale top
  inner a b = (compose (top a b) (scale B (piece N a b j plus).1) m us).0

  -- the test of a piece
  unfoldable pub composite : ℕ → ℕ → Bool
  unfolding piece inner add mul scale dominated ordered
  composite a b =
      let f = inner a b in
      ltb a b && (dominated (piece N a b j minus).0 (piece N a b j plus).0
      && ordered up (mul (piece N a b n cs).0 f) (add (mul (piece N a b n ds).0 f) (scale (B ^ m) (piece N a b (n + m * j) bs).0)))

  module _ (fits-cs : length cs ≤ suc n) (fits-ds : length ds ≤ suc n) (fits-plus : length plus ≤ suc j) (fits-minus : length minus ≤ suc j) (fits-us : length us ≤ suc m) (fits-bs : length bs ≤ suc (n + m * j)) where
    module _ {a b x d : ℕ} (i : Inside N a b x d) where
      value_top : T (dominated (piece N a b j minus).0 (piece N a b j plus).0) →
          (z : ℕ) × (z + value j minus x d ≡ value j plus x d) × (value (j * 1) (top a b) i.u i.v ≡ z * i.k ^ j)
      unfolding top
      value_top t =
          split (value (j * 1) (top a b) i.u i.v) (value j minus x d) (value j plus x d) (i.k ^ j) (one-le-pow j i.k i.pos)
          (rw (value_piece i j minus fits-minus, value_piece i j plus fits-plus)
          at (value_subtract (j * 1) (piece N a b j plus).0 (piece N a b j minus).0 i.u i.v t))

      fits_top : length (top a b) ≤ suc (j * 1)
      unfolding top
      fits_top = rw length_subtract (length_piece N a b j plus fits-plus)

      fits_bottom : length (scale B (piece N a b j plus).1) ≤ suc (j * 1)
      fits_bottom = rw length_scale (length-denominator_piece N a b j plus)

      fits_inner : length (inner a b) ≤ suc (m * (j * 1))
      unfolding inner
      fits_inner = length_compose (top a b) (scale B (piece N a b j plus).1) (j * 1) fits_top fits_bottom m us fits-us

      value_inner : (z : ℕ) → value (j * 1) (top a b) i.u i.v ≡ z * i.k ^ j → value (m * (j * 1)) (inner a b) i.u i.v ≡ value m us z (B * d ^ j) * (i.k ^ j) ^ m
      unfolding inner
      value_inner z e =
          rw (
            value_compose (top a b) (scale B (piece N a b j plus).1) (j * 1) fits_top fits_bottom m us i.u i.v fits-us,
            e,
            value_scale_by (j * 1) B (piece N a b j plus).1 i.u i.v,
            denominator_piece i j plus,
            ← mul_assoc B (d ^ j) (i.k ^ j),
          )
          (value_scale m us z (B * d ^ j) (i.k ^ j) fits-us)

      -- a polynomial of degree n times us(t)
      value-product : (es : List ℕ) → length es ≤ suc n → (z : ℕ) → value (j * 1) (top a b) i.u i.v ≡ z * i.k ^ j →
          value (n * 1 + m * (j * 1)) (mul (piece N a b n es).0 (inner a b)) i.u i.v ≡ value n es x d * value m us z (B * d ^ j) * i.k ^ (n + m * j)
      value-product es fits z e =
          rw (
            value-mul (n * 1) (m * (j * 1)) (piece N a b n es).0 (inner a b) i.u i.v (length_piece N a b n es fits) fits_inner,
            value_piece i n es fits,
            value_inner z e,
            pow-add i.k n (m * j),
            mul_comm m j,
            pow-mul i.k j m,
          )
          (mul-mul-mul_comm (value n es x d) (i.k ^ n) (value m us z (B * d ^ j)) ((i.k ^ j) ^ m))

      value-bound : value (n * 1 + m * (j * 1)) (scale (B ^ m) (piece N a b (n + m * j) bs).0) i.u i.v ≡ B ^ m * value (n + m * j) bs x d * i.k ^ (n + m * j)
      value-bound =
          let e : n * 1 + m * (j * 1) ≡ (n + m * j) * 1 = omega arith in
          rw (e, value_scale_by ((n + m * j) * 1) (B ^ m) (piece N a b (n + m * j) bs).0 i.u i.v, value_piece i (n + m * j) bs fits-bs)
          (sym (mul_assoc (B ^ m) (value (n + m * j) bs x d) (i.k ^ (n + m * j))))

      value-sum : (z : ℕ) → value (j * 1) (top a b) i.u i.v ≡ z * i.k ^ j →
          value (n * 1 + m * (j * 1)) (add (mul (piece N a b n ds).0 (inner a b)) (scale (B ^ m) (piece N a b (n + m * j) bs).0)) i.u i.v
          ≡ (value n ds x d * value m us z (B * d ^ j) + B ^ m * value (n + m * j) bs x d) * i.k ^ (n + m * j)
      value-sum z e =
          rw (value-add (n * 1 + m * (j * 1)) (mul (piece N a b n ds).0 (inner a b)) (scale (B ^ m) (piece N a b (n + m * j) bs).0) i.u i.v, value-product ds fits-ds z e, value-bound)
          (sym (add-mul (value n ds x d * value m us z (B * d ^ j)) (B ^ m * value (n + m * j) bs x d) (i.k ^ (n + m * j))))

    composite_piece : 0 < N → (a b : ℕ) → T (composite a b) → (x d : ℕ) → a * d ≤ N * x → N * x ≤ b * d → Composite up n cs ds j plus minus B m us bs x d
    unfolding composite
    composite_piece pos a b t x d low high =
        let left = mul (piece N a b n cs).0 (inner a b) in
        let right = add (mul (piece N a b n ds).0 (inner a b)) (scale (B ^ m) (piece N a b (n + m * j) bs).0) in
        let signs = dominated (piece N a b j minus).0 (piece N a b j plus).0 in
        let rest = and_r (ltb a b) (signs && ordered up left right) t in
        let i = inside N a b x d pos (ltb→lt a b (and_l (ltb a b) (signs && ordered up left right) t)) low high in
        let (z, sum, at_top) = value_top i (and_l signs (ordered up left right) rest) in
        record {
          z = z;
          at_z = sum;
          sides = cancel up (value n cs x d * value m us z (B * d ^ j)) (value n ds x d * value m us z (B * d ^ j) + B ^ m * value (n + m * j) bs x d) (i.k ^ (n + m * j))
              (one-le-pow (n + m * j) i.k i.pos)
              (rw (value-product i cs fits-cs z at_top, value-sum i z at_top)
              at (value_ordered up (n * 1 + m * (j * 1)) left right i.u i.v (and_r signs (ordered up left right) rest)));
        }

    -- the inequality holds from a / N to the last knot
    pub composite_sound : 0 < N → (a : ℕ) (es : List ℕ) → T (each composite a es) → (x d : ℕ) → a * d ≤ N * x → N * x ≤ end a es * d → Composite up n cs ds j plus minus B m us bs x d
    composite_sound pos = over N composite (Composite up n cs ds j plus minus B m us bs) (composite_piece pos)
