-- The polynomial against the sine of a quarter turn, and read from the quarter's end against the cosine: within a quarter of a unit of 2 ^ -32. Assumes nothing.
use Rattle.std.proofs.Common.{◌≡◌, ℕ, ◌+◌, ◌*◌, ◌^◌, ◌<◌, ◌≤◌, Bool, true, false, T, List, [], ◌∷◌, length, refl, mul-le-mul_left, one-mul, arith, lit<, lit≤}
use Rattle.exact.specs.Polynomial.{value}
use Rattle.exact.specs.Series.{partial, denominator, fourth, LimitNear}
use Rattle.exact.specs.Circle.{quarter, quarter_unit}
use Rattle.exact.proofs.Polynomial.{odd, spread}
use Rattle.exact.proofs.Forms.{add, value-add, length-add}
use Rattle.exact.proofs.Pieces.{each, below, below_sound, knots, end}
use Rattle.exact.proofs.Mirror.{mirror, value_mirror}
use Rattle.exact.proofs.Series.{fourth_most}
use Rattle.exact.proofs.Approximation.{not_above, near_polynomial}
use Rattle.fixed.proofs.Alternating.{signed}
use Rattle.circle.specs.Kernel.{kernel_first, kernel_rest}

-- all coefficients, for the powers of t ^ 2, in units of 2 ^ -32
abbrev pub D : ℕ
D = 2 ^ 32

unfoldable pub coefficients : List ℕ
unfolding kernel_rest
coefficients = (2 * kernel_first) ∷ kernel_rest

-- the polynomial in t: what is added (true), and what is taken away
unfoldable pub part : Bool → List ℕ
unfolding coefficients signed spread
part s = odd (signed s coefficients)

-- the same read from the other end, 1 - t
unfoldable pub mirrored : Bool → List ℕ
unfolding part mirror add
mirrored true = add (mirror 1 11 (part true)).0 (mirror 1 11 (part false)).1
mirrored false = add (mirror 1 11 (part true)).1 (mirror 1 11 (part false)).0

-- ---- the tests, at the order 20 and in 16 pieces

-- the sums with the weights f less those with g are nowhere below the difference of two polynomials by more than a quarter of a unit
abbrev Test : (ℕ → ℕ) → (ℕ → ℕ) → List ℕ → List ℕ → Type 0
Test f g cs bs = T (not_above 9 11 quarter quarter_unit D 1 (4 * D) 16 (knots 1 16 0) f g cs bs)

sine_least : Test (fourth 1) (fourth 3) (part true) (part false)
unfolding not_above quarter quarter_unit fourth part knots
sine_least = tt

sine_most : Test (fourth 3) (fourth 1) (part false) (part true)
unfolding not_above quarter quarter_unit fourth part knots
sine_most = tt

cosine_least : Test (fourth 0) (fourth 2) (mirrored true) (mirrored false)
unfolding not_above quarter quarter_unit fourth mirrored knots
cosine_least = tt

cosine_most : Test (fourth 2) (fourth 0) (mirrored false) (mirrored true)
unfolding not_above quarter quarter_unit fourth mirrored knots
cosine_most = tt

part_length : (s : Bool) → length (part s) ≤ 12
unfolding part
part_length true = lit≤ tt
part_length false = lit≤ tt

mirrored_length : (s : Bool) → length (mirrored s) ≤ 12
unfolding mirrored
mirrored_length true = lit≤ tt
mirrored_length false = lit≤ tt

module _ (x d : ℕ) (pos : 0 < d) (small : x ≤ d) where
  near : (f g : ℕ → ℕ) → ((i : ℕ) → f i ≤ 1) → ((i : ℕ) → g i ≤ 1) → (cs bs : List ℕ) → length cs ≤ 12 → length bs ≤ 12 → Test f g cs bs → Test g f bs cs →
      LimitNear (partial f (quarter * x) (quarter_unit * d)) (partial g (quarter * x) (quarter_unit * d)) (denominator (quarter_unit * d)) (value 11 cs x d) (value 11 bs x d) (D * d ^ 11) 1 (4 * D)
  unfolding quarter quarter_unit knots end
  near f g f-small g-small cs bs fits fits' low high =
      near_polynomial 9 11 quarter quarter_unit D 1 (4 * D) 16 (knots 1 16 0) (lit< tt) refl (lit< tt) (lit≤ tt) f g f-small g-small cs bs fits fits' low high x d pos small

  -- the sine of x / d quarter turns
  pub sine-near :
      LimitNear (partial (fourth 1) (quarter * x) (quarter_unit * d)) (partial (fourth 3) (quarter * x) (quarter_unit * d)) (denominator (quarter_unit * d)) (value 11 (part true) x d) (value 11 (part false) x d)
      (D * d ^ 11) 1 (4 * D)
  sine-near = near (fourth 1) (fourth 3) (fourth_most 1) (fourth_most 3) (part true) (part false) (part_length true) (part_length false) sine_least sine_most

  -- the cosine, as read from the other end
  pub cosine-near :
      LimitNear (partial (fourth 0) (quarter * x) (quarter_unit * d)) (partial (fourth 2) (quarter * x) (quarter_unit * d)) (denominator (quarter_unit * d)) (value 11 (mirrored true) x d)
      (value 11 (mirrored false) x d) (D * d ^ 11) 1 (4 * D)
  cosine-near = near (fourth 0) (fourth 2) (fourth_most 0) (fourth_most 2) (mirrored true) (mirrored false) (mirrored_length true) (mirrored_length false) cosine_least cosine_most

-- what is read from the other end is the polynomial at 1 - t
pub mirrored_same : (x y d : ℕ) → y + x ≡ d → value 11 (mirrored true) x d + value 11 (part false) y d ≡ value 11 (mirrored false) x d + value 11 (part true) y d
unfolding mirrored
mirrored_same x y d whole =
    rw (value-add 11 (mirror 1 11 (part true)).0 (mirror 1 11 (part false)).1 x d, value-add 11 (mirror 1 11 (part true)).1 (mirror 1 11 (part false)).0 x d)
    (omega (arith, at true, at false))
  where
    at : (s : Bool) → value 11 (part s) y d + value 11 (mirror 1 11 (part s)).1 x d ≡ value 11 (mirror 1 11 (part s)).0 x d
    at s = rw one-mul at (value_mirror 1 11 (part s) x d y (part_length s) (rw one-mul whole))

-- up to its end the polynomial is at most a unit above 1
top_test : T (each (below 4 11 (part true) (add (part false) ((D + 1) ∷ []))) 0 (knots 1 4 0))
unfolding part each below knots add
top_test = tt

pub part_most : (x d : ℕ) → x ≤ d → value 11 (part true) x d ≤ value 11 (part false) x d + (D + 1) * d ^ 11
unfolding knots end
part_most x d small =
    rw (value-add 11 (part false) ((D + 1) ∷ []) x d, constant)
    at (below_sound 4 11 (part true) (add (part false) ((D + 1) ∷ [])) (lit< tt) (part_length true) (length-add 12 (part false) ((D + 1) ∷ []) (part_length false) (lit≤ tt)) 0 (knots 1 4 0) top_test x d (omega arith) (mul-le-mul_left 4 small))
  where
    constant : value 11 ((D + 1) ∷ []) x d ≡ (D + 1) * d ^ 11
    constant = unfold value in omega arith
