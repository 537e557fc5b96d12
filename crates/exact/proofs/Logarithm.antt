-- A polynomial t(x) = (plus(x) - minus(x)) / unit near a logarithm: 2 ^ (t lo / hi) ≤ bs(x) / (cs - ds)(x) ≤ 2 ^ (t hi / lo) on an interval, where a computed test passes.
-- The slack is a factor of t, so that it holds down to t = 0.
use mathlib.Core.Path.{◌≡◌, refl, sym, ap}
use mathlib.Core.Bool.{Bool, true, false}
use mathlib.Core.List.{List}
use Prim.Native.Nat.{ℕ, suc, ◌+◌, ◌*◌, ◌^◌, ◌≤◌, ◌<◌}
use native.Mathlib.Nat.{le_of_eq, add_comm, one-le-mul, one-le-pow}
use native.Mathlib.Omega.{arith}
use lib.Dec.{T}
use lib.ListN.{length}
use Rattle.exact.specs.Power.{AtMost, AtLeast}
use Rattle.exact.specs.Polynomial.{value}
use Rattle.exact.proofs.Power.{most_of_less, least_of_more}
use Rattle.exact.proofs.Forms.{scale, value_scale_by, value_raise, length_scale}
use Rattle.exact.proofs.Pieces.{each, end}
use Rattle.exact.proofs.Composite.{Composite, composite, composite_sound}
use Rattle.exact.proofs.Enclosure.{Above, Below, above_composite, below_composite}

-- t times f / g: the numerators of t are multiplied by f, its unit by g. The degrees of cs, ds and bs are at most n, those of plus and minus j, that of us m
module _ (n : ℕ) (cs ds bs : List ℕ) (j : ℕ) (plus minus : List ℕ) (unit f g m : ℕ) (us : List ℕ) (K N a : ℕ) (es : List ℕ) where
  -- the test on the pieces from the knot a on: (cs - ds)(x) us(t f / g) ≤ K bs(x), or ≥
  unfoldable pub exponent : Bool → Bool
  unfolding each composite scale
  exponent up = each (composite up N n cs ds j (scale f plus) (scale f minus) (unit * g) m us (scale K bs)) a es

  abbrev Tested : Bool → ℕ → ℕ → Type 0
  Tested up x d = Composite up n cs ds j (scale f plus) (scale f minus) (unit * g) m us (scale K bs) x d

  module _ (pos : 0 < N) (fits-cs : length cs ≤ suc n) (fits-ds : length ds ≤ suc n) (fits-bs : length bs ≤ suc n) (fits-plus : length plus ≤ suc j) (fits-minus : length minus ≤ suc j) where
    tested : length us ≤ suc m → (up : Bool) → T (exponent up) → (x d : ℕ) → a * d ≤ N * x → N * x ≤ end a es * d → Tested up x d
    unfolding exponent
    tested fits-us up =
        composite_sound up N n cs ds j (scale f plus) (scale f minus) (unit * g) m us (scale K bs)
        fits-cs fits-ds (rw length_scale fits-plus) (rw length_scale fits-minus) fits-us (rw length_scale (omega arith)) pos a es

    -- at x / d of the interval, with t = z / (unit d ^ j) and E = (cs - ds)(x) above zero
    module _ (x d : ℕ) (dpos : 0 < d) (low : a * d ≤ N * x) (high : N * x ≤ end a es * d) (z E : ℕ) (at_z : z + value j minus x d ≡ value j plus x d) (rest : E + value n ds x d ≡ value n cs x d) (Epos : 0 < E) (width : 0 < unit * g) where
      numerator : (up : Bool) (c : Tested up x d) → c.z ≡ f * z
      numerator up c = through c.z (value j minus x d) (value j plus x d) (rw (value_scale_by, value_scale_by) at c.at_z) at_z
        where
          through : (y M P : ℕ) → y + f * M ≡ f * P → z + M ≡ P → y ≡ f * z
          through y M P h l = omega (arith, ap (λ (k : ℕ). f * k) l)

      numbers : value (n + m * j) (scale K bs) x d ≡ K * (d ^ (m * j) * value n bs x d)
      numbers = rw (value_scale_by (n + m * j) K bs x d, add_comm n (m * j), value_raise (m * j) n bs x d fits-bs) refl

      wide : 0 < unit * g * d ^ j
      wide = one-le-mul width (one-le-pow j d dpos)

      same : (D F : ℕ) → K * (D * F) * E ≡ F * (K * D * E)
      same D F = omega arith

      below_one : 0 < K → 0 < K * d ^ (m * j) * E
      below_one unit = one-le-mul (one-le-mul unit (one-le-pow (m * j) d dpos)) Epos

      -- 2 ^ (t f / g) ≤ bs(x) / (cs - ds)(x)
      pub exponent_least : Above m us K → T (exponent true) → f * z ≤ unit * g * d ^ j → AtLeast (value n bs x d) E (f * z) 0 (unit * g * d ^ j)
      exponent_least e t small = least_of_more Epos (le_of_eq (same (d ^ (m * j)) (value n bs x d))) found
        where
          found : AtLeast (K * (d ^ (m * j) * value n bs x d)) (K * d ^ (m * j) * E) (f * z) 0 (unit * g * d ^ j)
          found =
              let c = tested e.fits true t x d low high in
              rw (numbers, numerator true c) at (above_composite wide E rest (below_one e.unit) e c (rw (numerator true c) small))

      -- bs(x) / (cs - ds)(x) ≤ 2 ^ (t f / g)
      pub exponent_most : Below m us K → T (exponent false) → AtMost (value n bs x d) E (f * z) 0 (unit * g * d ^ j)
      exponent_most e t =
          let c = tested e.fits false t x d low high in
          most_of_less Epos (le_of_eq (sym (same (d ^ (m * j)) (value n bs x d)))) (rw (numbers, numerator false c) at (below_composite wide E rest (below_one e.unit) e c))
