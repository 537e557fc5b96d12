-- A polynomial near 2 ^ t: cs(t) / unit is between lo / hi and hi / lo times 2 ^ t, for every fraction t from 0 to 1, where two computed tests pass.
use mathlib.Core.Path.{◌≡◌}
use mathlib.Core.Bool.{Bool}
use mathlib.Core.List.{List}
use Prim.Native.Nat.{ℕ, suc, ◌+◌, ◌*◌, ◌^◌, ◌≤◌, ◌<◌}
use native.Mathlib.Nat.{one-le-mul, one-le-pow, mul-le-mul_left, mul-le-mul_right}
use native.Mathlib.Omega.{arith}
use lib.Dec.{T}
use lib.ListN.{length}
use lib.Pow.{pow-add}
use Rattle.exact.specs.Power.{AtMost, AtLeast}
use Rattle.exact.specs.Polynomial.{value}
use Rattle.exact.proofs.Power.{most_of_less, least_of_more}
use Rattle.exact.proofs.Forms.{scale, value_scale_by, value_raise, length_scale}
use Rattle.exact.proofs.Pieces.{each, end, below, below_sound}
use Rattle.exact.proofs.Enclosure.{Above, Below}

-- cs has degree n at most, the bound us of 2 ^ t degree k + n, in units of 1 / K; N knots es cut the interval from 0 to 1
module _ (n k : ℕ) (cs : List ℕ) (unit hi lo : ℕ) (us : List ℕ) (K N : ℕ) (es : List ℕ) where
  -- us(t) / K ≤ (hi / lo) cs(t) / unit
  unfoldable pub high_enough : Bool
  unfolding each below scale
  high_enough = each (below N (k + n) (scale (unit * lo) us) (scale (K * hi) cs)) 0 es

  -- cs(t) / unit ≤ (hi / lo) us(t) / K
  unfoldable pub low_enough : Bool
  unfolding each below scale
  low_enough = each (below N (k + n) (scale (K * lo) cs) (scale (unit * hi) us)) 0 es

  module _ (pos : 0 < N) (whole : end 0 es ≡ N) (fits : length cs ≤ suc n) (p q : ℕ) (qpos : 0 < q) (small : p ≤ q) (upos : 0 < unit) where
    within : N * p ≤ end 0 es * q
    within = rw whole (mul-le-mul_left N small)

    -- 2 ^ t ≤ (hi / lo) cs(t) / unit
    pub near_least : 0 < lo → Above (k + n) us K → T high_enough → AtLeast (hi * value n cs p q) (lo * (unit * q ^ n)) p 0 q
    unfolding high_enough
    near_least lpos e t =
        least_of_more (one-le-mul lpos (one-le-mul upos (one-le-pow n q qpos)))
        (through (value (k + n) us p q) (value n cs p q) (q ^ k) (q ^ n) under) (rw pow-add at (e.bound p q qpos small))
      where
        under : unit * lo * value (k + n) us p q ≤ K * hi * (q ^ k * value n cs p q)
        under =
            rw (value_scale_by (k + n) (unit * lo) us p q, value_scale_by (k + n) (K * hi) cs p q, value_raise k n cs p q fits)
            at (below_sound N (k + n) (scale (unit * lo) us) (scale (K * hi) cs) pos (rw length_scale e.fits) (rw length_scale (omega arith)) 0 es t p q (omega arith) within)

        through : (U C Q R : ℕ) → unit * lo * U ≤ K * hi * (Q * C) → U * (lo * (unit * R)) ≤ hi * C * (K * (Q * R))
        through U C Q R h = omega (arith, mul-le-mul_right R h)

    -- cs(t) / unit ≤ (hi / lo) 2 ^ t
    pub near_most : 0 < hi → Below (k + n) us K → T low_enough → AtMost (lo * value n cs p q) (hi * (unit * q ^ n)) p 0 q
    unfolding low_enough
    near_most hpos e t =
        most_of_less (one-le-mul hpos (one-le-mul upos (one-le-pow n q qpos)))
        (through (value (k + n) us p q) (value n cs p q) (q ^ k) (q ^ n) under) (rw pow-add at (e.bound p q qpos))
      where
        under : K * lo * (q ^ k * value n cs p q) ≤ unit * hi * value (k + n) us p q
        under =
            rw (value_scale_by (k + n) (K * lo) cs p q, value_scale_by (k + n) (unit * hi) us p q, value_raise k n cs p q fits)
            at (below_sound N (k + n) (scale (K * lo) cs) (scale (unit * hi) us) pos (rw length_scale (omega arith)) (rw length_scale e.fits) 0 es t p q (omega arith) within)

        through : (U C Q R : ℕ) → K * lo * (Q * C) ≤ unit * hi * U → lo * C * (K * (Q * R)) ≤ U * (hi * (unit * R))
        through U C Q R h = omega (arith, mul-le-mul_right R h)
