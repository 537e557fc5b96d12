-- Distances in units of the computation, and as they are stated. Assumes nothing.
use mathlib.Core.Path.{◌≡◌}
use Prim.Native.Nat.{ℕ, zero, suc, ◌+◌, ◌-◌, ◌*◌, ◌≤◌, ◌<◌}
use native.Mathlib.Nat.{mul-le-mul_right}
use native.Mathlib.Omega.{arith}
use Rattle.exact.proofs.Power.{most_of_less, least_of_more}
use Rattle.gaps.specs.Apart.{Apart, above, below}
use Rattle.gaps.proofs.Stretch.{Away, over, under}

-- the same distance in finer units
pub apart : {p Q : ℕ} (a G D : ℕ) → 0 < D → Away (a * G) G (D * G) p Q → Apart a D p Q
apart a G D pos (over h) = above (most_of_less pos (omega arith) h)
apart a G D pos (under u less h) = below (least_of_more pos (through a less) h)
  where
    through : (n : ℕ) → u + G ≤ n * G → u * D ≤ (n - 1) * (D * G)
    through zero l = omega (arith, mul-le-mul_right D l)
    through (suc n) l = let e : suc n - 1 ≡ n = omega arith in rw e (omega (arith, mul-le-mul_right D l))
