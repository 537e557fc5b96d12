-- Change request Q10's own bound, |r - exact| ≤ u |exact| + G ^ 2 (sum of |a_i b_i|) with G = n u / (1 - n u), from the promise: the second term is not needed. Assumes nothing.
use mathlib.Core.List.{List}
use Prim.Native.Nat.{ℕ, ◌+◌, ◌-◌, ◌*◌, ◌^◌, ◌≤◌}
use native.Mathlib.Nat.{le_trans, le-add_right, mul-le-mul_right}
use lib.ListN.{length}
use lib.Ieee.{Float}
use Rattle.sums.specs.Sum.{apart, size}
use Rattle.sums.specs.Dot.{sum_over}
use Rattle.exactsums.specs.Nearest.{Accepts, NearestDot, positives, negatives, distance}

-- G is n / (2 ^ 24 - n): both sides are multiplied by 2 ^ 24 (2 ^ 24 - n) ^ 2
pub as_asked : (a b : List Float) {code : ℕ} {r : Float} → Accepts a b → NearestDot a b code r
    → distance r (positives a b) (negatives a b) * 2 ^ 24 * (2 ^ 24 - length a) ^ 2 ≤ apart (positives a b) (negatives a b) * (2 ^ 24 - length a) ^ 2 + 2 ^ 24 * length a ^ 2 * sum_over size a b
as_asked a b h x = le_trans (mul-le-mul_right ((2 ^ 24 - length a) ^ 2) (x.near h)) (le-add_right (apart (positives a b) (negatives a b) * (2 ^ 24 - length a) ^ 2) (2 ^ 24 * length a ^ 2 * sum_over size a b))
