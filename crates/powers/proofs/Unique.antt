-- One right answer for each input: two finite floats that are both nearest to 2 ^ x are the same float. Assumes nothing.
use Rattle.std.proofs.Common.{◌≡◌, ℕ, ◌+◌, ◌*◌, ◌^◌, ◌≤◌, le_refl, arith, lit<, lit≤}
use lib.Ieee.{Float}
use Rattle.units.specs.Units.{P, N, Number}
use Rattle.fixed.proofs.Nearest.{Nearest, one_nearest}
use Rattle.exact.specs.Power.{LessThan, MoreThan}
use Rattle.exact.proofs.Power.{most_of_less}
use Rattle.exact.proofs.Strict.{not_both}
use Rattle.powers.specs.Exp2.{Accepts, NearestPower}
use Rattle.powers.proofs.Told.{whole_most}
use Rattle.powers.proofs.Promise.{sides_apart}

pub power_unique : (x r r' : Float) → Accepts x → Number r → Number r' → NearestPower x r → NearestPower x r' → r ≡ r'
power_unique x r r' a h h' n n' = one_nearest Over Under (sides_apart x x (le_refl (P x + N x))) small r r' h h' (of r n) (of r' n')
  where
    Over : ℕ → Type 0
    Over s = MoreThan s (2 * 2 ^ 149) (P x) (N x) (2 ^ 149)

    Under : ℕ → Type 0
    Under s = LessThan s (2 * 2 ^ 149) (P x) (N x) (2 ^ 149)

    from : (n p u : ℕ) → n ≤ 126 * u → 0 * u + n ≤ p + 126 * u
    from n p u h = omega arith

    -- the power is at least 2 ^ -126, so that zero is not near
    small : Over 1 → ⊥
    small k = not_both (most_of_less (lit< tt) (lit≤ tt) (whole_most x 0 (from (N x) (P x) (2 ^ 149) a.at_least))) k

    of : (r : Float) → NearestPower x r → Nearest Over Under r
    of r n = record { from_above = n.from_above; from_below = n.from_below }
