-- One right answer for each input: two finite floats that are both nearest to log2 x are the same number. (That of the two zeros it is +0 at 1 is a promise of its own.) Assumes nothing.
use Rattle.std.proofs.Common.{◌+◌, inl, inr, add_comm}
use lib.Ieee.{Float}
use Rattle.units.specs.Units.{P, N, Number, Le, Lt}
use Rattle.units.proofs.Naturals.{le-or-lt}
use Rattle.exact.proofs.Strict.{less_most, not_both}
use Rattle.logs.specs.Log2.{NearestLog}

-- neither is above the other: the middle of both would lie on two sides of the logarithm
never_above : (x r r' : Float) → Number r → Number r' → NearestLog x r → NearestLog x r' → Lt r r' → ⊥
never_above x r r' h h' n n' l = not_both (less_most (n.from_above r' h' l)) (rw (add_comm (P r) (P r'), add_comm (N r) (N r')) (n'.from_below r h l))

pub log_unique : (x r r' : Float) → Number r → Number r' → NearestLog x r → NearestLog x r' → Le r r' × Le r' r
log_unique x r r' h h' n n' = (at_most r r' (never_above x r' r h' h n' n), at_most r' r (never_above x r r' h h' n n'))
  where
    at_most : (a b : Float) → (Lt b a → ⊥) → Le a b
    at_most a b never = elim (le-or-lt (P a + N b) (P b + N a)) [ inl l ↦ l | inr l ↦ absurd (never l) ]
