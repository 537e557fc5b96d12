-- `exactsums::accepted` tells whether a pattern is that of an accepted float. Assumes nothing.
use mathlib.Core.Bool.{true≢false}
use Rattle.exactsums.proofs.Patterns.{accepts_zero, tells_sized}
use Rattle.exactsums.proofs.accepted.Goals as goal

pub returns-then-b-eq0 : goal.returns-then-b-eq0
returns-then-b-eq0 c =
    let zero = c.if-b-eq0.true in
    rw zero (record { tells = λ x f e. record { if_true = λ g. accepts_zero x f (rw e at zero); if_false = λ g. absurd (true≢false g) } })

pub returns-else-b-eq0 : goal.returns-else-b-eq0
returns-else-b-eq0 c = record { tells = λ x f e. tells_sized x f (rw e at c.if-b-eq0.false) (rw e at c.sized.ensures) }
