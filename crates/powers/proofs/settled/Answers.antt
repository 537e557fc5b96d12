-- `powers::settled` meets its contract: the upper digits of the second evaluation. Assumes nothing.
use Rattle.std.proofs.Common.{◌∙◌, refl}
use Rattle.powers.specs.Value.{fine_digits}
use Rattle.powers.proofs.settled.Goals as goal

pub returns : goal.returns
unfolding fine_digits
returns c = c.bits.ensures ∙ rw (c.fine.ensures, c.fraction.ensures) refl
