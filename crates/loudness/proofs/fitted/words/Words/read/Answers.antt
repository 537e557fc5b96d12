-- `loudness::fitted::words::Words::read` meets its contract: a list that passes is five words and their check. Assumes nothing.
use Rattle.std.proofs.Common.{◌∙◌, refl, sym, subst}
use Rattle.loudness.specs.Words.{Passes}
use Rattle.loudness.proofs.Check.{five_of, five_check, check_last}
use Rattle.loudness.proofs.fitted.words.Words.read.Goals as goal

pub returns-then-last-check : goal.returns-then-last-check
returns-then-last-check c =
    let w = c.args.w.now in
    let same = five_of w c.told-w (c.if-last-check.true ∙ c.check.ensures) in
    (same, subst Passes same (five_check _ _ _ _ _))

pub returns-else-last-check : goal.returns-else-last-check
returns-else-last-check c = (refl, λ p. c.if-last-check.false (check_last c.args.w.now c.told-w (c.fits-w 5) p ∙ sym c.check.ensures))
