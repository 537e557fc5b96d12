-- `loudness::fitted::fit_knee` meets its promise: the words of two segments, one after the other. Assumes nothing.
use Rattle.std.proofs.Common.{ℕ, ◌++◌, List, length, ap, ◌∙◌, ap₂}
use Rattle.std.proofs.lemmas.Result.{err_from_is_err_and}
use Rattle.loudness.specs.Words.{segment_words}
use Rattle.loudness.specs.declared.channel.Channel.{Channel}
use Rattle.loudness.proofs.Fitting.{segment_length}
use Rattle.loudness.proofs.Bending.{both_halves}
use Rattle.loudness.proofs.Stepping.{other_number, no_channel, fitted}
use Rattle.loudness.proofs.fitted.fit_knee.Goals as goal

-- the words of a channel
abbrev words : Channel → List ℕ
words s = segment_words s.b s.m s.t s.c

pub returns-then-w-ne12 : goal.returns-then-w-ne12
returns-then-w-ne12 c = other_number c.if-w-ne12.true

pub returns : goal.returns
returns c =
    let (low, high, channel) = c.in_ok-lower.ensures in
    let first = c.fit.ensures ∙ ap words low in
    let second = c.fit-2.ensures ∙ ap words high in
    fitted c.if-w-ne12.false channel
    (both_halves c.args.w.now c.fit.new.w (ap length first ∙ segment_length _ _ _ _) c.fit-2.new.w ∙ ap₂ ◌++◌ first second)

pub returns-in_err-lower : goal.returns-in_err-lower
returns-in_err-lower c =
    let (e, is, from) = err_from_is_err_and c.from_residual.result c.from_residual.ensures.1 in
    let (bad, none) = c.in_err-lower.ensures in
    rw (is, from, bad) (no_channel c.if-w-ne12.false none)
