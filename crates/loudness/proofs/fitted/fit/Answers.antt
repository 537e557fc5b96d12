-- `loudness::fitted::fit` meets its promise: the words of the channel's segment. Assumes nothing.
use Rattle.std.proofs.Common.{ap, ◌∙◌}
use Rattle.std.proofs.lemmas.Result.{err_from_is_err_and}
use Rattle.loudness.specs.Words.{segment_words}
use Rattle.loudness.specs.declared.channel.Channel.{Channel}
use Rattle.loudness.proofs.Stepping.{other_number, no_channel, fitted}
use Rattle.loudness.proofs.fitted.fit.Goals as goal

pub returns-then-w-ne6 : goal.returns-then-w-ne6
returns-then-w-ne6 c = other_number c.if-w-ne6.true

pub returns : goal.returns
returns c =
    let (same, channel) = c.in_ok-segment.ensures in
    fitted c.if-w-ne6.false channel (c.fit.ensures ∙ ap (λ (s : Channel). segment_words s.b s.m s.t s.c) same)

pub returns-in_err-segment : goal.returns-in_err-segment
returns-in_err-segment c =
    let (e, is, from) = err_from_is_err_and c.from_residual.result c.from_residual.ensures.1 in
    let (bad, none) = c.in_err-segment.ensures in
    rw (is, from, bad) (no_channel c.if-w-ne6.false none)
