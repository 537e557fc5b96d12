-- `loudness::loudness_top` meets its promise. Assumes nothing.
use Rattle.std.proofs.Common.{◌∙◌, ap}
use Rattle.std.proofs.lemmas.Result.{err_from_is_err_and}
use Rattle.units.specs.declared.refusal.Refusal.TheVariants.{OutOfRange, BadChannel}
use Rattle.units.proofs.Answers.{ok, err}
use Rattle.loudness.specs.Value.{step_of}
use Rattle.loudness.specs.declared.channel.Channel.{Channel}
use Rattle.loudness.proofs.Promise.{success, refusal, no_channel}
use Rattle.loudness.proofs.loudness_top.Goals as goal

pub returns-in_err-segment : goal.returns-in_err-segment
returns-in_err-segment c =
    let (e, is, from) = err_from_is_err_and c.from_residual.result c.from_residual.ensures.1 in
    let (bad, none) = c.in_err-segment.ensures in
    rw (is, from, bad) (err {before = 0} BadChannel (no_channel _ _ _ _ _ _ none))

pub returns-in_err-envelope_bits : goal.returns-in_err-envelope_bits
returns-in_err-envelope_bits c =
    let (e, is, from) = err_from_is_err_and c.from_residual-in_err-envelope_bits.result c.from_residual-in_err-envelope_bits.ensures.1 in
    let (bad, none) = c.in_err-envelope_bits.ensures in
    rw (is, from, bad) (err {before = 0} OutOfRange (refusal _ _ _ _ _ _ c.in_ok-segment.ensures.1 none))

pub returns : goal.returns
returns c =
    let (same, channel) = c.in_ok-segment.ensures in
    ok {before = 0} (success _ _ _ _ _ _ channel c.in_ok-envelope_bits.ensures.0 (c.step.ensures ∙ ap (λ (s : Channel). step_of s.b s.m s.t s.c c.args.a) same))
