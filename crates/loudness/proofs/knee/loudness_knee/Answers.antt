-- `loudness::knee::loudness_knee` meets its promise: the value lies in one of two segments. Assumes nothing.
use Rattle.std.proofs.Common.{◌∙◌, ap, sym}
use Rattle.std.proofs.lemmas.Result.{err_from_is_err_and}
use Rattle.units.specs.declared.refusal.Refusal.TheVariants.{OutOfRange, BadChannel}
use Rattle.units.proofs.Answers.{ok, err}
use Rattle.fixed.proofs.Take.{no_nan}
use Rattle.loudness.specs.Value.{step_of}
use Rattle.loudness.specs.declared.channel.Channel.{Channel}
use Rattle.loudness.proofs.Known.{high_sound}
use Rattle.loudness.proofs.Sizes.{up_to, past}
use Rattle.loudness.proofs.Bent.{knee_below, knee_above, success, refusal, no_channel}
use Rattle.loudness.proofs.knee.loudness_knee.Goals as goal

pub returns-in_err-lower : goal.returns-in_err-lower
returns-in_err-lower c =
    let (e, is, from) = err_from_is_err_and c.from_residual.result c.from_residual.ensures.1 in
    let (bad, none) = c.in_err-lower.ensures in
    rw (is, from, bad) (err {before = 0} BadChannel (no_channel _ _ _ _ _ _ _ _ none))

pub returns-in_err-p : goal.returns-in_err-p
returns-in_err-p c =
    let (e, is, from) = err_from_is_err_and c.from_residual-in_err-p.result c.from_residual-in_err-p.ensures.1 in
    let (bad, none) = c.in_err-p.ensures in
    rw (is, from, bad) (err {before = 0} OutOfRange (refusal _ _ _ _ _ _ _ _ c.in_ok-lower.ensures.2 none))

pub float_to_bits-channel : goal.float_to_bits-channel
float_to_bits-channel c = no_nan _ c.in_ok-lower.ensures.2.lower.levels.m_number

pub returns-then-p-channel : goal.returns-then-p-channel
returns-then-p-channel c =
    let (low, high, channel) = c.in_ok-lower.ensures in
    let (envelope, p) = c.in_ok-p.ensures in
    let below = up_to envelope (high_sound channel.lower.levels) (rw p at c.if-p-channel.true) in
    ok {before = 0} (success _ _ _ _ _ _ _ _ channel envelope
    (c.step.ensures ∙ ap (λ (s : Channel). step_of s.b s.m s.t s.c c.args.a) low ∙ sym (knee_below _ _ _ _ _ _ _ below)))

pub returns : goal.returns
returns c =
    let (low, high, channel) = c.in_ok-lower.ensures in
    let (envelope, p) = c.in_ok-p.ensures in
    let above = past envelope (high_sound channel.lower.levels) (rw p at c.if-p-channel.false) in
    ok {before = 0} (success _ _ _ _ _ _ _ _ channel envelope
    (c.step-2.ensures ∙ ap (λ (s : Channel). step_of s.b s.m s.t s.c c.args.a) high ∙ sym (knee_above _ _ _ _ _ _ _ above)))
