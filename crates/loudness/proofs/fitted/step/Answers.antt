-- `loudness::fitted::step` meets its promise, by the words that were chosen. Assumes nothing.
use Rattle.std.proofs.Common.{refl, inl, inr, arith}
use Rattle.std.proofs.lemmas.Result.{err_from_is_err_and}
use Rattle.units.specs.declared.refusal.Refusal.TheVariants.{OutOfRange, BadChannel}
use Rattle.units.proofs.Answers.{written, untouched, ok, err}
use Rattle.loudness.specs.Words.{step_in}
use Rattle.loudness.proofs.Sizes.{up_to_one}
use Rattle.loudness.proofs.Stepping.{by_words}
use Rattle.loudness.proofs.fitted.step.Goals as goal

pub returns-in_err-words : goal.returns-in_err-words
returns-in_err-words c =
    let r = c.from_residual-in_err-words in
    let (e, is, from) = err_from_is_err_and r.result r.ensures.1 in
    let (bad, none) = c.in_err-words.ensures in
    let answered = untouched {before = 0} 4 0 (λ z. omega arith) (record { how = inl (refl, none) }) in
    rw (is, from, bad) (err {before = 0} BadChannel (by_words _ _ c.in_ok-chosen.ensures answered))

pub returns-in_err-p : goal.returns-in_err-p
returns-in_err-p c =
    let r = c.from_residual-in_err-p in
    let (e, is, from) = err_from_is_err_and r.result r.ensures.1 in
    let (bad, none) = c.in_err-p.ensures in
    let passes = c.in_ok-words.ensures.1 in
    let answered = untouched {before = 0} 1 0 (λ z. omega arith) (record { how = inr (inl (refl, passes, none)) }) in
    rw (is, from, bad) (err {before = 0} OutOfRange (by_words _ _ c.in_ok-chosen.ensures answered))

pub fixed_bits-requires : goal.fixed_bits-requires
fixed_bits-requires c = omega (arith, c.in_ok-p.ensures.1, up_to_one c.in_ok-p.ensures.0)

pub returns : goal.returns
unfolding step_in
returns c =
    let (same, passes) = c.in_ok-words.ensures in
    let (envelope, p) = c.in_ok-p.ensures in
    ok {before = 0}
    (by_words _ _ c.in_ok-chosen.ensures
    (written _ (record { how = inr (inr (refl, passes, envelope, refl)) })
    (rw (c.threshold.ensures.0, c.steps.ensures.0, c.rise.ensures, c.fixed_bits.ensures, same, p))))
