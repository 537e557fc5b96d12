-- `loudness::fitted::chosen` meets its contract: what it refuses is refused by the promise. Assumes nothing.
use Rattle.std.proofs.Common.{List, arith, drop, eqb-true, get_or, get_or-drop, get_or-take, length, sym, take, take_all, ℕ, ◌+◌, ◌∙◌, ◌≡◌}
use borrow.Author.Tests.{eqb-false}
use Rattle.std.proofs.lemmas.Result.{err_from_is_err_and}
use Rattle.loudness.specs.Words.{BentPasses}
use Rattle.loudness.proofs.Sizes.{up_to_one}
use Rattle.units.specs.declared.refusal.Refusal.TheVariants.{OutOfRange, BadLength, BadChannel}
use Rattle.units.proofs.Answers.{untouched, err}
use Rattle.loudness.proofs.Stepping.{no_number, no_bent_pass, bent_refused}
use Rattle.loudness.proofs.fitted.chosen.Goals as goal

-- the steps of two segments stand in their first words
first : (w : List ℕ) {v : List ℕ} → v ≡ take 6 w → get_or v 0 0 ≡ get_or w 0 0
first w e = rw e (get_or-take 6 w 0 0 (omega arith))

second : (w : List ℕ) {v : List ℕ} → v ≡ drop 6 w → get_or v 0 0 ≡ get_or w 6 0
second w e = rw e (get_or-drop 6 w 0 0)

-- a second six words and no more
twelve_words : (w rest more : List ℕ) {upper : List ℕ} → rest ≡ drop 6 w → length rest + 6 ≡ length w → upper ≡ take 6 rest
    → length more + 6 ≡ length rest → length more ≡ 0 → (length w ≡ 12) × (upper ≡ drop 6 w)
twelve_words w rest more r long u longer none = (omega arith, u ∙ take_all 6 rest (omega arith) ∙ r)

pub returns-in_default : goal.returns-in_default
returns-in_default c =
    let short = c.in_default.ensures.cases in
    err {before = 0} BadLength (no_number _ _ (λ e. omega arith) (λ e. omega arith))

pub returns-in_default-split_first_chunk : goal.returns-in_default-split_first_chunk
returns-in_default-split_first_chunk c =
    let short = c.in_default-split_first_chunk.ensures.cases in
    let (low, high, long) = c.in-Some.ensures.cases in
    let some = eqb-false _ _ (sym c.is_empty.ensures ∙ c.if-is_empty.false) in
    err {before = 0} BadLength (no_number _ _ (λ e. some (omega arith)) (λ e. omega arith))

pub returns-then-not-is_empty : goal.returns-then-not-is_empty
returns-then-not-is_empty c =
    let (low, high, long) = c.in-Some.ensures.cases in
    let (first, second, longer) = c.in-Some-split_first_chunk.ensures.cases in
    let some = eqb-false _ _ (sym c.is_empty-2.ensures ∙ c.if-not-is_empty.true) in
    err {before = 0} BadLength (no_number _ _ (λ e. omega arith) (λ e. some (omega arith)))

pub returns-in_err-below : goal.returns-in_err-below
returns-in_err-below c =
    let (e, is, from) = err_from_is_err_and c.from_residual.result c.from_residual.ensures.1 in
    let (low, after, long) = c.in-Some.ensures.cases in
    let (begins, end, longer) = c.in-Some-split_first_chunk.ensures.cases in
    let none_left = eqb-true _ _ (sym c.is_empty-2.ensures ∙ c.if-not-is_empty.false) in
    let (twelve, high) = twelve_words c.args.w.now c.in-Some.rest.now c.in-Some-split_first_chunk.more.now after long begins longer none_left in
    let (bad, none) = c.in_err-below.ensures in
    rw (is, from, bad) (err {before = 0} BadChannel (no_bent_pass _ _ twelve (λ p. none (rw low p.lower))))

pub returns-in_err-above : goal.returns-in_err-above
returns-in_err-above c =
    let (e, is, from) = err_from_is_err_and c.from_residual-in_err-above.result c.from_residual-in_err-above.ensures.1 in
    let (low, after, long) = c.in-Some.ensures.cases in
    let (begins, end, longer) = c.in-Some-split_first_chunk.ensures.cases in
    let none_left = eqb-true _ _ (sym c.is_empty-2.ensures ∙ c.if-not-is_empty.false) in
    let (twelve, high) = twelve_words c.args.w.now c.in-Some.rest.now c.in-Some-split_first_chunk.more.now after long begins longer none_left in
    let (bad, none) = c.in_err-above.ensures in
    rw (is, from, bad) (err {before = 0} BadChannel (no_bent_pass _ _ twelve (λ p. none (rw high p.upper))))

pub returns-then-threshold-range : goal.returns-then-threshold-range
returns-then-threshold-range c =
    let (low, after, long) = c.in-Some.ensures.cases in
    let (begins, end, longer) = c.in-Some-split_first_chunk.ensures.cases in
    let none_left = eqb-true _ _ (sym c.is_empty-2.ensures ∙ c.if-not-is_empty.false) in
    let (twelve, high) = twelve_words c.args.w.now c.in-Some.rest.now c.in-Some-split_first_chunk.more.now after long begins longer none_left in
    let threshold = rw (first c.args.w.now (c.in_ok-below.ensures.0 ∙ low)) at c.threshold-2.ensures.0 in
    let range = rw (first c.args.w.now (c.in_ok-below.ensures.0 ∙ low)) at c.range.ensures.0 in
    let second_threshold = rw (second c.args.w.now (c.in_ok-above.ensures.0 ∙ high)) at c.threshold.ensures.0 in
    let late : ¬ BentPasses c.args.w.now = λ p. let o = p.order in let l = c.if-threshold-range.true in omega arith in
    err {before = 0} BadChannel (no_bent_pass _ _ twelve late)

pub returns-in_err-p : goal.returns-in_err-p
returns-in_err-p c =
    let (e, is, from) = err_from_is_err_and c.from_residual-in_err-p.result c.from_residual-in_err-p.ensures.1 in
    let (low, after, long) = c.in-Some.ensures.cases in
    let (begins, end, longer) = c.in-Some-split_first_chunk.ensures.cases in
    let none_left = eqb-true _ _ (sym c.is_empty-2.ensures ∙ c.if-not-is_empty.false) in
    let (twelve, high) = twelve_words c.args.w.now c.in-Some.rest.now c.in-Some-split_first_chunk.more.now after long begins longer none_left in
    let (bad, none) = c.in_err-p.ensures in
    let threshold = rw (first c.args.w.now (c.in_ok-below.ensures.0 ∙ low)) at c.threshold-2.ensures.0 in
    let range = rw (first c.args.w.now (c.in_ok-below.ensures.0 ∙ low)) at c.range.ensures.0 in
    let second_threshold = rw (second c.args.w.now (c.in_ok-above.ensures.0 ∙ high)) at c.threshold.ensures.0 in
    let l = c.if-threshold-range.false in
    let passes : BentPasses c.args.w.now = record {
      lower = rw low at c.in_ok-below.ensures.1;
      upper = rw high at c.in_ok-above.ensures.1;
      order = omega arith;
    } in
    rw (is, from, bad) (err {before = 0} OutOfRange (untouched 1 0 (λ z. omega arith) (bent_refused _ _ twelve passes 0 none)))

pub fixed_bits-requires : goal.fixed_bits-requires
fixed_bits-requires c = omega (arith, c.in_ok-p.ensures.1, up_to_one c.in_ok-p.ensures.0)
