-- `loudness::fitted::words::Words::steps` meets its contract: its returns are the cases of the steps by words. Assumes nothing.
use Rattle.std.proofs.Common.{◌≡◌, ℕ, ◌%◌, ◌<◌, List, get_or, min, inl, inr, sym, ◌∙◌, arith}
use Rattle.units.proofs.Naturals.{le-or-lt}
use Rattle.loudness.specs.Words.{five_words, range_of, upper_of, scaled, steps_in}
use Rattle.loudness.proofs.Fitting.{in_none, in_all, in_most, in_between}
use Rattle.loudness.proofs.fitted.words.Words.steps.Goals as goal

pub returns-then-n-ge9223372036854775808 : goal.returns-then-n-ge9223372036854775808
unfolding five_words
returns-then-n-ge9223372036854775808 c =
    (rw (← c.self.view_is) (sym (in_none _ _ (rw c.upper-y.ensures at c.if-y-ge4294967296.true) c.if-n-ge9223372036854775808.true)), omega arith)

pub returns-else-n-ge9223372036854775808 : goal.returns-else-n-ge9223372036854775808
unfolding five_words
returns-else-n-ge9223372036854775808 c =
    let all = in_all _ _ (rw c.upper-y.ensures at c.if-y-ge4294967296.true) c.if-n-ge9223372036854775808.false in
    (rw (c.range-k.ensures.0, ← c.self.view_is) (sym all), c.range-k.ensures.1)

-- the smaller of the two
least : (w : List ℕ) (n : ℕ) → upper_of n (get_or w 3 0) < 4294967296
    → min (scaled (upper_of n (get_or w 3 0)) (get_or w 0 0 % 4096) (get_or w 4 0)) (range_of (get_or w 0 0)) ≡ steps_in w n
least w n h =
    let i = scaled (upper_of n (get_or w 3 0)) (get_or w 0 0 % 4096) (get_or w 4 0) in
    let k = range_of (get_or w 0 0) in
    elim (le-or-lt k i) [
      | inl l ↦ let e : min i k ≡ k = omega arith in e ∙ sym (in_most w n h l)
      | inr l ↦ let e : min i k ≡ i = omega arith in e ∙ sym (in_between w n h l)
    ]

pub returns : goal.returns
unfolding five_words
returns c =
    let most = c.range-k.ensures.1 in
    let e = c.min.ensures in (
      rw (c.min.ensures, c.scaled.ensures, c.upper-y.ensures, c.range-k.ensures.0, ← c.self.view_is)
          (least _ _ (rw c.upper-y.ensures at c.if-y-ge4294967296.false)),
      omega arith,
    )
