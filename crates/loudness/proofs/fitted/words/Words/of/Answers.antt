-- `loudness::fitted::words::Words::of` meets its contract: two logarithms, their places, and the factor. Assumes nothing.
use Rattle.std.proofs.Common.{◌≡◌, ℕ, ◌+◌, ◌-◌, ◌*◌, ◌/◌, ◌%◌, ◌^◌, ◌<◌, ◌≤◌, sym, ap, ◌∙◌, ap₂, le_trans, le_of_eq, lt_of_le_of_lt, mod-eq_of_lt, one-mul, arith, lit<, pow_mono}
use Rattle.loudness.specs.Value.{rise_of, places_of, word_of}
use lib.Ieee.{Float}
use Rattle.logs.specs.Value.{fixed_of}
use Rattle.loudness.specs.Words.{span_of, factor_of, steps_word, negated, five_words, segment_words}
use Rattle.loudness.proofs.Fitting.{digits}
use Rattle.loudness.proofs.Known.{Sound, low_sound, high_sound, accepted, rises}
use Rattle.loudness.proofs.Words.{places, full}
use Rattle.loudness.proofs.Growth.{b≤m, few, span_long, span_few}
use Rattle.loudness.proofs.fitted.words.Words.of.Goals.{After-factor-f, After-fixed_log2, Start}
use Rattle.loudness.proofs.fitted.words.Words.of.Goals as goal

low : (c : Start) → Sound c.args.b
low c = low_sound c.requires.levels

high : (c : Start) → Sound c.args.m
high c = high_sound c.requires.levels

pub fixed_log2-requires : goal.fixed_log2-requires
fixed_log2-requires c = accepted (high c.before)

pub overflow_sub-span : goal.overflow_sub-span
overflow_sub-span c =
    let s = c.before.before in
    le_trans (le_of_eq c.fixed_log2-level.ensures.value) (le_trans (rises (low s) (high s) (b≤m _ _ _ _ s.requires)) (le_of_eq (sym c.fixed_log2.ensures.value)))

-- the span from b to m
span : (c : After-fixed_log2) → c.fixed_log2.result - c.fixed_log2-level.result ≡ rise_of c.args.b c.args.m
unfolding rise_of
span c = ap₂ (λ (x y : ℕ). x - y) c.fixed_log2.ensures.value c.fixed_log2-level.ensures.value

pub upper_word-requires : goal.upper_word-requires
unfolding places_of
upper_word-requires c =
    let g = c.requires in
    let (a, b, l, u) = places _ (span_long _ _ _ _ g) (span_few _ _ _ _ g) in
    rw (span c) (u, omega arith)

pub factor-f-requires : goal.factor-f-requires
unfolding places_of word_of
factor-f-requires c =
    let g = c.requires in
    rw (c.upper_word.ensures, span c.before) (few _ _ _ _ g, (full _ (span_long _ _ _ _ g) (span_few _ _ _ _ g)).0)

pub overflow_shl-result : goal.overflow_shl-result
unfolding places_of
overflow_shl-result c =
    let g = c.requires in
    let (a, b, l, u) = places _ (span_long _ _ _ _ g) (span_few _ _ _ _ g) in
    rw (span c.before.before.before) (omega arith)

-- the factor has 44 digits
digits_of : (c : After-factor-f) → c.factor-f.result < 17592186044416
unfolding places_of word_of span_of
digits_of c = rw (c.factor-f.ensures, c.before.upper_word.ensures, span c.before.before) (digits _ _ _ _ c.requires)

pub overflow_sub-c : goal.overflow_sub-c
overflow_sub-c c = c.requires.order

pub overflow_sub-result : goal.overflow_sub-result
overflow_sub-result c = c.requires.order

pub overflow_mul-result : goal.overflow_mul-result
overflow_mul-result c = let l = c.requires.few in omega arith

pub overflow_add-result : goal.overflow_add-result
overflow_add-result c = let l = c.requires.few in let d = digits_of c.before in omega arith

pub overflow_mul-result-2 : goal.overflow_mul-result-2
overflow_mul-result-2 c = let l = c.requires.few in let o = c.requires.order in omega arith

pub overflow_add-result-2 : goal.overflow_add-result-2
overflow_add-result-2 c =
    let l = c.requires.few in
    let o = c.requires.order in
    let d = digits_of c.before in
    omega arith

-- the words of a segment
words : (b m : Float) (t c low s f : ℕ) → {n : ℕ} → low ≡ fixed_of b → s ≡ 2 ^ places_of (rise_of b m) → f ≡ factor_of (c - t) (span_of (rise_of b m))
    → (n + low) % 18446744073709551616 ≡ 0 → n < 18446744073709551616 → low < 18446744073709551616
    → five_words (f / 4294967296 + 4096 * (c - t) + 4194304 * t) (n % 4294967296) (n / 4294967296) s (f % 4294967296) ≡ segment_words b m t c
unfolding segment_words steps_word negated
words b m t c low s f {n} level power factor e x y = rw (factor, power, minus n low (fixed_of b) level e x y)
  where
    minus : (n low v : ℕ) → low ≡ v → (n + low) % 18446744073709551616 ≡ 0 → n < 18446744073709551616 → low < 18446744073709551616
        → n ≡ (18446744073709551616 - v) % 18446744073709551616
    minus n low v e h l k = omega arith

pub returns : goal.returns
unfolding places_of word_of span_of
returns c =
    let f = c.before in
    let u = f.before in
    let v = u.before in
    let g = c.requires in
    let (x, y, l, r) = places _ (span_long _ _ _ _ g) (span_few _ _ _ _ g) in
    words _ _ _ _ _ _ _ c.fixed_log2-level.ensures.value (rw (span v) (power _ y)) (f.factor-f.ensures ∙ ap (factor_of (c.args.c - c.args.t)) (rw (u.upper_word.ensures, span v)))
    c.wrapping_neg-minus.ensures c.wrapping_neg-minus.type_inv c.fixed_log2-level.type_inv
  where
    power : (s : ℕ) → s ≤ 10 → 1 * 2 ^ s % 4294967296 ≡ 2 ^ s
    power s l = ap (λ (n : ℕ). n % 4294967296) (one-mul (2 ^ s)) ∙ mod-eq_of_lt (lt_of_le_of_lt (pow_mono l) (lit< tt))
