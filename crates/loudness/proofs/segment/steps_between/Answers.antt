-- `loudness::segment::steps_between` meets its contract: three logarithms, two rises, one quotient. Assumes nothing.
use Rattle.std.proofs.Common.{◌≡◌, ℕ, ◌-◌, ◌≤◌, sym, ◌∙◌, ap₂, le_trans, le_of_eq, le_of_lt, arith}
use Rattle.loudness.specs.Value.{rise_of, places_of, word_of, steps_of}
use Rattle.loudness.proofs.Known.{Sound, low_sound, high_sound, accepted, rises}
use Rattle.loudness.proofs.Words.{places, full, word_most, rise_whole}
use Rattle.loudness.proofs.Growth.{b≤m, between_sound, few, span_long, span_few, rise_most}
use Rattle.loudness.proofs.segment.steps_between.Goals.{After-fixed_log2-2, Start}
use Rattle.loudness.proofs.segment.steps_between.Goals as goal

low : (c : Start) → Sound c.args.b
low c = low_sound c.requires.segment.levels

high : (c : Start) → Sound c.args.m
high c = high_sound c.requires.segment.levels

middle : (c : Start) → Sound c.args.a
middle c = between_sound _ _ _ _ c.requires.segment _ c.requires.number (le_of_lt c.requires.above) (le_of_lt c.requires.below)

pub fixed_log2-low-requires : goal.fixed_log2-low-requires
fixed_log2-low-requires c = accepted (low c)

pub fixed_log2-requires : goal.fixed_log2-requires
fixed_log2-requires c = accepted (high c.before)

pub fixed_log2-requires-2 : goal.fixed_log2-requires-2
fixed_log2-requires-2 c = accepted (middle c.before.before)

pub overflow_sub-d : goal.overflow_sub-d
overflow_sub-d c =
    let s = c.before.before in
    le_trans (le_of_eq c.fixed_log2-low.ensures.value) (le_trans (rises (low s) (high s) (b≤m _ _ _ _ s.requires.segment)) (le_of_eq (sym c.fixed_log2.ensures.value)))

pub overflow_sub-n : goal.overflow_sub-n
overflow_sub-n c =
    let s = c.before.before.before in
    le_trans (le_of_eq c.fixed_log2-low.ensures.value) (le_trans (rises (low s) (middle s) (le_of_lt s.requires.above)) (le_of_eq (sym c.fixed_log2-2.ensures.value)))

-- the rises from b to m, and to a
module _ (c : After-fixed_log2-2) where
  abbrev start : Start
  start = c.before.before.before

  span : c.fixed_log2.result - c.fixed_log2-low.result ≡ rise_of start.args.b start.args.m
  unfolding rise_of
  span = ap₂ (λ (x y : ℕ). x - y) c.fixed_log2.ensures.value c.fixed_log2-low.ensures.value

  rise : c.fixed_log2-2.result - c.fixed_log2-low.result ≡ rise_of start.args.b start.args.a
  unfolding rise_of
  rise = ap₂ (λ (x y : ℕ). x - y) c.fixed_log2-2.ensures.value c.fixed_log2-low.ensures.value

  rise-le : rise_of start.args.b start.args.a ≤ rise_of start.args.b start.args.m
  rise-le = rise_most _ _ _ _ start.requires.segment _ (middle start) (le_of_lt start.requires.below)

pub overflow_cast-s : goal.overflow_cast-s
overflow_cast-s c = omega (arith, span c, span_few _ _ _ _ (start c).requires.segment)

pub overflow_sub-c : goal.overflow_sub-c
overflow_sub-c c = (start c).requires.segment.order

pub upper_word-requires : goal.upper_word-requires
unfolding places_of
upper_word-requires c =
    let g = (start c).requires.segment in
    let (a, b, l, u) = places _ (span_long _ _ _ _ g) (span_few _ _ _ _ g) in
    let w = rise_whole _ (span_long _ _ _ _ g) (span_few _ _ _ _ g) _ (rise-le c) in
    rw (rise c, span c) (w, omega arith)

pub upper_word-requires-2 : goal.upper_word-requires-2
unfolding places_of
upper_word-requires-2 c =
    let g = (start c.before).requires.segment in
    let (a, b, l, u) = places _ (span_long _ _ _ _ g) (span_few _ _ _ _ g) in
    rw (span c.before) (u, omega arith)

pub nearest_step-requires : goal.nearest_step-requires
unfolding places_of word_of
nearest_step-requires c =
    let u = c.before.before in
    let g = (start u).requires.segment in
    let (f, h) = full _ (span_long _ _ _ _ g) (span_few _ _ _ _ g) in
    rw (c.upper_word-2.ensures, c.upper_word.ensures, rise u, span u)
    (record { steps = few _ _ _ _ g; within = word_most _ (span_long _ _ _ _ g) (span_few _ _ _ _ g) _ (rise-le u); full = f; word = h })

pub returns : goal.returns
unfolding steps_of places_of word_of
returns c = let u = c.before.before.before in c.nearest_step.ensures ∙ rw (c.upper_word-2.ensures, c.upper_word.ensures, rise u, span u)
