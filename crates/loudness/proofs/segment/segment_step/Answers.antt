-- `loudness::segment::segment_step` meets its contract: its three returns are the three cases of the map. Assumes nothing.
use Rattle.std.proofs.Common.{ℕ, ◌+◌, ◌<◌, ◌≤◌, sym, ap, ◌∙◌, le_trans, le_of_eq, arith}
use lib.Ieee.{Float}
use Rattle.units.specs.Units.{P}
use Rattle.fixed.proofs.Take.{no_nan}
use Rattle.loudness.specs.Segment.{Segment}
use Rattle.loudness.proofs.Known.{Sound, low_sound, high_sound}
use Rattle.loudness.proofs.Growth.{step_quiet, step_loud, step_between, inside}
use Rattle.loudness.proofs.Sizes.{up_to, past, from, short}
use Rattle.loudness.proofs.segment.segment_step.Goals.{Else-m-p, Else-p-b}
use Rattle.loudness.proofs.segment.segment_step.Goals as goal

pub size_bits-p-requires : goal.size_bits-p-requires
size_bits-p-requires c = no_nan _ c.requires.1.number

low : {b m : Float} {t c : ℕ} → Segment b m t c → Sound b
low g = low_sound g.levels

high : {b m : Float} {t c : ℕ} → Segment b m t c → Sound m
high g = high_sound g.levels

pub float_to_bits-b : goal.float_to_bits-b
float_to_bits-b c = no_nan _ (low c.requires.0).number

pub returns-then-p-b : goal.returns-then-p-b
returns-then-p-b c =
    sym (step_quiet _ _ _ _ _ (up_to c.requires.1 (low c.requires.0) (rw c.size_bits-p.ensures at c.if-p-b.true)))

above-b : (c : Else-p-b) → P c.args.b < P c.args.a
above-b c =
    past c.requires.1 (low c.requires.0) (rw c.size_bits-p.ensures at c.if-p-b.false)

pub float_to_bits-m : goal.float_to_bits-m
float_to_bits-m c = no_nan _ (high c.requires.0).number

pub returns-then-m-p : goal.returns-then-m-p
returns-then-m-p c =
    let at = goal.at.returns-then-m-p c in
    sym (step_loud _ _ _ _ _ (above-b at.Else-p-b) (from c.requires.1 (high c.requires.0) (rw c.size_bits-p.ensures at c.if-m-p.true)))

below-m : (c : Else-m-p) → P c.args.a < P c.args.m
below-m c =
    short c.requires.1 (high c.requires.0) (rw c.size_bits-p.ensures at c.if-m-p.false)

pub steps_between-requires : goal.steps_between-requires
steps_between-requires c =
    let at = goal.at.steps_between-requires c in
    record { segment = c.requires.0; number = c.requires.1.number; above = above-b at.Else-p-b; below = below-m at.Else-m-p }

-- the sum is the step of the map
pub returns : goal.returns
returns c =
    let at = goal.at.returns c in
    ap (λ (n : ℕ). c.args.t + n) c.steps_between.ensures ∙ sym (step_between _ _ _ _ c.args.a (above-b at.Else-p-b) (below-m at.Else-m-p))

-- and so at most 1,023
pub overflow_add-result : goal.overflow_add-result
overflow_add-result c =
    let g = c.requires.0 in
    let k = g.few in
    let e : c.args.t + c.steps_between.result ≤ c.args.c = le_trans (le_of_eq (returns c)) (inside _ _ _ _ g c.args.a c.requires.1.number).1 in
    omega arith
