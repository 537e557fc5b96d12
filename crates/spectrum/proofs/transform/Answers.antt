-- `spectrum::transform` meets its promise: each return is an accepted frame with its outputs, or one that a test shows
-- is refused. Assumes nothing.
use mathlib.Core.Path.{subst}
use mathlib.Core.List.{List}
use Prim.Native.Nat.{ℕ, ◌<◌}
use native.Mathlib.Nat.{lt_of_le_of_lt}
use native.Mathlib.Omega.{arith}
use lib.ListN.{length}
use lib.Ieee.{Float}
use Rattle.spectrum.specs.Transform.{at, Lengths, Element}
use Rattle.spectrum.specs.Floats.{Largest}
use Rattle.spectrum.proofs.Frame.{below_element, size_below, small_words, holdable}
use Rattle.spectrum.proofs.Promise.{refused_length, refused_element, too_large, promised}
use Rattle.spectrum.proofs.transform.Goals.{After-of_largest-scaling, Else-im-ne65}
use Rattle.spectrum.proofs.transform.Goals.{then-x-ne128-via-then-x-ne128}
use Rattle.spectrum.proofs.transform.Goals.{then-x-ne128-via-else-x-ne128+then-re-ne65}
use Rattle.spectrum.proofs.transform.Goals.{then-x-ne128-via-else-x-ne128+else-re-ne65+then-im-ne65}
use Rattle.spectrum.proofs.transform.Goals as goal

-- ---- lengths
pub returns-then-x-ne128 : goal.returns-then-x-ne128
returns-then-x-ne128 c =
    refused_length c.args.x.now (length c.args.re.now) (length c.args.im.now)
    (λ l.
    elim c.then-x-ne128.branch [
      | then-x-ne128-via-then-x-ne128 w ↦ w.if-x-ne128.true l.values
      | then-x-ne128-via-else-x-ne128+then-re-ne65 w ↦ w.if-re-ne65.true l.real
      | then-x-ne128-via-else-x-ne128+else-re-ne65+then-im-ne65 w ↦ w.if-im-ne65.true l.imaginary
    ])

-- behind their tests
lengths : (c : Else-im-ne65) → Lengths c.args.x.now (length c.args.re.now) (length c.args.im.now)
lengths c = record { values = c.if-x-ne128.false; real = c.if-re-ne65.false; imaginary = c.if-im-ne65.false }

-- ---- the frame, behind the test of its largest pattern
abbrev input : After-of_largest-scaling → List Float
input c = c.args.x.now

largest-of : (c : After-of_largest-scaling) → Largest (input c) 128 c.largest-m.result
largest-of c = subst (λ (n : ℕ). Largest (input c) n c.largest-m.result) c.if-x-ne128.false c.largest-m.ensures

elements : (c : After-of_largest-scaling) (n : ℕ) → n < 128 → Element (at (input c) n)
elements c n l =
    below_element (at (input c) n) (c.type_inv.x n) (lt_of_le_of_lt ((largest-of c).most n l) c.if-m-ge2071986176.false)

pub returns-then-m-ge2071986176 : goal.returns-then-m-ge2071986176
returns-then-m-ge2071986176 c =
    refused_element c.args.x.now (length c.args.re.now) (length c.args.im.now)
    (lengths (goal.at.returns-then-m-ge2071986176 c).Else-im-ne65)
    (too_large c.args.x.now c.largest-m.result c.largest-m.ensures c.if-m-ge2071986176.true)

pub load_all-requires-clause-within : goal.load_all-requires-clause-within
load_all-requires-clause-within c =
    let a = (goal.at.load_all-requires-clause-within c).After-of_largest-scaling in
    let e = c.of_largest-scaling.result.digits in λ i l. (
      (elements a i l).number,
      size_below (input a) c.largest-m.result e (elements a) (largest-of a) c.of_largest-scaling.ensures i l,
    )

pub transform-requires : goal.transform-requires
transform-requires c =
    let a = (goal.at.transform-requires c).After-of_largest-scaling in
    small_words (input a) c.largest-m.result c.of_largest-scaling.result.digits (elements a) (largest-of a)
    c.of_largest-scaling.ensures c.load_all.new.y c.load_all.ensures

pub store_real-requires-clause-holdable : goal.store_real-requires-clause-holdable
store_real-requires-clause-holdable c =
    let a = (goal.at.store_real-requires-clause-holdable c).After-of_largest-scaling in
    holdable (input a) c.largest-m.result c.of_largest-scaling.result.digits (elements a) (largest-of a)
    c.of_largest-scaling.ensures c.load_all.new.y c.transform.new.r c.load_all.ensures c.transform.array_long
    c.transform.ensures

pub store_imaginary-requires-clause-holdable : goal.store_imaginary-requires-clause-holdable
store_imaginary-requires-clause-holdable c =
    let a = (goal.at.store_imaginary-requires-clause-holdable c).After-of_largest-scaling in
    holdable (input a) c.largest-m.result c.of_largest-scaling.result.digits (elements a) (largest-of a)
    c.of_largest-scaling.ensures c.load_all.new.y c.transform.new.r c.load_all.ensures c.transform.array_long
    c.transform.ensures

pub returns : goal.returns
returns c =
    let a = (goal.at.returns c).After-of_largest-scaling in
    let l = lengths (goal.at.returns c).Else-im-ne65 in
    promised (input a) _ _ c.largest-m.result c.of_largest-scaling.result.digits
    (record { lengths = l; elements = record { each = λ n h. elements a n (omega (arith, h, l.values)) } })
    (largest-of a) c.of_largest-scaling.ensures c.load_all.new.y c.transform.new.r c.store_real.new.re
    c.store_imaginary.new.im c.load_all.ensures c.transform.array_long c.transform.ensures c.store_real.ensures
    c.store_imaginary.ensures
