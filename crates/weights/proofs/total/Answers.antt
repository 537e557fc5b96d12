-- `weights::total` meets its contract. Assumes nothing.
use Rattle.std.proofs.Common.{◌≡◌, List, ℕ, ◌+◌, ◌-◌, ◌*◌, ◌/◌, ◌^◌, ◌≤◌, ◌<◌, length, ap, ap₂, ◌∙◌, le_trans}
use Rattle.std.proofs.Common.{le_of_eq, add-one, arith}
use lib.Ieee.{Float}
use Rattle.powers.specs.Base.{Base}
use Rattle.powers.specs.Fixed.{fixed_digits, fixed_exponent}
use Rattle.powers.proofs.Fixed.{digits_of, exponent_of_lem}
use Rattle.weights.specs.Lists.{at, sum}
use Rattle.weights.specs.Softmax.{Element}
use Rattle.weights.specs.Value.{share_of, share_at}
use Rattle.weights.specs.Weight.{source_of}
use Rattle.weights.proofs.Aligning.{sum_fits}
use Rattle.weights.proofs.Keeping.{keeping_none, keeping_more}
use Rattle.weights.proofs.total.Given.{Over}
use Rattle.weights.proofs.total.Goals.{After-digits-q, After-element, After-exponent, After-left-s, Start}
use Rattle.weights.proofs.total.Goals as goal

module _ (g : Over) where
  abbrev base : Base
  base = g.B.Base.base

  -- the list, and what is known of its elements
  abbrev list : g.row.S.Denot → List ℕ → List Float
  list x p = source_of (g.S.Source.source x) p

  each : (c : Start g) (i : ℕ) → i < length c.args.p.now
      → let xs = list c.args.x c.args.p.now in Element (at xs i) × (fixed_exponent base (at xs i) ≤ c.args.e)
  each c i h = (c.requires.judged.elements.each i (omega (arith, c.requires.judged.sized)), c.requires.most i h)

  -- the element j, which is not written over
  element : (c : After-element g) → c.element.result ≡ at (list c.args.x c.args.p.now) c.loop-j.j
  element c = c.element.ensures ∙ ap (λ (l : List Float). at l c.loop-j.j) c.loop-j.invariant.1.source

  -- its digits and its exponent
  digits : (c : After-digits-q g) → let x = at (list c.args.x c.args.p.now) c.loop-j.j in
      c.element.result ≡ x → c.digits-q.result + 2 ^ 32 ≡ fixed_digits base x
  digits c e = c.digits-q.ensures ∙ digits_of base c.element.result c.argument-c.ensures ∙ ap (fixed_digits base) e

  exponent : (c : After-exponent g) → let x = at (list c.args.x c.args.p.now) c.loop-j.j in
      c.element.result ≡ x → c.exponent.result ≡ fixed_exponent base x
  exponent c e =
      c.exponent.ensures ∙ exponent_of_lem base c.element.result c.argument-c.ensures ∙ ap (fixed_exponent base) e

  -- one more, by its share
  next : (c : After-left-s g) → let xs = list c.args.x c.args.p.now in let x = at xs c.loop-j.j in
      c.digits-q.result + 2 ^ 32 ≡ fixed_digits base x → c.exponent.result ≡ fixed_exponent base x
      → c.loop-j.s + c.left-s.result + (c.loop-j.j + 1)
      ≡ sum (share_at base c.args.e xs) (c.loop-j.j + 1) + length c.args.p.now
  unfolding sum share_of
  next c d e =
      let share : c.left-s.result + 1 ≡ share_at base c.args.e (list c.args.x c.args.p.now) c.loop-j.j =
      ap (λ (t : ℕ). t + 1) c.left-s.ensures ∙ ap₂ (λ (d k : ℕ). d * 1048576 / 2 ^ (c.args.e - k) + 1) d e in
      rw (add-one c.loop-j.j) (omega (arith, c.loop-j.invariant.0, share))

pub loop-j-init : goal.loop-j-init
unfolding sum
loop-j-init g c = (omega arith, keeping_none _ _ _)

pub overflow_sub-e : goal.overflow_sub-e
overflow_sub-e g c =
    let v = goal.at.overflow_sub-e g c in
    let e = exponent g v.After-exponent (element g v.After-element) in
    le_trans (le_of_eq e) (each g v.Start c.loop-j.j c.loop-j-test.true).1

pub overflow_add-s : goal.overflow_add-s
overflow_add-s g c =
    let v = goal.at.overflow_add-s g c in
    let e = element g v.After-element in
    let few = c.requires.judged.few in
    let room = sum_fits (base g) (list g c.args.x c.args.p.now) c.args.e (c.loop-j.j + 1)
    (omega (arith, c.loop-j-test.true, few))
    (λ i h. each g v.Start i (omega (arith, c.loop-j-test.true))) in
    let n = next g v.After-left-s (digits g v.After-digits-q e) (exponent g v.After-exponent e) in
    omega (arith, n, room, few)

pub loop-j-preserved : goal.loop-j-preserved
loop-j-preserved g c =
    let v = goal.at.loop-j-preserved g c in
    let e = element g v.After-element in
    let d = digits g v.After-digits-q e in (
      next g v.After-left-s d (exponent g v.After-exponent e),
      keeping_more _ _ _ _ _ c.loop-j.invariant.1 c.digits-q.result _ c.loop-j-test.true d c.keep.ensures,
    )
