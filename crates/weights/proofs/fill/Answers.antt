-- `weights::fill` meets its contract. Assumes nothing.
use Rattle.std.proofs.Common.{◌≡◌, List, ℕ, ◌+◌, ◌*◌, ◌%◌, ◌^◌, ◌<◌, length, sym, ap, ap₂, ◌∙◌, subst, le_trans}
use Rattle.std.proofs.Common.{le_of_eq, lt_of_lt_of_le, mul-le-mul_right, arith, below_more}
use native.Mathlib.Nat.{le_refl, ne_of_lt, ne_of_gt}
use lib.ListN.{length-set}
use lib.Seq.{get_or-set_same, get_or-set_other}
use lib.Ieee.{Float, nan}
use Rattle.powers.specs.Base.{Base}
use Rattle.powers.specs.Raised.{raised}
use Rattle.powers.specs.Fixed.{fixed_digits, fixed_exponent}
use Rattle.powers.proofs.Fixed.{digits_of, exponent_of_lem}
use Rattle.weights.specs.Lists.{at}
use Rattle.weights.specs.Softmax.{Element}
use Rattle.weights.specs.Value.{power_at, unit_bits, weight_bits}
use Rattle.weights.specs.Weight.{source_of, HoldsDigits}
use Rattle.weights.proofs.Range.{power_accepts, exponent_high}
use Rattle.weights.proofs.Families.{is_map, member}
use Rattle.weights.proofs.Source.{sized_still, still_at, holds_still}
use Rattle.weights.proofs.fill.Given.{Over}
use Rattle.weights.proofs.fill.Goals.{After-argument-a, After-digits, After-exponent, After-weight, In-loop-k}
use Rattle.weights.proofs.fill.Goals as goal

module _ (g : Over) where
  abbrev base : Base
  base = g.B.Base.base

  abbrev list : g.row.S.Denot → List ℕ → List Float
  list x p = source_of (g.S.Source.source x) p

  -- the element k of the list as it was given, which is not yet written over
  within : (c : In-loop-k g) → c.loop-k.k < length (list c.args.x c.args.p.now)
  within c = lt_of_lt_of_le c.loop-k-test.true (le_of_eq (sym c.requires.judged.sized))

  accepted : (c : In-loop-k g) → Element (at (list c.args.x c.args.p.now) c.loop-k.k)
  accepted c = c.requires.judged.elements.each c.loop-k.k (within c)

  here : (c : In-loop-k g) → at (list c.args.x c.loop-k.p) c.loop-k.k ≡ at (list c.args.x c.args.p.now) c.loop-k.k
  here c =
      let inv = c.loop-k.invariant in
      still_at c.args.p.now c.loop-k.p inv.0 c.loop-k.k (inv.2 c.loop-k.k (le_refl _))
      (g.S.Source.source c.args.x) c.loop-k-test.true

  -- its power: the digits, which may have been kept
  raised_is : (c : After-argument-a g) → let x = at (list c.args.x c.args.p.now) c.loop-k.k in
      c.element.result ≡ x → raised (c.argument-a.result % 2 ^ 32) ≡ fixed_digits base x
  raised_is c e = digits_of base c.element.result c.argument-a.ensures ∙ ap (fixed_digits base) e

  digits : (c : After-digits g) → let x = at (list c.args.x c.args.p.now) c.loop-k.k in
      c.element.result ≡ x → c.digits.result + 2 ^ 32 ≡ fixed_digits base x
  digits c e = c.digits.ensures ∙ digits_of base c.element.result c.argument-a.ensures ∙ ap (fixed_digits base) e

  -- and the exponent
  exponent : (c : After-exponent g) → let x = at (list c.args.x c.args.p.now) c.loop-k.k in
      c.element.result ≡ x → c.exponent.result ≡ fixed_exponent base x
  exponent c e =
      c.exponent.ensures ∙ exponent_of_lem base c.element.result c.argument-a.ensures ∙ ap (fixed_exponent base) e

  -- its pattern
  weight : (c : After-weight g) → let x = at (list c.args.x c.args.p.now) c.loop-k.k in
      c.digits.result + 2 ^ 32 ≡ fixed_digits base x → c.exponent.result ≡ fixed_exponent base x
      → c.weight.result ≡ weight_bits base c.args.factor.r c.args.factor.c x
  unfolding weight_bits
  weight c d e = c.weight.ensures ∙ ap₂ (λ (d e : ℕ). unit_bits (d * c.args.factor.r) (e + 115) c.args.factor.c) d e

pub element-requires : goal.element-requires
element-requires g c =
    let v = goal.at.element-requires g c in
    let inv = c.loop-k.invariant in (
      sized_still c.args.p.now c.loop-k.p inv.0 (g.S.Source.source c.args.x) c.requires.judged.sized,
      omega (arith, inv.0),
      subst Element (sym (here g v.In-loop-k)) (accepted g v.In-loop-k),
    )

pub argument-a-requires : goal.argument-a-requires
argument-a-requires g c =
    let v = goal.at.argument-a-requires g c in
    power_accepts _ (subst Element (sym (c.element.ensures ∙ here g v.In-loop-k)) (accepted g v.In-loop-k))

pub digits-requires : goal.digits-requires
digits-requires g c =
    let v = goal.at.digits-requires g c in
    let inv = c.loop-k.invariant in
    let k = c.loop-k.k in
    let s = g.S.Source.source c.args.x in
    let e = raised_is g v.After-argument-a (c.element.ensures ∙ here g v.In-loop-k) in (
      omega (arith, inv.0),
      holds_still c.args.p.now c.loop-k.p inv.0 k (inv.2 k (le_refl k)) s _
          (subst (HoldsDigits s c.args.p.now k) (sym e) (c.requires.digits k c.loop-k-test.true)),
    )

pub weight-requires : goal.weight-requires
weight-requires g c =
    let v = goal.at.weight-requires g c in
    let l = list g c.args.x c.args.p.now in
    let e = c.element.ensures ∙ here g v.In-loop-k in
    let m = member (power_at (base g) l) (length l) c.loop-k.k (within g v.In-loop-k) in
    rw (exponent g v.After-exponent e, digits g v.After-digits e) (
      exponent_high _ (accepted g v.In-loop-k) (base g),
      le_trans (mul-le-mul_right c.args.factor.r m) c.requires.at_most_one,
    )

pub loop-k-preserved : goal.loop-k-preserved
loop-k-preserved g c =
    let v = goal.at.loop-k-preserved g c in
    let inv = c.loop-k.invariant in
    let p = c.loop-k.p in
    let i = c.loop-k.k in
    let b = c.weight.result in
    let e = c.element.ensures ∙ here g v.In-loop-k in
    let w = weight g v.After-weight (digits g v.After-digits e) (exponent g v.After-exponent e) in (
      length-set p i b ∙ inv.0,
      below_more _ i (λ k h. get_or-set_other p i k b 0 (ne_of_lt h) ∙ inv.1 k h)
          (get_or-set_same p i b 0 (omega (arith, inv.0)) ∙ w),
      λ k h. get_or-set_other p i k b 0 (ne_of_gt (omega arith)) ∙ inv.2 k (omega arith),
    )

pub returns : goal.returns
returns g c =
    let inv = c.loop-k.invariant in
    is_map _ nan 0 (list g c.args.x c.args.p.now) c.loop-k.p (inv.0 ∙ sym c.requires.judged.sized)
    (λ i h. inv.1 i (omega (arith, c.requires.judged.sized, c.loop-k-test.false)))
