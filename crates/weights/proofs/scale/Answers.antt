-- `weights::scale` meets its contract: the largest element's exponent is the steps' of the sum. Assumes nothing.
use Rattle.std.proofs.Common.{◌≡◌, List, ℕ, ◌-◌, ◌<◌, length, sym, ap, ap₂, ◌∙◌, subst, le_trans, le_of_eq}
use Rattle.std.proofs.Common.{lt_of_lt_of_le}
use lib.Count.{count_leading_zeros}
use lib.Ieee.{Float, binary32, of_bits}
use Rattle.powers.specs.Base.{Base}
use Rattle.powers.specs.Fixed.{fixed_exponent}
use Rattle.powers.proofs.Fixed.{exponent_of_lem}
use Rattle.weights.specs.Lists.{sum}
use Rattle.weights.specs.Softmax.{Element}
use Rattle.weights.specs.Value.{pattern_of, top_of, top_exponent, share_at, total_of, inverse_of, factor_of, places_of}
use Rattle.weights.specs.Weight.{source_of}
use Rattle.weights.proofs.Range.{power_accepts, exponent_high, not_nan}
use Rattle.weights.proofs.Scaled.{top_element, top_low, top_most, many}
use Rattle.weights.proofs.scale.Given.{Over}
use Rattle.weights.proofs.scale.Goals.{After-exponent-e, After-total-s, After-unlocked-top, Start}
use Rattle.weights.proofs.scale.Goals as goal

module _ (g : Over) where
  abbrev base : Base
  base = g.B.Base.base

  abbrev list : g.row.S.Denot → List ℕ → List Float
  list x p = source_of (g.S.Source.source x) p

  some : (c : Start g) → 0 < length (list c.args.x c.args.p.now)
  some c = lt_of_lt_of_le c.requires.some (le_of_eq (sym c.requires.judged.sized))

  -- the pattern is the largest element's
  top : (c : After-unlocked-top g) → of_bits binary32 c.unlocked-top.result ≡ top_of (list c.args.x c.args.p.now)
  unfolding top_of
  top c = ap (of_bits binary32) (c.unlocked-top.ensures ∙ ap pattern_of c.requires.top)

  largest : (c : Start g) → Element (top_of (list c.args.x c.args.p.now))
  largest c = top_element base (list c.args.x c.args.p.now) c.requires.judged.elements (some c)

  -- its exponent
  exponent : (c : After-exponent-e g) → let xs = list c.args.x c.args.p.now in
      of_bits binary32 c.unlocked-top.result ≡ top_of xs → c.exponent-e.result ≡ top_exponent base xs
  exponent c t =
      c.exponent-e.ensures ∙ exponent_of_lem base (of_bits binary32 c.unlocked-top.result) c.argument.ensures
      ∙ ap (fixed_exponent base) t

  -- and the sum
  sum_is : (c : After-total-s g) → let xs = list c.args.x c.args.p.now in
      c.exponent-e.result ≡ top_exponent base xs → c.total-s.result ≡ total_of base xs
  unfolding total_of
  sum_is c e =
      c.total-s.ensures.value
      ∙ ap₂ (λ (e n : ℕ). sum (share_at base e (list c.args.x c.args.p.now)) n) e (sym c.requires.judged.sized)

pub float_from_bits-top : goal.float_from_bits-top
float_from_bits-top g c =
    let v = goal.at.float_from_bits-top g c in
    not_nan c.unlocked-top.result (subst Element (sym (top g v.After-unlocked-top)) (largest g v.Start)).number

pub argument-requires : goal.argument-requires
argument-requires g c =
    let v = goal.at.argument-requires g c in
    power_accepts _ (subst Element (sym (top g v.After-unlocked-top)) (largest g v.Start))

pub total-s-requires : goal.total-s-requires
total-s-requires g c =
    let v = goal.at.total-s-requires g c in
    let e = exponent g v.After-exponent-e (top g v.After-unlocked-top) in
    let most = top_most (base g) (list g c.args.x c.args.p.now) c.requires.judged.elements (some g v.Start) in
    let same = le_of_eq (sym c.requires.judged.sized) in
    record { judged = c.requires.judged; most = λ i h. le_trans (most i (lt_of_lt_of_le h same)) (le_of_eq (sym e)) }

pub reciprocal-requires : goal.reciprocal-requires
reciprocal-requires g c =
    let v = goal.at.reciprocal-requires g c in
    let l = list g c.args.x c.args.p.now in
    let e = exponent g v.After-exponent-e (top g v.After-unlocked-top) in
    rw (sum_is g v.After-total-s e, e) (
      many (base g) l c.requires.judged.elements (some g v.Start),
      top_low (base g) l c.requires.judged.elements (some g v.Start),
      exponent_high (top_of l) (largest g v.Start) (base g),
    )

pub returns : goal.returns
unfolding factor_of places_of
returns g c =
    let v = goal.at.returns g c in
    let e = exponent g v.After-exponent-e (top g v.After-unlocked-top) in
    let s = sum_is g v.After-total-s e in
    record {
      factor = c.reciprocal.ensures.0 ∙ ap (λ (s : ℕ). inverse_of s (count_leading_zeros 64 s)) s;
      places = c.reciprocal.ensures.1 ∙ ap₂ (λ (e s : ℕ). e - count_leading_zeros 64 s) e s;
      kept = c.total-s.ensures.kept;
    }
