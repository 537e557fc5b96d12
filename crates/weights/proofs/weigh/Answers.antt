-- `weights::weigh` meets its contract: each return is an accepted list with its weights, or a list that the tests
-- show is refused. Assumes nothing.
use Rattle.std.proofs.Common.{rules, List, ℕ, map, length, sym, ap, ap₂, subst, ◌∙◌, arith}
use Rattle.std.specs.Range.{range_inclusive_start, range_inclusive_end}
use Rattle.std.proofs.lemmas.Result.{err_from_is_err_and}
use Rattle.std.proofs.lemmas.Map.Keys.{le_from_is_le}
use lib.Ieee.{Float}
use Rattle.powers.specs.Base.{Base}
use Rattle.weights.specs.Softmax.{Elements, Lengths, Accepts}
use Rattle.weights.specs.Value.{weight_bits}
use Rattle.weights.specs.Weight.{source_of}
use Rattle.weights.proofs.Scaled.{inverse}
use Rattle.weights.proofs.Promise.{weighed, refused_lengths, refused_element}
use Rattle.weights.proofs.weigh.Given.{Over}
use Rattle.weights.proofs.weigh.Goals.{In_err-top, After-scale-factor}
use Rattle.weights.proofs.weigh.Goals as goal

module _ (g : Over) where
  abbrev base : Base
  base = g.B.Base.base

  abbrev list : g.row.S.Denot → List ℕ → List Float
  list x p = source_of (g.S.Source.source x) p

  lengths : (c : In_err-top g) → Lengths (list c.args.x c.args.p.now) (length c.args.p.now)
  lengths c =
      let h = c.if-not-contains.ensures.cases in
      let n = length c.args.p.now in
      let least = le_from_is_le (range_inclusive_start c.new.result) n h.0 in
      let most = le_from_is_le n (range_inclusive_end c.new.result) h.1 in
      record {
        same = c.requires;
        least = omega (arith, least, c.requires, c.new.ensures.start);
        most = omega (arith, most, c.requires, c.new.ensures.end);
      }

  accepts : (c : After-scale-factor g) → Accepts (list c.args.x c.args.p.now) (length c.args.p.now)
  accepts c = record {
    lengths =
        let h = c.if-not-contains.ensures.cases in
        let n = length c.args.p.now in
        let least = le_from_is_le (range_inclusive_start c.new.result) n h.0 in
        let most = le_from_is_le n (range_inclusive_end c.new.result) h.1 in
        record {
          same = c.requires;
          least = omega (arith, least, c.requires, c.new.ensures.start);
          most = omega (arith, most, c.requires, c.new.ensures.end);
        };
    elements = c.in_ok-top.ensures.0;
  }

pub returns-then-not-contains : goal.returns-then-not-contains
returns-then-not-contains g c =
    refused_lengths (base g) (list g c.args.x c.args.p.now) (length c.args.p.now) (λ l. search rules)

pub returns-in_err-top : goal.returns-in_err-top
returns-in_err-top g c =
    let (e, is, from) = err_from_is_err_and c.from_residual.result c.from_residual.ensures.1 in
    let (none, bad) = c.in_err-top.ensures in
    rw (is, from, bad) (refused_element (base g) (list g c.args.x c.args.p.now) (length c.args.p.now) (lengths g (goal.at.returns-in_err-top g c).In_err-top) none)

pub fill-requires : goal.fill-requires
fill-requires g c =
    let a = accepts g (goal.at.fill-requires g c).After-scale-factor in
    let f = c.scale-factor.ensures in
    let k = f.kept in
    let i = inverse (base g) _ a.elements a.lengths.least a.lengths.most in
    record {
      judged = record {
        sized = ap length k.source ∙ c.requires ∙ sym k.same;
        few = omega (arith, k.same, a.lengths.most, c.requires);
        elements = subst Elements (sym k.source) a.elements;
      };
      digits = k.digits;
      at_most_one = rw (f.factor, f.places, k.source) i.most;
    }

pub returns : goal.returns
returns g c =
    let xs = list g c.args.x c.args.p.now in
    let e = c.scale-factor.ensures in
    weighed (base g) xs (length c.args.p.now) (accepts g (goal.at.returns g c).After-scale-factor)
    (c.fill.ensures ∙ ap (map _) e.kept.source ∙ ap₂ (λ (r k : ℕ). map (weight_bits (base g) r k) xs) e.factor e.places)
