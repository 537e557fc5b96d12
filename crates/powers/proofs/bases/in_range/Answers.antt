-- `bases::in_range` tells whether x is accepted by the base. Assumes nothing.
use Rattle.std.proofs.Common.{T, sym, subst, true≢false, le_trans, le_of_eq, lt_of_le_of_lt, ◌∙◌}
use Rattle.fixed.proofs.Take.{nan_is_none}
use Rattle.powers.proofs.Either.{number_of, near_of, far_of}
use Rattle.powers.proofs.bases.in_range.Goals.{Start}
use Rattle.powers.proofs.bases.in_range.Goals as goal

pub returns-then-is_nan : goal.returns-then-is_nan
returns-then-is_nan g c = record {
  if_true = λ e. absurd (true≢false (sym e));
  if_false = λ e a. nan_is_none c.args.x (sym c.is_nan.ensures.value ∙ c.if-is_nan.true) (number_of g.S.Scale.base a);
}

pub returns-then-b-LEAST : goal.returns-then-b-LEAST
returns-then-b-LEAST g c = record {
  if_true = λ e.
      near_of g.S.Scale.base c.args.x (subst T (sym c.well_formed.0.1) tt)
      (le_trans c.if-b-LEAST.true (le_of_eq (c.LEAST.ensures ∙ g.met.S.Scale.ends.0)));
  if_false = λ e. absurd (true≢false e);
}

pub returns : goal.returns
returns g c =
    rw (c.MOST.ensures ∙ g.met.S.Scale.ends.1)
    (far_of g.S.Scale.base c.args.x (subst T (sym c.well_formed.0.1) tt)
    (lt_of_le_of_lt (le_of_eq (sym (c.LEAST.ensures ∙ g.met.S.Scale.ends.0))) c.if-b-LEAST.false))
