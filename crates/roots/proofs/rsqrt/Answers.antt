-- `roots::rsqrt` meets its promise: each return is an accepted float, or one that the tests show is not.
-- Assumes nothing.
use Rattle.std.proofs.Common.{rules, T, sym, subst, ◌∙◌}
use Rattle.units.specs.Units.{Positive}
use Rattle.fixed.proofs.Take.{nan_is_none}
use Rattle.roots.proofs.Range.{positive, positive_below, positive_above}
use Rattle.roots.proofs.ReciprocalRoot.{success, declines}
use Rattle.roots.proofs.rsqrt.Goals.{Else-not-contains}
use Rattle.roots.proofs.rsqrt.Goals.{then-is_nan-via-then-is_nan, then-is_nan-via-else-is_nan+then-not-contains}
use Rattle.roots.proofs.rsqrt.Goals as goal

pub returns-then-is_nan : goal.returns-then-is_nan
returns-then-is_nan c =
    let x = c.args.x in
    declines x (λ p. elim c.then-is_nan.branch [
      | then-is_nan-via-then-is_nan w ↦ nan_is_none x (sym c.is_nan.ensures.value ∙ w.if-is_nan.true) p.number
      | then-is_nan-via-else-is_nan+then-not-contains w ↦
          let above = positive_above x p in
          let below = positive_below x p in
          search rules
    ])

accepted : (c : Else-not-contains) → Positive c.args.x
accepted c = positive c.args.x (subst T (sym c.well_formed.0.1) tt) (search rules) (search rules)

pub reciprocal_bits-requires : goal.reciprocal_bits-requires
reciprocal_bits-requires c = accepted (goal.at.reciprocal_bits-requires c).Else-not-contains

pub returns : goal.returns
returns c = success c.args.x (accepted (goal.at.returns c).Else-not-contains) c.reciprocal_bits.ensures
