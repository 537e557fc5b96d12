-- `loudness::envelope_bits` meets its contract: a value from 0 to 1 is told by its pattern. Assumes nothing.
use Rattle.std.proofs.Common.{T, sym, refl, ◌∙◌, subst, le-leb}
use borrow.Author.Tests.{lt-leb}
use Rattle.fixed.proofs.Take.{nan_is_none}
use Rattle.loudness.proofs.Sizes.{envelope}
use Rattle.loudness.proofs.envelope_bits.Goals as goal

pub returns-then-is_nan : goal.returns-then-is_nan
returns-then-is_nan c = (refl, λ v. nan_is_none c.args.a (sym c.is_nan.ensures.value ∙ c.if-is_nan.true) v.number)

pub returns-then-p-le1065353216 : goal.returns-then-p-le1065353216
returns-then-p-le1065353216 c =
    let tells = envelope c.args.a (subst T (sym c.well_formed.0.1) tt) in
    (tells.if_true (le-leb _ _ (rw c.size_bits-p.ensures at c.if-p-le1065353216.true)), c.size_bits-p.ensures)

pub returns-else-p-le1065353216 : goal.returns-else-p-le1065353216
returns-else-p-le1065353216 c =
    let tells = envelope c.args.a (subst T (sym c.well_formed.0.1) tt) in
    (refl, tells.if_false (lt-leb _ _ (rw c.size_bits-p.ensures at c.if-p-le1065353216.false)))
