-- `circle::cos` meets its promise: x has a phase where it is accepted, and only there. Assumes nothing.
use Rattle.std.proofs.Common.{T, sym, refl, subst, ◌∙◌}
use Rattle.circle.proofs.Range.{in_range, out_of_range}
use Rattle.circle.proofs.Promise.{answered, cos_success, cos_refusal}
use Rattle.circle.proofs.cos.Goals as goal

pub returns : goal.returns
returns c =
    let x = c.args.x in
    let fits32 = subst T (sym c.well_formed.0.1) tt in
    answered c.of.result c.map.result c.of.ensures c.map.ensures.cases
    (λ angle bits v p. cos_success x (in_range x fits32 v.0.0) (p ∙ rw v.0.1 refl))
    (λ n. cos_refusal x {before = 0} (λ a. out_of_range x (n a) a))
