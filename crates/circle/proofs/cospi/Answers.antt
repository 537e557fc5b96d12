-- `circle::cospi` meets its promise: x has a phase where it is accepted, and only there. Assumes nothing.
use Rattle.std.proofs.Common.{T, sym, refl, subst, ◌∙◌}
use Rattle.circle.proofs.Range.{in_pi_range, out_of_pi_range}
use Rattle.circle.proofs.Promise.{answered, cos_pi_success, cos_pi_refusal}
use Rattle.circle.proofs.cospi.Goals as goal

pub returns : goal.returns
returns c =
    let x = c.args.x in
    let fits32 = subst T (sym c.well_formed.0.1) tt in
    answered c.of.result c.map.result c.of.ensures c.map.ensures.cases
    (λ angle bits v p. cos_pi_success x (in_pi_range x fits32 v.0.0) (p ∙ rw v.0.1 refl))
    (λ n. cos_pi_refusal x {before = 0} (λ a. out_of_pi_range x (n a.number) a))
