-- `powers::raise` meets its contract: its steps are those of the two chains. Assumes nothing.
use Rattle.std.proofs.Common.{◌≡◌, ℕ, ◌+◌, ◌*◌, ◌/◌, List, [], ◌∷◌, sym, ap, ap₂, add_comm, ◌∙◌}
use Rattle.fixed.specs.Horner.{horner, alternate, others, chains}
use Rattle.fixed.proofs.Horner.{horner-one, horner_step}
use Rattle.powers.specs.Raised.{coefficients, raised}
use Rattle.powers.proofs.Method.{D}
use Rattle.powers.proofs.raise.Goals.{After-step-o1}
use Rattle.powers.proofs.raise.Goals as goal

-- the coefficients of the odd terms, and of the even ones
abbrev odds : List ℕ
odds = 0xb1721808 ∷ 0x0e3593ba ∷ 0x0057f139 ∷ 0x00016783 ∷ []

abbrev evens : List ℕ
evens = 0x3d7f7a4b ∷ 0x02761501 ∷ 0x00096c36 ∷ []

-- the two chains
odd : (c : After-step-o1) → c.step-o1.result ≡ horner D odds c.upper_product-z.result
odd c =
    horner_step D _ _ _
    (horner_step D _ _ _ (horner_step D _ _ _ (sym (horner-one D _ _)) c.step-o5.ensures.0) c.step-o3.ensures.0)
    c.step-o1.ensures.0

even : (c : After-step-o1) → c.step-e2.result ≡ horner D evens c.upper_product-z.result
even c = horner_step D _ _ _ (horner_step D _ _ _ (sym (horner-one D _ _)) c.step-e4.ensures.0) c.step-e2.ensures.0

pub returns : goal.returns
unfolding raised coefficients chains alternate others
returns c =
    let f = c.args.f in
    let z = c.upper_product-z.result in
    let v = (goal.at.returns c).After-step-o1 in
    rw (c.from.ensures, c.from-2.ensures, c.from-3.ensures, c.from-4.ensures) (
    add_comm _ D ∙ ap₂ (λ (o e : ℕ). D + (f * o + z * e) / D) (odd v) (even v)
    ∙ ap (λ (n : ℕ). D + (f * horner D odds n + n * horner D evens n) / D) c.upper_product-z.ensures.value
    )
