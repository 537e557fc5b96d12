-- `spectrum::turns::cosine` meets its contract: a computed test of all rows. Assumes nothing.
use Rattle.std.proofs.Common.{◌≡◌, ap, ◌∙◌, ℕ, ◌+◌, ◌-◌, ◌*◌, get_or, arith}
use lib.Dec.{T, eqb, eqb→eq}
use Rattle.spectrum.specs.Table.{entry}
use Rattle.spectrum.specs.declared.turns.TheConstants.{COSINES}
use Rattle.spectrum.proofs.Tests.{all, at}
use Rattle.spectrum.proofs.turns.cosine.Goals as goal

rows : T (all 31 (λ i. eqb (get_or COSINES i 0) (8 * entry (i + 1))))
unfolding all entry
rows = tt

pub returns : goal.returns
returns c =
    let here : c.args.j - 1 + 1 ≡ c.args.j = omega arith in
    eqb→eq _ _ (at 31 (λ i. eqb (get_or COSINES i 0) (8 * entry (i + 1))) rows (c.args.j - 1) (omega arith))
    ∙ ap (λ (n : ℕ). 8 * entry n) here
