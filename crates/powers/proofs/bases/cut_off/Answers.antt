-- `bases::cut_off` meets its contract: each sign is a law of `Either`. Assumes nothing.
use Rattle.std.proofs.Common.{ℕ, ◌+◌, ◌-◌, ap, ◌∙◌, le_trans, le_of_eq, arith}
use Rattle.fixed.proofs.Take.{no_nan}
use Rattle.powers.proofs.Either.{number_of, small_of, top_of, plus_of, minus_of}
use Rattle.powers.proofs.bases.cut_off.Goals as goal

pub float_to_bits-b : goal.float_to_bits-b
float_to_bits-b g c = no_nan c.args.x (number_of g.S.Scale.base c.requires)

pub steps-k-requires : goal.steps-k-requires
steps-k-requires g c = small_of c.args.x g.S.Scale.base c.requires

pub returns-then-b-lt2147483648 : goal.returns-then-b-lt2147483648
returns-then-b-lt2147483648 g c =
    ap (λ (k : ℕ). 541165879296 + k) c.steps-k.ensures
    ∙ plus_of c.args.x g.S.Scale.base c.requires c.if-b-lt2147483648.true

pub overflow_add-result : goal.overflow_add-result
overflow_add-result g c =
    omega (arith, le_trans (le_of_eq (returns-then-b-lt2147483648 g c)) (top_of c.args.x g.S.Scale.base c.requires))

pub overflow_sub-result : goal.overflow_sub-result
overflow_sub-result g c =
    le_trans (le_of_eq c.steps-k.ensures) (minus_of c.args.x g.S.Scale.base c.requires c.if-b-lt2147483648.false).0

pub returns-else-b-lt2147483648 : goal.returns-else-b-lt2147483648
returns-else-b-lt2147483648 g c =
    ap (λ (k : ℕ). 541165879296 - k) c.steps-k.ensures
    ∙ (minus_of c.args.x g.S.Scale.base c.requires c.if-b-lt2147483648.false).1
