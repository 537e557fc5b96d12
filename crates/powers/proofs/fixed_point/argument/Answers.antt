-- `fixed_point::argument` meets its contract: either base accepts what e ^ x accepts. Assumes nothing.
use Rattle.powers.proofs.Either.{by_both}
use Rattle.powers.proofs.fixed_point.argument.Goals as goal

pub argument-requires : goal.argument-requires
argument-requires g c = by_both g.B.Base.base c.requires
