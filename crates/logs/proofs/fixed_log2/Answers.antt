-- `logs::fixed_log2` meets its contract: the value is the value function's. Assumes nothing.
use Rattle.std.proofs.Common.{arith}
use Rattle.fixed.proofs.Take.{no_nan}
use Rattle.logs.specs.Value.{fixed_of}
use Rattle.logs.proofs.Reduction.{bits_few}
use Rattle.logs.proofs.Logarithm.{fixed_promised}
use Rattle.logs.proofs.fixed_log2.Goals as goal

pub float_to_bits-x : goal.float_to_bits-x
float_to_bits-x c = no_nan c.args.x c.requires.number

pub fixed_bits-requires : goal.fixed_bits-requires
fixed_bits-requires c = omega (arith, bits_few c.args.x c.requires)

pub returns : goal.returns
unfolding fixed_of
returns c = fixed_promised c.args.x _ c.requires c.fixed_bits.ensures
