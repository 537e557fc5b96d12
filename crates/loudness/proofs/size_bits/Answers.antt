-- `loudness::size_bits` meets its contract. Assumes nothing.
use Rattle.std.proofs.Common.{sym}
use Rattle.loudness.proofs.Sizes.{set_bits, other_bits}
use Rattle.loudness.proofs.size_bits.Goals as goal

pub float_to_bits-p : goal.float_to_bits-p
float_to_bits-p c = c.requires

pub returns-then-p : goal.returns-then-p
returns-then-p c = sym (set_bits c.args.a c.if-p.true)

pub returns-else-p : goal.returns-else-p
returns-else-p c = sym (other_bits c.args.a c.if-p.false)
