-- `path::moduli::Part::of` meets its contract. Assumes nothing.
use Rattle.std.proofs.Common.{rules}
use Rattle.path.specs.Steps.{real_size, imaginary_size}
use Rattle.path.proofs.moduli.Part.of.Goals as goal

pub returns : goal.returns
unfolding real_size imaginary_size
returns c = search rules
