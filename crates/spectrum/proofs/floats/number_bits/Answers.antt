-- `spectrum::floats::number_bits` meets its contract. Assumes nothing.
use Rattle.spectrum.proofs.Loads.{no_nan}
use Rattle.spectrum.proofs.floats.number_bits.Goals as goal

pub float_to_bits-result : goal.float_to_bits-result
float_to_bits-result c = no_nan c.args.x c.requires
