-- The pattern of a float gives it back, and one of a NaN's gives a NaN. Assumes nothing.
use Rattle.std.proofs.Common.{ap, ◌∙◌}
use lib.Ieee.{binary32, of_bits}
use lib.Ieee.Bits.{of_bits-to_bits}
use Rattle.weights.proofs.sources.RefSliceF32Source.pattern.Goals as goal

pub returns : goal.returns
returns c = ap (of_bits binary32) c.bits_of.ensures ∙ of_bits-to_bits binary32 _ (c.type_inv.self c.args.i)
