-- `fixed::bits_of` gives the pattern: of a NaN, as the logic's `to_bits` says it. Assumes nothing.
use Rattle.std.proofs.Common.{sym, ap, ◌∙◌}
use lib.Ieee.{binary32, to_bits}
use Rattle.fixed.proofs.Take.{the_nan}
use Rattle.fixed.proofs.bits_of.Goals as goal

pub returns-then-is_nan : goal.returns-then-is_nan
unfolding to_bits
returns-then-is_nan c = sym (ap (to_bits binary32) (the_nan c.args.x (sym c.is_nan.ensures.value ∙ c.if-is_nan.true)))
