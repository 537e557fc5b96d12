-- `spectrum::floats::Scaling::of_largest` meets its contract. Assumes nothing.
use Rattle.spectrum.proofs.Sizes.{low_scale, high_scale}
use Rattle.spectrum.proofs.floats.Scaling.of_largest.Goals.{then-m-lt8388608, else-m-lt8388608}
use Rattle.spectrum.proofs.floats.Scaling.of_largest.Goals as goal

pub returns : goal.returns
returns c = elim c.if-m-lt8388608.branch [
  | then-m-lt8388608 w ↦ rw w.digits-is (low_scale c.args.m w.if-m-lt8388608.true)
  | else-m-lt8388608 w ↦ rw w.digits-is (high_scale c.args.m w.if-m-lt8388608.false c.requires)
]
