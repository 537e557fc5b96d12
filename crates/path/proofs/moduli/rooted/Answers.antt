-- `path::moduli::rooted` meets its contract. Assumes nothing.
use Rattle.path.proofs.Roots.{rooted_high, rooted_low}
use Rattle.path.proofs.moduli.rooted.Goals as goal

pub returns-then-n-ge-LONG : goal.returns-then-n-ge-LONG
returns-then-n-ge-LONG c = rooted_high c.args.n c.args.z c.nearest_root.result c.if-n-ge-LONG.true c.requires.1 c.nearest_root.ensures

pub returns-else-n-ge-LONG : goal.returns-else-n-ge-LONG
returns-else-n-ge-LONG c = rooted_low c.args.n c.args.z c.nearest_root-else-n-ge-LONG.result c.requires.0 c.if-n-ge-LONG.false c.nearest_root-else-n-ge-LONG.ensures
