-- `path::bands::envelope` meets its contract. Assumes nothing.
use mathlib.Core.Path.{sym, ap, ◌∙◌, subst}
use mathlib.Core.Bool.{not}
use Prim.Native.Nat.{ℕ}
use lib.Dec.{T, lit≤}
use lib.Ieee.{binary32, of_bits, nan_bits}
use Rattle.path.proofs.Channels.{readable}
use Rattle.path.proofs.Envelopes.{normal, full_bits, part_bits, part_readable}
use Rattle.path.proofs.bands.envelope.Goals as goal

pub float_from_bits-result : goal.float_from_bits-result
float_from_bits-result c = readable 1065353216 (lit≤ tt)

pub returns-then-s-ge-FULL : goal.returns-then-s-ge-FULL
returns-then-s-ge-FULL c = ap (of_bits binary32) (full_bits c.args.s c.if-s-ge-FULL.true)

pub nearest_bits-requires : goal.nearest_bits-requires
nearest_bits-requires c = normal c.args.s

pub float_from_bits-result-else-s-ge-FULL : goal.float_from_bits-result-else-s-ge-FULL
float_from_bits-result-else-s-ge-FULL c =
    subst (λ (b : ℕ). T (not (nan_bits binary32 b))) (sym c.nearest_bits.ensures) (part_readable c.args.s c.if-s-ge-FULL.false)

pub returns-else-s-ge-FULL : goal.returns-else-s-ge-FULL
returns-else-s-ge-FULL c = ap (of_bits binary32) (c.nearest_bits.ensures ∙ part_bits c.args.s c.if-s-ge-FULL.false)
