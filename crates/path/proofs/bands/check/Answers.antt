-- `path::bands::check` meets its contract: each test is one of the band's conditions. Assumes nothing.
use mathlib.Core.Path.{refl}
use Prim.Native.Nat.{◌<◌}
use native.Mathlib.Nat.{not-le_of_lt}
use lib.ListN.{get_or}
use Rattle.path.proofs.Channels.{readable, loud_bits, quiet_bits}
use Rattle.path.proofs.bands.check.Goals.{then-high-low-via-then-high-low, then-high-low-via-else-high-low+then-high-gt64, then-high-low-via-else-high-low+else-high-gt64+then-b-gt-ONE}
use Rattle.path.proofs.bands.check.Goals.{then-high-low-via-else-high-low+else-high-gt64+else-b-gt-ONE+then-m-gt-ONE}
use Rattle.path.proofs.bands.check.Goals as goal

pub returns-then-high-low : goal.returns-then-high-low
returns-then-high-low c =
    let b : get_or c.args.words.now 2 0 < 4294967296 = c.fits-words 2 in
    let m : get_or c.args.words.now 3 0 < 4294967296 = c.fits-words 3 in (
      refl,
      λ h. elim c.then-high-low.branch [
        | then-high-low-via-then-high-low w ↦ not-le_of_lt w.if-high-low.true h.order
        | then-high-low-via-else-high-low+then-high-gt64 w ↦ not-le_of_lt w.if-high-gt64.true h.bins
        | then-high-low-via-else-high-low+else-high-gt64+then-b-gt-ONE w ↦ not-le_of_lt w.if-b-gt-ONE.true (quiet_bits _ _ b m h.channel.levels)
        | then-high-low-via-else-high-low+else-high-gt64+else-b-gt-ONE+then-m-gt-ONE w ↦ not-le_of_lt w.if-m-gt-ONE.true (loud_bits _ _ b m h.channel.levels)
      ],
    )

pub float_from_bits-channel : goal.float_from_bits-channel
float_from_bits-channel c = readable _ c.if-b-gt-ONE.false

pub float_from_bits-channel-2 : goal.float_from_bits-channel-2
float_from_bits-channel-2 c = readable _ c.if-m-gt-ONE.false
