-- `Tally::carry` meets its contract. The loop's invariant: s is the sum of as many blocks as the digits that were
-- carried, up to block i, and all of those digits were 1. Assumes nothing.
use mathlib.Core.Path.{◌≡◌}
use Prim.Native.Nat.{◌+◌, ◌*◌, ◌/◌, ◌^◌}
use Rattle.sums.proofs.Counter.{block_at}
use Rattle.sums.proofs.Tally.carry.Given as goal

abbrev pub invariant-loop-l : goal.invariant-loop-l
invariant-loop-l l = record {
  place : l.i + 1 ≡ (l.i / 2 ^ l.l + 1) * 2 ^ l.l;
  sum : l.s ≡ block_at l.pair.a.now l.pair.b.now l.l (l.i / 2 ^ l.l * 2 ^ l.l);
}
