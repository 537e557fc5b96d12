-- `Tally::total` meets its contract. The loop's invariant: s is the sum of all that lies behind the blocks whose digits are left.
-- Assumes nothing.
use mathlib.Core.Path.{◌≡◌}
use Prim.Native.Nat.{◌*◌, ◌/◌, ◌^◌, ◌<◌}
use lib.ListN.{length}
use Rattle.sums.proofs.Counter.{behind_at}
use Rattle.sums.proofs.Tally.total.Given as goal

abbrev pub invariant-loop-c : goal.invariant-loop-c
invariant-loop-c l = record {
  low : 0 < l.c → l.l < 11;
  digits : l.c ≡ length l.pair.a.now / 64 / 2 ^ l.l;
  sum : l.s ≡ behind_at l.pair.a.now l.pair.b.now (l.c * 2 ^ l.l);
}

abbrev pub decreases-loop-c : goal.decreases-loop-c
decreases-loop-c l = l.c
