-- `Rows::subtract` meets its contract. The loop's invariant: so far the rows differ by the digits, what was carried and what was borrowed.
-- Assumes nothing.
use mathlib.Core.Path.{◌≡◌}
use Prim.Native.Nat.{◌+◌, ◌*◌, ◌^◌, ◌≤◌}
use Rattle.exactsums.specs.Work.{number, Digits}
use Rattle.exactsums.proofs.Rows.subtract.Given as goal

abbrev pub invariant-loop-j : goal.invariant-loop-j
invariant-loop-j l = record {
  over : l.over ≤ 2 ^ 60;
  under : l.under ≤ 2 ^ 60;
  digits : Digits l.digits;
  same : number l.self.bins 0 l.j + l.under * 16 ^ l.j ≡ number l.self.bins 41 l.j + (number l.digits 0 l.j + l.over * 16 ^ l.j);
}
