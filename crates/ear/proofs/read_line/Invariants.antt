use Rattle.std.proofs.Common.{◌≢◌, ◌≤◌, ◌-◌, length}
use Rattle.std.specs.Io.KnownBytes.{Consumes}
use Rattle.std.specs.List.{All}
use Rattle.ear.proofs.read_line.Given as goal

abbrev pub invariant-loop-input : goal.invariant-loop-input
invariant-loop-input g l = record {
  most : length l.line ≤ 65536;
  one : All (λ byte. byte ≢ 10) l.line;
  given : Consumes (g.R.Read.remaining l.initial.input) (g.R.Read.remaining l.input) l.line;
}

abbrev pub decreases-loop-input : goal.decreases-loop-input
decreases-loop-input g l = 65536 - length l.line
