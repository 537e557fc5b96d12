use Rattle.std.proofs.Common.{◌≡◌, ◌<◌, ◌+◌, ℕ, List, length, take}
use Rattle.std.specs.List.{All}
use Rattle.ear.specs.Words.{one_line}
use Rattle.ear.proofs.arguments.Given as goal

abbrev pub invariant-loop-i : goal.invariant-loop-i
invariant-loop-i g l =
    (words : List (List ℕ)) × (length words + 1 ≡ l.i) × All (λ word. 0 < length word) words
    × (l.line ≡ take 65536 (one_line words))
