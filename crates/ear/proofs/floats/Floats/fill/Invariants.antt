use Rattle.std.proofs.Common.{◌≡◌, ◌≤◌, ◌++◌, length, map}
use Rattle.ear.specs.Words.{float_of, words_of}
use Rattle.ear.proofs.floats.Floats.fill.Given as goal

abbrev pub invariant-loop-word : goal.invariant-loop-word
invariant-loop-word l =
    (l.self ++ map float_of (words_of l.rest) ≡ map float_of (words_of l.line)) × (length l.self ≤ 2048)

abbrev pub decreases-loop-word : goal.decreases-loop-word
decreases-loop-word l = length (words_of l.rest)
