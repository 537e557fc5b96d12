-- What the loops of `fine::fine` keep: Horner's rule on the coefficients that they have seen.
use Rattle.std.proofs.Common.{◌≡◌, ◌-◌, ◌^◌, ◌<◌, drop}
use Rattle.fixed.specs.Horner.{horner}
use Rattle.fine.specs.Value.{coefficients}
use Rattle.fine.proofs.Method.{U}
use Rattle.fine.proofs.fine.Given as goal

abbrev pub invariant-loop-c : goal.invariant-loop-c
invariant-loop-c l = (l.word ≡ horner U (drop (16 - l.c-index) coefficients) l.t) × (l.word < 2 ^ 32)

abbrev pub invariant-loop-c-2 : goal.invariant-loop-c-2
invariant-loop-c-2 l = l.words ≡ horner U (drop (11 - l.c-index) coefficients) l.t
