-- m is the largest of the patterns passed.
use Rattle.spectrum.specs.Floats.{Largest}
use Rattle.spectrum.proofs.floats.largest.Given as goal

abbrev pub invariant-loop-a : goal.invariant-loop-a
invariant-loop-a l = Largest l.x l.a-index l.m
