-- `spectrum::floats::Scaling::shifted` meets its contract: each return is a law of the shift. Assumes nothing.
use Rattle.std.proofs.Common.{◌+◌, ◌-◌, ◌∙◌, inl, inr, arith}
use borrow.Author.Tests.{lt-ltb, le-ltb}
use Rattle.units.proofs.Naturals.{le-or-lt}
use Rattle.spectrum.proofs.Sizes.{shifted_left, shifted_right, shifted_out}
use Rattle.spectrum.proofs.floats.Scaling.shifted.Goals as goal

pub returns-then-e-p : goal.returns-then-e-p
returns-then-e-p c =
    rw c.from.ensures
    (shifted_left c.args.m c.args.k c.args.self.digits c.requires.0 c.requires.2 c.if-e-p.true)

pub returns : goal.returns
returns c =
    let e = c.args.self.digits in
    let m = c.args.m in
    let k = c.args.k in
    let s = e - (k + 53) in
    c.unbounded_shr.ensures ∙ rw c.from-2.ensures (elim (le-or-lt 64 s) [
      | inl h ↦ rw (le-ltb s 64 h) (shifted_out m k e c.requires.0 (omega arith))
      | inr h ↦ rw (lt-ltb s 64 h) (shifted_right m k e c.requires.0 (omega arith))
    ])
