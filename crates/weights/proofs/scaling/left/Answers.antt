-- `scaling::left` meets its contract: a product, or a shift of any number of places. Assumes nothing.
use Rattle.std.proofs.Common.{◌≡◌, ℕ, ◌+◌, ◌*◌, ◌/◌, ◌-◌, ◌^◌, inl, inr, sym, ◌∙◌, arith}
use borrow.Author.Tests.{lt-ltb, le-ltb}
use Rattle.units.proofs.Naturals.{le-or-lt}
use Rattle.weights.proofs.Aligning.{left_all, left_first, left_none}
use Rattle.weights.proofs.scaling.left.Goals as goal

pub returns-then-k-le20 : goal.returns-then-k-le20
returns-then-k-le20 c =
    rw (c.from.ensures, c.from-then-k-le20.ensures, c.from-then-k-le20-2.ensures)
    (shared c.args.q (1048576 / 2 ^ c.args.k) ∙ left_all (c.args.q + 2 ^ 32) c.args.k c.if-k-le20.true)
  where
    shared : (q u : ℕ) → q * u + u * 4294967296 ≡ (q + 2 ^ 32) * u
    shared q u = omega arith

pub returns : goal.returns
returns c =
    let d = c.args.q + 2 ^ 32 in
    let k = c.args.k in
    c.unbounded_shr.ensures ∙ rw c.from-2.ensures (elim (le-or-lt 64 (k - 20)) [
      | inl h ↦ rw (le-ltb (k - 20) 64 h) (sym (left_none d k (omega arith) (omega arith)))
      | inr h ↦ rw (lt-ltb (k - 20) 64 h) (left_first d k (omega arith))
    ])
