-- `Tally::total` meets its contract. The loop's invariant: s is the sum of all that lies behind the blocks whose digits are left.
-- Assumes nothing.
use mathlib.Core.Path.{◌≡◌, ap, ◌∙◌}
use Prim.Native.Nat.{ℕ, ◌+◌, ◌*◌, ◌/◌, ◌^◌}
use native.Mathlib.Omega.{arith}
use lib.ListN.{length, drop}
use Rattle.sums.specs.Value.{sum_of}
use Rattle.sums.proofs.Counter.{behind_at, next_digit, held_digit, collect_on, collect_off, collected}
use Rattle.sums.proofs.Tally.total.Goals.{then-c-eq1, else-c-eq1}
use Rattle.sums.proofs.Tally.total.Goals as goal

pub loop-c-init : goal.loop-c-init
loop-c-init c =
    let p = c.args.pair in
    let n = length p.a.now in
    let place : n / 64 * 64 ≡ 64 * (n / 64 * 1) = omega arith in
    record {
      low = λ some. omega arith;
      digits = omega arith;
      sum = c.requires.rest ∙ ap (λ (i : ℕ). sum_of (drop i p.a.now) (drop i p.b.now)) place;
    }

pub loop-c-preserved : goal.loop-c-preserved
loop-c-preserved c =
    let p = c.args.pair in
    let a = p.a.now in
    let b = p.b.now in
    let l = c.loop-c in
    let h = l.invariant in
    let digits = next_digit a b p.lengths l.l l.c h.digits h.sum in
    let sum : c.if-c-eq1.s ≡ behind_at a b (l.c / 2 * 2 ^ (l.l + 1)) =
    elim c.if-c-eq1.branch [
      | then-c-eq1 w ↦
          w.s-is ∙ collect_on a b p.lengths l.l l.c h.digits h.sum c.args.self.now.held c.requires.held.1 w.if-c-eq1.true
      | else-c-eq1 w ↦ w.s-is ∙ collect_off a b p.lengths l.l l.c h.digits h.sum w.if-c-eq1.false
    ] in
    record { low = held_digit a b p.lengths (l.l + 1) (l.c / 2) digits sum; digits = digits; sum = sum }

pub returns : goal.returns
returns c =
    let p = c.args.pair in
    let l = c.loop-c in
    let h = l.invariant in
    collected p.a.now p.b.now p.lengths l.l l.c h.digits h.sum c.requires.held.0 c.loop-c-test.false
