-- `Size::head` meets its contract. The loop's invariant: h and the digits below the place i are the whole. Assumes
-- nothing.
use mathlib.Core.Path.{◌≡◌}
use Prim.Native.Nat.{ℕ, ◌+◌, ◌-◌, ◌*◌, ◌^◌, ◌≤◌, ◌<◌}
use native.Mathlib.Omega.{arith}
use Rattle.exactsums.proofs.Bins.{number_none}
use Rattle.exactsums.proofs.Heads.{start_plus, start_minus, next_plus, next_minus}
use Rattle.exactsums.proofs.Size.head.Goals as goal

-- facts on plain numbers
under : {n : ℕ} → n ≤ 2 ^ 60 → n < 2 ^ 61
under l = omega arith

shorter : {i : ℕ} → i ≤ 41 → i - 1 ≤ 41
shorter l = omega arith

more : {h d : ℕ} → h < 144115188075855872 → d < 16 → 16 * h + d < 2 ^ 61
more l m = omega arith

pub loop-i-init : goal.loop-i-init
loop-i-init c =
    let n = c.args.self.now in
    let ds = n.digits.now in
    (omega arith, under n.few, start_plus n.top ds n.below, start_minus n.top ds n.below n.each)

pub loop-i-preserved : goal.loop-i-preserved
loop-i-preserved c =
    let n = c.args.self.now in
    let ds = n.digits.now in
    let l = c.loop-i in
    let some = c.loop-i-test.true in (
      shorter l.invariant.0,
      more c.if-h-lt144115188075855872.true c.digit.ensures.small,
      next_plus n.top ds n.below l.h l.i c.digit.result some c.digit.ensures l.invariant.2,
      next_minus n.top ds n.below l.h l.i c.digit.result some c.digit.ensures l.invariant.3,
    )

-- h is large, or no digit is left
pub returns-else-h-lt144115188075855872 : goal.returns-else-h-lt144115188075855872
returns-else-h-lt144115188075855872 c =
    let l = c.loop-i in
    record {
      room = l.invariant.0;
      small = l.invariant.1;
      enough = λ k. c.if-h-lt144115188075855872.false;
      plus = l.invariant.2;
      minus = l.invariant.3;
    }

pub returns-after-loop-i : goal.returns-after-loop-i
returns-after-loop-i c =
    let l = c.loop-i in
    let none = number_none c.args.self.now.digits.now 0 l.i c.loop-i-test.false in
    record {
      room = l.invariant.0;
      small = l.invariant.1;
      enough = λ k. absurd (never none k);
      plus = l.invariant.2;
      minus = l.invariant.3;
    }
  where
    never : {n : ℕ} → n ≡ 0 → 0 < n → ⊥
    never e m = omega arith
