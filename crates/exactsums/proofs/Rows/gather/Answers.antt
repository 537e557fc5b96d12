-- `Rows::gather` meets its contract. The loop's invariant: the elements passed are accepted, and what is in the bins and what is to
-- come are the whole sum. Assumes nothing.
use mathlib.Core.Path.{◌≡◌, sym, refl}
use mathlib.Core.Bool.{Bool, false, true≢false}
use Prim.Native.Nat.{◌+◌, ◌<◌}
use native.Mathlib.Omega.{arith}
use lib.ListN.{length, get_or}
use lib.Ieee.{nan}
use Rattle.std.specs.Prelude.{Result, Ok, Err}
use Rattle.std.specs.Result.{is_ok, IsErr}
use Rattle.units.specs.Tests.{Tells}
use Rattle.exactsums.specs.Nearest.{Element}
use Rattle.exactsums.specs.Work.{Taken}
use Rattle.exactsums.proofs.Gathering.{small_most, begun, further, ended}
use Rattle.exactsums.proofs.Rows.gather.Goals.{After-bits_of-y}
use Rattle.exactsums.proofs.Rows.gather.Goals as goal

pub loop-i-init : goal.loop-i-init
loop-i-init c = begun c.args.a.now c.args.b.now c.args.self.now.bins c.requires.2

pub take-requires : goal.take-requires
take-requires c =
    let l = c.loop-i in
    small_most (l.i + 1) 4096 l.self.bins (omega (arith, c.loop-i-test.true, c.requires.1)) l.invariant.small

-- the place is within the second list too, which is as long as the first
in-second : (c : After-bits_of-y) → c.loop-i.i < length c.args.b.now
in-second c = let l = c.loop-i-test.true in let e = c.requires.0 in omega arith

-- what the test of both elements tells
both : (c : After-bits_of-y) {bins : _} {answer : Bool} → Taken c.bits_of-x.result c.bits_of-y.result c.loop-i.self.bins bins answer
    → Tells (Element (get_or c.args.a.now c.loop-i.i nan) × Element (get_or c.args.b.now c.loop-i.i nan)) answer
both c t =
    t.tells (get_or c.args.a.now c.loop-i.i nan) (get_or c.args.b.now c.loop-i.i nan) (c.type_inv.a c.loop-i.i) (c.type_inv.b c.loop-i.i)
    c.bits_of-x.ensures c.bits_of-y.ensures

-- a refusal is no value
no_value : {A E : Type 0} (r : Result A E) → IsErr r → is_ok r ≡ false
no_value (Ok x) e = absurd (true≢false (sym e))
no_value (Err x) e = refl

pub returns-in_err-take-clause-judged : goal.returns-in_err-take-clause-judged
returns-in_err-take-clause-judged c =
    let at = (goal.at.returns-in_err-take-clause-judged c).After-bits_of-y in
    rw (no_value c.from_residual.result c.from_residual.ensures.0) (record {
      if_true = λ e. absurd (true≢false (sym e));
      if_false = λ e r.
          (both at c.in_err-take.ensures.taken).if_false refl (r.first c.loop-i.i c.loop-i-test.true, r.second c.loop-i.i (in-second at));
    })

pub loop-i-preserved : goal.loop-i-preserved
loop-i-preserved c =
    let at = (goal.at.loop-i-preserved c).After-bits_of-y in
    let t = c.in_ok-take.ensures.taken in
    let (x, y) = (both at t).if_true refl in
    further c.args.a.now c.args.b.now c.loop-i.self.bins _ c.loop-i.i _ _ c.loop-i.invariant c.loop-i-test.true
    (in-second at) x y c.bits_of-x.ensures c.bits_of-y.ensures (t.added refl)

pub returns-clause-judged : goal.returns-clause-judged
returns-clause-judged c =
    let l = c.loop-i in
    record {
      if_true = λ e. ended c.args.a.now c.args.b.now l.self.bins l.i c.requires.0 c.requires.1 l.invariant c.loop-i-test.false;
      if_false = λ e. absurd (true≢false e);
    }
