-- `Rows::take` meets its contract: both are from 2^-40 to 2^40 in size, or one is 0, or one is refused. Assumes nothing.
use mathlib.Core.Bool.{true≢false}
use Rattle.exactsums.proofs.Patterns.{accepts_sized}
use Rattle.exactsums.proofs.Gathering.{added_none}
use Rattle.exactsums.proofs.Rows.take.Goals as goal

pub returns-then-both_sized-clause-taken : goal.returns-then-both_sized-clause-taken
returns-then-both_sized-clause-taken c =
    let (x, y) = c.both_sized.ensures.if_true c.if-both_sized.true in
    record {
      tells = λ u w f g is js. record {
        if_true = λ e. (accepts_sized u f (rw is at x), accepts_sized w g (rw js at y));
        if_false = λ e. absurd (true≢false e);
      };
      added = λ e. c.add.ensures;
    }

pub returns-then-accepted-2-clause-taken : goal.returns-then-accepted-2-clause-taken
returns-then-accepted-2-clause-taken c =
    let x = c.accepted.ensures.tells in
    let y = c.accepted-then-accepted.ensures.tells in
    record {
      tells = λ u w f g is js. record {
        if_true = λ e. ((x u f is).if_true c.if-accepted.true, (y w g js).if_true c.if-accepted-2.true);
        if_false = λ e. absurd (true≢false e);
      };
      added = λ e. added_none c.args.x c.args.y c.args.self.now.bins (c.both_sized.ensures.if_false c.if-both_sized.false);
    }
