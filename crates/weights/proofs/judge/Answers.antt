-- `weights::judge` meets its contract. Assumes nothing.
use Rattle.std.proofs.Common.{◌∙◌, refl, ap, subst, arith, below_none, below_more}
use Rattle.weights.specs.Softmax.{Element}
use Rattle.weights.specs.Value.{larger, largest}
use Rattle.weights.proofs.Keys.{one_more, larger_is}
use Rattle.weights.proofs.judge.Goals as goal

pub loop-i-init : goal.loop-i-init
unfolding largest
loop-i-init g c = (below_none _, refl)

pub loop-i-preserved : goal.loop-i-preserved
loop-i-preserved g c =
    let yes = c.is_accepted.ensures.if_true c.if-not-is_accepted.false in
    let inv = c.loop-i.invariant in (
      below_more _ _ inv.0 (subst Element c.pattern-b.ensures yes),
      c.max-top.ensures ∙ larger_is c.loop-i.top c.key.result ∙ ap (larger c.loop-i.top) c.key.ensures
          ∙ one_more _ c.loop-i.i c.pattern-b.result c.loop-i.top c.pattern-b.ensures (omega arith) yes.number inv.1,
    )
