-- `spectrum::floats::Scaling::store` meets its contract. Assumes nothing.
use Rattle.std.proofs.Common.{arith, below_more, get_or-set_same, get_or-set_other, ◌∙◌}
use Rattle.std.proofs.Common.{◌<◌, ◌≢◌, length}
use Rattle.spectrum.proofs.floats.Scaling.store.Goals as goal

pub loop-k-preserved : goal.loop-k-preserved
loop-k-preserved g c =
    below_more _ _
    (λ k h.
    let (v, p, e) = c.loop-k.invariant k h in
    let ne : k ≢ c.loop-k.k = omega arith in
    (v, p, get_or-set_other c.loop-k.out _ k _ 0 ne ∙ e))
    (let lt : c.loop-k.k < length c.loop-k.out = omega arith in
    (c.word.result, c.word.ensures, get_or-set_same c.loop-k.out _ _ 0 lt ∙ c.bits.ensures))

pub returns : goal.returns
returns g c = λ k h. c.loop-k.invariant k (omega arith)
