-- `Size::rounded` meets its contract: head and rest round as the whole. Assumes nothing.
use mathlib.Core.Path.{◌∙◌}
use Prim.Native.Nat.{◌+◌, ◌*◌, ◌^◌, ◌<◌}
use Rattle.exactsums.specs.Work.{size_of}
use Rattle.exactsums.proofs.Heads.{Ready, ready, sticky_bit, ready_small, ready_normal, ready_rounds}
use Rattle.exactsums.proofs.Size.rounded.Goals.{After-closed}
use Rattle.exactsums.proofs.Size.rounded.Goals as goal

pub closed-requires : goal.closed-requires
closed-requires c = (c.head-t.ensures.small, sticky_bit _ c.rest-s.result c.rest-s.ensures)

-- what is rounded
is-ready : (c : After-closed)
    → let n = c.args.self.now in
    Ready c.closed.result c.head-t.result.i c.rest-s.result (size_of n.top n.digits.now n.below)
is-ready c =
    let n = c.args.self.now in
    ready n.top n.digits.now n.below c.head-t.result.h c.head-t.result.i c.closed.result c.rest-s.result
    n.each c.head-t.ensures c.rest-s.ensures c.closed.ensures

small : (c : After-closed) → 2 * c.closed.result + c.rest-s.result < 2 ^ 63
small c = ready_small c.closed.result c.head-t.result.i c.rest-s.result _ (is-ready c) c.head-t.ensures.room

pub even_bits-requires : goal.even_bits-requires
even_bits-requires c =
    let at = (goal.at.even_bits-requires c).After-closed in
    (ready_normal c.closed.result c.head-t.result.i c.rest-s.result _ (is-ready at) c.head-t.ensures.room, small at)

pub returns : goal.returns
returns c =
    let at = (goal.at.returns c).After-closed in
    c.even_bits.ensures
    ∙ ready_rounds c.closed.result c.head-t.result.i c.rest-s.result _ (is-ready at) c.head-t.ensures.room
