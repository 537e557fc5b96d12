-- `spectrum::floats::Scaling::store_imaginary` meets its contract. Assumes nothing.
use Rattle.std.proofs.Common.{arith, rules, ◌-◌, get_or}
use Rattle.spectrum.proofs.Stores.{stored_as, between_ends}
use Rattle.spectrum.proofs.floats.Scaling.store_imaginary.Goals as goal

pub returns : goal.returns
returns c =
    between_ends c.args.self.digits c.args.r.now c.args.im.now c.store.new.out c.requires.long.1 c.store.auto.out
    (λ k h.
    stored_as c.args.self.digits (get_or c.args.r.now (127 - k) 0) (λ v called. search rules)
    (c.store.ensures k (omega arith)))
