-- `spectrum::floats::Scaling::store_real` meets its contract. Assumes nothing.
use Rattle.std.proofs.Common.{arith, rules, get_or}
use Rattle.spectrum.proofs.Stores.{stored_as}
use Rattle.spectrum.proofs.floats.Scaling.store_real.Goals as goal

pub returns : goal.returns
returns c = record {
  as_many = omega arith;
  each = λ k h.
      stored_as c.args.self.digits (get_or c.args.r.now k 0) (λ v called. search rules) (c.store.ensures k (omega arith));
}
