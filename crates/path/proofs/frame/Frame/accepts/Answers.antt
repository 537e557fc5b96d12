-- `path::frame::Frame::accepts` meets its contract: no size is above the largest one. Assumes nothing.
use mathlib.Core.Path.{subst}
use native.Mathlib.Nat.{le_trans}
use native.Mathlib.Omega.{arith}
use borrow.Author.Tests.{leb-true, leb-false}
use Rattle.spectrum.specs.Floats.{Largest}
use Rattle.path.proofs.Samples.{sample_of, small_by, too_large}
use Rattle.path.proofs.frame.Frame.accepts.Goals as goal

pub returns-then-largest-le-ONE : goal.returns-then-largest-le-ONE
returns-then-largest-le-ONE c =
    let xs = c.largest.ensures in
    let ws = c.largest-then-largest-le-ONE.ensures in
    record {
      if_true = λ e. record {
        samples = λ i l. small_by _ (c.type_inv.x i) (le_trans (xs.most i (omega arith)) c.if-largest-le-ONE.true);
        window = λ i l. small_by _ (c.type_inv.w i) (le_trans (ws.most i (omega arith)) (leb-true _ _ e));
      };
      if_false = λ e h. too_large c.args.w.now _ (subst (λ n. Largest c.args.w.now n c.largest-then-largest-le-ONE.result) c.requires.1 ws) (leb-false _ _ e) (λ i l. sample_of _ (h.window i l));
    }
