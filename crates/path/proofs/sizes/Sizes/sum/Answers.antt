-- `path::sizes::Sizes::sum` meets its contract: at most 65 sizes are added. Assumes nothing.
use mathlib.Core.Path.{◌≡◌, sym, ap, ◌∙◌}
use Prim.Native.Nat.{ℕ, suc, ◌+◌, ◌-◌, ◌*◌, ◌^◌, ◌≤◌, ◌<◌}
use native.Mathlib.Omega.{arith}
use lib.ListN.{get_or}
use Rattle.spectrum.specs.Transform.{sum_of}
use Rattle.path.proofs.Adding.{sum_more, sum_none}
use Rattle.path.proofs.sizes.Sizes.sum.Goals.{In-loop-k}
use Rattle.path.proofs.sizes.Sizes.sum.Goals as goal

pub loop-k-init : goal.loop-k-init
loop-k-init c = (sym (sum_none (λ k. get_or c.args.self.words.now k 0) c.args.low), omega arith)

-- the sum with one word more
bounded : (c : In-loop-k) → c.loop-k.s + get_or c.args.self.words.now c.loop-k.k 0 ≤ (c.loop-k.k + 1 - c.args.low) * (3 * 2 ^ 56)
bounded c = let m = c.args.self.few c.loop-k.k (omega arith) in let n = c.loop-k.invariant.1 in omega arith

pub overflow_add-s : goal.overflow_add-s
overflow_add-s c = omega (arith, bounded (goal.at.overflow_add-s c).In-loop-k)

pub loop-k-preserved : goal.loop-k-preserved
loop-k-preserved c = (
  ap (λ (x : ℕ). x + get_or c.args.self.words.now c.loop-k.k 0) c.loop-k.invariant.0 ∙ sym (sum_more (λ k. get_or c.args.self.words.now k 0) c.args.low c.loop-k.k (omega arith)),
  bounded (goal.at.loop-k-preserved c).In-loop-k,
)

pub returns : goal.returns
returns c =
    c.loop-k.invariant.0 ∙ ap (λ (n : ℕ). sum_of (λ j. get_or c.args.self.words.now (c.args.low + j) 0) n) (count c.loop-k.k c.args.low c.args.high (omega arith) (omega arith))
  where
    count : (k low high : ℕ) → k ≤ high + 1 → high < k → k - low ≡ suc high - low
    count k low high a b = omega arith
