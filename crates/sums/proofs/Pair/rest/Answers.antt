-- `Pair::rest` meets its contract: digit by digit of the length, s is the sum of what lies behind the higher digits. Assumes nothing.
use mathlib.Core.Path.{◌≡◌, ap, ◌∙◌}
use Prim.Native.Nat.{ℕ, ◌*◌, ◌/◌, ◌-◌}
use native.Mathlib.Omega.{arith}
use lib.ListN.{length, drop}
use lib.Ieee.{nan_bits}
use Rattle.sums.specs.Value.{sum_of}
use Rattle.sums.proofs.Pieces.{last_one, none_left}
use Rattle.sums.proofs.Pair.rest.Goals.{then-n-eq1, else-n-eq1}
use Rattle.sums.proofs.Pair.rest.Goals as goal

pub float_from_bits-s : goal.float_from_bits-s
unfolding nan_bits
float_from_bits-s c = tt

pub returns-then-n-eq0 : goal.returns-then-n-eq0
returns-then-n-eq0 c =
    let p = c.args.self in
    none_left p.a.now p.b.now p.lengths (length p.a.now / 64 * 64) (omega arith)

pub with_block-s-requires-clause-sum : goal.with_block-s-requires-clause-sum
with_block-s-requires-clause-sum c =
    let p = c.args.self in
    let a = p.a.now in
    let b = p.b.now in
    let n = length a in
    let at : n - 1 ≡ n / 2 * 2 → sum_of (drop (n - 1) a) (drop (n - 1) b) ≡ sum_of (drop (n / 2 * 2) a) (drop (n / 2 * 2) b) =
    ap (λ (j : ℕ). sum_of (drop j a) (drop j b)) in
    elim c.if-n-eq1.branch [
      | then-n-eq1 w ↦ w.s-is ∙ last_one a b p.lengths (n - 1) (omega arith) ∙ at (omega arith)
      | else-n-eq1 w ↦ w.s-is ∙ none_left a b p.lengths (n / 2 * 2) (omega arith)
    ]
