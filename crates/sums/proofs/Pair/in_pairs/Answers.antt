-- `Pair::in_pairs` meets its contract: nothing, a rest alone, or blocks and a rest. Assumes nothing.
use mathlib.Core.Path.{◌≡◌, sym, ap, ◌∙◌}
use Prim.Native.Nat.{ℕ, ◌*◌, ◌/◌}
use Rattle.std.proofs.Common.{eqb-true}
use Rattle.std.proofs.lemmas.Bool.{eqb-false}
use native.Mathlib.Omega.{arith}
use lib.ListN.{length, drop}
use Rattle.sums.specs.Value.{sum_of}
use Rattle.sums.proofs.Pieces.{dot_empty, sum_some}
use Rattle.sums.proofs.Pair.in_pairs.Goals as goal

pub returns-then-is_empty : goal.returns-then-is_empty
returns-then-is_empty c =
    let p = c.args.self in
    sym (dot_empty p.a.now p.b.now (eqb-true _ _ (sym c.is_empty.ensures ∙ c.if-is_empty.true)))

pub returns-then-self-lt64 : goal.returns-then-self-lt64
returns-then-self-lt64 c =
    let p = c.args.self in
    let z : length p.a.now / 64 * 64 ≡ 0 = omega arith in
    c.rest-s.ensures ∙ ap (λ (i : ℕ). sum_of (drop i p.a.now) (drop i p.b.now)) z
    ∙ sum_some p.a.now p.b.now (omega (arith, eqb-false _ _ (sym c.is_empty.ensures ∙ c.if-is_empty.false)))
