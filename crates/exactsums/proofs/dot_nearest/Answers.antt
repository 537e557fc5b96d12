-- `exactsums::dot_nearest` meets its promise: each return is lists whose products stand in the bins, or lists that the tests show are
-- refused. Assumes nothing.
use mathlib.Core.Path.{refl}
use native.Mathlib.Omega.{arith}
use Rattle.std.proofs.lemmas.Result.{err_from_is_err_and}
use Rattle.units.specs.declared.refusal.Refusal.TheVariants.{OutOfRange, BadLength}
use Rattle.exactsums.specs.Nearest.{Lengths}
use Rattle.units.proofs.Answers.{ok, err}
use Rattle.exactsums.proofs.Ending.{ones_level}
use Rattle.exactsums.proofs.Promise.{success, refused_lengths, refused_element}
use Rattle.exactsums.proofs.dot_nearest.Goals.{Else-a-gt4096, then-a-b-via-then-a-b, then-a-b-via-else-a-b+then-a-gt4096}
use Rattle.exactsums.proofs.dot_nearest.Goals as goal

-- ---- refused by their lengths
pub returns-then-a-b : goal.returns-then-a-b
returns-then-a-b c =
    err {before = 0} BadLength (refused_lengths c.args.a.now c.args.b.now (λ l. elim c.then-a-b.branch [
      | then-a-b-via-then-a-b w ↦ absurd (omega (arith, l.same, w.if-a-b.true))
      | then-a-b-via-else-a-b+then-a-gt4096 w ↦ absurd (omega (arith, l.most, w.if-a-gt4096.true))
    ]))

-- ---- the lists behind the tests of their lengths
lengths : (c : Else-a-gt4096) → Lengths c.args.a.now c.args.b.now
lengths c = record { same = c.if-a-b.false; most = c.if-a-gt4096.false }

pub gather-requires : goal.gather-requires
gather-requires c = let l = lengths (goal.at.gather-requires c).Else-a-gt4096 in (l.same, l.most, ones_level)

-- ---- refused by an element
pub returns-in_err-gather : goal.returns-in_err-gather
returns-in_err-gather c =
    let p = err_from_is_err_and c.from_residual.result c.from_residual.ensures.1 in
    let g = c.in_err-gather.ensures in
    rw (p.1, p.2, g.refusal) (err {before = 0} OutOfRange (refused_element c.args.a.now c.args.b.now
    (lengths (goal.at.returns-in_err-gather c).Else-a-gt4096) (g.judged.if_false refl)))

-- ---- all products stand in the bins
pub difference-requires : goal.difference-requires
difference-requires c = (c.in_ok-gather.ensures.judged.if_true refl).small

pub returns : goal.returns
returns c =
    let l = lengths (goal.at.returns c).Else-a-gt4096 in
    let all = c.in_ok-gather.ensures.judged.if_true refl in
    ok {before = 0} (success c.args.a.now c.args.b.now l _ all c.difference.ensures)
