-- `powers::exp2` meets its promise: the argument is taken, or refused. Assumes nothing.
use Rattle.std.proofs.lemmas.Result.{err_from_is_err_and}
use Rattle.units.specs.declared.refusal.Refusal.TheVariants.{OutOfRange}
use Rattle.units.proofs.Answers.{ok, err}
use Rattle.powers.proofs.Promise.{success, refusal}
use Rattle.powers.proofs.exp2.Goals as goal

pub returns-in_err-c : goal.returns-in_err-c
returns-in_err-c c =
    let p = err_from_is_err_and c.from_residual.result c.from_residual.ensures.1 in
    rw (p.1, p.2, c.in_err-c.ensures.1) (err {before = 0} OutOfRange (refusal c.args.x c.in_err-c.ensures.0))

pub returns : goal.returns
returns c = ok {before = 0} (success _ c.in_ok-c.ensures.0 c.nearest.ensures)
