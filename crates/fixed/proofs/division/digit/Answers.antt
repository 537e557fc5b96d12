-- `fixed::division::digit` meets its contract: the digit tried lacks 2 at most. Assumes nothing.
use Rattle.std.proofs.Common.{arith}
use Rattle.fixed.proofs.Dividing.{tried, is_digit}
use Rattle.fixed.proofs.division.digit.Goals as goal

pub overflow_sub-m : goal.overflow_sub-m
overflow_sub-m c =
    rw (c.from-w.ensures, c.from.ensures, c.from-2.ensures, c.from-3.ensures)
    (tried c.args.r c.args.b c.args.d c.requires.1 c.requires.2 c.requires.0).most

pub overflow_cast-result-else-m-w-2 : goal.overflow_cast-result-else-m-w-2
overflow_cast-result-else-m-w-2 c =
    let t = tried c.args.r c.args.b c.args.d c.requires.1 c.requires.2 c.requires.0 in
    rw (c.from-w.ensures, c.from.ensures, c.from-2.ensures, c.from-3.ensures) (omega (arith, t))

pub returns-then-m-w : goal.returns-then-m-w
returns-then-m-w c =
    let t = tried c.args.r c.args.b c.args.d c.requires.1 c.requires.2 c.requires.0 in
    let l = rw (c.from-w.ensures, c.from.ensures, c.from-2.ensures, c.from-3.ensures) at c.if-m-w.true in
    rw (c.from-w.ensures, c.from.ensures, c.from-2.ensures, c.from-3.ensures)
    (is_digit _ _ _ c.requires.1 c.requires.2 _ _ (record { same = omega (arith, t); less = l }))

pub returns-else-m-w-2 : goal.returns-else-m-w-2
returns-else-m-w-2 c =
    let t = tried c.args.r c.args.b c.args.d c.requires.1 c.requires.2 c.requires.0 in
    let l = rw (c.from-w.ensures, c.from.ensures, c.from-2.ensures, c.from-3.ensures) at c.if-m-w-2.false in
    rw (c.from-w.ensures, c.from.ensures, c.from-2.ensures, c.from-3.ensures)
    (is_digit _ _ _ c.requires.1 c.requires.2 _ _ (record { same = omega (arith, t, l); less = omega (arith, t) }))
