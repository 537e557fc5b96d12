-- `Rows::subtract` meets its contract. The loop's invariant: so far the rows differ by the digits, what was carried and what was borrowed.
-- Assumes nothing.
use mathlib.Core.Path.{refl}
use Prim.Native.Nat.{◌+◌, ◌-◌, ◌%◌, ◌^◌}
use native.Mathlib.Nat.{pow-suc}
use native.Mathlib.Numerals.{add-one}
use native.Mathlib.Omega.{arith}
use lib.ListN.{get_or}
use Rattle.exactsums.specs.Work.{number}
use Rattle.exactsums.proofs.Bins.{number_next, number_next₀, number_written, digits_set, subtract_step}
use Rattle.exactsums.proofs.Rows.subtract.Goals as goal

pub loop-j-init : goal.loop-j-init
unfolding number
loop-j-init c = record { over = omega arith; under = omega arith; digits = c.requires.1; same = refl }

-- no bin is larger than 2 ^ 63, as `c.requires.0.each` says
pub overflow_add-y : goal.overflow_add-y
overflow_add-y c = omega (arith, c.requires.0.each (41 + c.loop-j.j))

pub overflow_add-under : goal.overflow_add-under
overflow_add-under c = omega (arith, c.requires.0.each (41 + c.loop-j.j))

pub loop-j-preserved : goal.loop-j-preserved
loop-j-preserved c =
    let l = c.loop-j in
    let h = l.invariant in
    let bins = c.args.self.now.bins in
    let ds = l.digits in
    let j = l.j in
    let f = get_or bins j 0 in
    let g = get_or bins (41 + j) 0 in
    let d = ((f + l.over) % 16 + 16 - (g + l.under) % 16) % 16 in
    record {
      over = omega (arith, c.requires.0.each j);
      under = omega (arith, c.requires.0.each (41 + j));
      digits = digits_set ds j d h.digits c.loop-j-test.true (omega arith);
      same = rw (number_next₀ bins j, number_next bins 41 j, number_written ds j d (omega (arith, h.digits.long)), add-one j, pow-suc 16 j)
          (subtract_step (number bins 0 j) (number bins 41 j) (number ds 0 j) (16 ^ j) f g l.over l.under h.same);
    }
