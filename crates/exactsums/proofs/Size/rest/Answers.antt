-- `Size::rest` meets its contract. The loop's invariant: the sum of the digits passed is 0 where their number is.
-- Assumes nothing.
use mathlib.Core.Path.{refl}
use mathlib.Core.Logic.{inl}
use Prim.Native.Nat.{◌^◌}
use native.Mathlib.Omega.{arith}
use lib.ListN.{get_or}
use Rattle.exactsums.specs.Work.{number}
use Rattle.exactsums.proofs.Bins.{number_next₀, sticky_next, sixteen_pos}
use Rattle.exactsums.proofs.Size.rest.Goals as goal

pub loop-j-init : goal.loop-j-init
unfolding number
loop-j-init c = (omega arith, omega arith, inl (refl, refl))

pub loop-j-preserved : goal.loop-j-preserved
loop-j-preserved c =
    let ds = c.args.self.now.digits.now in
    let j = c.loop-j.j in (
      omega arith,
      omega (arith, c.args.self.now.each.each j),
      rw (number_next₀ ds j)
          (sticky_next (number ds 0 j) (get_or ds j 0) (16 ^ j) c.loop-j.sum (sixteen_pos j) c.loop-j.invariant.2),
    )
