-- `logs::Unrounded::rounded_with_care` meets its contract: sign, exponent and digits do not meet. Assumes nothing.
use Rattle.std.proofs.Common.{◌<◌, sym, ◌∙◌, zero-le, le_trans, le_antisymm, lt_of_not-le, arith}
use lib.Count.{count_leading_zeros}
use Rattle.fixed.proofs.Rounding.{Placed, placed}
use Rattle.logs.specs.Value.{width_of}
use Rattle.logs.proofs.Rounding.{none_bits, digits_few, together}
use Rattle.logs.proofs.Told.{width_most, few_zeros}
use Rattle.logs.proofs.Unrounded.rounded_with_care.Goals.{Else-n-eq0}
use Rattle.logs.proofs.Unrounded.rounded_with_care.Goals as goal

above : (c : Else-n-eq0) → 0 < c.distance-n.result
above c = lt_of_not-le (λ h. c.if-n-eq0.false (le_antisymm h zero-le))

-- n has its digits z zeros after the first of 64
placed_digits : (c : Else-n-eq0) → Placed c.distance-n.result (count_leading_zeros 64 c.distance-n.result)
placed_digits c = placed c.distance-n.result (above c) c.distance-n.type_inv

pub returns-then-n-eq0 : goal.returns-then-n-eq0
returns-then-n-eq0 c = sym (none_bits c.args.self.b c.args.self.w (sym c.distance-n.ensures ∙ c.if-n-eq0.true))

pub digits-requires : goal.digits-requires
digits-requires c = λ o.
    let n = c.distance-n.result in
    let h = width_of c.first_word-first.result.e in
    let e = c.first_word-first.ensures in
    let few = few_zeros n (count_leading_zeros 64 n) h (width_most c.first_word-first.result.e) (rw (← e.0) o) in
    rw e.1 (le_trans few (omega arith))

pub put_together-requires : goal.put_together-requires
put_together-requires c =
    let small = (placed_digits c.before.before).small in
    (rw c.first_word-first.ensures.1 small, rw c.digits.ensures (digits_few _ _ _ _ (omega arith)))

pub returns : goal.returns
returns c =
    let first = c.first_word-first.result in
    together c.args.self.b c.args.self.w c.distance-n.result first.m first.e _
    c.distance-n.ensures c.first_word-first.ensures c.digits.ensures (above c.before.before.before)
    c.put_together.ensures
