-- `roots::sqrt` meets its promise: each return is an accepted float, or one that the tests show is not.
-- Assumes nothing.
use Rattle.std.proofs.Common.{rules, T, sym, subst, ◌∙◌, arith}
use lib.Ieee.{binary32, fits}
use lib.Ieee.Bits.{to_bits-lt}
use Rattle.units.specs.Units.{Positive}
use Rattle.fixed.proofs.Take.{nan_is_none}
use Rattle.roots.proofs.Range.{zero_is, not-zero, positive, positive_below}
use Rattle.roots.proofs.SquareRoot.{above_zero, success_zero, success, declines}
use Rattle.roots.proofs.sqrt.Goals.{Start, Joined-not-contains, else-not-contains}
use Rattle.roots.proofs.sqrt.Goals.{then-not-contains+in_default+else-b-ge-LEAST_NORMAL}
use Rattle.roots.proofs.sqrt.Goals as goal

in-format : (c : Start) → T (fits binary32 c.args.x)
in-format c = subst T (sym c.well_formed.0.1) tt

pub returns-then-is_nan : goal.returns-then-is_nan
returns-then-is_nan c =
    declines c.args.x (λ a. nan_is_none c.args.x (sym c.is_nan.ensures.value ∙ c.if-is_nan.true) a.number)

pub returns-in-0 : goal.returns-in-0
returns-in-0 c =
    let (n, z) = zero_is c.args.x (in-format (goal.at.returns-in-0 c).Start) (omega (arith, c.in-0.is)) in
    success_zero c.args.x n z (sym c.in-0.is)

pub returns-in-2147483648 : goal.returns-in-2147483648
returns-in-2147483648 c =
    let e = c.in-2147483648.is in
    let (n, z) = zero_is c.args.x (in-format (goal.at.returns-in-2147483648 c).Start) (omega (arith, e)) in
    success_zero c.args.x n z (sym e)

pub returns-in_default : goal.returns-in_default
returns-in_default c =
    let x = c.args.x in
    declines x (λ a.
    let word = to_bits-lt binary32 x a.number.fits32 in
    let below = positive_below x (above_zero x a (not-zero x a.number (search rules))) in
    search rules)

-- the pattern is that of a normal float above zero, or of a subnormal one
accepted : (c : Joined-not-contains) → Positive c.args.x
accepted c =
    let f : T (fits binary32 c.args.x) = subst T (sym c.well_formed.0.1) tt in
    elim c.if-not-contains.branch [
      | then-not-contains+in_default+else-b-ge-LEAST_NORMAL w ↦ positive c.args.x f (search rules) (search rules)
      | else-not-contains w ↦ positive c.args.x f (search rules) (search rules)
    ]

pub root_bits-requires : goal.root_bits-requires
root_bits-requires c = accepted (goal.at.root_bits-requires c).Joined-not-contains

pub returns : goal.returns
returns c = success c.args.x (accepted (goal.at.returns c).Joined-not-contains) c.root_bits.ensures
