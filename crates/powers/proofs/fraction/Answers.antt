-- `powers::fraction` meets its contract: the digits shifted to their place, or what is missing of them to a whole
-- number. Assumes nothing.
use Rattle.std.proofs.Common.{◌≡◌, ℕ, ◌+◌, ◌%◌, ◌^◌, ◌≤◌, ap, ◌∙◌, subst, le_trans, arith, lit≤}
use Rattle.units.specs.Units.{mag}
use Rattle.fixed.proofs.Take.{no_nan}
use Rattle.powers.proofs.Places.{places_few, read_exponent, shifted, taken_plus, taken_minus}
use Rattle.powers.proofs.fraction.Goals.{Start}
use Rattle.powers.proofs.fraction.Goals as goal

-- x is large enough for its digits to be whole
size : (c : Start) → 2 ^ 109 ≤ mag c.args.x
size c = le_trans (lit≤ tt) c.requires.1

pub float_to_bits-b : goal.float_to_bits-b
float_to_bits-b c = no_nan c.args.x c.requires.0.number

pub overflow_sub-s : goal.overflow_sub-s
overflow_sub-s c =
    omega (arith, read_exponent c.args.x c.requires.0 (size (goal.at.overflow_sub-s c).Start))

pub overflow_shl-s : goal.overflow_shl-s
overflow_shl-s c =
    let x = c.args.x in
    let h = size (goal.at.overflow_shl-s c).Start in
    omega (arith, read_exponent x c.requires.0 h, places_few x c.requires.0 h)

pub returns-then-b-lt2147483648 : goal.returns-then-b-lt2147483648
returns-then-b-lt2147483648 c =
    let v = (goal.at.returns-then-b-lt2147483648 c).Start in
    rw c.from.ensures (
    ap (λ (n : ℕ). n % 2 ^ 64) (shifted c.args.x c.requires.0 (size v))
    ∙ taken_plus c.args.x c.requires.0 (size v) c.if-b-lt2147483648.true
    )

pub returns-else-b-lt2147483648 : goal.returns-else-b-lt2147483648
returns-else-b-lt2147483648 c =
    let v = (goal.at.returns-else-b-lt2147483648 c).Start in
    let x = c.args.x in
    let r = c.wrapping_neg.result in
    taken_minus x c.requires.0 (size v) c.if-b-lt2147483648.false r (omega arith)
    (subst (λ (n : ℕ). (r + n % 2 ^ 64) % 2 ^ 64 ≡ 0) (shifted x c.requires.0 (size v))
    (rw c.from.ensures at c.wrapping_neg.ensures))
