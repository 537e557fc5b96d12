-- `powers::nearest` meets its contract: the digits of the one evaluation or of the other. Assumes nothing.
use Rattle.std.proofs.Common.{◌≡◌, ℕ, ◌+◌, ◌*◌, ◌/◌, ◌%◌, ◌^◌, ◌≤◌, Bool, true, false, cond, refl, sym, ap, ◌∙◌}
use Rattle.std.proofs.Common.{le_trans}
use Rattle.std.proofs.Common.{le_of_eq, arith}
use lib.Ieee.{Float}
use Rattle.powers.specs.Raised.{raised}
use Rattle.powers.specs.Value.{cut_of, power_digits, is_left_open, fraction_of, fine_digits, exp2_digits, exp2_bits}
use Rattle.powers.proofs.Reduction.{cut_top}
use Rattle.powers.proofs.Covered.{open_size}
use Rattle.powers.proofs.nearest.Goals.{After-is_open, After-of-power}
use Rattle.powers.proofs.nearest.Goals as goal

-- the exponent is at most 253
top : (c : After-of-power) → c.of-power.result.e ≤ 253
top c = omega (arith, c.of-power.ensures.1, le_trans (le_of_eq c.requires.1) (cut_top c.args.x c.requires.0))

-- what the test says, of x
tested : (c : After-is_open) → c.is_open.result ≡ is_left_open (raised (cut_of c.args.x % 2 ^ 32))
tested c =
    c.is_open.ensures
    ∙ ap is_left_open (c.of-power.ensures.0 ∙ ap (λ (n : ℕ). raised (n % 2 ^ 32)) c.requires.1)

pub settled-requires : goal.settled-requires
settled-requires c =
    let v = (goal.at.settled-requires c).After-is_open in
    let s = open_size c.args.x c.requires.0 (sym (tested v) ∙ c.if-is_open.true) in
    (c.requires.0, s, top (goal.at.settled-requires c).After-of-power)

-- the value, by the test
bits : (x : Float) (b : Bool) → is_left_open (raised (cut_of x % 2 ^ 32)) ≡ b
    → exp2_bits x
    ≡ cut_of x / 2 ^ 32 * 8388608 + cond b (fine_digits (fraction_of x)) (power_digits (cut_of x % 2 ^ 32))
unfolding exp2_bits exp2_digits
bits x b e = rw e refl

pub returns-then-is_open : goal.returns-then-is_open
returns-then-is_open c =
    let v = (goal.at.returns-then-is_open c).After-is_open in
    c.settled.ensures
    ∙ rw (c.of-power.ensures.1, c.requires.1)
    (sym (bits c.args.x true (sym (tested v) ∙ c.if-is_open.true)))

pub bits-requires : goal.bits-requires
bits-requires c = top (goal.at.bits-requires c).After-of-power

pub returns : goal.returns
unfolding power_digits
returns c =
    let v = (goal.at.returns c).After-is_open in
    c.bits.ensures
    ∙ rw (c.of-power.ensures.0, c.of-power.ensures.1, c.requires.1)
    (sym (bits c.args.x false (sym (tested v) ∙ c.if-is_open.false)))
