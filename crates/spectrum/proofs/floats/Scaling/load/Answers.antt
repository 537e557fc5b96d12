-- `spectrum::floats::Scaling::load` meets its contract. Assumes nothing.
use mathlib.Core.Path.{◌≡◌, sym, ap, ◌∙◌, subst}
use Prim.Native.Nat.{ℕ, ◌+◌, ◌-◌, ◌*◌, ◌/◌, ◌%◌, ◌^◌, ◌<◌}
use native.Mathlib.Omega.{arith}
use Rattle.std.specs.Float.{binary32}
use Rattle.std.specs.Float.Ieee.{Float, to_bits}
use Rattle.units.specs.Units.{mag, Number}
use Rattle.spectrum.specs.Table.{unit}
use Rattle.spectrum.specs.Floats.{size_in}
use Rattle.spectrum.proofs.Sizes.{size_of}
use Rattle.spectrum.proofs.Loads.{quotient_small, word_plus, word_minus}
use Rattle.spectrum.proofs.floats.Scaling.load.Goals.{After-scaled-y}
use Rattle.spectrum.proofs.floats.Scaling.load.Goals as goal

same : (x : Float) (b : ℕ) → Number x → b ≡ to_bits binary32 x → mag x ≡ size_in (b % 2147483648)
same x b n e = size_of x n ∙ ap (λ (n : ℕ). size_in (n % 2147483648)) (sym e)

units : (c : After-scaled-y) → c.scaled-y.result ≡ mag c.args.x * 2 ^ 53 / 2 ^ c.args.self.digits
units c =
    c.scaled-y.ensures
    ∙ ap (λ (n : ℕ). n * 2 ^ 53 / 2 ^ c.args.self.digits)
    (sym (same c.args.x c.number_bits-b.result c.requires.0 c.number_bits-b.ensures))

least : (c : After-scaled-y) → c.scaled-y.result < 2 ^ 53
least c = rw (units c) (quotient_small (mag c.args.x) c.args.self.digits c.requires.1)

pub scaled-y-requires : goal.scaled-y-requires
scaled-y-requires c =
    let e = same c.args.x c.number_bits-b.result c.requires.0 c.number_bits-b.ensures in
    (subst (λ (n : ℕ). n < 2 ^ c.args.self.digits) e c.requires.1, omega arith)

pub overflow_add-result : goal.overflow_add-result
overflow_add-result c = omega (arith, least (goal.at.overflow_add-result c).After-scaled-y)

pub overflow_sub-result : goal.overflow_sub-result
overflow_sub-result c = omega (arith, least (goal.at.overflow_sub-result c).After-scaled-y)

pub returns-then-b-lt2147483648 : goal.returns-then-b-lt2147483648
returns-then-b-lt2147483648 c =
    ap (λ (n : ℕ). unit + n) (units (goal.at.returns-then-b-lt2147483648 c).After-scaled-y)
    ∙ word_plus c.args.x c.requires.0 c.args.self.digits (rw c.number_bits-b.ensures at c.if-b-lt2147483648.true)

pub returns-else-b-lt2147483648 : goal.returns-else-b-lt2147483648
returns-else-b-lt2147483648 c =
    ap (λ (n : ℕ). unit - n) (units (goal.at.returns-else-b-lt2147483648 c).After-scaled-y)
    ∙ word_minus c.args.x c.requires.0 c.args.self.digits (rw c.number_bits-b.ensures at c.if-b-lt2147483648.false)
