-- `circle::Angle::of` meets its contract: a NaN is no number, and the first digit of its pattern is its sign.
-- Assumes nothing.
use Rattle.std.proofs.Common.{◌≡◌, ℕ, ◌/◌, ◌<◌, cond, T, leb, sym, refl, subst, ◌∙◌, arith, rules}
use lib.Ieee.{binary32}
use lib.Ieee.Bits.{to_bits-lt}
use Rattle.fixed.proofs.Take.{nan_is_none}
use Rattle.circle.proofs.Angle.of.Goals as goal

sign : (b : ℕ) → b < 4294967296 → cond (leb 2147483648 b) 1 0 ≡ b / 2147483648
sign b h = grind arith

pub returns-then-is_nan : goal.returns-then-is_nan
returns-then-is_nan g c =
    (refl, λ n. absurd (nan_is_none c.args.x (sym c.is_nan.ensures.value ∙ c.if-is_nan.true) n))

pub returns : goal.returns
returns g c =
    let word = to_bits-lt binary32 c.args.x (subst T (sym c.well_formed.0.1) tt) in
    (search rules, sign _ word)
