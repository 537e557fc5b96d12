-- `path::frame::product_size` meets its contract. Assumes nothing.
use mathlib.Core.Path.{ap₂, ◌∙◌}
use Prim.Native.Nat.{◌+◌, ◌-◌, ◌*◌, ◌/◌, ◌^◌, ◌<◌}
use native.Mathlib.Omega.{arith}
use Rattle.path.proofs.Products.{few_digits, unbounded, by_patterns}
use Rattle.path.proofs.frame.product_size.Goals as goal

pub returns : goal.returns
returns c =
    let p = c.args.p in
    let q = c.args.q in
    let fits : c.digits.result * (c.digits-2.result * 128) < 2 ^ 64 = rw (c.digits.ensures, c.digits-2.ensures) (omega (arith, few_digits p q c.requires.0 c.requires.1)) in
    c.unbounded_shr.ensures ∙ unbounded _ _ fits
    ∙ ap₂ (λ a b. a * (b * 128) / 2 ^ (254 - (p / 8388608 + q / 8388608))) c.digits.ensures c.digits-2.ensures
    ∙ by_patterns p q c.requires.0 c.requires.1
