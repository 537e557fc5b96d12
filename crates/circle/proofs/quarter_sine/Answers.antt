-- `circle::quarter_sine` meets its contract: its steps are those of Horner's rule. Assumes nothing.
use Rattle.std.proofs.Common.{◌≡◌, ℕ, ◌-◌, ◌*◌, ◌/◌, sym, ap, arith}
use Rattle.fixed.specs.Horner.{alternating}
use Rattle.fixed.proofs.Alternating.{alternating-one, alternating_step}
use Rattle.circle.specs.Kernel.{kernel_first, kernel_rest, slope_of, quarter_sine}
use Rattle.circle.proofs.quarter_sine.Goals.{After-step-p1}
use Rattle.circle.proofs.quarter_sine.Goals as goal

module _ (c : After-step-p1) where
  abbrev z : ℕ
  z = c.upper_product-z.result

  made : c.step-p1.result ≡ alternating 4294967296 kernel_rest z
  unfolding kernel_rest
  made =
      let p3 = alternating_step 4294967296 z _ _ (sym (alternating-one 4294967296 _ z)) c.step-p4.ensures.0 in
      let p2 = alternating_step 4294967296 z _ _ p3 c.step-p3.ensures.0 in
      let p1 = alternating_step 4294967296 z _ _ p2 c.step-p2.ensures.0 in
      alternating_step 4294967296 z _ _ p1 c.step-p1.ensures.0

pub returns : goal.returns
unfolding slope_of quarter_sine
returns c =
    let w = c.args.w in
    let last = c.upper_product.ensures.value in
    let rest = made (goal.at.returns c).After-step-p1 in
    rw (c.from.ensures, c.from-2.ensures, last, rest, c.upper_product-z.ensures.value)
    (ap (λ (p : ℕ). w * (kernel_first - p) / 2147483648) (halved _))
  where
    halved : (n : ℕ) → n / 4294967296 / 2 ≡ n / 8589934592
    halved n = omega arith
