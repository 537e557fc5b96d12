-- `circle::wave_bits` meets its contract: sign and size do not meet. Assumes nothing.
use Rattle.std.proofs.Common.{◌≡◌, ℕ, ◌+◌, ◌*◌, ◌/◌, ◌^◌, ◌<◌, ◌≤◌, sym, ap, ◌∙◌, le_trans, le_of_eq, arith}
use Rattle.std.proofs.Common.{eq-eqb, ne_eqb}
use Rattle.fixed.specs.Rounded.{nearest_bits}
use Rattle.fixed.proofs.Rounding.{bits_fit}
use Rattle.circle.specs.Kernel.{quarter_sine}
use Rattle.circle.specs.Wave.{size_of, wave_bits}
use Rattle.circle.proofs.Pattern.{normal, size_top}
use Rattle.circle.proofs.wave_bits.Goals.{After-quarter_sine-n}
use Rattle.circle.proofs.wave_bits.Goals as goal

-- the size that was computed is the sine's
size : (c : After-quarter_sine-n) → c.quarter_sine-n.result ≡ size_of c.args.phase
unfolding size_of
size c = c.quarter_sine-n.ensures ∙ ap quarter_sine c.place.ensures

pub returns-then-n-eq0 : goal.returns-then-n-eq0
unfolding wave_bits
returns-then-n-eq0 c =
    let e = size (goal.at.returns-then-n-eq0 c).After-quarter_sine-n in
    rw (eq-eqb _ _ (sym e ∙ c.if-n-eq0.true))

pub nearest_bits-requires : goal.nearest_bits-requires
nearest_bits-requires c = normal c.quarter_sine-n.result

pub overflow_add-result : goal.overflow_add-result
overflow_add-result c =
    let n = c.quarter_sine-n.result in
    let t = c.args.phase in
    let e = size (goal.at.overflow_add-result c).After-quarter_sine-n in
    let top : n ≤ 4294967303 = le_trans (le_of_eq e) (size_top t) in
    let fit = bits_fit n 157 (omega arith) (normal n) in
    let b : c.nearest_bits.result < 255 * 8388608 = rw c.nearest_bits.ensures fit in
    omega arith

pub returns : goal.returns
unfolding wave_bits
returns c =
    let t = c.args.phase in
    let e = size (goal.at.returns c).After-quarter_sine-n in
    let digits = c.nearest_bits.ensures ∙ ap (λ (n : ℕ). nearest_bits n 157) e in
    rw (ne_eqb (size_of t) _ (λ z. c.if-n-eq0.false (e ∙ z))) (ap (λ (b : ℕ). t / 2 ^ 63 * 2147483648 + b) digits)
