-- `roots::root_bits` meets its contract: its pattern is the value function's. Assumes nothing.
use Rattle.std.proofs.Common.{◌≡◌, ℕ, ◌+◌, ◌*◌, ◌%◌, ◌^◌, ◌<◌, sym, ap, ◌∙◌, subst, le_trans, le_of_eq}
use Rattle.std.proofs.Common.{lt_of_le_of_lt, le_of_lt, mod-eq_of_lt, mul-le-mul, arith, pow_mono, pow-add}
use Rattle.roots.specs.Value.{IsNear, radicand, halved}
use Rattle.roots.proofs.SquareRoot.{many, few, pattern_in, sqrt_bits_lem}
use Rattle.roots.proofs.root_bits.Goals.{After-settle_root}
use Rattle.roots.proofs.root_bits.Goals as goal

-- the significand is shifted by its exponent's parity first, and by 23 places then
placed : (m e u : ℕ) → m < 16777216 → u ≡ m * 2 ^ (e % 2) % 4294967296 → u * 8388608 ≡ radicand m e
placed m e u h s =
    ap (λ (n : ℕ). n * 8388608) (s ∙ mod-eq_of_lt room) ∙ turned m (2 ^ (e % 2))
    ∙ ap (λ (n : ℕ). m * n) (sym (pow-add 2 23 (e % 2)))
  where
    room : m * 2 ^ (e % 2) < 4294967296
    room = lt_of_le_of_lt (mul-le-mul (le_of_lt h) (pow_mono {i = e % 2} {j = 1} (omega arith))) (omega arith)

    turned : (m u : ℕ) → m * u * 8388608 ≡ m * (8388608 * u)
    turned m u = omega arith

pub settle_root-requires : goal.settle_root-requires
settle_root-requires c =
    let x = c.args.x in
    let a = c.apart-m in
    let w = placed a.result.m a.result.e _ a.ensures.digits c.from-n.ensures in
    let least = many x a.result.m a.result.e a.ensures in
    let most = few x a.result.m a.result.e a.ensures in
    (le_trans least (le_of_eq (sym w)), lt_of_le_of_lt (le_of_eq w) most, c.root.ensures)

-- the digits that were settled
settled : (c : After-settle_root) → IsNear (radicand c.apart-m.result.m c.apart-m.result.e) c.settle_root.result
settled c =
    let a = c.apart-m in
    let w = placed a.result.m a.result.e _ a.ensures.digits c.from-n.ensures in
    subst (λ (n : ℕ). IsNear n c.settle_root.result) w c.settle_root.ensures

in_pattern : (c : After-settle_root) → halved c.apart-m.result.e * 8388608 + c.settle_root.result < 255 * 8388608
in_pattern c =
    let a = c.apart-m in
    pattern_in c.args.x a.result.m a.result.e c.settle_root.result a.ensures (settled c)

pub overflow_add-result-2 : goal.overflow_add-result-2
overflow_add-result-2 c = omega (arith, in_pattern (goal.at.overflow_add-result-2 c).After-settle_root)

pub returns : goal.returns
returns c =
    let a = c.apart-m in
    let near = settled (goal.at.returns c).After-settle_root in
    sym (sqrt_bits_lem c.args.x a.result.m a.result.e c.settle_root.result a.ensures near)
