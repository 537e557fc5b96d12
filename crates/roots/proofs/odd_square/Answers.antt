-- `roots::odd_square` meets its contract: two limbs make the product. Assumes nothing.
use Rattle.std.proofs.Common.{◌≡◌, ℕ, ◌+◌, ◌*◌, ◌/◌, ◌%◌, ◌<◌, sym, ap, ◌∙◌, div-add-mod', arith, lit<}
use native.Mathlib.Nat.{mul-add-div_right}
use Rattle.roots.proofs.odd_square.Goals as goal

-- a product in two limbs is the product cut off
two_limbs : (a m c : ℕ) → 0 < c → a / c * m + a % c * m / c ≡ a * m / c
two_limbs a m c pc =
    let e : a * m ≡ a / c * m * c + a % c * m = ap (λ (n : ℕ). n * m) (sym (div-add-mod' a c)) ∙ omega arith in
    sym (ap (λ (n : ℕ). n / c) e ∙ mul-add-div_right pc (a / c * m) (a % c * m))

pub returns : goal.returns
returns c =
    let o = 2 * c.args.h + 1 in
    let m = c.args.m in
    let low = c.upper_product-low.ensures.value in
    let limbs = two_limbs (o * o) m 4294967296 (lit< tt) in
    rw (c.from-2.ensures, low, c.from-o.ensures, c.from.ensures, limbs) (twice (o * o * m))
  where
    twice : (n : ℕ) → n / 4294967296 / 4294967296 ≡ n / 18446744073709551616
    twice n = omega arith
