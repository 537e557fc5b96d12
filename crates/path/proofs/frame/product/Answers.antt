-- `path::frame::product` meets its contract: the sign of a product is that of its factors together. Assumes nothing.
use mathlib.Core.Path.{◌≡◌, sym, ap, ap₂, ◌∙◌}
use mathlib.Core.Bool.{Bool, true, false, cond}
use Prim.Native.Nat.{ℕ, ◌+◌, ◌-◌, ◌*◌, ◌/◌, ◌%◌, ◌^◌, ◌≤◌, ◌<◌}
use native.Mathlib.Nat.{le_trans, le_of_eq}
use native.Mathlib.Omega.{arith}
use Rattle.units.specs.Units.{negative}
use Rattle.spectrum.specs.Table.{unit}
use Rattle.spectrum.specs.Floats.{size_in}
use Rattle.path.specs.Steps.{product_size, product_word}
use Rattle.path.proofs.Products.{product-size, product_most, clear, set, word_is}
use Rattle.path.proofs.frame.product.Goals.{After-product_size-y}
use Rattle.path.proofs.frame.product.Goals as goal

pub number_bits-a-requires : goal.number_bits-a-requires
number_bits-a-requires c = c.requires.0.number

pub number_bits-b-requires : goal.number_bits-b-requires
number_bits-b-requires c = c.requires.1.number

pub product_size-y-requires : goal.product_size-y-requires
product_size-y-requires c = (rw c.number_bits-a.ensures c.requires.0.bits, rw c.number_bits-b.ensures c.requires.1.bits)

-- the size
sized : (c : After-product_size-y) → c.product_size-y.result ≡ product_size c.args.x c.args.w
sized c =
    c.product_size-y.ensures ∙ ap₂ (λ a b. size_in (a % 2147483648) * size_in (b % 2147483648) * 2 ^ 53 / 2 ^ 298) c.number_bits-a.ensures c.number_bits-b.ensures ∙ product-size c.args.x c.args.w c.requires.0 c.requires.1

least : (c : After-product_size-y) → c.product_size-y.result ≤ 2 ^ 53
least c = le_trans (le_of_eq (sized c)) (product_most c.args.x c.args.w c.requires.0 c.requires.1)

-- the word, by the signs
worded : (c : After-product_size-y) (a b : Bool) → negative c.args.x ≡ a → negative c.args.w ≡ b
    → cond a (cond b (unit + c.product_size-y.result) (unit - c.product_size-y.result)) (cond b (unit - c.product_size-y.result) (unit + c.product_size-y.result)) ≡ product_word c.args.x c.args.w
worded c a b e f = ap (λ (q : ℕ). cond a (cond b (unit + q) (unit - q)) (cond b (unit - q) (unit + q))) (sized c) ∙ sym (word_is c.args.x c.args.w a b e f)

x-clear : (c : After-product_size-y) → c.number_bits-a.result < 2147483648 → negative c.args.x ≡ false
x-clear c l = clear c.args.x c.requires.0.number (rw c.number_bits-a.ensures at l)

x-set : (c : After-product_size-y) → 2147483648 ≤ c.number_bits-a.result → negative c.args.x ≡ true
x-set c l = set c.args.x c.requires.0.number (rw c.number_bits-a.ensures at l)

w-clear : (c : After-product_size-y) → c.number_bits-b.result < 2147483648 → negative c.args.w ≡ false
w-clear c l = clear c.args.w c.requires.1.number (rw c.number_bits-b.ensures at l)

w-set : (c : After-product_size-y) → 2147483648 ≤ c.number_bits-b.result → negative c.args.w ≡ true
w-set c l = set c.args.w c.requires.1.number (rw c.number_bits-b.ensures at l)

pub overflow_add-result : goal.overflow_add-result
overflow_add-result c = omega (arith, least c.before.before)

pub returns-then-b-lt-SIGN : goal.returns-then-b-lt-SIGN
returns-then-b-lt-SIGN c = let a = c.before.before in worded a false false (x-clear a c.if-a-lt-SIGN.true) (w-clear a c.if-b-lt-SIGN.true)

pub overflow_sub-result : goal.overflow_sub-result
overflow_sub-result c = omega (arith, least c.before.before)

pub returns-then-a-lt-SIGN : goal.returns-then-a-lt-SIGN
returns-then-a-lt-SIGN c = let a = c.before.before in worded a false true (x-clear a c.if-a-lt-SIGN.true) (w-set a c.if-b-lt-SIGN.false)

pub overflow_sub-result-then-b-lt-SIGN-2 : goal.overflow_sub-result-then-b-lt-SIGN-2
overflow_sub-result-then-b-lt-SIGN-2 c = omega (arith, least c.before.before)

pub returns-then-b-lt-SIGN-2 : goal.returns-then-b-lt-SIGN-2
returns-then-b-lt-SIGN-2 c = let a = c.before.before in worded a true false (x-set a c.if-a-lt-SIGN.false) (w-clear a c.if-b-lt-SIGN-2.true)

pub overflow_add-result-2 : goal.overflow_add-result-2
overflow_add-result-2 c = omega (arith, least c.before.before)

pub returns : goal.returns
returns c = let a = c.before.before in worded a true true (x-set a c.if-a-lt-SIGN.false) (w-set a c.if-b-lt-SIGN-2.false)
