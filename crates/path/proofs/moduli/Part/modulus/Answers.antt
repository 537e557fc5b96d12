-- `path::moduli::Part::modulus` meets its contract. Assumes nothing.
use mathlib.Core.Path.{◌≡◌}
use Prim.Native.Nat.{ℕ, ◌+◌, ◌*◌, ◌^◌, ◌≤◌, ◌<◌}
use native.Mathlib.Omega.{arith}
use lib.Count.{count_leading_zeros}
use Rattle.path.proofs.Roots.{Shown, both_few, both_long, modulus_none, places, modulus_some}
use Rattle.path.proofs.moduli.Part.modulus.Goals.{After-first-b, Else-m-eq0}
use Rattle.path.proofs.moduli.Part.modulus.Goals as goal

pub returns-then-m-eq0 : goal.returns-then-m-eq0
returns-then-m-eq0 c = modulus_none c.args.self.re c.args.self.im c.max-m.result c.max-m.ensures c.if-m-eq0.true

-- behind the test there are places for both parts
show : (c : Else-m-eq0) → Shown c.args.self.re c.args.self.im (count_leading_zeros 64 c.max-m.result)
show c = places c.args.self.re c.args.self.im c.max-m.result c.max-m.ensures c.if-m-eq0.false c.args.self.real_fits c.args.self.imaginary_fits

pub first-a-requires : goal.first-a-requires
first-a-requires c = let h = show c in (omega (arith, h.small), h.real)

pub first-b-requires : goal.first-b-requires
first-b-requires c = let h = show c.before in (omega (arith, h.small), h.imaginary)

like : (x y a b : ℕ) (Q : ℕ → Type 0) → x ≡ a → y ≡ b → Q (a * a + b * b) → Q (x * x + y * y)
like x y a b Q e f h = rw (e, f) h

few : (c : After-first-b) → c.first-a.result * c.first-a.result + c.first-b.result * c.first-b.result < 2 ^ 63
few c = like _ _ _ _ (λ n. n < 2 ^ 63) c.first-a.ensures c.first-b.ensures (both_few (show c.before.before))

long : (c : After-first-b) → 2 ^ 60 ≤ c.first-a.result * c.first-a.result + c.first-b.result * c.first-b.result
long c = like _ _ _ _ (λ n. 2 ^ 60 ≤ n) c.first-a.ensures c.first-b.ensures (both_long (show c.before.before))

pub overflow_mul-a : goal.overflow_mul-a
overflow_mul-a c = omega (arith, few c)

pub overflow_mul-b : goal.overflow_mul-b
overflow_mul-b c = omega (arith, few c)

pub overflow_add-a : goal.overflow_add-a
overflow_add-a c = omega (arith, few c)

pub rooted-requires : goal.rooted-requires
rooted-requires c = (long c, few c, omega (arith, (show c.before.before).small))

pub returns : goal.returns
returns c =
    modulus_some c.args.self.re c.args.self.im c.max-m.result c.max-m.ensures c.if-m-eq0.false c.args.self.real_fits c.args.self.imaginary_fits _ _ _ c.first-a.ensures c.first-b.ensures c.rooted.ensures
