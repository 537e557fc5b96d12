-- Products and square roots of values that are near a power of two. A number v stands for v / O. Assumes nothing.
use mathlib.Core.Path.{◌≡◌, refl}
use Prim.Native.Nat.{ℕ, suc, ◌+◌, ◌*◌, ◌/◌, ◌≤◌, ◌<◌}
use native.Mathlib.Nat.{le_trans, le_of_eq, one-le-mul, mul-le-mul_right, pow-zero, div-mul-le_self, lt-div-mul-add, le_of_lt}
use native.Mathlib.Omega.{arith}
use Rattle.exact.specs.Power.{AtMost, AtLeast}
use Rattle.exact.proofs.Power.{one-pow, pow-two, pow-mul, most_of_less, least_of_more, most_of_larger, least_of_smaller, most_mul, least_mul, through_power}
use Rattle.gaps.proofs.Stretch.{Near}

module _ {O Q : ℕ} (opos : 0 < O) where
  -- up to the exponent 1 a value is at most 2
  pub at_most_two : {A p : ℕ} → p ≤ Q → AtMost A O p 0 Q → A ≤ 2 * O
  at_most_two {A} {p} less h = omega (arith, through_power (most_of_larger h.root (omega (arith, mul-le-mul_right Q less)) h) two)
    where
      two : AtLeast 2 1 Q 0 Q
      two = record { per = omega arith; root = h.root; holds = le_of_eq (rw (one-pow, pow-zero) refl) }

  -- a product, rounded down; a doubt e about the one doubles, and the other may be 2 too low
  pub product : {A e p p' : ℕ} (v : ℕ) → Near A e O p Q → A ≤ 2 * O → Near v 2 O p' Q → v + 2 ≤ 2 * O → Near (A * v / O) (2 * e + 5) O (p + p') Q
  product {A} {e} v a low b fits =
      record {
        most = most_of_less opos (rounded (A * v / O) (div-mul-le_self (A * v) O)) (most_mul a.most b.most);
        least = least_of_more opos (through (A * v / O) (le_of_lt (lt-div-mul-add opos))) (least_mul a.least b.least);
      }
    where
      rounded : (x : ℕ) → x * O ≤ A * v → x * (O * O) ≤ A * v * O
      rounded x h = omega (arith, mul-le-mul_right O h)

      through : (x : ℕ) → A * v ≤ x * O + O → (A + e) * (v + 2) * O ≤ (x + (2 * e + 5)) * (O * O)
      through x h = omega (arith, mul-le-mul_right O h, mul-le-mul_right O low, mul-le-mul_right (e * O) fits)

-- one exponent written in two ways
pub rewritten : {A e O p p' q q' : ℕ} → 0 < q' → p * q' ≡ p' * q → Near A e O p q → Near A e O p' q'
rewritten pos same near = record { most = most_of_larger pos (omega arith) near.most; least = least_of_smaller pos (omega arith) near.least }

-- ---- square roots

-- a value to the half of an exponent
module _ {n d p q : ℕ} where
  most_root : AtMost (n * n) (d * d) p 0 q → 0 < d → AtMost n d p 0 (2 * q)
  most_root h pos = record { per = pos; root = omega (arith, h.root); holds = rw (pow-mul n 2 q, pow-mul d 2 q, pow-two n, pow-two d) h.holds }

  least_root : AtLeast (n * n) (d * d) p 0 q → 0 < d → AtLeast n d p 0 (2 * q)
  least_root h pos = record { per = pos; root = omega (arith, h.root); holds = rw (pow-mul n 2 q, pow-mul d 2 q, pow-two n, pow-two d) h.holds }

-- x is the square root of y / O, rounded down
pub record RootOf (O y x : ℕ) : Type 0 where
  pub from : x * x ≤ y * O
  pub to : y * O < suc x * suc x
  pub least : O ≤ x

-- a doubt of 2 stays one of 2
pub root_near : {O p q y x : ℕ} → 0 < O → RootOf O y x → Near y 2 O p q → Near x 2 O p (2 * q)
root_near {O} {y = y} {x} pos r near =
    record {
      most = most_root (most_of_less (one-le-mul pos pos) (omega (arith, mul-le-mul_right O r.from)) near.most) pos;
      least = least_root (least_of_more (one-le-mul pos pos) (through r.to r.least) near.least) pos;
    }
  where
    through : y * O < suc x * suc x → O ≤ x → (y + 2) * (O * O) ≤ (x + 2) * (x + 2) * O
    through h l = le_trans (le_of_eq (omega arith)) (mul-le-mul_right {m = (y + 2) * O} {n = (x + 2) * (x + 2)} O (omega arith))
