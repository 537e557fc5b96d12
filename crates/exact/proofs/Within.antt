-- Whole numbers at most e apart, as bounds on a difference of either sign: their products, and the exact distance.
use mathlib.Core.Path.{◌≡◌, ap}
use Prim.Native.Nat.{ℕ, ◌+◌, ◌*◌, ◌≤◌, ◌<◌}
use native.Mathlib.Nat.{le_dest, le_of_lt, lt_of_not-le, mul-le-mul_left, mul-le-mul_right, le_of_mul-le-mul_right}
use native.Mathlib.Decide.{dec_le}
use native.Mathlib.Omega.{arith}

-- |x - y| ≤ e
pub record Within (x y e : ℕ) : Type 0 where
  pub least : x ≤ y + e
  pub most : y ≤ x + e

-- the other way round
pub within_sym : {x y e : ℕ} → Within x y e → Within y x e
within_sym h = record { least = h.most; most = h.least }

-- a common factor above zero
pub within_cancel : {x y e : ℕ} (k : ℕ) → 0 < k → Within (x * k) (y * k) (e * k) → Within x y e
within_cancel {x} {y} {e} k pos h = record { least = le_of_mul-le-mul_right (omega arith) pos; most = le_of_mul-le-mul_right (omega arith) pos }

-- |u - u'| ≤ A and |v - v'| ≤ B give |u - u'| |v - v'| ≤ A B
pub within_mul : {u u' v v' A B : ℕ} → Within u u' A → Within v v' B → Within (u * v + u' * v') (u * v' + u' * v) (A * B)
within_mul {u} {u'} {v} {v'} {A} {B} h k =
    elim (dec_le u u') [
      | yes l ↦ let (i, e) = le_dest l in let c = times i (omega arith) in
          record { least = omega (arith, ap (λ (x : ℕ). x * v) e, ap (λ (x : ℕ). x * v') e); most = omega (arith, ap (λ (x : ℕ). x * v) e, ap (λ (x : ℕ). x * v') e) }
      | no l ↦ let (i, e) = le_dest (le_of_lt (lt_of_not-le l)) in let c = times i (omega arith) in
          record { least = omega (arith, ap (λ (x : ℕ). x * v) e, ap (λ (x : ℕ). x * v') e); most = omega (arith, ap (λ (x : ℕ). x * v) e, ap (λ (x : ℕ). x * v') e) }
    ]
  where
    times : (i : ℕ) → i ≤ A → Within (i * v) (i * v') (A * B)
    times i l = record { least = omega (arith, mul-le-mul_left i k.least, mul-le-mul_right B l); most = omega (arith, mul-le-mul_left i k.most, mul-le-mul_right B l) }

-- the distance of x and y
pub record Distance (x y : ℕ) : Type 0 where
  pub d : ℕ
  pub close : Within x y d
  pub square : d * d + 2 * (x * y) ≡ x * x + y * y
  -- times k, it is at most what k x and k y are apart
  pub tight : (k e : ℕ) → Within (k * x) (k * y) e → k * d ≤ e

-- every two numbers have one
pub distance : (x y : ℕ) → Distance x y
distance x y = elim (dec_le x y) [ yes l ↦ less x y l | no l ↦ turned (less y x (le_of_lt (lt_of_not-le l))) ]
  where
    less : (x y : ℕ) → x ≤ y → Distance x y
    less x y l =
        let (d, e) = le_dest l in
        record {
          d = d;
          close = record { least = omega arith; most = omega arith };
          square = omega (arith, ap (λ (n : ℕ). n * x) e, ap (λ (n : ℕ). n * y) e, ap (λ (n : ℕ). n * d) e);
          tight = λ k b c. omega (arith, c.most, ap (λ (n : ℕ). k * n) e);
        }

    turned : Distance y x → Distance x y
    turned a = record { d = a.d; close = within_sym a.close; square = omega (arith, a.square); tight = λ k e c. a.tight k e (within_sym c) }

-- a number whose square is at most another's square
pub root_order : (x y : ℕ) → x * x ≤ y * y → x ≤ y
root_order x y h = elim (dec_le x y) [ yes l ↦ l | no l ↦ absurd (over (lt_of_not-le l)) ]
  where
    over : y < x → ⊥
    over l = omega (arith, mul-le-mul_left x l, mul-le-mul_right y l)
