-- Laws on whole numbers that the kit's library lacks. Assumes nothing.
use mathlib.Core.Path.{◌≡◌, ap, ap₂, sym, ◌∙◌}
use mathlib.Core.Logic.{◌⊎◌, inl, inr}
use mathlib.Core.Bool.{Bool, true, false, not}
use Prim.Native.Nat.{ℕ, ◌+◌, ◌-◌, ◌*◌, ◌^◌, ◌≤◌, ◌<◌}
use native.Mathlib.Nat.{le_trans, le_of_eq, lt_of_le_of_lt, lt_of_lt_of_le, not-le_of_lt, mul_comm, mul-sub, mul-le-mul_right, le_of_mul-le-mul_right, mul-lt-mul_of_pos_right, lt_of_mul-lt-mul_right}
use native.Mathlib.Omega.{arith}
use lib.Dec.{T, leb, leb→le, nleb→lt}
use lib.Pow.{pow-add, pow_mono, pow-lt}

-- of two numbers, either the first is at most the second or the second is less
pub le-or-lt : (m n : ℕ) → (m ≤ n) ⊎ (n < m)
le-or-lt m n = go (leb m n) (leb→le m n) (nleb→lt m n)
  where
    go : (b : Bool) → (T b → m ≤ n) → (T (not b) → n < m) → (m ≤ n) ⊎ (n < m)
    go true l g = inl (l tt)
    go false l g = inr (g tt)

-- an order of powers is an order of exponents
pub pow_back : (i j : ℕ) → 2 ^ i ≤ 2 ^ j → i ≤ j
pow_back i j h = elim (le-or-lt i j) [ inl l ↦ l | inr l ↦ absurd (not-le_of_lt (pow-lt l) h) ]

pub pow_back_lt : (i j : ℕ) → 2 ^ i < 2 ^ j → i < j
pow_back_lt i j h = elim (le-or-lt j i) [ inl l ↦ absurd (not-le_of_lt h (pow_mono l)) | inr l ↦ l ]

-- 2 ^ j as 2 ^ i times what is left
pub pow_split : (i j : ℕ) → i ≤ j → 2 ^ j ≡ 2 ^ (j - i) * 2 ^ i
pow_split i j h =
    let e : j ≡ j - i + i = omega arith in
    ap (λ (x : ℕ). 2 ^ x) e ∙ pow-add 2 (j - i) i

-- two pairs of numbers in one proportion, a u = x v and b u = y v, are in one order
module _ (u v : ℕ) {a b x y : ℕ} (p : a * u ≡ x * v) (q : b * u ≡ y * v) where
  pub proportion_le : 0 < u → x ≤ y → a ≤ b
  proportion_le pu h = le_of_mul-le-mul_right (le_trans (le_of_eq p) (le_trans (mul-le-mul_right v h) (le_of_eq (sym q)))) pu

  pub proportion_lt : 0 < v → x < y → a < b
  proportion_lt pv h = lt_of_mul-lt-mul_right u (lt_of_le_of_lt (le_of_eq p) (lt_of_lt_of_le (mul-lt-mul_of_pos_right h pv) (le_of_eq (sym q))))

-- a factor goes into a difference
pub sub-mul : (a b c : ℕ) → (a - b) * c ≡ a * c - b * c
sub-mul a b c = mul_comm (a - b) c ∙ mul-sub c a b ∙ ap₂ (λ (x y : ℕ). x - y) (mul_comm c a) (mul_comm c b)
