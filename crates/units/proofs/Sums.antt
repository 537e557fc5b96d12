-- Sums and differences of f32: the exact sum is a whole number of units, so the standard model has no underflow term.
use mathlib.Core.Path.{◌≡◌, refl, sym, ap, ap₂, ◌∙◌}
use Prim.Native.Nat.{ℕ, ◌+◌, ◌-◌, ◌*◌, ◌^◌, ◌≤◌, ◌<◌}
use native.Mathlib.Nat.{le_trans, le_of_eq, le_of_lt, mul-one, mul_comm, mul_assoc, mul_right_comm, mul-pos, mul-le-mul_right, le_of_mul-le-mul_right}
use native.Mathlib.Omega.{arith}
use mathlib.Core.Bool.{Bool, true, false, not, beq, cond}
use lib.Dec.{T, ltb, ltb→lt, nltb→le, lit<}
use lib.Ieee.{Float, nan, inf, fin, up, down, binary32, round, sum, add}
use lib.Ieee.Fits.{down_pos}
use lib.Ieee.Scale.{finite}
use Rattle.units.specs.Units.{mag, negative, P, N, Number}
use Rattle.units.proofs.Naturals.{sub-mul}
use Rattle.units.proofs.Near.{Near}
use Rattle.units.proofs.Size.{mag_exact}
use Rattle.units.proofs.Result.{Rounds, rounds_of, rounds_whole}

-- ---- two sizes a / c and b / c that are X and Y units, for u = 2 ^ 149
sum_scale : (a b c x y u : ℕ) → a * u ≡ x * c → b * u ≡ y * c → (a + b) * u * 1 ≡ (x + y) * c
sum_scale a b c x y u p q = omega arith

diff_scale : (a b c x y u : ℕ) → a * u ≡ x * c → b * u ≡ y * c → (a - b) * u * 1 ≡ (x - y) * c
diff_scale a b c x y u p q = mul-one ((a - b) * u) ∙ sub-mul a b u ∙ ap₂ (λ (v w : ℕ). v - w) p q ∙ sym (sub-mul x y c)

order_scale : (a b c x y u : ℕ) → 0 < c → a * u ≡ x * c → b * u ≡ y * c → a ≤ b → x ≤ y
order_scale a b c x y u C p q h = le_of_mul-le-mul_right (le_trans (le_of_eq (sym p)) (le_trans (mul-le-mul_right u h) (le_of_eq q))) C

module _ (a b c x y : ℕ) (C : 0 < c) (p : a * 2 ^ 149 ≡ x * c) (q : b * 2 ^ 149 ≡ y * c) where
  sum_rounds : (s t : Bool) → Rounds (sum binary32 s a t b c) (cond s 0 x + cond t 0 y) (cond s x 0 + cond t y 0) 1
  unfolding sum
  sum_rounds false false = rounds_of false (a + b) c (x + y) (0 + 0) 1 (x + y) C (lit< tt) (sum_scale a b c x y (2 ^ 149) p q) (omega arith)
  sum_rounds true true = rounds_of true (a + b) c (0 + 0) (x + y) 1 (x + y) C (lit< tt) (sum_scale a b c x y (2 ^ 149) p q) (omega arith)
  sum_rounds false true = go (ltb a b) (ltb→lt a b) (nltb→le a b)
    where
      go : (u : Bool) → (T u → a < b) → (T (not u) → b ≤ a) → Rounds (cond u (round binary32 true (b - a) c) (round binary32 false (a - b) c)) (x + 0) (0 + y) 1
      go true h g =
          let l : x ≤ y = order_scale a b c x y (2 ^ 149) C p q (le_of_lt (h tt)) in
          rounds_of true (b - a) c (x + 0) (0 + y) 1 (y - x) C (lit< tt) (diff_scale b a c y x (2 ^ 149) q p) (omega arith)
      go false h g =
          let l : y ≤ x = order_scale b a c y x (2 ^ 149) C q p (g tt) in
          rounds_of false (a - b) c (x + 0) (0 + y) 1 (x - y) C (lit< tt) (diff_scale a b c x y (2 ^ 149) p q) (omega arith)
  sum_rounds true false = go (ltb a b) (ltb b a) (ltb→lt a b) (nltb→le a b) (nltb→le b a)
    where
      go : (u w : Bool) → (T u → a < b) → (T (not u) → b ≤ a) → (T (not w) → a ≤ b)
          → Rounds (cond u (round binary32 false (b - a) c) (round binary32 w (a - b) c)) (0 + y) (x + 0) 1
      go true w h g k =
          let l : x ≤ y = order_scale a b c x y (2 ^ 149) C p q (le_of_lt (h tt)) in
          rounds_of false (b - a) c (0 + y) (x + 0) 1 (y - x) C (lit< tt) (diff_scale b a c y x (2 ^ 149) q p) (omega arith)
      go false true h g k =
          let l : y ≤ x = order_scale b a c y x (2 ^ 149) C q p (g tt) in
          rounds_of true (a - b) c (0 + y) (x + 0) 1 (x - y) C (lit< tt) (diff_scale a b c x y (2 ^ 149) p q) (omega arith)
      go false false h g k =
          let l : y ≤ x = order_scale b a c y x (2 ^ 149) C q p (g tt) in
          let m : x ≤ y = order_scale a b c x y (2 ^ 149) C p q (k tt) in
          rounds_of false (a - b) c (0 + y) (x + 0) 1 (x - y) C (lit< tt) (diff_scale a b c x y (2 ^ 149) p q) (omega arith)

-- the sum of two finite floats, as an exact number rounded
pub add_rounds : (x y : Float) → Number x → Number y → Rounds (add binary32 x y) (P x + P y) (N x + N y) 1
unfolding add negative
add_rounds nan y h k = absurd h.is_finite
add_rounds (inf s) y h k = absurd h.is_finite
add_rounds (fin s m e) nan h k = absurd k.is_finite
add_rounds (fin s m e) (inf t) h k = absurd k.is_finite
add_rounds (fin s m e) (fin t n d) h k =
    sum_rounds (m * up e * down d) (n * up d * down e) (down e * down d) (mag (fin s m e)) (mag (fin t n d)) (mul-pos (down_pos e) (down_pos d))
    (cross (m * up e) (mag (fin s m e)) (down e) (down d) (2 ^ 149) (mag_exact s m e h.fits32))
    (cross (n * up d) (mag (fin t n d)) (down d) (down e) (2 ^ 149) (mag_exact t n d k.fits32) ∙ ap (λ (c : ℕ). mag (fin t n d) * c) (mul_comm (down d) (down e))) s t
  where
    cross : (a x p q u : ℕ) → x * p ≡ a * u → a * q * u ≡ x * (p * q)
    cross a x p q u g = mul_right_comm a q u ∙ ap (λ (c : ℕ). c * q) (sym g) ∙ mul_assoc x p q

-- a sum is finite only where both of its operands are
pub add_operands : (x y : Float) → T (finite (add binary32 x y)) → T (finite x) × T (finite y)
unfolding add
add_operands nan y t = absurd t
add_operands (inf s) nan t = absurd t
add_operands (inf s) (inf u) t = absurd (neither (beq s u) t)
  where
    neither : (b : Bool) → T (finite (cond b (inf s) nan)) → ⊥
    neither true h = h
    neither false h = h
add_operands (inf s) (fin u n d) t = absurd t
add_operands (fin s m e) nan t = absurd t
add_operands (fin s m e) (inf u) t = absurd t
add_operands (fin s m e) (fin u n d) t = (tt, tt)

-- ---- the other sign
swapped : (s : Bool) (m : ℕ) → (cond (not s) 0 m ≡ cond s m 0) × (cond (not s) m 0 ≡ cond s 0 m)
swapped false m = (refl, refl)
swapped true m = (refl, refl)

-- ---- the standard model
-- where d is at least the size of the exact sum, a finite result is at most d / 2 ^ 24 off
pub add_near : (x y : Float) (d : ℕ) → Number x → Number y → T (finite (add binary32 x y)) → Near (P x + P y) (N x + N y) d
    → Near ((P (add binary32 x y) + (N x + N y)) * 2 ^ 24) ((N (add binary32 x y) + (P x + P y)) * 2 ^ 24) d
add_near x y d h k t g = rounds_whole (add binary32 x y) (P x + P y) (N x + N y) d (add_rounds x y h k) t g

-- ---- order, infinite results included
grown : (a b c d a' b' c' d' : ℕ) → a + b' ≤ a' + b → c + d' ≤ c' + d → (a + c) * 1 + (b' + d') * 1 ≤ (a' + c') * 1 + (b + d) * 1
grown a b c d a' b' c' d' h g = omega arith
