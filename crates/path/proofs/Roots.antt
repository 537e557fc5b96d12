-- The root of a sum of two squares from the first digits of both, and a root of 24 digits. Assumes nothing.
use mathlib.Core.Path.{◌≡◌, refl, sym, ap, ap₂, ◌∙◌, subst}
use mathlib.Core.Logic.{◌⊎◌, inl, inr}
use Prim.Native.Nat.{ℕ, suc, ◌+◌, ◌-◌, ◌*◌, ◌/◌, ◌%◌, ◌^◌, ◌≤◌, ◌<◌, max, zero-le}
use native.Mathlib.Nat.{le_trans, le_of_eq, mul-le-mul, mul-le-mul_left, mul-le-mul_right, le_of_mul-le-mul_right, mul-pos, lt_of_le_of_lt, lt_of_lt_of_le, mod-eq_of_lt, lt-div-mul-add, div-mul-le_self, eq-zero-or-pos, max-eq_left, max-eq_right, le-max_left, le-max_right}
use native.Mathlib.Omega.{arith}
use borrow.Author.Tests.{lt-leb, le-leb, eq-eqb, ne_eqb}
use lib.Count.{count_leading_zeros}
use lib.Dec.{lit<, lit≤}
use lib.Pow.{pow_pos}
use Rattle.units.proofs.Naturals.{le-or-lt}
use Rattle.fixed.proofs.Rounding.{placed}
use Rattle.roots.specs.Value.{IsNear}
use Rattle.roots.proofs.SquareRoot.{near_root_lem}
use Rattle.spectrum.specs.Transform.{square}
use Rattle.path.specs.Steps.{squares, rooted, Rooted, modulus_of, Modulus}
use Rattle.path.proofs.Squares.{squared}

-- re and im, Z times as large, have the first digits a and c before 33 more; the root of (a ^ 2 + c ^ 2) / W is s, and s T / Z is r
module _ (re im Z W Q T a c n s r : ℕ) (pos : 0 < Z) (wide : 2 ^ 14 ≤ W) (whole : Q * Q ≡ 2 ^ 66 * W) (eighth : 8 * T ≡ Q) (long : 2 ^ 23 ≤ s) where
  cancelled : (x k : ℕ) → x * (Z * Z) ≤ k * (Z * Z) → x ≤ k
  cancelled x k h = le_of_mul-le-mul_right h (mul-pos pos pos)

  module _ (few-a : a < 2 ^ 31) (few-c : c < 2 ^ 31) (up-a : re * Z ≤ (a + 1) * 2 ^ 33) (up-c : im * Z ≤ (c + 1) * 2 ^ 33) (cut : a * a + c * c < (n + 1) * W) (near : n ≤ s * s + s) (floor : s * T ≤ (r + 1) * Z) where
    parts : square (a + 1) + square (c + 1) ≤ square (s + 1) * W
    parts = omega (arith, mul-le-mul_right W near, mul-le-mul long wide)

    scaled : square (re * Z) + square (im * Z) ≤ square (Q * (s + 1))
    scaled = le_trans (sums (squared up-a) (squared up-c)) (le_trans (mul-le-mul_left (2 ^ 66) parts) (le_of_eq (regroup (square (s + 1)) ∙ ap (λ (x : ℕ). x * square (s + 1)) (sym whole) ∙ spread (s + 1))))
      where
        sums : square (re * Z) ≤ square ((a + 1) * 2 ^ 33) → square (im * Z) ≤ square ((c + 1) * 2 ^ 33) → square (re * Z) + square (im * Z) ≤ 2 ^ 66 * (square (a + 1) + square (c + 1))
        sums h g = omega arith

        regroup : (x : ℕ) → 2 ^ 66 * (x * W) ≡ 2 ^ 66 * W * x
        regroup x = omega arith

        spread : (x : ℕ) → Q * Q * square x ≡ square (Q * x)
        spread x = omega arith

    rounded : 2 ^ 24 * (Q * (s + 1)) ≤ (2 ^ 24 + 2) * (8 * r + 8) * Z
    rounded = omega (arith, mul-le-mul_left Q long, ap (λ (t : ℕ). s * t) eighth)

    pub low : 2 ^ 48 * (square re + square im) ≤ square ((2 ^ 24 + 2) * (8 * r + 8))
    low = cancelled _ _ (le_trans (le_of_eq (outward re im)) (le_trans (mul-le-mul_left (2 ^ 48) scaled) (le_trans (le_of_eq (inward (Q * (s + 1)))) (le_trans (squared rounded) (le_of_eq (apart ((2 ^ 24 + 2) * (8 * r + 8))))))))
      where
        outward : (x y : ℕ) → 2 ^ 48 * (square x + square y) * (Z * Z) ≡ 2 ^ 48 * (square (x * Z) + square (y * Z))
        outward x y = omega arith

        inward : (x : ℕ) → 2 ^ 48 * square x ≡ square (2 ^ 24 * x)
        inward x = omega arith

        apart : (k : ℕ) → square (k * Z) ≡ square k * (Z * Z)
        apart k = omega arith

  module _ (down-a : a * 2 ^ 33 ≤ re * Z) (down-c : c * 2 ^ 33 ≤ im * Z) (cut : n * W ≤ a * a + c * c) (near : s * s < n + s) (floor : r * Z ≤ s * T) where
    -- 2 s - 1
    abbrev p : ℕ
    p = 2 * s - 1

    odd : p + 1 ≡ 2 * s
    odd = omega arith

    under : square p ≤ 4 * n
    under = omega (arith, near, ap (λ (x : ℕ). square x) odd)

    scaled' : square (Q * p) ≤ 4 * (square (re * Z) + square (im * Z))
    scaled' = le_trans (le_of_eq (sym (spread p) ∙ ap (λ (x : ℕ). x * square p) whole ∙ regroup (square p))) (le_trans (mul-le-mul_left (2 ^ 66) (le_trans (mul-le-mul_right W under) (le_trans (le_of_eq (fours n)) (mul-le-mul_left 4 cut)))) (sums (squared down-a) (squared down-c)))
      where
        spread : (x : ℕ) → Q * Q * square x ≡ square (Q * x)
        spread x = omega arith

        regroup : (x : ℕ) → 2 ^ 66 * W * x ≡ 2 ^ 66 * (x * W)
        regroup x = omega arith

        fours : (n : ℕ) → 4 * n * W ≡ 4 * (n * W)
        fours n = omega arith

        sums : square (a * 2 ^ 33) ≤ square (re * Z) → square (c * 2 ^ 33) ≤ square (im * Z) → 2 ^ 66 * (4 * (a * a + c * c)) ≤ 4 * (square (re * Z) + square (im * Z))
        sums h g = omega arith

    rounded' : 2 * (2 ^ 27 * r * Z) ≤ (2 ^ 24 + 2) * (Q * p)
    rounded' = omega (arith, mul-le-mul_left Q long, ap (λ (t : ℕ). s * t) eighth, ap (λ (x : ℕ). Q * x) odd)

    pub high : square (2 ^ 27 * r) ≤ square (2 ^ 24 + 2) * (square re + square im)
    high = cancelled _ _ (fourth (le_trans (le_of_eq (outward (2 ^ 27 * r))) (le_trans (squared rounded') (le_trans (le_of_eq (inward (Q * p))) (le_trans (mul-le-mul_left (square (2 ^ 24 + 2)) scaled') (le_of_eq (apart (square (2 ^ 24 + 2)) re im)))))))
      where
        outward : (x : ℕ) → 4 * (square x * (Z * Z)) ≡ square (2 * (x * Z))
        outward x = omega arith

        inward : (x : ℕ) → square ((2 ^ 24 + 2) * x) ≡ square (2 ^ 24 + 2) * square x
        inward x = omega arith

        apart : (k x y : ℕ) → k * (4 * (square (x * Z) + square (y * Z))) ≡ 4 * (k * (square x + square y) * (Z * Z))
        apart k x y = omega arith

        fourth : {x y : ℕ} → 4 * x ≤ 4 * y → x ≤ y
        fourth h = omega arith

-- ---- the root's own size
pub root_long : (n s : ℕ) → 2 ^ 46 ≤ n → IsNear n s → 2 ^ 23 ≤ s
root_long n s l h = elim (le-or-lt (2 ^ 23) s) [ inl g ↦ g | inr g ↦ absurd (short h.half_above (mul-le-mul (below g) (below g)) (below g)) ]
  where
    below : s < 2 ^ 23 → s ≤ 2 ^ 23 - 1
    below g = omega arith

    short : n ≤ s * s + s → s * s ≤ (2 ^ 23 - 1) * (2 ^ 23 - 1) → s ≤ 2 ^ 23 - 1 → ⊥
    short a b c = omega arith

pub root_few : (n s : ℕ) → n < 2 ^ 48 → IsNear n s → s ≤ 2 ^ 24
root_few n s l h = elim (le-or-lt s (2 ^ 24)) [ inl g ↦ g | inr g ↦ absurd (long g h.half_below (mul-le-mul_left s g)) ]
  where
    long : 2 ^ 24 < s → s * s < n + s → s * suc (2 ^ 24) ≤ s * s → ⊥
    long g a b = omega arith

-- ---- the first digits of both parts
-- z places bring the larger to 64 digits
pub record Shown (re im z : ℕ) : Type 0 where
  pub small : z ≤ 63
  pub real : re * 2 ^ z < 2 ^ 64
  pub imaginary : im * 2 ^ z < 2 ^ 64
  pub first : (2 ^ 63 ≤ re * 2 ^ z) ⊎ (2 ^ 63 ≤ im * 2 ^ z)

pub shown : (re im : ℕ) → re < 2 ^ 64 → im < 2 ^ 64 → 0 < max re im → Shown re im (count_leading_zeros 64 (max re im))
shown re im a b pos = elim (le-or-lt im re) [
  | inl l ↦ rw (max-eq_left l) (let p = placed re (rw (max-eq_left l) at pos) a in record {
    small = p.small;
    real = p.high;
    imaginary = lt_of_le_of_lt (mul-le-mul_right (2 ^ count_leading_zeros 64 re) l) p.high;
    first = inl p.low;
  })
  | inr l ↦ rw (max-eq_right (less l)) (let p = placed im (rw (max-eq_right (less l)) at pos) b in record {
    small = p.small;
    real = lt_of_le_of_lt (mul-le-mul_right (2 ^ count_leading_zeros 64 im) (less l)) p.high;
    imaginary = p.high;
    first = inr p.low;
  })
]
  where
    less : re < im → re ≤ im
    less l = omega arith

module _ {re im z : ℕ} (h : Shown re im z) where
  abbrev a : ℕ
  a = re * 2 ^ z / 8589934592

  abbrev c : ℕ
  c = im * 2 ^ z / 8589934592

  pub a_few : a < 2 ^ 31
  a_few = few (re * 2 ^ z) h.real
    where
      few : (x : ℕ) → x < 2 ^ 64 → x / 8589934592 < 2 ^ 31
      few x l = omega arith

  pub c_few : c < 2 ^ 31
  c_few = few (im * 2 ^ z) h.imaginary
    where
      few : (x : ℕ) → x < 2 ^ 64 → x / 8589934592 < 2 ^ 31
      few x l = omega arith

  squared_few : (x : ℕ) → x < 2 ^ 31 → x * x < 2 ^ 62
  squared_few x l = lt_of_le_of_lt (mul-le-mul (below l) (below l)) (lit< tt)
    where
      below : x < 2 ^ 31 → x ≤ 2 ^ 31 - 1
      below l = omega arith

  pub both_few : a * a + c * c < 2 ^ 63
  both_few = sum (squared_few a a_few) (squared_few c c_few)
    where
      sum : {x y : ℕ} → x < 2 ^ 62 → y < 2 ^ 62 → x + y < 2 ^ 63
      sum p q = omega arith

  pub both_long : 2 ^ 60 ≤ a * a + c * c
  both_long = elim h.first [ inl l ↦ left (squared (long (re * 2 ^ z) l)) | inr l ↦ right (squared (long (im * 2 ^ z) l)) ]
    where
      long : (x : ℕ) → 2 ^ 63 ≤ x → 2 ^ 30 ≤ x / 8589934592
      long x l = omega arith

      left : square (2 ^ 30) ≤ a * a → 2 ^ 60 ≤ a * a + c * c
      left p = omega arith

      right : square (2 ^ 30) ≤ c * c → 2 ^ 60 ≤ a * a + c * c
      right p = omega arith

  -- ---- all together
  pub modulus : (r : ℕ) → re ≤ 2 ^ 60 + 2 ^ 10 → im ≤ 2 ^ 60 + 2 ^ 10 → Rooted (a * a + c * c) z r → Modulus re im r
  modulus r lr li o = record { low = below; high = over; few = fits }
    where
      up : (x : ℕ) → x ≤ (x / 8589934592 + 1) * 2 ^ 33
      up x = omega arith

      down : (x : ℕ) → x / 8589934592 * 2 ^ 33 ≤ x
      down x = omega arith

      below : 2 ^ 48 * (square re + square im) ≤ square ((2 ^ 24 + 2) * (8 * r + 8))
      below = low re im (2 ^ z) o.W o.Q o.T a c o.k o.s r (pow_pos z) o.wide o.whole o.eighth o.long a_few c_few (up (re * 2 ^ z)) (up (im * 2 ^ z)) o.above o.near.half_above o.least

      over : square (2 ^ 27 * r) ≤ square (2 ^ 24 + 2) * (square re + square im)
      over = high re im (2 ^ z) o.W o.Q o.T a c o.k o.s r (pow_pos z) o.wide o.whole o.eighth o.long (down (re * 2 ^ z)) (down (im * 2 ^ z)) o.below o.near.half_below o.most

      room : square (2 ^ 24 + 2) * (square (2 ^ 60 + 2 ^ 10) + square (2 ^ 60 + 2 ^ 10)) < square (2 ^ 27 * (3 * 2 ^ 56))
      room = lit< tt

      sum : {x y k : ℕ} → x ≤ k → y ≤ k → x + y ≤ k + k
      sum p q = omega arith

      fits : r ≤ 3 * 2 ^ 56
      fits = elim (le-or-lt r (3 * 2 ^ 56)) [
        | inl g ↦ g
        | inr g ↦ absurd (wrong (lt_of_le_of_lt (le_trans (squared (mul-le-mul_left (2 ^ 27) (less g))) (le_trans over (mul-le-mul_left (square (2 ^ 24 + 2)) (sum (squared lr) (squared li))))) room))
      ]
        where
          less : 3 * 2 ^ 56 < r → 3 * 2 ^ 56 ≤ r
          less g = omega arith

          wrong : {x : ℕ} → x < x → ⊥
          wrong g = omega arith

-- ---- the two ways to take it
module _ (n z s W Q T : ℕ) (wide : 2 ^ 14 ≤ W) (whole : Q * Q ≡ 2 ^ 66 * W) (eighth : 8 * T ≡ Q) (few : T ≤ 2 ^ 38) (least : 2 ^ 46 ≤ n / W) (most : n / W < 2 ^ 48) (near : IsNear (n / W) s) where
  pub uncut : s * T % 2 ^ 64 ≡ s * T
  uncut = mod-eq_of_lt (lt_of_le_of_lt (mul-le-mul (root_few (n / W) s most near) few) (lit< tt))

  pub found : Rooted n z (s * T % 2 ^ 64 / 2 ^ z)
  found = rw uncut (record {
    W = W;
    Q = Q;
    T = T;
    k = n / W;
    s = s;
    wide = wide;
    whole = whole;
    eighth = eighth;
    long = root_long (n / W) s least near;
    above = lt_of_lt_of_le (lt-div-mul-add (positive wide)) (le_of_eq (suc-times (n / W) W));
    below = div-mul-le_self n W;
    near = near;
    most = div-mul-le_self (s * T) (2 ^ z);
    least = le_trans (less (lt-div-mul-add (pow_pos z))) (le_of_eq (suc-times (s * T / 2 ^ z) (2 ^ z)));
  })
    where
      positive : {W : ℕ} → 2 ^ 14 ≤ W → 0 < W
      positive l = omega arith

      suc-times : (q W : ℕ) → q * W + W ≡ (q + 1) * W
      suc-times q W = omega arith

      less : {x y : ℕ} → x < y → x ≤ y
      less l = omega arith

module _ (n z s : ℕ) where
  pub rooted_high : 2 ^ 62 ≤ n → n < 2 ^ 63 → IsNear (n / 65536) s → (s * 2 ^ 38 % 2 ^ 64 / 2 ^ z ≡ rooted n z) × Rooted n z (s * 2 ^ 38 % 2 ^ 64 / 2 ^ z)
  unfolding rooted
  rooted_high l h near = (rw (le-leb (2 ^ 62) n l, uncut n z s 65536 (2 ^ 41) (2 ^ 38) (lit≤ tt) refl refl (lit≤ tt) low up near, near_root_lem (n / 65536) s (two (root_long (n / 65536) s low near)) near) refl, found n z s 65536 (2 ^ 41) (2 ^ 38) (lit≤ tt) refl refl (lit≤ tt) low up near)
    where
      low : 2 ^ 46 ≤ n / 65536
      low = omega arith

      up : n / 65536 < 2 ^ 48
      up = omega arith

      two : 2 ^ 23 ≤ s → 1 < s
      two g = omega arith

  pub rooted_low : 2 ^ 60 ≤ n → n < 2 ^ 62 → IsNear (n / 16384) s → (s * 2 ^ 37 % 2 ^ 64 / 2 ^ z ≡ rooted n z) × Rooted n z (s * 2 ^ 37 % 2 ^ 64 / 2 ^ z)
  unfolding rooted
  rooted_low l h near = (rw (lt-leb (2 ^ 62) n h, uncut n z s 16384 (2 ^ 40) (2 ^ 37) (lit≤ tt) refl refl (lit≤ tt) low up near, near_root_lem (n / 16384) s (two (root_long (n / 16384) s low near)) near) refl, found n z s 16384 (2 ^ 40) (2 ^ 37) (lit≤ tt) refl refl (lit≤ tt) low up near)
    where
      low : 2 ^ 46 ≤ n / 16384
      low = omega arith

      up : n / 16384 < 2 ^ 48
      up = omega arith

      two : 2 ^ 23 ≤ s → 1 < s
      two g = omega arith

-- ---- the modulus: of nothing it is nothing
pub modulus_none : (re im m : ℕ) → m ≡ max re im → m ≡ 0 → (0 ≡ modulus_of re im) × Modulus re im 0
unfolding modulus_of
modulus_none re im m e z = (rw (eq-eqb (max re im) 0 (sym e ∙ z)) refl, both (omega (arith, le-max_left re im)) (omega (arith, le-max_right re im)))
  where
    both : re ≡ 0 → im ≡ 0 → Modulus re im 0
    both a b = rw (a, b) (record { low = lit≤ tt; high = lit≤ tt; few = zero-le })

-- and of anything else it is the root
module _ (re im m : ℕ) (largest : m ≡ max re im) (some : ¬ (m ≡ 0)) where
  modulus_is : modulus_of re im ≡ rooted (square (re * 2 ^ count_leading_zeros 64 m / 8589934592) + square (im * 2 ^ count_leading_zeros 64 m / 8589934592)) (count_leading_zeros 64 m)
  unfolding modulus_of squares
  modulus_is = rw (sym largest, ne_eqb m 0 some) refl

  module _ (lr : re ≤ 2 ^ 60 + 2 ^ 10) (li : im ≤ 2 ^ 60 + 2 ^ 10) where
    pub places : Shown re im (count_leading_zeros 64 m)
    places = rw largest (shown re im (omega arith) (omega arith) (above (max re im) (λ z. some (largest ∙ z))))
      where
        above : (x : ℕ) → ¬ (x ≡ 0) → 0 < x
        above x h = elim (eq-zero-or-pos x) [ inl z ↦ absurd (h z) | inr p ↦ p ]

    pub modulus_some : (a b r : ℕ) → a ≡ re * 2 ^ count_leading_zeros 64 m / 8589934592 → b ≡ im * 2 ^ count_leading_zeros 64 m / 8589934592
        → (r ≡ rooted (a * a + b * b) (count_leading_zeros 64 m)) × Rooted (a * a + b * b) (count_leading_zeros 64 m) r → (r ≡ modulus_of re im) × Modulus re im r
    modulus_some a b r e f h = (
      h.0 ∙ ap₂ (λ x y. rooted (x * x + y * y) (count_leading_zeros 64 m)) e f ∙ sym modulus_is,
      modulus places r lr li (subst (λ (x : ℕ). Rooted (x * x + square (im * 2 ^ count_leading_zeros 64 m / 8589934592)) (count_leading_zeros 64 m) r) e (subst (λ (y : ℕ). Rooted (a * a + y * y) (count_leading_zeros 64 m) r) f h.1)),
    )
