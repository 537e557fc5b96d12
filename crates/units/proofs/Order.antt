-- The machine's comparisons of finite floats are comparisons of their units.
-- Assumes nothing.
use mathlib.Core.Path.{◌≡◌, refl, sym, ap, ◌∙◌}
use mathlib.Core.Logic.{◌⊎◌, inl, inr}
use Prim.Native.Nat.{ℕ, ◌+◌, ◌*◌, ◌^◌, ◌≤◌, ◌<◌}
use native.Mathlib.Nat.{zero-mul, mul_assoc, mul_comm, mul_right_comm, mul-pos}
use native.Mathlib.Omega.{arith}
use mathlib.Core.Bool.{Bool, true, false, ◌&&◌, ◌||◌, beq, true≢false, cond}
use lib.IntN.{ℤ}
use lib.Dec.{ltb, eqb}
use lib.Pow.{pow_pos}
use borrow.Author.Tests.{ltb-true, ltb-false, lt-ltb, le-ltb, eqb-true, eqb-false, eq-eqb, ne_eqb}
use lib.Ieee.{Float, nan, inf, fin, up, down, below, level, lt, eq, le}
use lib.Ieee.Fits.{down_pos}
use Rattle.units.specs.Units.{mag, negative, Number, P, N, Le, Lt}
use Rattle.units.proofs.Naturals.{le-or-lt, proportion_le, proportion_lt}
use Rattle.units.proofs.Size.{mag_exact}

-- ---- tests on numbers in one proportion agree
module _ (u v : ℕ) (pu : 0 < u) (pv : 0 < v) where
  same_ltb : (a b x y : ℕ) → a * u ≡ x * v → b * u ≡ y * v → ltb a b ≡ ltb x y
  same_ltb a b x y p q = go (le-or-lt y x)
    where
      go : (y ≤ x) ⊎ (x < y) → ltb a b ≡ ltb x y
      go (inl h) = le-ltb a b (proportion_le u v q p pu h) ∙ sym (le-ltb x y h)
      go (inr h) = lt-ltb a b (proportion_lt u v p q pv h) ∙ sym (lt-ltb x y h)

  same_eqb : (a b x y : ℕ) → a * u ≡ x * v → b * u ≡ y * v → eqb a b ≡ eqb x y
  same_eqb a b x y p q = go (le-or-lt x y) (le-or-lt y x) (same_ltb a b x y p q) (same_ltb b a y x q p)
    where
      go : (x ≤ y) ⊎ (y < x) → (y ≤ x) ⊎ (x < y) → ltb a b ≡ ltb x y → ltb b a ≡ ltb y x → eqb a b ≡ eqb x y
      go (inl h) (inl k) i j =
          let i' : b ≤ a = ltb-false a b (i ∙ le-ltb x y k) in
          let j' : a ≤ b = ltb-false b a (j ∙ le-ltb y x h) in
          eq-eqb a b (omega arith) ∙ sym (eq-eqb x y (omega arith))
      go (inl h) (inr k) i j =
          let i' : a < b = ltb-true a b (i ∙ lt-ltb x y k) in
          ne_eqb a b (λ z. omega arith) ∙ sym (ne_eqb x y (λ z. omega arith))
      go (inr h) k i j =
          let j' : b < a = ltb-true b a (j ∙ lt-ltb y x h) in
          ne_eqb a b (λ z. omega arith) ∙ sym (ne_eqb x y (λ z. omega arith))

  zeros : 0 * u ≡ 0 * v
  zeros = zero-mul u ∙ sym (zero-mul v)

  same_below : (s t : Bool) (a b x y : ℕ) → a * u ≡ x * v → b * u ≡ y * v → below s a t b ≡ below s x t y
  same_below false false a b x y p q = same_ltb a b x y p q
  same_below false true a b x y p q = refl
  same_below true false a b x y p q = same_ltb 0 (a + b) 0 (x + y) zeros (omega arith)
  same_below true true a b x y p q = same_ltb b a y x q p

  same_level : (s t : Bool) (a b x y : ℕ) → a * u ≡ x * v → b * u ≡ y * v → level s a t b ≡ level s x t y
  same_level s t a b x y p q = rw (same_eqb a b x y p q, same_eqb a 0 x 0 p zeros)

-- ---- a float's size and the sides of a comparison are in one proportion
side : (m u d c X : ℕ) → X * d ≡ m * u * 2 ^ 149 → m * u * c * 2 ^ 149 ≡ X * (d * c)
side m u d c X h = mul_right_comm (m * u) c (2 ^ 149) ∙ ap (λ (n : ℕ). n * c) (sym h) ∙ mul_assoc X d c

-- whatever test sees only proportions, and not the numbers asTheyAre, may be made on units
on_units : (test : Bool → ℕ → Bool → ℕ → Bool)
    → ((u v : ℕ) → 0 < u → 0 < v → (s t : Bool) (a b x y : ℕ) → a * u ≡ x * v → b * u ≡ y * v → test s a t b ≡ test s x t y)
    → (s : Bool) (m : ℕ) (e : ℤ) (t : Bool) (n : ℕ) (d : ℤ) → Number (fin s m e) → Number (fin t n d)
    → test s (m * up e * down d) t (n * up d * down e) ≡ test s (mag (fin s m e)) t (mag (fin t n d))
on_units test same s m e t n d h k =
    same (2 ^ 149) (down e * down d) (pow_pos 149) (mul-pos (down_pos e) (down_pos d)) s t (m * up e * down d) (n * up d * down e) (mag (fin s m e)) (mag (fin t n d))
    (side m (up e) (down e) (down d) (mag (fin s m e)) (mag_exact s m e h.fits32))
    (side n (up d) (down d) (down e) (mag (fin t n d)) (mag_exact t n d k.fits32) ∙ ap (λ (z : ℕ). mag (fin t n d) * z) (mul_comm (down d) (down e)))

lt_is : (x y : Float) → Number x → Number y → lt x y ≡ below (negative x) (mag x) (negative y) (mag y)
unfolding lt negative
lt_is nan y h k = absurd h.is_finite
lt_is (inf s) y h k = absurd h.is_finite
lt_is (fin s m e) nan h k = absurd k.is_finite
lt_is (fin s m e) (inf t) h k = absurd k.is_finite
lt_is (fin s m e) (fin t n d) h k = on_units below same_below s m e t n d h k

eq_is : (x y : Float) → Number x → Number y → eq x y ≡ level (negative x) (mag x) (negative y) (mag y)
unfolding eq negative
eq_is nan y h k = absurd h.is_finite
eq_is (inf s) y h k = absurd h.is_finite
eq_is (fin s m e) nan h k = absurd k.is_finite
eq_is (fin s m e) (inf t) h k = absurd k.is_finite
eq_is (fin s m e) (fin t n d) h k = on_units level same_level s m e t n d h k

-- ---- what the tests say of P and N
below_true : (s t : Bool) (a b : ℕ) → below s a t b ≡ true → cond s 0 a + cond t b 0 < cond t 0 b + cond s a 0
below_true false false a b e = omega (arith, ltb-true a b e)
below_true false true a b e = absurd (true≢false (sym e))
below_true true false a b e = omega (arith, ltb-true 0 (a + b) e)
below_true true true a b e = omega (arith, ltb-true b a e)

below_false : (s t : Bool) (a b : ℕ) → below s a t b ≡ false → cond t 0 b + cond s a 0 ≤ cond s 0 a + cond t b 0
below_false false false a b e = omega (arith, ltb-false a b e)
below_false false true a b e = omega arith
below_false true false a b e = omega (arith, ltb-false 0 (a + b) e)
below_false true true a b e = omega (arith, ltb-false b a e)

level_true : (s t : Bool) (a b : ℕ) → level s a t b ≡ true → cond s 0 a + cond t b 0 ≡ cond t 0 b + cond s a 0
level_true s t a b e = go s t (eqb a b) (eqb a 0) (eqb-true a b) (eqb-true a 0) e
  where
    go : (s t p q : Bool) → (p ≡ true → a ≡ b) → (q ≡ true → a ≡ 0) → (p && (beq s t || q)) ≡ true → cond s 0 a + cond t b 0 ≡ cond t 0 b + cond s a 0
    go s t false q hp hq e = absurd (true≢false (sym e))
    go false false true q hp hq e = omega (arith, hp refl)
    go true true true q hp hq e = omega (arith, hp refl)
    go false true true q hp hq e = omega (arith, hp refl, hq e)
    go true false true q hp hq e = omega (arith, hp refl, hq e)

-- equal units, other than zeros of two signs, pass the test
level_false : (s t : Bool) (a b : ℕ) → level s a t b ≡ false → cond s 0 a + cond t b 0 ≡ cond t 0 b + cond s a 0 → ⊥
level_false s t a b e = go s t (eqb a b) (eqb a 0) (eqb-false a b) (eqb-false a 0) e
  where
    go : (s t p q : Bool) → (p ≡ false → a ≡ b → ⊥) → (q ≡ false → a ≡ 0 → ⊥) → (p && (beq s t || q)) ≡ false → cond s 0 a + cond t b 0 ≡ cond t 0 b + cond s a 0 → ⊥
    go false false true q hp hq e z = absurd (true≢false e)
    go true true true q hp hq e z = absurd (true≢false e)
    go false true true q hp hq e z = hq e (omega arith)
    go true false true q hp hq e z = hq e (omega arith)
    go false false false q hp hq e z = hp refl (omega arith)
    go true true false q hp hq e z = hp refl (omega arith)
    go false true false q hp hq e z = hp refl (omega arith)
    go true false false q hp hq e z = hp refl (omega arith)

-- ---- the machine's tests on finite floats, read and made
module _ (x y : Float) (h : Number x) (k : Number y) where
  pub lt_true : lt x y ≡ true → Lt x y
  lt_true e = below_true (negative x) (negative y) (mag x) (mag y) (sym (lt_is x y h k) ∙ e)

  pub lt_false : lt x y ≡ false → Le y x
  lt_false e = below_false (negative x) (negative y) (mag x) (mag y) (sym (lt_is x y h k) ∙ e)

  pub eq_true : eq x y ≡ true → P x + N y ≡ P y + N x
  eq_true e = level_true (negative x) (negative y) (mag x) (mag y) (sym (eq_is x y h k) ∙ e)

  pub eq_false : eq x y ≡ false → P x + N y ≡ P y + N x → ⊥
  eq_false e = level_false (negative x) (negative y) (mag x) (mag y) (sym (eq_is x y h k) ∙ e)

  pub le_true : le x y ≡ true → Le x y
  unfolding le
  le_true e = go (lt x y) (eq x y) lt_true eq_true e
    where
      go : (p q : Bool) → (p ≡ true → Lt x y) → (q ≡ true → P x + N y ≡ P y + N x) → (p || q) ≡ true → Le x y
      go true q a b e = omega (arith, a refl)
      go false q a b e = omega (arith, b e)

  pub le_false : le x y ≡ false → Lt y x
  unfolding le
  le_false e = go (lt x y) (eq x y) lt_false eq_false e
    where
      go : (p q : Bool) → (p ≡ false → Le y x) → (q ≡ false → P x + N y ≡ P y + N x → ⊥) → (p || q) ≡ false → Lt y x
      go true q a b e = absurd (true≢false e)
      go false q a b e = elim (le-or-lt (P x + N y) (P y + N x)) [ inl l ↦ absurd (b e (omega (arith, a refl))) | inr l ↦ l ]

-- of floats at least zero, the sizes are compared
module _ (x y : Float) (h : Number x) (k : Number y) (zx : N x ≡ 0) (zy : N y ≡ 0) where
  pub sizes_le : le x y ≡ true → P x ≤ P y
  sizes_le e = let l = le_true x y h k e in omega arith
