-- A polynomial P that grows at least as fast as 2 ^ x stays above it: 2 ^ t P(0) ≤ P(t) for every fraction 0 ≤ t ≤ 1; one that grows at most as fast stays below.
-- "As fast" is P' ≥ (b / c) P, or ≤, tested coefficient by coefficient, for b / c with 2 ≤ (1 + b / (c s)) ^ s, or 1 / 2 ≤ (1 - b / (c s)) ^ s: ln 2 enters by these alone.
use mathlib.Core.Path.{◌≡◌, ap}
use mathlib.Core.Bool.{Bool, true, false, ◌&&◌}
use mathlib.Core.List.{List, [], ◌∷◌}
use Prim.Native.Nat.{ℕ, zero, suc, pred, ◌+◌, ◌-◌, ◌*◌, ◌^◌, ◌/◌, ◌≤◌, ◌<◌, suc-le-suc}
use native.Mathlib.Nat.{le_trans, mul_comm, mul_assoc, mul-one, pow-zero, pow-suc, mul-le-mul_left, mul-le-mul_right, le_of_mul-le-mul_right, pow-le-pow_left, div-mul-le_self, one-le-pow, one-le-mul, le_dest, le_of_lt, lt_of_not-le, sub-add_cancel, one-mul, lt_of_lt_of_le, le-mul_of_pos_right}
use native.Mathlib.Decide.{dec_le}
use native.Mathlib.Omega.{arith}
use lib.Dec.{T, leb, leb→le}
use lib.Pow.{pow_pos}
use lib.ListN.{length}
use lib.Ieee.Fits.{and_l, and_r}
use Rattle.exact.specs.Power.{AtMost, AtLeast}
use Rattle.exact.specs.Polynomial.{value}
use Rattle.exact.proofs.Power.{mul-pow, pow-one, one-pow, pow-two, pow-mul, pow_swap, products-pow}
use Rattle.exact.proofs.Polynomial.{value_scale}

-- ---- Bernoulli's inequality

square : (b e : ℕ) → 2 * (b * e) ≤ b * b + e * e
square b e = elim (dec_le b e) [ yes h ↦ apart b e h | no h ↦ omega (arith, apart e b (le_of_lt (lt_of_not-le h))) ]
  where
    apart : (b e : ℕ) → b ≤ e → 2 * (b * e) ≤ b * b + e * e
    apart b e h = let (k, sum) = le_dest h in rw (← sum) (omega arith)

-- (y / x) ^ k ≥ 1 + k (b - e) / x, where y = x + b - e
bernoulli : (x y b e k : ℕ) → y + e ≡ x + b → x ^ k * (x + k * b) ≤ y ^ k * x + k * e * x ^ k
bernoulli x y b e zero sum = simp pow-zero (omega arith)
bernoulli x y b e (suc k) sum = rw (pow-suc, pow-suc) (through (x ^ k) (y ^ k) (bernoulli x y b e k sum))
  where
    through : (X Y : ℕ) → X * (x + k * b) ≤ Y * x + k * e * X → X * x * (x + suc k * b) ≤ Y * y * x + suc k * e * (X * x)
    through X Y h =
        omega
        (arith, mul-le-mul_right y h, ap (λ (n : ℕ). X * x * n) sum, ap (λ (n : ℕ). k * b * X * n) sum, ap (λ (n : ℕ). k * e * X * n) sum, mul-le-mul_left (k * X) (square b e))

-- ---- from a root of a ratio to its power

-- where h = g + b - e and α / β ≤ (h / g) ^ s: a ratio A : W that Y / (g q), with Y = g q + b - e, to the power p s bounds, is bounded by (α / β) ^ (p / q)
module _ (α β g h b e s p q : ℕ) (sum : h + e ≡ g + b) (Y : ℕ) (sum' : Y + e ≡ g * q + b) where
  -- Bernoulli's inequality at g q
  root : 0 < q → (g * q) ^ q * h ≤ Y ^ q * g
  root pos = le_of_mul-le-mul_right (regroup ((g * q) ^ q) (Y ^ q) (bernoulli (g * q) Y b e q sum')) pos
    where
      regroup : (X Z : ℕ) → X * (g * q + q * b) ≤ Z * (g * q) + q * e * X → X * h * q ≤ Z * g * q
      regroup X Z l = omega (arith, ap (λ (n : ℕ). X * q * n) sum)

  powers : α * g ^ s ≤ β * h ^ s → α ^ p * g ^ (p * s) ≤ β ^ p * h ^ (p * s)
  powers two = rw (mul_comm p s, pow-mul g s p, pow-mul h s p) (products-pow α (g ^ s) β (h ^ s) p two)

  by_root : (A W : ℕ) → 0 < g → 0 < h → 0 < q → α * g ^ s ≤ β * h ^ s → Y ^ (p * s) * A ≤ (g * q) ^ (p * s) * W → α ^ p * A ^ q ≤ β ^ p * W ^ q
  by_root A W gpos hpos qpos two l =
      le_of_mul-le-mul_right
      (through (((g * q) ^ q) ^ (p * s)) ((Y ^ q) ^ (p * s)) (g ^ (p * s)) (h ^ (p * s)) (A ^ q) (W ^ q) (α ^ p) (β ^ p) (powers two) roots whole)
      (one-le-mul (one-le-mul (one-le-pow (p * s) _ (one-le-pow q _ (one-le-mul gpos qpos))) (one-le-pow (p * s) h hpos)) (one-le-pow (p * s) g gpos))
    where
      roots : ((g * q) ^ q) ^ (p * s) * h ^ (p * s) ≤ (Y ^ q) ^ (p * s) * g ^ (p * s)
      roots = products-pow ((g * q) ^ q) h (Y ^ q) g (p * s) (root qpos)

      whole : (Y ^ q) ^ (p * s) * A ^ q ≤ ((g * q) ^ q) ^ (p * s) * W ^ q
      whole = rw (pow_swap Y q (p * s), pow_swap (g * q) q (p * s)) (products-pow (Y ^ (p * s)) A ((g * q) ^ (p * s)) W q l)

      through : (X Z G H A W R S : ℕ) → R * G ≤ S * H → X * H ≤ Z * G → Z * A ≤ X * W → R * A * (X * H * G) ≤ S * W * (X * H * G)
      through X Z G H A W R S k l m = omega (arith, mul-le-mul_left (R * A * G) l, mul-le-mul_left (R * G * G) m, mul-le-mul_left (G * X * W) k)

-- ---- a power of 2 ^ m by squarings

-- m squarings of x / w, each rounded down to a multiple of 1 / w
unfoldable pub squared : ℕ → ℕ → ℕ → ℕ
squared zero x w = x
squared (suc m) x w = squared m (x * x / w) w

square_again : (α β y w k : ℕ) → α * w ^ k ≤ β * y ^ k → α * (w * w) ^ k ≤ β * (y * w) ^ k
square_again α β y w k h = rw (mul-pow, mul-pow) (through (w ^ k) (y ^ k) h)
  where
    through : (W Y : ℕ) → α * W ≤ β * Y → α * (W * W) ≤ β * (Y * W)
    through W Y l = omega (arith, mul-le-mul_right W l)

-- the last of the squares bounds (x / w) ^ (2 ^ m) from below
by_squares : (α β m x w : ℕ) → α * w ≤ β * squared m x w → α * w ^ (2 ^ m) ≤ β * x ^ (2 ^ m)
unfolding squared
by_squares α β zero x w h = rw (pow-one w, pow-one x) h
by_squares α β (suc m) x w h =
    rw (pow-suc 2 m, mul_comm (2 ^ m) 2, pow-mul w 2 (2 ^ m), pow-mul x 2 (2 ^ m), pow-two w, pow-two x)
    (le_trans (square_again α β (x * x / w) w (2 ^ m) (by_squares α β m (x * x / w) w h))
    (mul-le-mul_left β (pow-le-pow_left (div-mul-le_self (x * x) w) (2 ^ m))))

-- ---- the derivative

-- P' at x / d, times d ^ (n - 1)
slope : ℕ → List ℕ → ℕ → ℕ → ℕ
slope n [] x d = 0
slope n (c ∷ cs) x d = value (pred n) cs x d + x * slope (pred n) cs x d

-- from x / d to (x + 1) / d a polynomial grows by P' / d at least, with P' at the start, and at most, with P' at the end
step : (n : ℕ) (cs : List ℕ) (x d : ℕ) → (value n cs x d + slope n cs x d ≤ value n cs (suc x) d) × (value n cs (suc x) d ≤ value n cs x d + slope n cs (suc x) d)
unfolding value slope
step n [] x d = omega arith
step n (c ∷ cs) x d = through (c * d ^ n) x (value (pred n) cs x d) (slope (pred n) cs x d) (value (pred n) cs (suc x) d) (slope (pred n) cs (suc x) d) (step (pred n) cs x d)
  where
    through : (A x F S F' S' : ℕ) → (F + S ≤ F') × (F' ≤ F + S') → (A + x * F + (F + x * S) ≤ A + suc x * F') × (A + suc x * F' ≤ A + x * F + (F' + suc x * S'))
    through A x F S F' S' h = (omega (arith, mul-le-mul_left x h.0), omega (arith, mul-le-mul_left x h.1))

module _ (b c : ℕ) where
  -- the coefficients of P' are at least b / c times those of P, from a on, before the j-th of which the list starts; the last but one carries the last, as x ≤ 1
  unfoldable pub outgrows : ℕ → ℕ → List ℕ → Bool
  outgrows j a [] = false
  outgrows j a (e ∷ []) = leb (b * a + b * e) (c * (j * e))
  outgrows j a (e ∷ f ∷ fs) = leb (b * a) (c * (j * e)) && outgrows (suc j) e (f ∷ fs)

  outgrown : (j a : ℕ) (cs : List ℕ) (n x d : ℕ) → length cs ≤ n → x ≤ d → T (outgrows j a cs) →
      b * value n (a ∷ cs) x d ≤ c * d * (j * value (pred n) cs x d + x * slope (pred n) cs x d)
  unfolding value slope outgrows
  outgrown j a [] n x d fits small t = absurd t
  outgrown j a (e ∷ []) zero x d fits small t = absurd (omega arith)
  outgrown j a (e ∷ []) (suc n) x d fits small t = rw pow-suc (through (d ^ n) (leb→le (b * a + b * e) (c * (j * e)) t))
    where
      through : (E : ℕ) → b * a + b * e ≤ c * (j * e) → b * (a * (E * d) + x * (e * E + x * 0)) ≤ c * d * (j * (e * E + x * 0) + x * (0 + x * 0))
      through E h = omega (arith, mul-le-mul_right (E * d) h, mul-le-mul_left (b * e * E) small)
  outgrown j a (e ∷ f ∷ fs) zero x d fits small t = absurd (omega arith)
  outgrown j a (e ∷ f ∷ fs) (suc n) x d fits small t =
      rw pow-suc (through (d ^ n) (value (pred n) (f ∷ fs) x d) (slope (pred n) (f ∷ fs) x d)
      (leb→le (b * a) (c * (j * e)) (and_l (leb (b * a) (c * (j * e))) (outgrows (suc j) e (f ∷ fs)) t))
      (outgrown (suc j) e (f ∷ fs) n x d (omega arith) small (and_r (leb (b * a) (c * (j * e))) (outgrows (suc j) e (f ∷ fs)) t)))
    where
      through : (E F S : ℕ) → b * a ≤ c * (j * e) → b * (e * E + x * F) ≤ c * d * (suc j * F + x * S) →
          b * (a * (E * d) + x * (e * E + x * F)) ≤ c * d * (j * (e * E + x * F) + x * (F + x * S))
      through E F S h k = omega (arith, mul-le-mul_right (E * d) h, mul-le-mul_left x k)

  -- the coefficients of P' are at most b / c times those of P
  unfoldable pub lags : ℕ → ℕ → List ℕ → Bool
  lags j a [] = true
  lags j a (e ∷ es) = leb (c * (j * e)) (b * a) && lags (suc j) e es

  lagging : (j a : ℕ) (cs : List ℕ) (n x d : ℕ) → length cs ≤ n → T (lags j a cs) →
      c * d * (j * value (pred n) cs x d + x * slope (pred n) cs x d) ≤ b * value n (a ∷ cs) x d
  unfolding value slope lags
  lagging j a [] n x d fits t = omega arith
  lagging j a (e ∷ es) zero x d fits t = absurd (omega arith)
  lagging j a (e ∷ es) (suc n) x d fits t =
      rw pow-suc (through (d ^ n) (value (pred n) es x d) (slope (pred n) es x d)
      (leb→le (c * (j * e)) (b * a) (and_l (leb (c * (j * e)) (b * a)) (lags (suc j) e es) t))
      (lagging (suc j) e es n x d (omega arith) (and_r (leb (c * (j * e)) (b * a)) (lags (suc j) e es) t)))
    where
      through : (E F S : ℕ) → c * (j * e) ≤ b * a → c * d * (suc j * F + x * S) ≤ b * (e * E + x * F) →
          c * d * (j * (e * E + x * F) + x * (F + x * S)) ≤ b * (a * (E * d) + x * (e * E + x * F))
      through E F S h k = omega (arith, mul-le-mul_right (E * d) h, mul-le-mul_left x k)

-- ---- many steps, of a polynomial a ∷ cs

module _ (b c a : ℕ) (cs : List ℕ) (n : ℕ) (fits : length cs ≤ n) where
  -- k steps of 1 / d up
  up : T (outgrows b c 1 a cs) → (d k : ℕ) → k ≤ d → (c * d + b) ^ k * value n (a ∷ cs) 0 d ≤ (c * d) ^ k * value n (a ∷ cs) k d
  unfolding slope
  up t d zero small = simp pow-zero (omega arith)
  up t d (suc k) small =
      rw (pow-suc, pow-suc)
      (through ((c * d + b) ^ k) ((c * d) ^ k) (value n (a ∷ cs) 0 d) (value n (a ∷ cs) k d) (value n (a ∷ cs) (suc k) d) (slope n (a ∷ cs) k d)
      (up t d k (omega arith)) (omega (arith, outgrown b c 1 a cs n k d fits (omega arith) t)) (step n (a ∷ cs) k d).0)
    where
      through : (X Y F₀ F F' S : ℕ) → X * F₀ ≤ Y * F → b * F ≤ c * d * S → F + S ≤ F' → X * (c * d + b) * F₀ ≤ Y * (c * d) * F'
      through X Y F₀ F F' S h l m = omega (arith, mul-le-mul_right (c * d + b) h, mul-le-mul_left Y l, mul-le-mul_left (Y * (c * d)) m)

  -- and down
  down : T (lags b c 1 a cs) → (d k y : ℕ) → y + b ≡ c * d → y ^ k * value n (a ∷ cs) k d ≤ (c * d) ^ k * value n (a ∷ cs) 0 d
  unfolding slope
  down t d zero y sum = simp pow-zero (omega arith)
  down t d (suc k) y sum =
      rw (pow-suc, pow-suc)
      (through (y ^ k) ((c * d) ^ k) (value n (a ∷ cs) 0 d) (value n (a ∷ cs) k d) (value n (a ∷ cs) (suc k) d) (slope n (a ∷ cs) (suc k) d)
      (down t d k y sum) (omega (arith, lagging b c 1 a cs n (suc k) d fits t)) (step n (a ∷ cs) k d).1)
    where
      through : (X Y F₀ F F' S : ℕ) → X * F ≤ Y * F₀ → c * d * S ≤ b * F' → F' ≤ F + S → X * y * F' ≤ Y * (c * d) * F₀
      through X Y F₀ F F' S h l m =
          omega (arith, mul-le-mul_right (c * d) h, mul-le-mul_left X l, mul-le-mul_left (X * (c * d)) m, ap (λ (g : ℕ). X * g * F') sum)

-- steps of 1 / (q s) to p / q; what is known of the numbers over q s is known of those over q
module _ (a : ℕ) (cs : List ℕ) (n : ℕ) (fits : length cs ≤ n) (p q s : ℕ) where
  at_start : value n (a ∷ cs) 0 (q * s) ≡ a * q ^ n * s ^ n
  unfolding value
  at_start = rw (mul-pow q s n) (omega arith)

  at_end : value n (a ∷ cs) (p * s) (q * s) ≡ value n (a ∷ cs) p q * s ^ n
  at_end = value_scale n (a ∷ cs) p q s (suc-le-suc fits)

  cancel : (X Y A F : ℕ) → 0 < s → X * (A * s ^ n) ≤ Y * (F * s ^ n) → X * A ≤ Y * F
  cancel X Y A F pos h = le_of_mul-le-mul_right (rw (mul_assoc X A (s ^ n), mul_assoc Y F (s ^ n)) h) (one-le-pow n s pos)

-- ---- the theorem

-- a ∷ cs outgrows 2 ^ x, with b / c above ln 2 as (1 + b / w) ^ (2 ^ r) ≥ 2 shows
unfoldable pub fast : ℕ → ℕ → ℕ → ℕ → List ℕ → Bool
unfolding outgrows squared
fast b c r a cs = let w = c * 2 ^ r in outgrows b c 1 a cs && leb (2 * w) (squared r (w + b) w)

-- a ∷ cs lags behind 2 ^ x, with b / c below ln 2 as (1 - b / w) ^ (2 ^ r) ≥ 1 / 2 shows
unfoldable pub slow : ℕ → ℕ → ℕ → ℕ → List ℕ → Bool
unfolding lags squared
slow b c r a cs = let w = c * 2 ^ r in lags b c 1 a cs && leb w (2 * squared r (w - b) w)

module _ (b c r a : ℕ) (cs : List ℕ) (n : ℕ) (fits : length cs ≤ n) (p q : ℕ) (cpos : 0 < c) (qpos : 0 < q) (apos : 0 < a) where
  order : c * (q * 2 ^ r) ≡ c * 2 ^ r * q
  order = omega arith

  width : 0 < c * 2 ^ r
  width = one-le-mul cpos (pow_pos r)

  -- 2 ^ (p / q) P(0) ≤ P(p / q)
  pub above : p ≤ q → T (fast b c r a cs) → AtLeast (value n (a ∷ cs) p q) (a * q ^ n) p 0 q
  unfolding fast
  above small t =
      record {
        per = one-le-mul apos (one-le-pow n q qpos);
        root = qpos;
        holds = rw (one-pow p, one-mul, ← mul-one (value n (a ∷ cs) p q ^ q))
            at (by_root 2 1 (c * 2 ^ r) (c * 2 ^ r + b) b 0 (2 ^ r) p q (omega arith) (c * 2 ^ r * q + b) (omega arith) (a * q ^ n) (value n (a ∷ cs) p q)
            width (omega (arith, width)) qpos (by_squares 2 1 r (c * 2 ^ r + b) (c * 2 ^ r) twice) compounded);
      }
    where
      grows : Bool
      grows = outgrows b c 1 a cs

      doubles : Bool
      doubles = leb (2 * (c * 2 ^ r)) (squared r (c * 2 ^ r + b) (c * 2 ^ r))

      twice : 2 * (c * 2 ^ r) ≤ 1 * squared r (c * 2 ^ r + b) (c * 2 ^ r)
      twice = omega (arith, leb→le (2 * (c * 2 ^ r)) (squared r (c * 2 ^ r + b) (c * 2 ^ r)) (and_r grows doubles t))

      compounded : (c * 2 ^ r * q + b) ^ (p * 2 ^ r) * (a * q ^ n) ≤ (c * 2 ^ r * q) ^ (p * 2 ^ r) * value n (a ∷ cs) p q
      compounded =
          cancel a cs n fits p q (2 ^ r) ((c * 2 ^ r * q + b) ^ (p * 2 ^ r)) ((c * 2 ^ r * q) ^ (p * 2 ^ r)) (a * q ^ n) (value n (a ∷ cs) p q) (pow_pos r)
          (rw (← at_start a cs n fits p q (2 ^ r), ← at_end a cs n fits p q (2 ^ r), ← order)
          (up b c a cs n fits (and_l grows doubles t) (q * 2 ^ r) (p * 2 ^ r) (mul-le-mul_right (2 ^ r) small)))

  -- P(p / q) ≤ 2 ^ (p / q) P(0)
  pub beneath : b < c → T (slow b c r a cs) → AtMost (value n (a ∷ cs) p q) (a * q ^ n) p 0 q
  unfolding slow
  beneath less t =
      record {
        per = one-le-mul apos (one-le-pow n q qpos);
        root = qpos;
        holds = rw (one-pow p, one-mul, ← mul-one (value n (a ∷ cs) p q ^ q))
            at (by_root 1 2 (c * 2 ^ r) (c * 2 ^ r - b) 0 b (2 ^ r) p q (omega (arith, room)) (c * 2 ^ r * q - b) (omega (arith, wide)) (value n (a ∷ cs) p q) (a * q ^ n)
            width (omega (arith, room)) qpos (by_squares 1 2 r (c * 2 ^ r - b) (c * 2 ^ r) halves) compounded);
      }
    where
      room : b < c * 2 ^ r
      room = lt_of_lt_of_le less (le-mul_of_pos_right c (pow_pos r))

      wide : b < c * 2 ^ r * q
      wide = lt_of_lt_of_le room (le-mul_of_pos_right (c * 2 ^ r) qpos)

      behind : Bool
      behind = lags b c 1 a cs

      small : Bool
      small = leb (c * 2 ^ r) (2 * squared r (c * 2 ^ r - b) (c * 2 ^ r))

      halves : 1 * (c * 2 ^ r) ≤ 2 * squared r (c * 2 ^ r - b) (c * 2 ^ r)
      halves = omega (arith, leb→le (c * 2 ^ r) (2 * squared r (c * 2 ^ r - b) (c * 2 ^ r)) (and_r behind small t))

      compounded : (c * 2 ^ r * q - b) ^ (p * 2 ^ r) * value n (a ∷ cs) p q ≤ (c * 2 ^ r * q) ^ (p * 2 ^ r) * (a * q ^ n)
      compounded =
          cancel a cs n fits p q (2 ^ r) ((c * 2 ^ r * q - b) ^ (p * 2 ^ r)) ((c * 2 ^ r * q) ^ (p * 2 ^ r)) (value n (a ∷ cs) p q) (a * q ^ n) (pow_pos r)
          (rw (← at_start a cs n fits p q (2 ^ r), ← at_end a cs n fits p q (2 ^ r), ← order)
          (down b c a cs n fits (and_l behind small t) (q * 2 ^ r) (p * 2 ^ r) (c * (q * 2 ^ r) - b) (rw order (sub-add_cancel (le_of_lt wide)))))
