-- The transform of numbers that are not all small is not all small: halving undone, level by level, down to the values themselves. Assumes nothing.
use mathlib.Core.Path.{◌≡◌, refl, ap, ◌∙◌, subst}
use mathlib.Core.Logic.{inl, inr, ◌⊎◌}
use mathlib.Core.Bool.{Bool}
use Prim.Native.Nat.{ℕ, zero, suc, ◌+◌, ◌-◌, ◌*◌, ◌/◌, ◌%◌, ◌^◌, ◌≤◌, ◌<◌, zero-le}
use native.Mathlib.Nat.{pow-suc, le_trans, mul-pos, mul-le-mul_left, mul-le-mul_right, zero-mul}
use native.Mathlib.Omega.{arith}
use lib.Dec.{T, leb, leb→le}
use lib.Pow.{pow_pos}
use Rattle.units.proofs.Naturals.{le-or-lt}
use Rattle.spectrum.specs.Difference.{Difference, whole, opposite, add, times, total}
use Rattle.spectrum.specs.Table.{unit, entry, cosine_below, cosine, sine}
use Rattle.spectrum.proofs.Tests.{all, at}
use Rattle.spectrum.proofs.Entries.{entries_most}
use Rattle.spectrum.proofs.Differences.{Close, length, close_sym, close_trans, close_weaken, close_add, close_times, close_unscale, total-length, times-length}
use Rattle.spectrum.proofs.Turning.{cosine-length, sine-length}
use Rattle.spectrum.proofs.Halving.{plain, odd, split, even_cosine, even_sine, odd_cosine, odd_sine, turned-cosine, turned-sine}

-- ---- cosine and sine of one angle: their squares make 1 within 2 units
unfoldable squares : ℕ → Bool
squares i = leb (entry i * entry i + entry (32 - i) * entry (32 - i)) (unit * unit + 2 * unit)

unfoldable squares_back : ℕ → Bool
squares_back i = leb (unit * unit) (entry i * entry i + entry (32 - i) * entry (32 - i) + 2 * unit)

squares_most : T (all 33 squares)
unfolding all squares entry
squares_most = tt

squares_least : T (all 33 squares_back)
unfolding all squares_back entry
squares_least = tt

one : (i : ℕ) → i ≤ 32 → (entry i * entry i + entry (32 - i) * entry (32 - i) ≤ unit * unit + 2 * unit) × (unit * unit ≤ entry i * entry i + entry (32 - i) * entry (32 - i) + 2 * unit)
unfolding squares squares_back
one i l = (leb→le _ _ (at 33 squares squares_most i (omega arith)), leb→le _ _ (at 33 squares_back squares_least i (omega arith)))

-- ---- |a| ≤ b
abbrev pub Most : ℕ → Difference → Type 0
Most b a = Close b a (whole 0)

half_sum : {b : ℕ} (D D' E o : Difference) → Close 0 D (add E o) → Close 0 D' (add E (opposite o)) → Most b D → Most b D' → Most b E × Most b o
half_sum D D' E o h g m m' = (
  record { most = omega (arith, h.most, h.least, g.most, g.least, m.most, m'.most); least = omega (arith, h.most, h.least, g.most, g.least, m.least, m'.least) },
  record { most = omega (arith, h.most, h.least, g.most, g.least, m.most, m'.least); least = omega (arith, h.most, h.least, g.most, g.least, m.least, m'.most) },
)

-- turned back: from U a ≈ c x - s y and U b ≈ s x + c y to U x ≈ c a + s b and U y ≈ c b - s a, over any unit
module _ (U c s n b : ℕ) (few : 2 * (c + s) ≤ 3 * U) (sq : c * c + s * s ≤ U * U + 2 * U) (sq' : U * U ≤ c * c + s * s + 2 * U) (pos : 0 < U) where
  -- c (c x - s y) + s (s x + c y)
  crossed : (x y : Difference) → Close 0 (add (times (whole c) (add (times (whole c) x) (times (opposite (whole s)) y))) (times (whole s) (add (times (whole s) x) (times (whole c) y)))) (times (whole (c * c + s * s)) x)
  crossed x y = record { most = omega arith; least = omega arith }

  crossed_back : (x y : Difference) → Close 0 (add (times (whole c) (add (times (whole s) x) (times (whole c) y))) (times (opposite (whole s)) (add (times (whole c) x) (times (opposite (whole s)) y)))) (times (whole (c * c + s * s)) y)
  crossed_back x y = record { most = omega arith; least = omega arith }

  squared : (x : Difference) (l : ℕ) → length x ≤ l → Close (2 * U * l) (times (whole (c * c + s * s)) x) (times (whole (U * U)) x)
  squared x l h = near (c * c + s * s) (U * U) (2 * U) x.plus x.minus sq sq' h
    where
      near : (q w d p m : ℕ) → q ≤ w + d → w ≤ q + d → p + m ≤ l → Close (d * l) (times (whole q) (record { plus = p; minus = m })) (times (whole w) (record { plus = p; minus = m }))
      near q w d p m a b k = record {
        most = omega (arith, mul-le-mul_right p a, mul-le-mul_right m b, mul-le-mul_left d k);
        least = omega (arith, mul-le-mul_right m a, mul-le-mul_right p b, mul-le-mul_left d k);
      }

  -- what is small when turned is small
  small : (W e z b' : ℕ) (x Z : Difference) → 0 < W → e + z ≤ W * b' → Close e (times (whole W) x) Z → Most z Z → Most b' x
  small W e z b' x Z wpos room h m = close_unscale W wpos (close_weaken room (close_trans h (weak m)))
    where
      weak : Most z Z → Close z Z (times (whole W) (whole 0))
      weak m = record { most = omega (arith, m.most); least = omega (arith, m.least) }

  both : (z : ℕ) (a o : Difference) (p q : Difference) → Most z a → Most z o → Most ((length p + length q) * ((U + 0) * z)) (add (times p (times (whole U) a)) (times q (times (whole U) o)))
  both z a o p q m k = close_weaken (sums (length p) (length q) ((U + 0) * z)) (close_trans (close_add (close_times p (close_times (whole U) m)) (close_times q (close_times (whole U) k))) (none p q))
    where
      none : (p q : Difference) → Close 0 (add (times p (times (whole U) (whole 0))) (times q (times (whole U) (whole 0)))) (whole 0)
      none p q = record { most = omega arith; least = omega arith }

      sums : (a b e : ℕ) → a * e + b * e + 0 ≤ (a + b) * e
      sums a b e = omega arith

  module _ (x y a o : Difference) (z : ℕ) (hx : length x ≤ n * b * U) (hy : length y ≤ n * b * U) (ha : Close (n * (b * (2 * U))) (times (whole U) a) (add (times (whole c) x) (times (opposite (whole s)) y)))
      (ho : Close (n * (b * (2 * U))) (times (whole U) o) (add (times (whole s) x) (times (whole c) y))) (ma : Most z a) (mo : Most z o) where
    room : (e : ℕ) → e ≡ n * (b * (2 * U)) → 2 * U * (n * b * U) + (c + s) * e + (c + s) * (U * z) ≤ U * U * (2 * z + 5 * (n * b))
    room e h = omega (arith, ap (λ (k : ℕ). (c + s) * k) h, mul-le-mul_right (U * (n * b)) few, mul-le-mul_right (U * z) few)

    turned_first : Most (2 * z + 5 * (n * b)) x
    turned_first =
        small (U * U) (2 * U * (n * b * U) + (c + s) * (n * (b * (2 * U)))) ((c + s) * (U * z)) (2 * z + 5 * (n * b)) x
        (add (times (whole c) (times (whole U) a)) (times (whole s) (times (whole U) o))) (mul-pos pos pos) (room _ refl)
        (close_weaken (sums (2 * U * (n * b * U)) (n * (b * (2 * U))))
        (close_trans (close_sym (squared x (n * b * U) hx)) (close_trans (close_sym (crossed x y)) (close_add (close_times (whole c) (close_sym ha)) (close_times (whole s) (close_sym ho))))))
        (close_weaken (lengths U z) (both z a o (whole c) (whole s) ma mo))
      where
        sums : (p e : ℕ) → p + (0 + ((c + 0) * e + (s + 0) * e)) ≤ p + (c + s) * e
        sums p e = omega arith

        lengths : (U z : ℕ) → (c + 0 + (s + 0)) * ((U + 0) * z) ≤ (c + s) * (U * z)
        lengths U z = omega arith

    turned_second : Most (2 * z + 5 * (n * b)) y
    turned_second =
        small (U * U) (2 * U * (n * b * U) + (c + s) * (n * (b * (2 * U)))) ((c + s) * (U * z)) (2 * z + 5 * (n * b)) y
        (add (times (whole c) (times (whole U) o)) (times (opposite (whole s)) (times (whole U) a))) (mul-pos pos pos) (room _ refl)
        (close_weaken (sums (2 * U * (n * b * U)) (n * (b * (2 * U))))
        (close_trans (close_sym (squared y (n * b * U) hy)) (close_trans (close_sym (crossed_back x y)) (close_add (close_times (whole c) (close_sym ho)) (close_times (opposite (whole s)) (close_sym ha))))))
        (close_weaken (lengths U z) (both z o a (whole c) (opposite (whole s)) mo ma))
      where
        sums : (p e : ℕ) → p + (0 + ((c + 0) * e + (0 + s) * e)) ≤ p + (c + s) * e
        sums p e = omega arith

        lengths : (U z : ℕ) → (c + 0 + (0 + s)) * ((U + 0) * z) ≤ (c + s) * (U * z)
        lengths U z = omega arith

-- ---- levels
module _ (X : ℕ → Difference) (l : ℕ) (covers : (i : ℕ) → length (X i) ≤ l) where
  pub record Bounded (n st off b : ℕ) : Type 0 where
    pub re : (k : ℕ) → 2 * k ≤ n → Most b (plain X cosine off st k n)
    pub im : (k : ℕ) → 2 * k ≤ n → Most b (plain X sine off st k n)

  sum-length : (w : ℕ → Difference) → ((j : ℕ) → length (w j) ≤ unit) → (off st k n : ℕ) → length (plain X w off st k n) ≤ n * l * unit
  sum-length w h off st k n = le_trans (total-length (l * unit) (λ m. times (X (off + m * st)) (w (k * (m * st)))) n (λ m b. times-length (X (off + m * st)) (w (k * (m * st))) l unit (covers _) (h _))) (regroup n l unit)
    where
      regroup : (n a u : ℕ) → n * (a * u) ≤ n * a * u
      regroup n a u = omega arith

  module _ (n st off b : ℕ) (half : n * st ≡ 64) (h : Bounded (2 * n) st off b) where
    module _ (k : ℕ) (low : 2 * k ≤ n) where
      back : n - k + k ≡ n
      back = omega arith

      cosines : Most b (plain X cosine off (2 * st) k n) × Most b (odd X cosine off st k n)
      cosines =
          half_sum _ _ _ _ (split X off st k n cosine)
          (close_trans (split X off st (n - k) n cosine) (close_add (even_cosine X off st k n (n - k) n back half) (odd_cosine X off st k n (n - k) n back half))) (h.re k (omega arith)) (h.re (n - k) (omega arith))

      sines : Most b (odd X sine off st k n) × Most b (plain X sine off (2 * st) k n)
      sines =
          half_sum _ _ _ _ (exchange (plain X sine off (2 * st) k n) (odd X sine off st k n) (split X off st k n sine))
          (exchange (opposite (plain X sine off (2 * st) k n)) (odd X sine off st k n) (close_trans (split X off st (n - k) n sine) (close_add (even_sine X off st k n (n - k) n back half) (odd_sine X off st k n (n - k) n back half)))) (h.im k (omega arith)) (h.im (n - k) (omega arith))
        where
          exchange : {D : Difference} (E o : Difference) → Close 0 D (add E o) → Close 0 D (add o E)
          exchange E o g = record { most = omega (arith, g.most); least = omega (arith, g.least) }

      few : k * st ≤ 32
      few = omega (arith, mul-le-mul_right st low, half)

      others : Most (2 * b + 5 * (n * l)) (plain X cosine (off + st) (2 * st) k n) × Most (2 * b + 5 * (n * l)) (plain X sine (off + st) (2 * st) k n)
      others =
          let q = one (k * st) few in
          let t = entries_most (k * st) few in (
            turned_first unit (entry (k * st)) (entry (32 - k * st)) n l t q.0 q.1 (pow_pos 61) _ _ (odd X cosine off st k n) (odd X sine off st k n) b (sum-length cosine cosine-length (off + st) (2 * st) k n) (sum-length sine sine-length (off + st) (2 * st) k n)
                (turned-cosine X off st k n l covers few) (turned-sine X off st k n l covers few) cosines.1 sines.0,
            turned_second unit (entry (k * st)) (entry (32 - k * st)) n l t q.0 q.1 (pow_pos 61) _ _ (odd X cosine off st k n) (odd X sine off st k n) b (sum-length cosine cosine-length (off + st) (2 * st) k n) (sum-length sine sine-length (off + st) (2 * st) k n)
                (turned-cosine X off st k n l covers few) (turned-sine X off st k n l covers few) cosines.1 sines.0,
          )

    evens : Bounded n (2 * st) off b
    evens = record { re = λ k low. (cosines k low).0; im = λ k low. (sines k low).1 }

    odds : Bounded n (2 * st) (off + st) (2 * b + 5 * (n * l))
    odds = record { re = λ k low. (others k low).0; im = λ k low. (others k low).1 }

  -- ---- down to the values
  unfoldable grown : ℕ → ℕ → ℕ
  grown zero b = b
  grown (suc i) b = grown i (2 * b + 320 * l)

  raised : {b b' : ℕ} {n st off : ℕ} → b ≤ b' → Bounded n st off b → Bounded n st off b'
  raised m h = record { re = λ k low. close_weaken m (h.re k low); im = λ k low. close_weaken m (h.im k low) }

  reach : (i off st b : ℕ) → 2 ^ i * st ≡ 128 → Bounded (2 ^ i) st off b → (q : ℕ) → q < 2 ^ i → Most (grown i b) (times (X (off + q * st)) (whole unit))
  unfolding grown total cosine_below entry
  reach zero off st b e h q m = rw (nought m) (first (X (off + 0 * st)) (subst (λ (j : ℕ). Most b (add (whole 0) (times (X (off + 0 * st)) (cosine_below (j % 128))))) (zero-mul (0 * st)) (h.re 0 zero-le)))
    where
      nought : q < 1 → q ≡ 0
      nought m = omega arith

      first : (a : Difference) → Most b (add (whole 0) (times a (whole unit))) → Most b (times a (whole unit))
      first a g = record { most = omega (arith, g.most); least = omega (arith, g.least) }
  reach (suc i) off st b e h q m = elim (parity q) [
    | inl z ↦ subst (λ (j : ℕ). Most (grown i (2 * b + 320 * l)) (times (X j) (whole unit))) (even_place z) (reach i off (2 * st) (2 * b + 320 * l) (next (2 ^ i) (2 ^ suc i) (pow-suc 2 i) e) (raised less (evens (2 ^ i) st off b (half (2 ^ i) (2 ^ suc i) (pow-suc 2 i) e) doubled)) (q / 2) (below (2 ^ i) (2 ^ suc i) (pow-suc 2 i) m))
    | inr z ↦ subst (λ (j : ℕ). Most (grown i (2 * b + 320 * l)) (times (X j) (whole unit))) (odd_place z) (reach i (off + st) (2 * st) (2 * b + 320 * l) (next (2 ^ i) (2 ^ suc i) (pow-suc 2 i) e) (raised (room (2 ^ i) (2 ^ suc i) (pow-suc 2 i) e) (odds (2 ^ i) st off b (half (2 ^ i) (2 ^ suc i) (pow-suc 2 i) e) doubled)) (q / 2) (below (2 ^ i) (2 ^ suc i) (pow-suc 2 i) m))
  ]
    where
      parity : (q : ℕ) → (q % 2 ≡ 0) ⊎ (q % 2 ≡ 1)
      parity q = elim (le-or-lt 1 (q % 2)) [ inl a ↦ inr (last a) | inr a ↦ inl (none a) ]
        where
          last : 1 ≤ q % 2 → q % 2 ≡ 1
          last a = omega arith

          none : q % 2 < 1 → q % 2 ≡ 0
          none a = omega arith

      even_place : q % 2 ≡ 0 → off + q / 2 * (2 * st) ≡ off + q * st
      even_place z = let e : q ≡ q / 2 * 2 = omega arith in omega (arith, ap (λ (j : ℕ). j * st) e)

      odd_place : q % 2 ≡ 1 → off + st + q / 2 * (2 * st) ≡ off + q * st
      odd_place z = let e : q ≡ q / 2 * 2 + 1 = omega arith in omega (arith, ap (λ (j : ℕ). j * st) e)

      next : (p w : ℕ) → w ≡ p * 2 → w * st ≡ 128 → p * (2 * st) ≡ 128
      next p w g f = omega (arith, ap (λ (j : ℕ). j * st) g)

      half : (p w : ℕ) → w ≡ p * 2 → w * st ≡ 128 → p * st ≡ 64
      half p w g f = omega (arith, ap (λ (j : ℕ). j * st) g)

      doubled : Bounded (2 * 2 ^ i) st off b
      doubled = subst (λ (n : ℕ). Bounded n st off b) (pow-suc 2 i ∙ swap (2 ^ i)) h
        where
          swap : (p : ℕ) → p * 2 ≡ 2 * p
          swap p = omega arith

      below : (p w : ℕ) → w ≡ p * 2 → q < w → q / 2 < p
      below p w g k = omega arith

      less : b ≤ 2 * b + 320 * l
      less = omega arith

      room : (p w : ℕ) → w ≡ p * 2 → w * st ≡ 128 → 2 * b + 5 * (p * l) ≤ 2 * b + 320 * l
      room p w g f = omega (arith, mul-le-mul_right l (most p st (half p w g f)))
        where
          most : (p st : ℕ) → p * st ≡ 64 → p ≤ 64
          most p zero k = absurd (omega arith)
          most p (suc st) k = omega (arith, mul-le-mul_left p (zero-le {n = st}))

  pub values : (b : ℕ) → Bounded 128 1 0 b → (q : ℕ) → q < 128 → Most (128 * b + 127 * (320 * l)) (times (X q) (whole unit))
  unfolding grown
  values b h q m = subst (λ (j : ℕ). Most (128 * b + 127 * (320 * l)) (times (X j) (whole unit))) (place q) (close_weaken (omega arith) (reach 7 0 1 b refl h q m))
    where
      place : (q : ℕ) → 0 + q * 1 ≡ q
      place q = omega arith
