-- One stage: two blocks that hold the transforms of the even and of the odd values within e become a block that holds that of all within 5 / 2 e + 7.
use mathlib.Core.Path.{◌≡◌, sym, ap, subst}
use mathlib.Core.Logic.{inl, inr}
use Prim.Native.Nat.{ℕ, zero, suc, ◌+◌, ◌-◌, ◌*◌, ◌^◌, ◌≤◌, ◌<◌, zero-le}
use native.Mathlib.Nat.{mul-le-mul_left, mul-le-mul_right, eq-or-lt_of_le, zero-mul}
use native.Mathlib.Omega.{arith}
use lib.Pow.{pow_pos}
use Rattle.units.proofs.Naturals.{le-or-lt}
use Rattle.spectrum.specs.Difference.{Difference, whole, opposite, add, times}
use Rattle.spectrum.specs.Table.{unit, entry, cosine, sine}
use Rattle.spectrum.specs.Words.{value_of, Butterfly, Combined}
use Rattle.spectrum.proofs.Parts.{product}
use Rattle.spectrum.proofs.Entries.{entries_most}
use Rattle.spectrum.proofs.Differences.{Close, length, close_sym, close_trans, close_weaken, close_add, close_unscale}
use Rattle.spectrum.proofs.Halving.{plain, odd, split, even_cosine, even_sine, odd_cosine, odd_sine, turned-cosine, turned-sine}
use Rattle.spectrum.proofs.Rotated.{Value, less, flipped, joined, budget, real_near, imaginary_near}

-- a block of n words holds the transform of n values, st apart from off on, within e: real parts from 0 to n / 2, imaginary parts, from the end, in between
pub record Transformed (y : ℕ → ℕ) (e n off st : ℕ) (r : ℕ → ℕ) : Type 0 where
  pub re : (k : ℕ) → 2 * k ≤ n → Close (e * unit) (times (whole unit) (value_of (r k))) (plain (λ i. value_of (y i)) cosine off st k n)
  pub im : (k : ℕ) → 1 ≤ k → 2 * k < n → Close (e * unit) (times (whole unit) (opposite (value_of (r (n - k))))) (plain (λ i. value_of (y i)) sine off st k n)

-- ---- sums and differences of words, as values
value : (v : ℕ) → Value unit v (value_of v)
value v = omega arith

module _ (u : ℕ) (A E O : Difference) (a e o : ℕ) (ha : Value u a A) (he : Value u e E) where
  sum-turned : a + 2 * u ≡ e + o → Close 0 A (add E (less u o))
  sum-turned h = record { most = omega arith; least = omega arith }

  difference_turned : a + o ≡ e + 2 * u → Close 0 A (add E (opposite (less u o)))
  difference_turned h = record { most = omega arith; least = omega arith }

  difference_other : a + e ≡ o → Close 0 (opposite A) (add (opposite (opposite E)) (opposite (less u o)))
  difference_other h = record { most = omega arith; least = omega arith }

  sum-opposite : a + 2 * u ≡ e + o → Close 0 (opposite A) (add (opposite E) (opposite (less u o)))
  sum-opposite h = record { most = omega arith; least = omega arith }

  module _ (ho : Value u o O) where
    sum_plain : a + u ≡ e + o → Close 0 A (add E O)
    sum_plain h = record { most = omega arith; least = omega arith }

    difference_plain : a + o ≡ e + u → Close 0 A (add E (opposite O))
    difference_plain h = record { most = omega arith; least = omega arith }

-- ---- the ends: no turn at 0, and a quarter at G
keeps_first : {e : ℕ} (u c s : ℕ) (q a b : Difference) → c ≡ u → s ≡ 0 → Close e (times (whole u) q) (add (times (whole c) a) (times (opposite (whole s)) b)) → Close e (times (whole u) q) (times (whole u) a)
keeps_first u c s q a b ec es h = let g = rw (ec, es) at h in record { most = omega (arith, g.most); least = omega (arith, g.least) }

keeps_second : {e : ℕ} (u c s : ℕ) (q a b : Difference) → c ≡ u → s ≡ 0 → Close e (times (whole u) q) (add (times (whole c) a) (times (whole s) b)) → Close e (times (whole u) q) (times (whole u) a)
keeps_second u c s q a b ec es h = let g = rw (ec, es) at h in record { most = omega (arith, g.most); least = omega (arith, g.least) }

both_ways : (D E r : Difference) → Close 0 D (add E r) → Close 0 D (add E (opposite r)) → Close 0 D E
both_ways D E r h g = record { most = omega (arith, h.most, g.most); least = omega (arith, h.least, g.least) }

both_ways_back : (D E r : Difference) → Close 0 D (add E r) → Close 0 D (add (opposite E) r) → Close 0 D r
both_ways_back D E r h g = record { most = omega (arith, h.most, g.most); least = omega (arith, h.least, g.least) }

ends_budget : (u e e''' x : ℕ) → x ≤ u → 5 * e + 14 ≤ 2 * e''' → e * u + (e * u + x) ≤ e''' * u
ends_budget u e e''' x m l = omega (arith, mul-le-mul_right u l)

scaled : (n a u : ℕ) → n * (a * (2 * u)) ≤ 2 * (n * a) * u
scaled n a u = omega arith

at_most_32 : (G st : ℕ) → G * st ≡ 32 → G ≤ 32
at_most_32 G zero h = omega arith
at_most_32 G (suc st) h = omega (arith, mul-le-mul_left G (zero-le {n = st}))

module _ (y : ℕ → ℕ) (small : (i : ℕ) → length (value_of (y i)) ≤ 2 ^ 53) (off st G e e''' : ℕ) (pos : 1 ≤ G) (turn : G * st ≡ 32) (room : 5 * e + 14 ≤ 2 * e''') where
  abbrev Y : ℕ → Difference
  Y i = value_of (y i)

  abbrev x : ℕ
  x = 2 * (2 * G * 2 ^ 53)

  x_most : x ≤ unit
  x_most = omega (arith, at_most_32 G st turn)

  half : 2 * G * st ≡ 64
  half = omega (arith, turn)

  few : (k : ℕ) → k ≤ G → k * st ≤ 32
  few k l = omega (arith, mul-le-mul_right st l, turn)

  -- ---- the sums of all, by the halves'
  whole_block : 2 * (2 * G) ≡ 4 * G
  whole_block = omega arith

  sums : (w : ℕ → Difference) (k : ℕ) → Close 0 (plain Y w off st k (4 * G)) (add (plain Y w off (2 * st) k (2 * G)) (odd Y w off st k (2 * G)))
  sums w k = subst (λ (n : ℕ). Close 0 (plain Y w off st k n) (add (plain Y w off (2 * st) k (2 * G)) (odd Y w off st k (2 * G)))) whole_block (split Y off st k (2 * G) w)

  mirror_cosine : (k k' : ℕ) → k' + k ≡ 2 * G → Close 0 (plain Y cosine off st k' (4 * G)) (add (plain Y cosine off (2 * st) k (2 * G)) (opposite (odd Y cosine off st k (2 * G))))
  mirror_cosine k k' h = close_trans (sums cosine k') (close_add (even_cosine Y off st k (2 * G) k' (2 * G) h half) (odd_cosine Y off st k (2 * G) k' (2 * G) h half))

  mirror_sine : (k k' : ℕ) → k' + k ≡ 2 * G → Close 0 (plain Y sine off st k' (4 * G)) (add (opposite (plain Y sine off (2 * st) k (2 * G))) (odd Y sine off st k (2 * G)))
  mirror_sine k k' h = close_trans (sums sine k') (close_add (even_sine Y off st k (2 * G) k' (2 * G) h half) (odd_sine Y off st k (2 * G) k' (2 * G) h half))

  cosine_turn : (k : ℕ) → k ≤ G → Close (x * unit) (times (whole unit) (odd Y cosine off st k (2 * G)))
      (add (times (whole (entry (k * st))) (plain Y cosine (off + st) (2 * st) k (2 * G))) (times (opposite (whole (entry (32 - k * st)))) (plain Y sine (off + st) (2 * st) k (2 * G))))
  cosine_turn k l = close_weaken (scaled (2 * G) (2 ^ 53) unit) (turned-cosine Y off st k (2 * G) (2 ^ 53) small (few k l))

  sine_turn : (k : ℕ) → k ≤ G → Close (x * unit) (times (whole unit) (odd Y sine off st k (2 * G)))
      (add (times (whole (entry (32 - k * st))) (plain Y cosine (off + st) (2 * st) k (2 * G))) (times (whole (entry (k * st))) (plain Y sine (off + st) (2 * st) k (2 * G))))
  sine_turn k l = close_weaken (scaled (2 * G) (2 ^ 53) unit) (turned-sine Y off st k (2 * G) (2 ^ 53) small (few k l))

  unscaled : {d d' : Difference} → Close (x * unit) (times (whole unit) d) (times (whole unit) d') → Close x d d'
  unscaled h = close_unscale unit (pow_pos 61) (close_weaken (swap x unit) h)
    where
      swap : (a b : ℕ) → a * b ≤ b * a
      swap a b = omega arith

  no_turn : Close x (odd Y cosine off st 0 (2 * G)) (plain Y cosine (off + st) (2 * st) 0 (2 * G))
  unfolding entry
  no_turn = unscaled (keeps_first unit (entry (0 * st)) (entry (32 - 0 * st)) (odd Y cosine off st 0 (2 * G)) (plain Y cosine (off + st) (2 * st) 0 (2 * G)) (plain Y sine (off + st) (2 * st) 0 (2 * G)) (ap entry (zero-mul st)) (ap (λ (n : ℕ). entry (32 - n)) (zero-mul st)) (cosine_turn 0 zero-le))

  quarter_turn : Close x (odd Y sine off st G (2 * G)) (plain Y cosine (off + st) (2 * st) G (2 * G))
  unfolding entry
  quarter_turn = unscaled (keeps_second unit (entry (32 - G * st)) (entry (G * st)) (odd Y sine off st G (2 * G)) (plain Y cosine (off + st) (2 * st) G (2 * G)) (plain Y sine (off + st) (2 * st) G (2 * G)) (ap (λ (n : ℕ). entry (32 - n)) turn) (ap entry turn) (sine_turn G (omega arith)))

  module _ (f o r : ℕ → ℕ) (hf : Transformed y e (2 * G) off (2 * st) f) (ho : Transformed y e (2 * G) (off + st) (2 * st) o) (h : Combined G st f o r) where
    abbrev Re : ℕ → ℕ → Type 0
    Re i k = Close (e''' * unit) (times (whole unit) (value_of (r i))) (plain Y cosine off st k (4 * G))

    abbrev Im : ℕ → ℕ → Type 0
    Im i k = Close (e''' * unit) (times (whole unit) (opposite (value_of (r i)))) (plain Y sine off st k (4 * G))

    -- ---- the four words of a butterfly
    module _ (k : ℕ) (low : 1 ≤ k) (high : k < G) where
      abbrev b : Butterfly (k * st) (f k) (f (2 * G - k)) (o k) (o (2 * G - k)) (r k) (r (2 * G - k)) (r (2 * G + k)) (r (4 * G - k))
      b = h.each k low high

      abbrev c : ℕ
      c = entry (k * st)

      abbrev s : ℕ
      s = entry (32 - k * st)

      fits : e * unit + (6 * unit + (c + s) * e + x) ≤ e''' * unit
      fits = budget unit c s e e''' x (entries_most (k * st) (few k (omega arith))) x_most room

      real : Close (6 * unit + (c + s) * e + x) (times (whole unit) (less unit b.t)) (odd Y cosine off st k (2 * G))
      real =
          real_near unit e x (pow_pos 61) c s (o k) (o (2 * G - k)) _ _ (value_of (o k)) (value_of (o (2 * G - k))) (odd Y cosine off st k (2 * G)) (odd Y sine off st k (2 * G))
          (plain Y cosine (off + st) (2 * st) k (2 * G)) (plain Y sine (off + st) (2 * st) k (2 * G)) (value (o k)) (value (o (2 * G - k))) (ho.re k (omega arith)) (ho.im k low (omega arith))
          b.t (product (o k) c).most (product (o k) c).least (product (o (2 * G - k)) s).most (product (o (2 * G - k)) s).least b.real (cosine_turn k (omega arith))

      imaginary : Close (6 * unit + (c + s) * e + x) (times (whole unit) (opposite (less unit b.u))) (odd Y sine off st k (2 * G))
      imaginary =
          imaginary_near unit e x (pow_pos 61) c s (o k) (o (2 * G - k)) _ _ (value_of (o k)) (value_of (o (2 * G - k))) (odd Y cosine off st k (2 * G)) (odd Y sine off st k (2 * G))
          (plain Y cosine (off + st) (2 * st) k (2 * G)) (plain Y sine (off + st) (2 * st) k (2 * G)) (value (o k)) (value (o (2 * G - k))) (ho.re k (omega arith)) (ho.im k low (omega arith))
          b.u (product (o (2 * G - k)) c).most (product (o (2 * G - k)) c).least (product (o k) s).most (product (o k) s).least b.imaginary (sine_turn k (omega arith))

      word_a : Re k k
      word_a = close_weaken fits (joined unit _ (value_of (f k)) (less unit b.t) _ _ _ (sum-turned unit _ _ (value_of (f k)) (r k) (f k) b.t (value (r k)) (value (f k)) b.sum_real) (sums cosine k) (hf.re k (omega arith)) real)

      word_b : Re (2 * G - k) (2 * G - k)
      word_b =
          close_weaken fits (joined unit _ (value_of (f k)) (opposite (less unit b.t)) _ _ _ (difference_turned unit _ _ (value_of (f k)) (r (2 * G - k)) (f k) b.t (value (r (2 * G - k))) (value (f k)) b.difference_real)
          (mirror_cosine k (2 * G - k) (omega arith)) (hf.re k (omega arith)) (flipped unit (less unit b.t) real))

      word_d : Im (4 * G - k) k
      word_d =
          close_weaken fits (joined unit _ (opposite (value_of (f (2 * G - k)))) (opposite (less unit b.u)) _ _ _ (sum-opposite unit _ _ (value_of (f k)) (r (4 * G - k)) (f (2 * G - k)) b.u (value (r (4 * G - k))) (value (f (2 * G - k))) b.sum_imaginary)
          (sums sine k) (hf.im k low (omega arith)) imaginary)

      word_e : Im (2 * G + k) (2 * G - k)
      word_e =
          close_weaken fits (joined unit _ (opposite (opposite (value_of (f (2 * G - k))))) (opposite (less unit b.u)) _ _ _ (difference_other unit _ _ (value_of (f k)) (r (2 * G + k)) (f (2 * G - k)) b.u (value (r (2 * G + k))) (value (f (2 * G - k))) b.difference_imaginary)
          (mirror_sine k (2 * G - k) (omega arith)) (flipped unit (opposite (value_of (f (2 * G - k)))) (hf.im k low (omega arith))) imaginary)

    -- ---- the words that take no turn
    other : Close (e * unit + x) (times (whole unit) (value_of (o 0))) (odd Y cosine off st 0 (2 * G))
    other = close_trans (ho.re 0 zero-le) (close_sym no_turn)

    ends : e * unit + (e * unit + x) ≤ e''' * unit
    ends = ends_budget unit e e''' x x_most room

    word_first : Re 0 0
    word_first = close_weaken ends (joined unit _ (value_of (f 0)) (value_of (o 0)) _ _ _ (sum_plain unit _ _ (value_of (o 0)) (r 0) (f 0) (o 0) (value (r 0)) (value (f 0)) (value (o 0)) h.first) (sums cosine 0) (hf.re 0 zero-le) other)

    word_middle : Re (2 * G) (2 * G)
    word_middle =
        close_weaken ends (joined unit _ (value_of (f 0)) (opposite (value_of (o 0))) _ _ _ (difference_plain unit _ _ (value_of (o 0)) (r (2 * G)) (f 0) (o 0) (value (r (2 * G))) (value (f 0)) (value (o 0)) h.middle)
        (mirror_cosine 0 (2 * G) (omega arith)) (hf.re 0 zero-le) (flipped unit (value_of (o 0)) other))

    word_same : Re G G
    word_same =
        close_weaken (within unit e e''' room)
        (close_trans (subst (λ (v : ℕ). Close (e * unit) (times (whole unit) (value_of v)) (plain Y cosine off (2 * st) G (2 * G))) (sym h.same) (hf.re G (omega arith)))
        (close_sym (both_ways _ _ (odd Y cosine off st G (2 * G)) (sums cosine G) (mirror_cosine G G (omega arith)))))
      where
        within : (u e e''' : ℕ) → 5 * e + 14 ≤ 2 * e''' → e * u + 0 ≤ e''' * u
        within u e e''' l = omega (arith, mul-le-mul_right u l)

    word-turned : Im (3 * G) G
    word-turned =
        close_weaken (within unit e e''' x x_most room)
        (close_trans (turned-word unit (r (3 * G)) (o G) _ _ (value (r (3 * G))) (value (o G)) h.turned)
        (close_trans (ho.re G (omega arith)) (close_trans (close_sym quarter_turn) (close_sym (both_ways_back _ (plain Y sine off (2 * st) G (2 * G)) _ (sums sine G) (mirror_sine G G (omega arith)))))))
      where
        within : (u e e''' x : ℕ) → x ≤ u → 5 * e + 14 ≤ 2 * e''' → 0 + (e * u + (x + 0)) ≤ e''' * u
        within u e e''' x m l = omega (arith, mul-le-mul_right u l)

        turned-word : (u a o : ℕ) (A O : Difference) → Value u a A → Value u o O → a + o ≡ 2 * u → Close 0 (times (whole u) (opposite A)) (times (whole u) O)
        turned-word u a o A O ha ho h = record { most = omega (arith, ap (λ (z : ℕ). u * z) ha, ap (λ (z : ℕ). u * z) ho, ap (λ (z : ℕ). u * z) h); least = omega (arith, ap (λ (z : ℕ). u * z) ha, ap (λ (z : ℕ). u * z) ho, ap (λ (z : ℕ). u * z) h) }

    -- ---- all of them
    all_re : (k : ℕ) → k ≤ 2 * G → Re k k
    all_re k l = elim (eq-or-lt_of_le (zero-le {n = k})) [
      | inl z ↦ subst (λ (i : ℕ). Re i i) z word_first
      | inr p ↦ elim (le-or-lt G k) [
        | inr a ↦ word_a k p a
        | inl a ↦ elim (eq-or-lt_of_le a) [
          | inl z ↦ subst (λ (i : ℕ). Re i i) z word_same
          | inr q ↦ elim (eq-or-lt_of_le l) [
            | inl z ↦ subst (λ (i : ℕ). Re i i) (sym z) word_middle
            | inr m ↦ subst (λ (i : ℕ). Re i i) (back m) (word_b (2 * G - k) (above m) (below q))
          ]
        ]
      ]
    ]
      where
        back : k < 2 * G → 2 * G - (2 * G - k) ≡ k
        back m = omega arith

        above : k < 2 * G → 1 ≤ 2 * G - k
        above m = omega arith

        below : G < k → 2 * G - k < G
        below q = omega arith

    all_im : (k : ℕ) → 1 ≤ k → k < 2 * G → Im (4 * G - k) k
    all_im k l m = elim (le-or-lt G k) [
      | inr a ↦ word_d k l a
      | inl a ↦ elim (eq-or-lt_of_le a) [
        | inl z ↦ subst (λ (i : ℕ). Im (4 * G - i) i) z (subst (λ (i : ℕ). Im i G) three word-turned)
        | inr q ↦ subst (λ (i : ℕ). Im i k) (far m) (subst (λ (i : ℕ). Im (2 * G + (2 * G - k)) i) (back m) (word_e (2 * G - k) (above m) (below q)))
      ]
    ]
      where
        three : 3 * G ≡ 4 * G - G
        three = omega arith

        far : k < 2 * G → 2 * G + (2 * G - k) ≡ 4 * G - k
        far m = omega arith

        back : k < 2 * G → 2 * G - (2 * G - k) ≡ k
        back m = omega arith

        above : k < 2 * G → 1 ≤ 2 * G - k
        above m = omega arith

        below : G < k → 2 * G - k < G
        below q = omega arith

    pub stage : Transformed y e''' (4 * G) off st r
    stage = record { re = λ k l. all_re k (omega arith); im = λ k l m. all_im k l (omega arith) }
