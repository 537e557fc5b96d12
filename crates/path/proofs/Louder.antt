-- A frame played louder: no current falls by more than one step. From the promise alone, so of every program that keeps it. Assumes nothing.
use mathlib.Core.Path.{◌≡◌, refl, sym, ap, ◌∙◌}
use mathlib.Core.Logic.{inl, inr}
use mathlib.Core.List.{List}
use Prim.Native.Nat.{ℕ, zero, suc, ◌+◌, ◌-◌, ◌*◌, ◌%◌, ◌^◌, ◌≤◌, ◌<◌}
use native.Mathlib.Nat.{le_trans, le_of_eq, lt_of_lt_of_le, lt_of_le_of_lt, mul_assoc, mul-pos, mul-le-mul_left, mul-le-mul_right, le_of_mul-le-mul_left, pow-le-pow_left, pow-suc}
use native.Mathlib.Omega.{arith}
use lib.Dec.{lit<, lit≤}
use borrow.Author.Tests.{le-leb, lt-leb}
use lib.Pow.{pow-add, pow_pos}
use lib.ListN.{get_or}
use lib.Ieee.{Float}
use Rattle.units.specs.Units.{P, N}
use Rattle.units.proofs.Naturals.{le-or-lt}
use Rattle.exact.proofs.Power.{mul-pow}
use Rattle.spectrum.specs.Difference.{Difference, whole, times, size}
use Rattle.spectrum.specs.Table.{unit, cosine_below, sine_below}
use Rattle.spectrum.specs.Transform.{at, units_of, turned_total, square}
use Rattle.spectrum.proofs.Differences.{Close, close_sym, close_trans, close_weaken, close_by, total_close, total-times}
use Rattle.spectrum.proofs.Cosines.{own_table}
use Rattle.loudness.specs.Map.{RatioAtMost, RatioAtLeast, map_error_num}
use Rattle.path.specs.Path.{lo, hi, quietest, loudest, threshold, comfort, Band, Accepts, product, power, band_sum, in_sums, between, path_error_num, Currents}
use Rattle.path.specs.Louder.{Louder}
use Rattle.path.proofs.Squares.{squared}
use Rattle.path.proofs.Adding.{sum_by}
use Rattle.path.proofs.Ratios.{pow_positive, above, between_most, between_least, between-above, between_either, most_wider, Allows, allows}

-- ---- louder samples give larger parts
module _ (xs xs' ws : List Float) (h : Louder xs xs') where
  abbrev p : ℕ
  p = h.p

  abbrev q : ℕ
  q = h.q

  regroup : (k : ℕ) (a b : Difference) → Close 0 (times (whole k) (times a b)) (times (times (whole k) a) b)
  regroup k a b = record { most = omega arith; least = omega arith }

  sample : (n : ℕ) → n < 128 → Close 0 (times (whole q) (units_of (at xs' n))) (times (whole p) (units_of (at xs n)))
  sample n l = go q p (P (at xs' n)) (N (at xs' n)) (P (at xs n)) (N (at xs n)) (h.each n l)
    where
      go : (q p a b c d : ℕ) → q * a + p * d ≡ p * c + q * b → Close 0 (times (whole q) (record { plus = a; minus = b })) (times (whole p) (record { plus = c; minus = d }))
      go q p a b c d e = record { most = omega arith; least = omega arith }

  carried : (k j : ℕ) (a b y : Difference) → Close 0 (times (whole k) a) (times (whole j) b) → Close 0 (times (whole k) (times a y)) (times (whole j) (times b y))
  carried k j a b y e = close_weaken (omega arith) (close_trans (regroup k a y) (close_trans (close_by y e) (close_sym (regroup j b y))))

  whole_sum : (t : ℕ → Difference) (k : ℕ) → Close 0 (times (whole q) (turned_total (product xs' ws) t k)) (times (whole p) (turned_total (product xs ws) t k))
  unfolding turned_total
  whole_sum t k =
      close_weaken (omega arith)
      (close_trans (total-times (whole q) (λ n. times (product xs' ws n) (t (k * n % 128))) 128)
      (close_trans (total_close 0 (λ n. times (whole q) (times (product xs' ws n) (t (k * n % 128)))) (λ n. times (whole p) (times (product xs ws n) (t (k * n % 128)))) 128 (λ n l. carried q p (product xs' ws n) (product xs ws n) (t (k * n % 128)) (carried q p (units_of (at xs' n)) (units_of (at xs n)) (units_of (at ws n)) (sample n l))))
      (close_sym (total-times (whole p) (λ n. times (product xs ws n) (t (k * n % 128))) 128))))

  -- q D' = p D, so D' is at least as large
  larger : (A B : Difference) → Close 0 (times (whole q) A) (times (whole p) B) → size B ≤ size A
  larger A B e = elim (le-or-lt B.minus B.plus) [ inl l ↦ upward A.plus A.minus B.plus B.minus l e.least | inr l ↦ downward A.plus A.minus B.plus B.minus (less l) e.most ]
    where
      less : {a b : ℕ} → a < b → a ≤ b
      less l = omega arith

      upward : (a b c d : ℕ) → d ≤ c → p * c + 0 * d + (q * b + 0 * a) ≤ q * a + 0 * b + (p * d + 0 * c) + 0 → (c - d) + (d - c) ≤ (a - b) + (b - a)
      upward a b c d l g = above (le_of_mul-le-mul_left (le_trans (le_of_eq (spread q (c - d) b)) (under (mul-le-mul_right (c - d) h.more) (parts c d l))) h.some)
        where
          spread : (q x b : ℕ) → q * (x + b) ≡ q * x + q * b
          spread q x b = omega arith

          parts : (c d : ℕ) → d ≤ c → p * c ≡ p * (c - d) + p * d
          parts c d l = ap (λ (x : ℕ). p * x) (back l) ∙ sum (c - d)
            where
              back : d ≤ c → c ≡ c - d + d
              back l = omega arith

              sum : (x : ℕ) → p * (x + d) ≡ p * x + p * d
              sum x = omega arith

          under : q * (c - d) ≤ p * (c - d) → p * c ≡ p * (c - d) + p * d → q * (c - d) + q * b ≤ q * a
          under x y = omega arith

          above : c - d + b ≤ a → (c - d) + (d - c) ≤ (a - b) + (b - a)
          above x = omega arith

      downward : (a b c d : ℕ) → c ≤ d → q * a + 0 * b + (p * d + 0 * c) ≤ p * c + 0 * d + (q * b + 0 * a) + 0 → (c - d) + (d - c) ≤ (a - b) + (b - a)
      downward a b c d l g = above (le_of_mul-le-mul_left (le_trans (le_of_eq (spread q (d - c) a)) (under (mul-le-mul_right (d - c) h.more) (parts c d l))) h.some)
        where
          spread : (q x b : ℕ) → q * (x + b) ≡ q * x + q * b
          spread q x b = omega arith

          parts : (c d : ℕ) → c ≤ d → p * d ≡ p * (d - c) + p * c
          parts c d l = ap (λ (x : ℕ). p * x) (back l) ∙ sum (d - c)
            where
              back : c ≤ d → d ≡ d - c + c
              back l = omega arith

              sum : (x : ℕ) → p * (x + c) ≡ p * x + p * c
              sum x = omega arith

          under : q * (d - c) ≤ p * (d - c) → p * d ≡ p * (d - c) + p * c → q * (d - c) + q * a ≤ q * b
          under x y = omega arith

          above : d - c + a ≤ b → (c - d) + (d - c) ≤ (a - b) + (b - a)
          above x = omega arith

  pub louder_power : (c s : ℕ → Difference) (k : ℕ) → power xs ws c s k ≤ power xs' ws c s k
  louder_power c s k = sums (squared (larger _ _ (whole_sum c k))) (squared (larger _ _ (whole_sum s k)))
    where
      sums : {a b c d : ℕ} → a ≤ c → b ≤ d → a + b ≤ c + d
      sums x y = omega arith

-- ---- roots cut off
record Root (n : ℕ) : Type 0 where
  s : ℕ
  low : square s ≤ n
  high : n < square (suc s)

root : (n : ℕ) → Root n
root zero = record { s = 0; low = omega arith; high = lit< tt }
root (suc n) = let r = root n in elim (le-or-lt (square (suc r.s)) (suc n)) [
  | inl l ↦ record { s = suc r.s; low = l; high = next r.s r.high }
  | inr l ↦ record { s = r.s; low = same r.low; high = l }
]
  where
    next : (s : ℕ) → n < square (suc s) → suc n < square (suc (suc s))
    next s l = omega arith

    same : {x : ℕ} → x ≤ n → x ≤ suc n
    same l = omega arith

roots_grow : (m n : ℕ) → m ≤ n → (root m).s ≤ (root n).s
roots_grow m n l = elim (le-or-lt (root m).s (root n).s) [ inl g ↦ g | inr g ↦ absurd (wrong (lt_of_le_of_lt (le_trans (squared g) (le_trans (root m).low l)) (root n).high)) ]
  where
    wrong : {x : ℕ} → x < x → ⊥
    wrong g = omega arith

-- ---- powers of m / b that are in order have their exponents in order
exponents : (b m j i : ℕ) → 0 < b → 2 * b ≤ m → m ^ j * b ^ i ≤ b ^ j * m ^ i → j ≤ i
exponents b m j i pos octave h = elim (le-or-lt j i) [ inl l ↦ l | inr l ↦ absurd (wrong (j - i) (further l) (cancelled (j - i) (rest l))) ]
  where
    further : i < j → 1 ≤ j - i
    further l = omega arith

    rest : i < j → j ≡ i + (j - i)
    rest l = omega arith

    cancelled : (d : ℕ) → j ≡ i + d → m ^ d ≤ b ^ d
    cancelled d e = le_of_mul-le-mul_left (le_trans (le_of_eq (regroup (m ^ i) (b ^ i) (m ^ d) ∙ ap (λ (x : ℕ). x * b ^ i) (sym (pow-add m i d) ∙ ap (λ (x : ℕ). m ^ x) (sym e)))) (le_trans h (le_of_eq (ap (λ (x : ℕ). x * m ^ i) (ap (λ (x : ℕ). b ^ x) e ∙ pow-add b i d) ∙ regroup' (b ^ i) (b ^ d) (m ^ i))))) (mul-pos (pow_positive (lt_of_lt_of_le pos (doubled octave)) i) (pow_positive pos i))
      where
        regroup : (x y z : ℕ) → x * y * z ≡ x * z * y
        regroup x y z = omega arith

        regroup' : (x y z : ℕ) → x * y * z ≡ z * x * y
        regroup' x y z = omega arith

        doubled : 2 * b ≤ m → b ≤ m
        doubled l = omega arith

    wrong : (d : ℕ) → 1 ≤ d → m ^ d ≤ b ^ d → ⊥
    wrong d l g = less (2 ^ d) (b ^ d) (two d l) (pow_positive pos d) (le_trans (le_of_eq (sym (mul-pow 2 b d))) (le_trans (pow-le-pow_left octave d) g))
      where
        two : (d : ℕ) → 1 ≤ d → 2 ≤ 2 ^ d
        two zero l = absurd (omega arith)
        two (suc d) l = le_trans (twice (2 ^ d) (pow_pos d)) (le_of_eq (sym (pow-suc 2 d)))
          where
            twice : (x : ℕ) → 0 < x → 2 ≤ x * 2
            twice x p = omega arith

        less : (x y : ℕ) → 2 ≤ x → 0 < y → x * y ≤ y → ⊥
        less x y a c e = omega (arith, mul-le-mul_right y a)

-- ---- two calls
module _ (top : ℕ) (xs xs' ws : List Float) (bs : List ℕ) (n : ℕ) (is is' : List ℕ) (ac : Accepts top xs ws bs n) (ac' : Accepts top xs' ws bs n) (call : Currents top xs ws bs n 0 is) (call' : Currents top xs' ws bs n 0 is') (h : Louder xs xs') (i : ℕ) (l : i < n) where
  band : Band top bs i
  band = ac.bands.each i l

  abbrev f : ℕ
  f = 64 * unit * 2 ^ 149

  abbrev b : ℕ
  b = in_sums unit (quietest bs i)

  abbrev m : ℕ
  m = in_sums unit (loudest bs i)

  abbrev K : ℕ
  K = 1000000 * (comfort bs i - threshold bs i)

  octave : 2 * b ≤ m
  octave = le_trans (le_of_eq (sym (mul_assoc 2 (P (quietest bs i)) f))) (mul-le-mul_right f band.channel.levels.octave)

  rising : b ≤ m
  rising = doubled b m octave
    where
      doubled : (b m : ℕ) → 2 * b ≤ m → b ≤ m
      doubled b m l = omega arith

  -- numbers above the sizes of the softer frame, and numbers below those of the louder
  abbrev hs : ℕ → ℕ
  hs k = suc (root (power xs ws cosine_below sine_below k)).s

  abbrev ls : ℕ → ℕ
  ls k = (root (power xs' ws cosine_below sine_below k)).s

  below_by : (k : ℕ) → 1 * hs k ≤ 1 * ls k + 1
  below_by k = one (roots_grow _ _ (louder_power xs xs' ws h cosine_below sine_below k))
    where
      one : {x y : ℕ} → x ≤ y → 1 * suc x ≤ 1 * y + 1
      one g = omega arith

  sums : band_sum hs (lo bs i) (hi bs i) ≤ band_sum ls (lo bs i) (hi bs i) + 65
  sums = last (band_sum hs (lo bs i) (hi bs i)) (band_sum ls (lo bs i) (hi bs i)) (suc (hi bs i) - lo bs i) (sum_by (λ j. hs (lo bs i + j)) (λ j. ls (lo bs i + j)) 1 1 1 (suc (hi bs i) - lo bs i) (λ j g. below_by (lo bs i + j))) (few (lo bs i) (hi bs i) band.bins)
    where
      few : (a c : ℕ) → c ≤ 64 → suc c - a ≤ 65
      few a c g = omega arith

      last : (H L n : ℕ) → 1 * H ≤ 1 * L + n * 1 → n ≤ 65 → H ≤ L + 65
      last H L n g k = omega arith

  abbrev A : ℕ
  A = between b m (band_sum hs (lo bs i) (hi bs i))

  abbrev A' : ℕ
  A' = between b m (band_sum ls (lo bs i) (hi bs i))

  -- 65 of the units of sums are next to nothing of a level
  long : 2 ^ 200 ≤ b
  long = le_trans (mul-le_mul' band.channel.levels.quietest) (le_of_eq refl)
    where
      mul-le_mul' : 2 ^ 125 ≤ P (quietest bs i) → 2 ^ 200 ≤ b
      mul-le_mul' g = le_trans (lit≤ tt) (mul-le-mul_right f g)

  near : 2 ^ 24 * A ≤ (2 ^ 24 + 42) * A'
  near = elim (le-or-lt m (band_sum ls (lo bs i) (hi bs i))) [
    | inl g ↦ le_trans (mul-le-mul_left (2 ^ 24) (between_most b m rising _)) (le_trans (more m) (mul-le-mul_left (2 ^ 24 + 42) (loud g)))
    | inr g ↦ elim (between_either b m rising (band_sum hs (lo bs i) (hi bs i))) [
      | inl e ↦ le_trans (mul-le-mul_left (2 ^ 24) (le_trans e (between_least b m rising _))) (more A')
      | inr e ↦ le_trans (mul-le-mul_left (2 ^ 24) (le_trans e sums)) (spare (band_sum ls (lo bs i) (hi bs i)) A' (between-above b m rising _ g) (le_trans (le_trans (lit≤ tt) long) (between_least b m rising _)))
    ]
  ]
    where
      more : (x : ℕ) → 2 ^ 24 * x ≤ (2 ^ 24 + 42) * x
      more x = omega arith

      loud : m ≤ band_sum ls (lo bs i) (hi bs i) → m ≤ A'
      loud g = elim (le-or-lt (band_sum ls (lo bs i) (hi bs i)) b) [ inl w ↦ le_trans g (le_trans w (between_least b m rising _)) | inr w ↦ le_of_eq (sym (above b m _ w g)) ]

      spare : (L a : ℕ) → L ≤ a → 2 ^ 30 ≤ a → 2 ^ 24 * (L + 65) ≤ (2 ^ 24 + 42) * a
      spare L a g k = omega arith

  al : Allows top (comfort bs i - threshold bs i)
  al = allows top (comfort bs i - threshold bs i) (few (comfort bs i) (threshold bs i) band.channel.steps) band.channel.highest
    where
      few : (c t : ℕ) → c ≤ top → c - t ≤ top
      few c t g = omega arith

  abbrev j : ℕ
  j = 1000000 * (get_or is i 0 - threshold bs i) - path_error_num top

  abbrev j' : ℕ
  j' = 1000000 * (get_or is' i 0 - threshold bs i) + path_error_num top

  at_least : RatioAtLeast A b m K j
  at_least = (call.near ac cosine_below sine_below unit own_table i l).not_above hs (λ k x y. less (root (power xs ws cosine_below sine_below k)).high)
    where
      less : {a b : ℕ} → a < b → a ≤ b
      less g = omega arith

  at_most : RatioAtMost A b m K (j' + al.e)
  at_most = most_wider (2 ^ 24 + 42) (2 ^ 24) K al.e b m (pow_pos 24) al.grown octave A A' j' near ((call'.near ac' cosine_below sine_below unit own_table i l).not_below ls (λ k x y. (root (power xs' ws cosine_below sine_below k)).low))

  positive : 0 < b
  positive = lt_of_lt_of_le (pow_pos 200) long

  in_order : j ≤ j' + al.e
  in_order = exponents b m j (j' + al.e) positive octave (joined (b ^ K) (A ^ K) (m ^ j) (b ^ j) (b ^ (j' + al.e)) (m ^ (j' + al.e)) (pow_positive positive K) at_least at_most)
    where
      joined : (B A x y z w : ℕ) → 0 < B → B * x ≤ A * y → A * z ≤ B * w → x * z ≤ y * w
      joined B A x y z w pos g k = le_of_mul-le-mul_left (le_trans (le_of_eq (sym (mul_assoc B x z))) (le_trans (mul-le-mul_right z g) (le_trans (le_of_eq (swap A y z)) (le_trans (mul-le-mul_left y k) (le_of_eq (swap' y B w)))))) pos
        where
          swap : (p q r : ℕ) → p * q * r ≡ q * (p * r)
          swap p q r = omega arith

          swap' : (p q r : ℕ) → p * (q * r) ≡ q * (p * r)
          swap' p q r = omega arith

  pub never_lower : get_or is i 0 ≤ get_or is' i 0 + 1
  never_lower = finish (get_or is i 0) (get_or is' i 0) (threshold bs i) (path_error_num top) al.e in_order (call.at_least ac i l) (call'.at_least ac' i l) room
    where
      room : 2 * path_error_num top + al.e < 2000000
      room = elim (le-or-lt top 255) [ inl g ↦ small al.sum g | inr g ↦ wide al.sum g ]
        where
          small : map_error_num top + al.e ≡ path_error_num top → top ≤ 255 → 2 * path_error_num top + al.e < 2000000
          small e g = bound (map_error_num top) al.e (path_error_num top) e (rw (le-leb top 255 g) refl) (rw (le-leb top 255 g) refl)
            where
              bound : (x e y : ℕ) → x + e ≡ y → x ≡ 500001 → y ≡ 501000 → 2 * y + e < 2000000
              bound x e y p q r = omega arith

          wide : map_error_num top + al.e ≡ path_error_num top → 255 < top → 2 * path_error_num top + al.e < 2000000
          wide e g = bound (map_error_num top) al.e (path_error_num top) e (rw (lt-leb top 255 g) refl) (rw (lt-leb top 255 g) refl)
            where
              bound : (x e y : ℕ) → x + e ≡ y → x ≡ 500004 → y ≡ 504000 → 2 * y + e < 2000000
              bound x e y p q r = omega arith

      finish : (I I' t num e : ℕ) → 1000000 * (I - t) - num ≤ 1000000 * (I' - t) + num + e → t ≤ I → t ≤ I' → 2 * num + e < 2000000 → I ≤ I' + 1
      finish I I' t num e g a c r = omega arith
