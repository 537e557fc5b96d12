-- A frame that is accepted: its words are small, its block holds its transform, and its outputs are near the exact sums. Assumes nothing.
use mathlib.Core.Path.{◌≡◌, refl, sym, ap, ◌∙◌, subst}
use mathlib.Core.Logic.{inl, inr, ◌⊎◌}
use mathlib.Core.Bool.{Bool, true, false, cond}
use mathlib.Core.List.{List}
use Prim.Native.Nat.{ℕ, ◌+◌, ◌-◌, ◌*◌, ◌/◌, ◌%◌, ◌^◌, ◌≤◌, ◌<◌, zero-le}
use native.Mathlib.Nat.{le_trans, le_of_eq, lt_of_le_of_lt, lt_of_lt_of_le, eq-zero-or-pos, mul_assoc, mul-le-mul, mul-le-mul_left, mul-le-mul_right, le_of_mul-le-mul_left, le_of_mul-le-mul_right, lt_of_mul-lt-mul_right, div-mul-le_self, zero-div, mul-one, mul-zero, zero-add}
use native.Mathlib.Omega.{arith}
use lib.Pow.{pow-add, pow_pos, pow_mono}
use lib.ListN.{length, get_or, get_or-eq_default}
use lib.Dec.{T, lit<}
use lib.Ieee.{Float, nan, binary32, fits, of_bits}
use Rattle.units.specs.Units.{mag, negative, P, N, Number}
use Rattle.units.proofs.Naturals.{le-or-lt}
use Rattle.units.proofs.Size.{mag_digits}
use Rattle.units.proofs.Signs.{size-sum, one_sided as one-sided'}
use Rattle.units.proofs.Patterns.{finite_below}
use Rattle.spectrum.specs.Difference.{Difference, whole, opposite, times, total, apart, size}
use Rattle.spectrum.specs.Table.{unit, cosine_below, sine_below, cosine, sine}
use Rattle.spectrum.specs.Words.{value_of, Small, FilledWith}
use Rattle.spectrum.specs.Transform.{at, Element, units_of, turned_total, turned_sum, Turns, Covers, NearOutput, exact_re, exact_im}
use Rattle.spectrum.specs.Floats.{digits_in, place_in, size_in, size_bits, Largest, Scale, word_of, Loaded, Holdable, bits_of}
use Rattle.spectrum.proofs.Differences as D
use Rattle.spectrum.proofs.Differences.{Close, total_same, total-length}
use Rattle.spectrum.proofs.Halving.{plain}
use Rattle.spectrum.proofs.Rotated.{unflipped}
use Rattle.spectrum.proofs.Stage.{Transformed}
use Rattle.spectrum.proofs.Filling.{loss, filled, sizes}
use Rattle.spectrum.proofs.Blocks.{within}
use Rattle.spectrum.proofs.Sizes.{size_of, size_mono}
use Rattle.spectrum.proofs.Cosines.{table_cosine, table_sine}
use Rattle.spectrum.proofs.Exact.{loaded_near, real_sum, imaginary_sum, table_near, end_sum, near_output}
use Rattle.spectrum.proofs.Energy.{largest_by}
use Rattle.spectrum.proofs.Written.{Output, output, one_sided, zero_output}

-- ---- elements by their patterns
top_size : size_in 2071986176 ≡ 2 ^ 269
unfolding digits_in place_in
top_size = refl

below_top : size_in 2071986175 < 2 ^ 269
unfolding digits_in place_in
below_top = lit< tt

zero-size : size_in 0 ≡ 0
unfolding digits_in place_in
zero-size = refl

pub element_below : (x : Float) → Element x → size_bits x < 2071986176
element_below x h = elim (le-or-lt 2071986176 (size_bits x)) [
  | inl l ↦ absurd (under (le_trans (le_of_eq (sym top_size)) (le_trans (size_mono 2071986176 (size_bits x) l) (le_of_eq (sym (size_of x h.number))))) h.small)
  | inr l ↦ l
]
  where
    under : {a b : ℕ} → a ≤ b → b < a → ⊥
    under p q = omega arith

pub below_element : (x : Float) → T (fits binary32 x) → size_bits x < 2071986176 → Element x
below_element x f l =
    let n = finite_below x f (omega arith) in
    record { number = n; small = lt_of_le_of_lt (le_trans (le_of_eq (size_of x n)) (size_mono (size_bits x) 2071986175 (omega arith))) below_top }

-- ---- words of 24 digits
module _ (x : Float) (n : Number x) (e : ℕ) (small : mag x < 2 ^ e) where
  -- a size below 2 ^ e is at least one part in 2 ^ 24 below it
  short : mag x * 2 ^ 24 ≤ (2 ^ 24 - 1) * 2 ^ e
  short =
      let (q, j, l, s) = mag_digits x n in
      rw s (elim (le-or-lt (j + 24) e) [ inl a ↦ digits q j l a | inr a ↦ places q j a (lt_of_le_of_lt (le_of_eq (sym s)) small) ])
    where
      digits : (q j : ℕ) → q < 2 ^ 24 → j + 24 ≤ e → q * 2 ^ j * 2 ^ 24 ≤ (2 ^ 24 - 1) * 2 ^ e
      digits q j l a =
          le_trans (le_of_eq (mul_assoc q (2 ^ j) (2 ^ 24) ∙ ap (λ (z : ℕ). q * z) (sym (pow-add 2 j 24)))) (mul-le-mul (below l) (pow_mono a))
        where
          below : q < 2 ^ 24 → q ≤ 2 ^ 24 - 1
          below l = omega arith

      places : (q j : ℕ) → e < j + 24 → q * 2 ^ j < 2 ^ e → q * 2 ^ j * 2 ^ 24 ≤ (2 ^ 24 - 1) * 2 ^ e
      places q j a b = elim (le-or-lt j e) [
        | inr o ↦ none (q * 2 ^ j) (2 ^ e) (2 ^ j) q refl (pow_mono (le_of o)) b
        | inl o ↦ some q (2 ^ (e - j)) (2 ^ j) (2 ^ e) (ap (λ (i : ℕ). 2 ^ i) (back o) ∙ pow-add 2 (e - j) j) b (le_trans (pow_mono {i = e} {j = j + 24} (le_of a)) (le_of_eq (pow-add 2 j 24)))
      ]
        where
          le_of : {a b : ℕ} → a < b → a ≤ b
          le_of l = omega arith

          back : j ≤ e → e ≡ e - j + j
          back o = omega arith

          none : (m E p q : ℕ) → m ≡ q * p → E ≤ p → m < E → m * 2 ^ 24 ≤ (2 ^ 24 - 1) * E
          none m E p q h l k = elim (eq-zero-or-pos q) [ inl z ↦ rw (h, z) (omega arith) | inr o ↦ absurd (large (mul-le-mul_right p o)) ]
            where
              large : 1 * p ≤ q * p → ⊥
              large g = omega arith

          some : (q c p E : ℕ) → E ≡ c * p → q * p < E → E ≤ p * 2 ^ 24 → q * p * 2 ^ 24 ≤ (2 ^ 24 - 1) * E
          some q c p E h l k = let g : q < c = lt_of_mul-lt-mul_right p (lt_of_lt_of_le l (le_of_eq h)) in omega (arith, mul-le-mul_right p g)

  pub word_most : mag x * 2 ^ 53 / 2 ^ e ≤ 2 ^ 53 - 2 ^ 29
  word_most = le_of_mul-le-mul_right (le_trans (div-mul-le_self (mag x * 2 ^ 53) (2 ^ e)) (le_trans (le_of_eq (shifted (mag x))) (le_trans (mul-le-mul_right (2 ^ 29) short) (le_of_eq (same (2 ^ e)))))) (pow_pos e)
    where
      shifted : (m : ℕ) → m * 2 ^ 53 ≡ m * 2 ^ 24 * 2 ^ 29
      shifted m = omega arith

      same : (E : ℕ) → (2 ^ 24 - 1) * E * 2 ^ 29 ≡ (2 ^ 53 - 2 ^ 29) * E
      same E = omega arith

  pub word_small : Small (word_of e x)
  unfolding word_of
  word_small = go (negative x) (mag x * 2 ^ 53 / 2 ^ e) word_most
    where
      go : (s : Bool) (q : ℕ) → q ≤ 2 ^ 53 - 2 ^ 29 → Small (cond s (unit - q) (unit + q))
      go true q l = record { least = omega arith; most = omega arith }
      go false q l = record { least = omega arith; most = omega arith }

  pub word-length : D.length (value_of (word_of e x)) ≤ 2 ^ 53 - 2 ^ 29
  unfolding word_of
  word-length = go (negative x) (mag x * 2 ^ 53 / 2 ^ e) word_most
    where
      go : (s : Bool) (q : ℕ) → q ≤ 2 ^ 53 - 2 ^ 29 → D.length (value_of (cond s (unit - q) (unit + q))) ≤ 2 ^ 53 - 2 ^ 29
      go true q l = omega arith
      go false q l = omega arith

nothing : (a b : Difference) → D.length a ≤ 0 → D.length (times a b) ≤ 0
nothing a b h = let p : a.plus ≡ 0 = omega arith in let m : a.minus ≡ 0 = omega arith in rw (p, m) (omega arith)

-- ---- the frame
module _ (xs : List Float) (m e : ℕ) (elements : (n : ℕ) → n < 128 → Element (at xs n)) (largest : Largest xs 128 m) (scale : Scale m e) where
  pub size_below : (n : ℕ) → n < 128 → mag (at xs n) < 2 ^ e
  size_below n l = lt_of_le_of_lt (le_trans (le_of_eq (size_of (at xs n) (elements n l).number)) (size_mono _ m (largest.most n l))) scale.above

  -- unless all are zero, the unit is that of the largest
  pub scaled : (l : ℕ) → Covers l xs → ¬ (m ≡ 0) → 2 ^ e ≤ 2 * l
  scaled l covers some =
      let (i, b, s) = largest.there some in
      le_trans (scale.below some) (mul-le-mul_left 2 (le_trans (le_of_eq (ap size_in (sym s) ∙ sym (size_of (at xs i) (elements i b).number))) (covers i b)))

  pub silent : m ≡ 0 → (n : ℕ) → n < 128 → mag (at xs n) ≡ 0
  silent z n l = size_of (at xs n) (elements n l).number ∙ ap size_in (nought (largest.most n l)) ∙ zero-size
    where
      nought : size_bits (at xs n) ≤ m → size_bits (at xs n) ≡ 0
      nought h = omega arith

  pub small_words : (ys : List ℕ) → Loaded e xs ys → (i : ℕ) → i < 128 → Small (get_or ys i 0)
  small_words ys loaded i l = subst Small (sym (loaded.each i l)) (word_small (at xs i) (elements i l).number e (size_below i l))

  module _ (ys r : List ℕ) (loaded : Loaded e xs ys) (count : length r ≡ 128) (fills : FilledWith ys 0 1 r) where
    word : (i : ℕ) → i < 128 → get_or ys i unit ≡ word_of e (at xs i)
    word i l = within ys i unit 0 (omega (arith, loaded.as_many)) ∙ loaded.each i l

    -- the values, and the words as these within a unit
    abbrev vs : ℕ → Difference
    vs n = units_of (at xs n)

    near_words : (n : ℕ) → n < 128 → Close (2 ^ e) (times (whole (2 ^ e)) (value_of (get_or ys n unit))) (times (whole (2 ^ 53)) (vs n))
    near_words n l = rw (word n l) (loaded_near (at xs n) e (size_below n l))

    lengths_by : (l : ℕ) → Covers l xs → (n : ℕ) → n < 128 → D.length (vs n) ≤ l
    lengths_by l covers n h = le_trans (le_of_eq (size-sum (at xs n))) (covers n h)

    -- every word, and none beyond the end
    lengths : (a : ℕ) → ((i : ℕ) → i < 128 → D.length (value_of (word_of e (at xs i))) ≤ a) → (i : ℕ) → D.length (value_of (get_or ys i unit)) ≤ a
    lengths a h i = elim (le-or-lt 128 i) [
      | inl l ↦ subst (λ (v : ℕ). D.length (value_of v) ≤ a) (sym (get_or-eq_default ys unit (omega (arith, loaded.as_many)))) zero-le
      | inr l ↦ subst (λ (v : ℕ). D.length (value_of v) ≤ a) (sym (word i l)) (h i l)
    ]

    words : (i : ℕ) → D.length (value_of (get_or ys i unit)) ≤ 2 ^ 53 - 2 ^ 29
    words = lengths (2 ^ 53 - 2 ^ 29) (λ i l. word-length (at xs i) (elements i l).number e (size_below i l))

    block : Transformed (λ i. get_or ys i unit) 462 128 0 1 (λ i. get_or r i 0)
    unfolding loss
    block = filled (λ i. get_or ys i unit) (λ i. le_trans (words i) (omega arith)) (fills 5 32 refl count) refl

    pub holdable : (i : ℕ) → i < 128 → Holdable (get_or r i 0)
    holdable i l = let b = sizes (λ i. get_or ys i unit) (2 ^ 53 - 2 ^ 29) words block i l in record { least = omega (arith, b.0); most = omega (arith, b.1) }

    -- ---- the outputs
    -- where all is zero, so are the sums
    silent_words : m ≡ 0 → (i : ℕ) → D.length (value_of (get_or ys i unit)) ≤ 0
    unfolding word_of
    silent_words z = lengths 0 (λ i l. none (at xs i) (silent z i l))
      where
        go : (s : Bool) (q : ℕ) → q ≡ 0 → D.length (value_of (cond s (unit - q) (unit + q))) ≤ 0
        go true q l = omega arith
        go false q l = omega arith

        none : (x : Float) → mag x ≡ 0 → D.length (value_of (cond (negative x) (unit - mag x * 2 ^ 53 / 2 ^ e) (unit + mag x * 2 ^ 53 / 2 ^ e))) ≤ 0
        none x h = go (negative x) (mag x * 2 ^ 53 / 2 ^ e) (ap (λ (q : ℕ). q * 2 ^ 53 / 2 ^ e) h ∙ zero-div (2 ^ e))

    silent_plain : m ≡ 0 → (w : ℕ → Difference) (k : ℕ) → D.length (plain (λ i. value_of (get_or ys i unit)) w 0 1 k 128) ≤ 0
    silent_plain z w k = total-length 0 (λ i. times (value_of (get_or ys (0 + i * 1) unit)) (w (k * (i * 1)))) 128 (λ i l. nothing _ (w (k * (i * 1))) (silent_words z (0 + i * 1)))

    silent_sum : m ≡ 0 → (t : ℕ → Difference) (k : ℕ) → D.length (turned_sum xs t k) ≤ 0
    unfolding turned_total
    silent_sum z t k = total-length 0 (λ n. times (units_of (at xs n)) (t (k * n % 128))) 128 (λ n l. nothing (units_of (at xs n)) (t (k * n % 128)) (le_of_eq (size-sum (at xs n) ∙ silent z n l)))

    module _ (c s : ℕ → Difference) (u l : ℕ) (turns : Turns c s u) (covers : Covers l xs) where
      abbrev lost : ℕ
      lost = 590 * (2 ^ e * u) + 4 * (l * u)

      -- a value W that is written as the pattern b, against the sum X
      any_near : (W X S : Difference) (b : ℕ) → (W.plus ≡ 0) ⊎ (W.minus ≡ 0) → Output (2 ^ e) W b → Close (462 * unit) (times (whole unit) W) S → (m ≡ 0 → D.length S ≤ 0) → (m ≡ 0 → D.length X ≤ 0)
          → Close lost (times (whole (2 ^ e)) (times (whole u) W)) (times (whole (2 ^ 53)) X) → NearOutput (of_bits binary32 b) X u l
      any_near W X S b side o h zs zx g = elim (eq-zero-or-pos m) [ inl z ↦ record { holds = quiet z } | inr p ↦ record { holds = near_output (2 ^ e) u l W (units_of (of_bits binary32 b)) X side lost (room (scaled l covers (some p))) g o.rounds } ]
        where
          some : 0 < m → ¬ (m ≡ 0)
          some p z = omega arith

          room : 2 ^ e ≤ 2 * l → lost ≤ 1184 * (l * u)
          room k = spend (2 ^ e) k
            where
              spend : (E : ℕ) → E ≤ 2 * l → 590 * (E * u) + 4 * (l * u) ≤ 1184 * (l * u)
              spend E k = omega (arith, mul-le-mul_right u k)

          -- a value of at most 462 of the smallest units is written as zero
          small : m ≡ 0 → D.length W ≤ 462
          small z = few unit W.plus W.minus S.plus S.minus (pow_pos 61) side (zs z) h.most h.least
            where
              few : (U p n a b : ℕ) → 0 < U → (p ≡ 0) ⊎ (n ≡ 0) → a + b ≤ 0 → U * p + 0 * n + b ≤ a + (U * n + 0 * p) + 462 * U → a + (U * n + 0 * p) ≤ U * p + 0 * n + b + 462 * U → p + n ≤ 462
              few U p n a b pos (inl e) k x y = le_of_mul-le-mul_left (omega (arith, y, ap (λ (i : ℕ). U * i) e)) pos
              few U p n a b pos (inr e) k x y = le_of_mul-le-mul_left (omega (arith, x, ap (λ (i : ℕ). U * i) e)) pos

          nought : (z : m ≡ 0) → (P (of_bits binary32 b) ≡ 0) × (N (of_bits binary32 b) ≡ 0)
          nought z = go (one-sided' (of_bits binary32 b)) (subst (λ (E : ℕ). Close (E * D.length W + 2 ^ 76) (times (whole (2 ^ 77)) (units_of (of_bits binary32 b))) (times (whole (2 ^ 24)) (times (whole E) W))) (ap (λ (i : ℕ). 2 ^ i) (scale.none z)) o.rounds)
            where
              go : (P (of_bits binary32 b) ≡ 0) ⊎ (N (of_bits binary32 b) ≡ 0) → Close (1 * D.length W + 2 ^ 76) (times (whole (2 ^ 77)) (units_of (of_bits binary32 b))) (times (whole (2 ^ 24)) (times (whole 1) W)) → (P (of_bits binary32 b) ≡ 0) × (N (of_bits binary32 b) ≡ 0)
              go (inl e) k = (e, least (P (of_bits binary32 b)) (N (of_bits binary32 b)) W.plus W.minus e (small z) k.least)
                where
                  least : (p n a c : ℕ) → p ≡ 0 → a + c ≤ 462 → 2 ^ 24 * (1 * a + 0 * c) + 0 * (1 * c + 0 * a) + (2 ^ 77 * n + 0 * p) ≤ 2 ^ 77 * p + 0 * n + (2 ^ 24 * (1 * c + 0 * a) + 0 * (1 * a + 0 * c)) + (1 * (a + c) + 2 ^ 76) → n ≡ 0
                  least p n a c e f k = omega arith
              go (inr e) k = (most (P (of_bits binary32 b)) (N (of_bits binary32 b)) W.plus W.minus e (small z) k.most, e)
                where
                  most : (p n a c : ℕ) → n ≡ 0 → a + c ≤ 462 → 2 ^ 77 * p + 0 * n + (2 ^ 24 * (1 * c + 0 * a) + 0 * (1 * a + 0 * c)) ≤ 2 ^ 24 * (1 * a + 0 * c) + 0 * (1 * c + 0 * a) + (2 ^ 77 * n + 0 * p) + (1 * (a + c) + 2 ^ 76) → p ≡ 0
                  most p n a c e f k = omega arith

          quiet : m ≡ 0 → 2 ^ 42 * apart (P (of_bits binary32 b) * u + X.minus) (N (of_bits binary32 b) * u + X.plus) ≤ 2 ^ 18 * apart X.plus X.minus + (l + 2 ^ 41) * u
          quiet z = let n = nought z in rw (n.0, n.1) (nothing_left X.plus X.minus (zx z))
            where
              nothing_left : (a b : ℕ) → a + b ≤ 0 → 2 ^ 42 * apart (0 * u + b) (0 * u + a) ≤ 2 ^ 18 * apart a b + (l + 2 ^ 41) * u
              nothing_left a b k = let x : a ≡ 0 = omega arith in let y : b ≡ 0 = omega arith in rw (x, y) (omega arith)

      pub real_near : (k : ℕ) → k ≤ 64 → NearOutput (of_bits binary32 (bits_of e (get_or r k 0))) (exact_re xs c k) u l
      real_near k b =
          let h = holdable k (omega arith) in
          any_near (value_of (get_or r k 0)) (turned_sum xs c k) (plain (λ i. value_of (get_or ys i unit)) cosine 0 1 k 128) _ (one_sided e (get_or r k 0) scale.high h) (output e (get_or r k 0) scale.high h) (block.re k (omega arith)) (λ z. silent_plain z cosine k) (λ z. silent_sum z c k)
          (real_sum vs ys (2 ^ e) near_words c s u l turns (lengths_by l covers) k (value_of (get_or r k 0)) (block.re k (omega arith)))

      turned : (E u B K : ℕ) (v S : Difference) → Close K (times (whole E) (times (whole u) (opposite v))) (times (whole B) S) → Close K (times (whole E) (times (whole u) v)) (times (whole B) (opposite S))
      turned E u B K v S h = record { most = omega (arith, h.least); least = omega (arith, h.most) }

      pub imaginary_near : (k : ℕ) → 1 ≤ k → k < 64 → NearOutput (of_bits binary32 (bits_of e (get_or r (128 - k) 0))) (exact_im xs s k) u l
      imaginary_near k a b =
          let v = get_or r (128 - k) 0 in
          let h = holdable (128 - k) (omega arith) in
          any_near (value_of v) (opposite (turned_sum xs s k)) (opposite (plain (λ i. value_of (get_or ys i unit)) sine 0 1 k 128)) _ (one_sided e v scale.high h) (output e v scale.high h) (opposed' (block.im k a (omega arith))) (λ z. flip (plain (λ i. value_of (get_or ys i unit)) sine 0 1 k 128) (silent_plain z sine k)) (λ z. flip (turned_sum xs s k) (silent_sum z s k))
          (turned (2 ^ e) u (2 ^ 53) lost (value_of v) (turned_sum xs s k) (imaginary_sum vs ys (2 ^ e) near_words c s u l turns (lengths_by l covers) k (opposite (value_of v)) (block.im k a (omega arith))))
        where
          flip : (d : Difference) → D.length d ≤ 0 → D.length (opposite d) ≤ 0
          flip d h = omega arith

          opposed' : Close (462 * unit) (times (whole unit) (opposite (value_of (get_or r (128 - k) 0)))) (plain (λ i. value_of (get_or ys i unit)) sine 0 1 k 128) → Close (462 * unit) (times (whole unit) (value_of (get_or r (128 - k) 0))) (opposite (plain (λ i. value_of (get_or ys i unit)) sine 0 1 k 128))
          opposed' h = unflipped unit (value_of (get_or r (128 - k) 0)) h

      pub end_near : (k : ℕ) → (k ≡ 0) ⊎ (k ≡ 64) → NearOutput (of_bits binary32 0) (exact_im xs s k) u l
      end_near k ends =
          let h = end_sum (λ i. value_of (get_or ys i unit)) k ends in
          any_near (whole 0) (opposite (turned_sum xs s k)) (plain (λ i. value_of (get_or ys i unit)) sine 0 1 k 128) 0 (inl refl) (zero_output (2 ^ e)) h (λ z. silent_plain z sine k) (λ z. flip (turned_sum xs s k) (silent_sum z s k))
          (turned (2 ^ e) u (2 ^ 53) lost (whole 0) (turned_sum xs s k) (imaginary_sum vs ys (2 ^ e) near_words c s u l turns (lengths_by l covers) k (opposite (whole 0)) h))
        where
          flip : (d : Difference) → D.length d ≤ 0 → D.length (opposite d) ≤ 0
          flip d h = omega arith

    -- ---- the largest value by the outputs
    abbrev M : ℕ
    M = size_in m

    pub covered : Covers M xs
    covered n l = le_trans (le_of_eq (size_of (at xs n) (elements n l).number)) (size_mono _ m (largest.most n l))

    module _ (few : length xs ≡ 128) (c s : ℕ → Difference) (u : ℕ) (turns : Turns c s u) where
      all_covered : (i : ℕ) → D.length (units_of (at xs i)) ≤ M
      unfolding mag negative
      all_covered i = elim (le-or-lt 128 i) [
        | inl l ↦ subst (λ (x : Float). D.length (units_of x) ≤ M) (sym (get_or-eq_default xs nan (omega arith))) zero-le
        | inr l ↦ le_trans (le_of_eq (size-sum (at xs i))) (covered i l)
      ]

      plainly : (w : ℕ → Difference) (k : ℕ) → plain (λ i. units_of (at xs i)) w 0 1 k 128 ≡ total (λ n. times (units_of (at xs n)) (w (k * n))) 128
      plainly w k = total_same _ _ 128 (λ n. ap (λ (j : ℕ). times (units_of (at xs (0 + j))) (w (k * j))) (mul-one n) ∙ ap (λ (j : ℕ). times (units_of (at xs j)) (w (k * n))) (zero-add n))

      pub largest_output : (q : ℕ) → ((k : ℕ) → k ≤ 64 → size (exact_re xs c k) ≤ q) → ((k : ℕ) → k ≤ 64 → size (exact_im xs s k) ≤ q) → u * M ≤ 256 * q
      largest_output q sr si = elim (eq-zero-or-pos m) [ inl z ↦ quiet z | inr p ↦ loud (λ z. above p z) ]
        where
          above : 0 < m → m ≡ 0 → ⊥
          above p z = omega arith

          quiet : m ≡ 0 → u * size_in m ≤ 256 * q
          quiet z = rw (z, zero-size, mul-zero u) zero-le

          loud : ¬ (m ≡ 0) → u * M ≤ 256 * q
          loud some =
              let (i, b, e) = largest.there some in
              largest_by (λ i. units_of (at xs i)) (turned_sum xs c) (turned_sum xs s) u M i b all_covered (size-sum (at xs i) ∙ size_of (at xs i) (elements i b).number ∙ ap size_in e) (one-sided' (at xs i))
              (λ k l. subst (λ (d : Difference). Close (128 * (M * (8 * u))) (times (whole u) d) (times (whole unit) (turned_sum xs c k))) (sym (plainly cosine k)) (table_near vs ys (2 ^ e''') near_words u M (lengths_by M covered) cosine_below c (table_cosine c s u turns) k))
              (λ k l. subst (λ (d : Difference). Close (128 * (M * (8 * u))) (times (whole u) d) (times (whole unit) (turned_sum xs s k))) (sym (plainly sine k)) (table_near vs ys (2 ^ e''') near_words u M (lengths_by M covered) sine_below s (table_sine c s u turns) k))
              q sr (λ k l. le_trans (le_of_eq (turned-size (turned_sum xs s k))) (si k l))
            where
              e''' : ℕ
              e''' = e

              turned-size : (d : Difference) → size d ≡ size (opposite d)
              turned-size d = omega arith
