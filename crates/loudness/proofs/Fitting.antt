-- The step by the words of a segment: between its steps whatever the words are, and of the words of a segment the map's. Assumes nothing.
use Rattle.std.proofs.Common.{◌≡◌, ℕ, suc, ◌+◌, ◌-◌, ◌*◌, ◌/◌, ◌%◌, ◌^◌, ◌<◌, ◌≤◌, ◌⊎◌, List, length, get_or, sym, refl, ap, ◌∙◌, ap₂, inl, inr, le_trans, le_of_eq, lt_of_le_of_lt, le_of_lt, mul-le-mul_right, mul-le-mul, eq-or-lt_of_le, not-le_of_lt, arith, lit<, pow_mono, le-leb}
use borrow.Author.Tests.{lt-leb}
use lib.Ieee.{Float, binary32, to_bits}
use Rattle.units.specs.Units.{P}
use Rattle.units.proofs.Naturals.{le-or-lt}
use Rattle.logs.specs.Value.{fixed_bits, fixed_of}
use Rattle.logs.proofs.Reduction.{octave, bits_few}
use Rattle.loudness.specs.Map.{Envelope}
use Rattle.loudness.specs.Value.{rise_of, places_of, word_of, nearest_step, steps_of, step_of}
use Rattle.loudness.specs.Segment.{Segment, size_bits}
use Rattle.loudness.specs.Words.{threshold_of, range_of, comfort_of, Passes, rise_to, rise_in, upper_of, scaled, steps_in, step_in, span_of, factor_of, steps_word, negated, five_words, segment_words}
use Rattle.loudness.proofs.Known.{Sound, low_sound, high_sound, accepted, rises}
use Rattle.loudness.proofs.Words.{places, full, word_most, floors}
use Rattle.loudness.proofs.Growth.{step_quiet, step_loud, step_between, inside, between_sound, few, b≤m, span_long, span_few, rise_most}
use Rattle.loudness.proofs.Sizes.{too_quiet, quieter, up_to_one, own_bits}
use Rattle.loudness.proofs.Factor.{Close, factor_close, factor_few, nearest, all_steps}
use Rattle.loudness.proofs.Check.{five_length, five_check, five_few}

-- ---- any words: the cases of the steps
module _ (w : List ℕ) (n : ℕ) where
  abbrev k : ℕ
  k = range_of (get_or w 0 0)

  abbrev y : ℕ
  y = upper_of n (get_or w 3 0)

  abbrev i : ℕ
  i = scaled y (get_or w 0 0 % 4096) (get_or w 4 0)

  pub in_none : 4294967296 ≤ y → 9223372036854775808 ≤ n → steps_in w n ≡ 0
  unfolding steps_in
  in_none h l = rw (le-leb 4294967296 y h, le-leb 9223372036854775808 n l)

  pub in_all : 4294967296 ≤ y → n < 9223372036854775808 → steps_in w n ≡ k
  unfolding steps_in
  in_all h l = rw (le-leb 4294967296 y h, lt-leb 9223372036854775808 n l)

  pub in_most : y < 4294967296 → k ≤ i → steps_in w n ≡ k
  unfolding steps_in
  in_most h l = rw (lt-leb 4294967296 y h, le-leb k i l)

  pub in_between : y < 4294967296 → i < k → steps_in w n ≡ i
  unfolding steps_in
  in_between h l = rw (lt-leb 4294967296 y h, lt-leb k i l)

  -- never more than all
  pub steps_most : steps_in w n ≤ k
  steps_most = go (le-or-lt 4294967296 y) (le-or-lt 9223372036854775808 n) (le-or-lt k i)
    where
      go : (4294967296 ≤ y) ⊎ (y < 4294967296) → (9223372036854775808 ≤ n) ⊎ (n < 9223372036854775808) → (k ≤ i) ⊎ (i < k) → steps_in w n ≤ k
      go (inl h) (inl l) r = rw (in_none h l) (omega arith)
      go (inl h) (inr l) r = le_of_eq (in_all h l)
      go (inr h) l (inl r) = le_of_eq (in_most h r)
      go (inr h) l (inr r) = rw (in_between h r) (le_of_lt r)

-- a rise of nothing has no steps
nothing : (w : List ℕ) → steps_in w 0 ≡ 0
unfolding upper_of scaled
nothing w =
    elim (le-or-lt (k w 0) (i w 0)) [
      | inl l ↦ in_most w 0 (omega arith) l ∙ none (k w 0) (y w 0) (get_or w 0 0 % 4096 * 4294967296 + get_or w 4 0) (omega arith) l
      | inr l ↦ in_between w 0 (omega arith) l ∙ zero-product (y w 0) (get_or w 0 0 % 4096 * 4294967296 + get_or w 4 0) (omega arith)
    ]
  where
    zero-product : (y f : ℕ) → y ≡ 0 → (y * f / 18446744073709551616 + 1) / 2 ≡ 0
    zero-product y f e = rw e (omega arith)

    none : (k y f : ℕ) → y ≡ 0 → k ≤ (y * f / 18446744073709551616 + 1) / 2 → k ≡ 0
    none k y f e l = let z = zero-product y f e in omega arith

-- between threshold and comfort
pub bounded : (w : List ℕ) (p : ℕ) → (threshold_of (get_or w 0 0) ≤ step_in w p) × (step_in w p ≤ comfort_of (get_or w 0 0))
unfolding step_in
bounded w p = let m = steps_most w (rise_in w p) in (omega arith, omega arith)

-- ---- the words of a segment
pub segment_length : (b m : Float) (t c : ℕ) → length (segment_words b m t c) ≡ 6
unfolding segment_words
segment_length b m t c = five_length _ _ _ _ _

module _ (b m : Float) (t c : ℕ) (sg : Segment b m t c) where
  abbrev w : List ℕ
  w = segment_words b m t c

  abbrev d : ℕ
  d = rise_of b m

  abbrev h : ℕ
  h = span_of d

  abbrev f : ℕ
  f = factor_of (c - t) h

  -- the power of two, the word of the span, the factor
  shifts : (5 ≤ places_of d) × (places_of d ≤ 10)
  shifts = let (x, y, u, v) = places d (span_long b m t c sg) (span_few b m t c sg) in (x, y)

  span_word : (2147483648 ≤ h) × (h < 4294967296)
  unfolding span_of
  span_word = full d (span_long b m t c sg) (span_few b m t c sg)

  close : Close (c - t) h f
  close = let (l, u) = span_word in factor_close (c - t) h l u

  pub digits : f < 17592186044416
  digits = factor_few (c - t) h (few b m t c sg) span_word.0

  -- what stands in them
  parts : (steps_word t c f / 4194304 ≡ t) × (steps_word t c f / 4096 % 1024 ≡ c - t) × (steps_word t c f % 4096 ≡ f / 4294967296) × (steps_word t c f < 4294967296)
  unfolding steps_word
  parts = let x = sg.few in let o = sg.order in fields (f / 4294967296) (c - t) (omega (arith, digits)) (omega arith) (omega arith)
    where
      fields : (x y : ℕ) → x < 4096 → y ≤ 1023 → t ≤ 1023
          → ((x + 4096 * y + 4194304 * t) / 4194304 ≡ t) × ((x + 4096 * y + 4194304 * t) / 4096 % 1024 ≡ y) × ((x + 4096 * y + 4194304 * t) % 4096 ≡ x) × (x + 4096 * y + 4194304 * t < 4294967296)
      fields x y a b l = (omega arith, omega arith, omega arith, omega arith)

  pub threshold_in_lem : threshold_of (get_or w 0 0) ≡ t
  unfolding segment_words five_words
  threshold_in_lem = parts.0

  range_in : range_of (get_or w 0 0) ≡ c - t
  unfolding segment_words five_words
  range_in = parts.1

  pub comfort_in_lem : comfort_of (get_or w 0 0) ≡ c
  comfort_in_lem = let x = threshold_in_lem in let y = range_in in let o = sg.order in omega arith

  factor_in : get_or w 0 0 % 4096 * 4294967296 + get_or w 4 0 ≡ f
  unfolding segment_words five_words
  factor_in = ap (λ (x : ℕ). x * 4294967296 + f % 4294967296) parts.2 ∙ omega arith

  power_in : get_or w 3 0 ≡ 2 ^ places_of d
  unfolding segment_words five_words
  power_in = refl

  low : Sound b
  low = low_sound sg.levels

  high : Sound m
  high = high_sound sg.levels

  -- they pass
  pub segment_passes : Passes w
  unfolding segment_words
  segment_passes = five_check _ _ _ _ _

  -- each is a word of 32 digits
  pub segment_words_few : (j : ℕ) → get_or w j 0 < 4294967296
  unfolding segment_words negated
  segment_words_few = five_few _ _ _ _ _ parts.3 (omega arith) upper_half (lt_of_le_of_lt (pow_mono shifts.1) (lit< tt)) (omega arith)
    where
      upper_half : negated b / 4294967296 < 4294967296
      upper_half = omega arith

  -- ---- the rise of a pattern: the difference of the logarithms, which wraps below b
  short : (p : ℕ) → p < 2147483648 → fixed_bits p ≤ 4611686018427387904
  short p l = let o = (octave p).1 in omega arith

  b_bits : to_bits binary32 b < 2147483648
  b_bits = omega (arith, bits_few b (accepted low))

  module _ (p : ℕ) (lp : p < 2147483648) where
    rise_above : fixed_of b ≤ fixed_bits p → rise_in w p ≡ fixed_bits p - fixed_of b
    unfolding segment_words five_words rise_to negated fixed_of
    rise_above l = wraps (fixed_bits p) (fixed_bits (to_bits binary32 b)) l (short p lp)
      where
        wraps : (x y : ℕ) → y ≤ x → x ≤ 4611686018427387904
            → (x + ((18446744073709551616 - y) % 18446744073709551616 % 4294967296 + (18446744073709551616 - y) % 18446744073709551616 / 4294967296 * 4294967296)) % 18446744073709551616 ≡ x - y
        wraps x y a b = omega arith

    rise_below : fixed_bits p < fixed_of b → fixed_of b ≤ 4611686018427387904 → 9223372036854775808 ≤ rise_in w p
    unfolding segment_words five_words rise_to negated fixed_of
    rise_below l u = wraps (fixed_bits p) (fixed_bits (to_bits binary32 b)) l u
      where
        wraps : (x y : ℕ) → x < y → y ≤ 4611686018427387904
            → 9223372036854775808 ≤ (x + ((18446744073709551616 - y) % 18446744073709551616 % 4294967296 + (18446744073709551616 - y) % 18446744073709551616 / 4294967296 * 4294967296)) % 18446744073709551616
        wraps x y a b = omega arith

  -- ---- an envelope value
  b_short : fixed_of b ≤ 4611686018427387904
  unfolding fixed_of
  b_short = short (to_bits binary32 b) b_bits

  module _ (a : Float) (e : Envelope a) where
    abbrev p : ℕ
    p = size_bits a

    p_few : p < 2147483648
    p_few = omega (arith, up_to_one e)

    level : Sound a → fixed_bits p ≡ fixed_of a
    unfolding fixed_of
    level s = ap fixed_bits (sym (own_bits s))

    -- up to b: the rise is nothing, or has wrapped
    no_higher : P a ≤ P b → fixed_bits p ≤ fixed_of b
    unfolding fixed_of
    no_higher l = elim (le-or-lt (2 ^ 125) (P a)) [
      | inl q ↦ let s : Sound a = record { number = e.number; quietest = q; loudest = e.at_most_one } in le_trans (le_of_eq (level s)) (rises s low l)
      | inr q ↦ far (size_bits a) (to_bits binary32 b) (fixed_bits p) (fixed_bits (to_bits binary32 b)) (quieter e q) least (octave p).1 (octave (to_bits binary32 b)).0
    ]
      where
        least : 864026624 ≤ to_bits binary32 b
        least = elim (le-or-lt 864026624 (to_bits binary32 b)) [ inl h ↦ h | inr h ↦ absurd (too_quiet b m sg.levels h) ]

        far : (x y u v : ℕ) → x < 864026624 → 864026624 ≤ y → u ≤ suc (x / 8388608) * 2 ^ 54 → y / 8388608 * 2 ^ 54 ≤ v → u ≤ v
        far x y u v h k l r = omega arith

    wrapped_word : (n : ℕ) → 9223372036854775808 ≤ n → 4294967296 ≤ upper_of n (get_or w 3 0)
    unfolding upper_of
    wrapped_word n l = rw power_in (through (n * 2 ^ places_of d) (mul-le-mul l (pow_mono {i = 5} shifts.0)))
      where
        through : (x : ℕ) → 9223372036854775808 * 2 ^ 5 ≤ x → 4294967296 ≤ x / 4294967296
        through x h = omega arith

    quiet_steps : P a ≤ P b → steps_in w (rise_in w p) ≡ 0
    quiet_steps l = elim (eq-or-lt_of_le (no_higher l)) [
      | inl q ↦ ap (steps_in w) (rise_above p p_few (le_of_eq (sym q)) ∙ omega arith) ∙ nothing w
      | inr q ↦ let r = rise_below p p_few q b_short in in_none w (rise_in w p) (wrapped_word (rise_in w p) r) r
    ]

    -- between b and m, and past m: the rise of the map
    rise_of_lem : Sound a → P b ≤ P a → rise_in w p ≡ rise_of b a
    unfolding rise_of
    rise_of_lem s l = rise_above p p_few (le_trans (rises low s l) (le_of_eq (sym (level s)))) ∙ ap (λ (x : ℕ). x - fixed_of b) (level s)

    word_of_lem : (n : ℕ) → upper_of n (get_or w 3 0) ≡ word_of (places_of d) n
    unfolding upper_of word_of
    word_of_lem n = ap (λ (s : ℕ). n * s / 4294967296) power_in

    scaled_of : (n : ℕ) → scaled (upper_of n (get_or w 3 0)) (get_or w 0 0 % 4096) (get_or w 4 0) ≡ (word_of (places_of d) n * f / 18446744073709551616 + 1) / 2
    unfolding scaled
    scaled_of n = ap₂ (λ (y x : ℕ). (y * x / 18446744073709551616 + 1) / 2) (word_of_lem n) factor_in

    -- past b it has not wrapped
    pub past_level : P b ≤ P a → rise_in w p < 9223372036854775808
    unfolding rise_of
    past_level l =
        let s : Sound a = record { number = e.number; quietest = le_trans sg.levels.quietest l; loudest = e.at_most_one } in
        let u = short p p_few in
        let v = level s in
        let r = rise_of_lem s l in
        omega arith

    -- and where it has not, the logarithm is no lower
    pub not_wrapped : rise_in w p < 9223372036854775808 → fixed_of b ≤ fixed_bits p
    not_wrapped l = elim (le-or-lt (fixed_of b) (fixed_bits p)) [ inl h ↦ h | inr h ↦ absurd (not-le_of_lt l (rise_below p p_few h b_short)) ]

    -- all steps where the logarithm is no lower than that of m
    top_steps : fixed_of m ≤ fixed_bits p → steps_in w (rise_in w p) ≡ c - t
    unfolding rise_of span_of word_of
    top_steps l =
        let n = rise_in w p in
        let b_lower = rises low high (b≤m b m t c sg) in
        let r = rise_above p p_few (le_trans b_lower l) in
        let u = short p p_few in
        elim (le-or-lt 4294967296 (upper_of n (get_or w 3 0))) [
          | inl g ↦ in_all w n g (omega arith) ∙ range_in
          | inr g ↦ in_most w n g (le_trans (le_of_eq range_in) (le_trans (all_steps (c - t) h f (word_of (places_of d) n) close (floors (mul-le-mul_right (2 ^ places_of d) (omega arith)) (lit< tt))) (le_of_eq (sym (scaled_of n))))) ∙ range_in
        ]

    -- so that the step is comfort
    pub at_top : fixed_of m ≤ fixed_bits p → step_in w p ≡ c
    unfolding step_in
    at_top l = let o = sg.order in ap₂ ◌+◌ threshold_in_lem (top_steps l) ∙ omega arith

    loud_steps : P m ≤ P a → steps_in w (rise_in w p) ≡ c - t
    loud_steps l =
        let s : Sound a = record { number = e.number; quietest = le_trans sg.levels.quietest (le_trans (b≤m b m t c sg) l); loudest = e.at_most_one } in
        top_steps (le_trans (rises high s l) (le_of_eq (sym (level s))))

    between_steps : P b < P a → P a < P m → steps_in w (rise_in w p) ≡ steps_of (c - t) (rise_of b a) d
    unfolding steps_of span_of
    between_steps l r =
        let s = between_sound b m t c sg a e.number (le_of_lt l) (le_of_lt r) in
        let n = rise_in w p in
        let rise = rise_of_lem s (le_of_lt l) in
        let N = word_of (places_of d) (rise_of b a) in
        let N≤h : N ≤ h = word_most d (span_long b m t c sg) (span_few b m t c sg) (rise_of b a) (rise_most b m t c sg a s (le_of_lt r)) in
        let word : upper_of n (get_or w 3 0) < 4294967296 = lt_of_le_of_lt (le_of_eq (word_of_lem n ∙ ap (word_of (places_of d)) rise)) (lt_of_le_of_lt N≤h span_word.1) in
        let same : i w n ≡ nearest_step (c - t) N h = scaled_of n ∙ ap (λ (x : ℕ). (word_of (places_of d) x * f / 18446744073709551616 + 1) / 2) rise ∙ nearest (c - t) h f N close N≤h in
        let most : nearest_step (c - t) N h ≤ c - t = few_steps l r in
        elim (le-or-lt (k w n) (i w n)) [
          | inl g ↦ in_most w n word g ∙ omega (arith, range_in)
          | inr g ↦ in_between w n word g ∙ same
        ]
      where
        few_steps : P b < P a → P a < P m → nearest_step (c - t) (word_of (places_of d) (rise_of b a)) h ≤ c - t
        few_steps l r = let q = step_between b m t c a l r in let u = (inside b m t c sg a e.number).1 in omega arith

    -- the step is the map's
    pub same_step : step_in w p ≡ step_of b m t c a
    unfolding step_in
    same_step = go (le-or-lt (P a) (P b)) (le-or-lt (P m) (P a))
      where
        go : (P a ≤ P b) ⊎ (P b < P a) → (P m ≤ P a) ⊎ (P a < P m) → threshold_of (get_or w 0 0) + steps_in w (rise_in w p) ≡ step_of b m t c a
        go (inl l) r = ap₂ ◌+◌ threshold_in_lem (quiet_steps l) ∙ omega (arith, step_quiet b m t c a l)
        go (inr l) (inl r) = ap₂ ◌+◌ threshold_in_lem (loud_steps r) ∙ omega (arith, step_loud b m t c a l r, sg.order)
        go (inr l) (inr r) = ap₂ ◌+◌ threshold_in_lem (between_steps l r) ∙ sym (step_between b m t c a l r)
