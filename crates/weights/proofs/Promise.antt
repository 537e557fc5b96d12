-- The promise of softmax, put together from the rooms: Scaled (the largest element, the sum and its reciprocal), Rounding (one weight), Quotient (all of them). Assumes nothing.
use mathlib.Core.Path.{◌≡◌, refl, sym, ap, ap₂, subst, ◌∙◌}
use mathlib.Core.List.{List, map}
use mathlib.Core.Bool.{false}
use Prim.Native.Nat.{ℕ, ◌+◌, ◌-◌, ◌*◌, ◌^◌, ◌≤◌, ◌<◌}
use native.Mathlib.Nat.{le_trans, le_of_eq, le_antisymm, mul_right_comm, mul-le-mul_right, le_of_mul-le-mul_right}
use native.Mathlib.Omega.{arith}
use lib.Pow.{pow_pos}
use lib.ListN.{length, length-map}
use lib.Ieee.{Float, nan, binary32, of_bits}
use Rattle.units.specs.Units.{P, N, Le}
use Rattle.units.specs.Answers.{Ends, float_bits, list_bits}
use Rattle.units.proofs.Answers.{written, untouched}
use Rattle.units.proofs.Signs.{plus_of_lem, minus_of_lem}
use Rattle.units.proofs.Bits.{Is, no_nan_positive}
use Rattle.units.proofs.Patterns.{pattern_back}
use Rattle.powers.specs.Base.{Base}
use Rattle.powers.specs.Fixed.{fixed_digits, fixed_exponent, fixed_above, fixed_below}
use Rattle.powers.proofs.Base.{through}
use Rattle.weights.specs.Lists.{at, sum}
use Rattle.weights.specs.Softmax.{Elements, Lengths, Accepts, Encloses, NearQuotients, Whole, Inside, Softmax, softmax_error_num, softmax_error_den, whole_error_num, whole_error_den}
use Rattle.weights.specs.Value.{power_at, factor_of, places_of, unit_bits, weight_bits, weight_of, softmax_of}
use Rattle.weights.proofs.Range.{power}
use Rattle.std.proofs.lemmas.List.{get_or-map}
use Rattle.weights.proofs.Families.{is_map, sum-le, sum_same, member}
use Rattle.weights.proofs.Scaled.{scaling, inverse}
use Rattle.weights.proofs.Inverting.{Inverse}
use Rattle.weights.proofs.Rounding.{weight_units, Placed, placed, units_most, units_least, units_one, weight_is, pattern_in, weight_order}
use Rattle.weights.proofs.Quotient.{quotient_most, quotient_least, whole_most, whole_least, near_most, near_least}

-- ---- the powers of the elements against any enclosure of the real powers
module _ (base : Base) (xs : List Float) (all : Elements xs) (l u : ℕ → ℕ) (d : ℕ) (e : Encloses base xs l u d) (j : ℕ) (h : j < length xs) where
  pub enclosed_below : l j * (2 ^ 32 * 2 ^ 158) ≤ power_at base xs j * ((2 ^ 32 + fixed_below) * d)
  enclosed_below = le_trans (through (e.below j h) (power (at xs j) (all.each j h) base).at_least) (le_of_eq (turned (2 ^ 32 + fixed_below) (power_at base xs j) d))
    where
      turned : (k t d : ℕ) → k * t * d ≡ t * (k * d)
      turned k t d = omega arith

  pub enclosed_above : power_at base xs j * (2 ^ 32 * d) ≤ u j * ((2 ^ 32 + fixed_above) * 2 ^ 158)
  enclosed_above = le_trans (le_of_eq (turned (2 ^ 32) (power_at base xs j) d)) (through (power (at xs j) (all.each j h) base).at_most (e.above j h))
    where
      turned : (k t d : ℕ) → t * (k * d) ≡ k * t * d
      turned k t d = omega arith

-- ---- the weights of all elements
module _ (base : Base) (xs : List Float) (all : Elements xs) (some : 1 ≤ length xs) (few : length xs ≤ 1024) where
  abbrev n : ℕ
  n = length xs

  abbrev ps : List Float
  ps = softmax_of base xs

  abbrev r : ℕ
  r = factor_of base xs

  abbrev c : ℕ
  c = places_of base xs

  scale : Inverse (sum (power_at base xs) n) r c
  scale = inverse base xs all some few

  as_many : length ps ≡ n
  unfolding softmax_of
  as_many = length-map xs (weight_of base r c)

  each : (i : ℕ) → i < n → at ps i ≡ weight_of base r c (at xs i)
  unfolding softmax_of
  each i h = get_or-map (weight_of base r c) xs i nan nan h

  abbrev U : ℕ → ℕ
  U i = weight_units (fixed_digits base (at xs i) * r) (fixed_exponent base (at xs i) + 115) c

  -- each is scaled to at most 1
  place : (i : ℕ) → i < n → Placed (fixed_digits base (at xs i) * r) (fixed_exponent base (at xs i)) c
  place i h =
      let t = power (at xs i) (all.each i h) base in
      placed (fixed_digits base (at xs i)) (fixed_exponent base (at xs i)) r c t.least t.most (scaling base xs all some few) (le_trans (mul-le-mul_right r (member (power_at base xs) n i h)) scale.most)

  output_is : (i : ℕ) → i < n → Is (at ps i) false (U i)
  unfolding weight_of weight_bits
  output_is i h = rw (each i h) (weight_is (fixed_digits base (at xs i) * r) (fixed_exponent base (at xs i)) c (place i h))

  output_units : (i : ℕ) → i < n → P (at ps i) ≡ U i
  output_units i h = let o = output_is i h in plus_of_lem (at ps i) o.sign ∙ o.units

  output_plus : (i : ℕ) → i < n → N (at ps i) ≡ 0
  output_plus i h = minus_of_lem (at ps i) (output_is i h).sign

  inside : (i : ℕ) → i < n → Inside (at ps i)
  inside i h = record { number = (output_is i h).number; no_sign = (output_is i h).sign; at_most = rw (output_units i h) (units_one _ _ _ (place i h)) }

  -- the pattern of each output
  output_bits : (i : ℕ) → i < n → float_bits (weight_of base r c (at xs i)) ≡ weight_bits base r c (at xs i)
  unfolding weight_of weight_bits
  output_bits i h = let l = pattern_in _ _ _ (place i h) in pattern_back _ (omega arith) (no_nan_positive _ l)

  pub patterns : map (weight_bits base r c) xs ≡ list_bits ps
  unfolding softmax_of
  patterns =
      is_map float_bits nan 0 ps (map (weight_bits base r c) xs) (length-map xs (weight_bits base r c) ∙ sym as_many)
      (λ i h. let k : i < n = omega (arith, as_many) in get_or-map (weight_bits base r c) xs i nan 0 k ∙ sym (ap float_bits (each i k) ∙ output_bits i k))

  -- ---- near
  scaled : (i : ℕ) → fixed_digits base (at xs i) * r * 2 ^ fixed_exponent base (at xs i) ≡ power_at base xs i * r
  scaled i = mul_right_comm (fixed_digits base (at xs i)) r (2 ^ fixed_exponent base (at xs i))

  most : (i : ℕ) → i < n → U i * 2 ^ 24 * 2 ^ c ≤ power_at base xs i * r * 2 ^ 75 * (2 ^ 24 + 1)
  most i h = subst (λ (p : ℕ). U i * 2 ^ 24 * 2 ^ c ≤ p * 2 ^ 75 * (2 ^ 24 + 1)) (scaled i) (units_most _ _ _ (place i h))

  least : (i : ℕ) → i < n → power_at base xs i * r * 2 ^ 75 * (2 ^ 24 - 1) ≤ (U i + 1) * 2 ^ 24 * 2 ^ c
  least i h = subst (λ (p : ℕ). p * 2 ^ 75 * (2 ^ 24 - 1) ≤ (U i + 1) * 2 ^ 24 * 2 ^ c) (scaled i) (units_least _ _ _ (place i h))

  near : NearQuotients base softmax_error_num softmax_error_den xs ps
  near = record {
    most = λ l u d e i h. rw (output_units i h)
        (near_most (U i) (sum (power_at base xs) n) (power_at base xs i) d (2 ^ 158) (2 ^ 149) (pow_pos 158) (u i) (sum l n)
        (sum-le l (power_at base xs) _ _ n (enclosed_below base xs all l u d e)) (enclosed_above base xs all l u d e i h) (quotient_most (power_at base xs) U n r c scale most least i h));
    least = λ l u d e i h. rw (output_units i h)
        (near_least (U i + 1) (sum (power_at base xs) n) (power_at base xs i) d (2 ^ 158) (2 ^ 149) (pow_pos 158) (l i) (sum u n)
        (enclosed_below base xs all l u d e i h) (sum-le (power_at base xs) u _ _ n (enclosed_above base xs all l u d e)) (quotient_least (power_at base xs) U n r c scale most least i h));
  }

  -- ---- the sum
  whole : Whole whole_error_num whole_error_den ps
  whole =
      let same : sum (λ i. P (at ps i)) (length ps) ≡ sum U n = ap (sum (λ i. P (at ps i))) as_many ∙ sum_same (λ i. P (at ps i)) U n output_units in
      record { most = rw same (whole_most (power_at base xs) U n r c scale most least); least = rw same (whole_least (power_at base xs) U n r c scale most least few) }

  -- ---- order
  module _ (i j : ℕ) (h : i < n) (k : j < n) where
    order : Le (at xs i) (at xs j) → Le (at ps i) (at ps j)
    order l =
        let t = power (at xs j) (all.each j k) base in
        let o : U i ≤ U j = weight_order _ _ _ _ c (place i h) (place j k) (t.exponents (at xs i) l) (rw (scaled i, scaled j) (mul-le-mul_right r (t.order (at xs i) l))) in
        rw (output_units i h, output_units j k, output_plus i h, output_plus j k) (omega arith)

    equal : Le (at xs i) (at xs j) → Le (at xs j) (at xs i) → at ps i ≡ at ps j
    unfolding weight_of weight_bits
    equal l g =
        let t = power (at xs j) (all.each j k) base in
        let t' = power (at xs i) (all.each i h) base in
        let e : fixed_exponent base (at xs i) ≡ fixed_exponent base (at xs j) = le_antisymm (t.exponents (at xs i) l) (t'.exponents (at xs j) g) in
        let d : fixed_digits base (at xs i) ≡ fixed_digits base (at xs j) = le_antisymm (digits (t.order (at xs i) l) e) (digits (t'.order (at xs j) g) (sym e)) in
        each i h ∙ ap₂ (λ (m q : ℕ). of_bits binary32 (unit_bits (m * r) (q + 115) c)) d e ∙ sym (each j k)
      where
        digits : {a b x y : ℕ} → a * 2 ^ x ≤ b * 2 ^ y → x ≡ y → a ≤ b
        digits {a} {b} {x} {y} h e = le_of_mul-le-mul_right (subst (λ (z : ℕ). a * 2 ^ x ≤ b * 2 ^ z) (sym e) h) (pow_pos x)

-- ---- the whole promise, of accepted lists and of any others

module _ (base : Base) (xs : List Float) (m : ℕ) where
  -- code 0 and the weights
  promised : Accepts xs m → Softmax base xs m 0 (softmax_of base xs)
  promised a =
      let all = a.elements in
      let some = a.lengths.least in
      let few = a.lengths.most in
      record {
        bad_length = λ g. absurd (g a.lengths);
        out_of_range = λ g h. absurd (h all);
        success = λ g. refl;
        value = λ g. refl;
        as_many = λ g. as_many base xs all some few;
        inside = λ g. inside base xs all some few;
        near = λ g. near base xs all some few;
        order = λ g i j h k. order base xs all some few i j h k;
        equal = λ g i j h k. equal base xs all some few i j h k;
        whole = λ g. whole base xs all some few;
      }

  refused : (code : ℕ) → ¬ Accepts xs m → (¬ Lengths xs m → code ≡ 2) → (Lengths xs m → ¬ Elements xs → code ≡ 1) → Softmax base xs m code (softmax_of base xs)
  refused code g c₂ c₁ = record {
    bad_length = c₂;
    out_of_range = c₁;
    success = λ a. absurd (g a);
    value = λ a. absurd (g a);
    as_many = λ a. absurd (g a);
    inside = λ a. absurd (g a);
    near = λ a. absurd (g a);
    order = λ a. absurd (g a);
    equal = λ a. absurd (g a);
    whole = λ a. absurd (g a);
  }

  -- ---- how the call ends
  module _ {before : List ℕ} where
    -- the patterns that are written are the weights'
    pub weighed : {after : List ℕ} → Accepts xs m → after ≡ map (weight_bits base (factor_of base xs) (places_of base xs)) xs → Ends list_bits (Softmax base xs m) 0 before after
    weighed a e = written (softmax_of base xs) (promised a) (e ∙ patterns base xs a.elements a.lengths.least a.lengths.most)

    -- code 2: lengths that differ or are forbidden
    pub refused_lengths : ¬ Lengths xs m → Ends list_bits (Softmax base xs m) 2 before before
    refused_lengths g = untouched 2 (softmax_of base xs) (λ z. omega arith) (refused 2 (λ a. g a.lengths) (λ h. refl) (λ h. absurd (g h)))

    -- code 1: an element that is not accepted
    pub refused_element : Lengths xs m → ¬ Elements xs → Ends list_bits (Softmax base xs m) 1 before before
    refused_element l g = untouched 1 (softmax_of base xs) (λ z. omega arith) (refused 1 (λ a. g a.elements) (λ h. absurd (h l)) (λ h v. refl))
