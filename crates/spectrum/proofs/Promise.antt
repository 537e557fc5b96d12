-- How a call ends: a frame that is accepted gets its outputs, any other a code and nothing else. Assumes nothing.
use mathlib.Core.Path.{◌≡◌, refl, sym, ap, ap₂, ◌∙◌, subst}
use mathlib.Core.Logic.{inl, inr, ◌⊎◌}
use mathlib.Core.List.{List, [], ◌∷◌, map}
use Prim.Native.Nat.{ℕ, zero, suc, ◌+◌, ◌-◌, ◌*◌, ◌^◌, ◌≤◌, ◌<◌}
use native.Mathlib.Nat.{not-suc-le-zero, le_of_suc-le-suc, eq-or-lt_of_le}
use native.Mathlib.Omega.{arith}
use lib.ListN.{length, get_or}
use lib.Ieee.{Float, binary32, of_bits, to_bits}
use Rattle.units.specs.Units.{mag, Number}
use Rattle.units.specs.Answers.{Ends, float_bits, list_bits}
use Rattle.units.proofs.Answers.{written, untouched}
use Rattle.spectrum.specs.Difference.{Difference, whole, size}
use Rattle.spectrum.specs.Words.{value_of, FilledWith}
use Rattle.spectrum.specs.Transform.{at, Lengths, Element, Elements, Accepts, Turns, Covers, NearOutput, exact_re, exact_im, error_of, sum_of, square, Transform, both_bits}
use Rattle.spectrum.specs.Floats.{size_in, Largest, Scale, Loaded, StoredReal, StoredImaginary, IsTransform}
use Rattle.spectrum.proofs.Written.{Output, output, zero_output}
use Rattle.spectrum.proofs.Energy.{energy}
use Rattle.spectrum.proofs.Frame.{holdable, covered, largest_output, real_near, imaginary_near, end_near, element_below}

-- ---- lists of patterns as lists of floats
abbrev pub floats : List ℕ → List Float
floats = map (of_bits binary32)

floats_length : (l : List ℕ) → length (floats l) ≡ length l
floats_length [] = refl
floats_length (x ∷ l) = ap suc (floats_length l)

at_floats : (l : List ℕ) (k : ℕ) → k < length l → at (floats l) k ≡ of_bits binary32 (get_or l k 0)
at_floats [] k h = absurd (not-suc-le-zero h)
at_floats (x ∷ l) zero h = refl
at_floats (x ∷ l) (suc k) h = at_floats l k (le_of_suc-le-suc h)

bits_back : (l : List ℕ) → ((k : ℕ) → k < length l → to_bits binary32 (of_bits binary32 (get_or l k 0)) ≡ get_or l k 0) → list_bits (floats l) ≡ l
bits_back [] h = refl
bits_back (x ∷ l) h = ap₂ ◌∷◌ (h 0 (omega arith)) (bits_back l (λ k b. h (suc k) (more b)))
  where
    more : {k n : ℕ} → k < n → suc k < suc n
    more b = omega arith

-- ---- refusals
module _ (xs : List Float) (nre nim : ℕ) {before : List ℕ × List ℕ} where
  pub refused_length : ¬ Lengths xs nre nim → Ends both_bits (Transform xs nre nim) 2 before before
  refused_length wrong = untouched 2 ([], []) (λ e. omega arith) (record {
    bad_length = λ h. refl;
    out_of_range = λ l. absurd (wrong l);
    success = λ a. absurd (wrong a.lengths);
    as_many = λ a. absurd (wrong a.lengths);
    finite = λ a. absurd (wrong a.lengths);
    zero_plus = λ a. absurd (wrong a.lengths);
    alone = λ a. absurd (wrong a.lengths);
    near = λ a. absurd (wrong a.lengths);
    energy = λ a. absurd (wrong a.lengths);
  })

  pub refused_element : Lengths xs nre nim → ¬ Elements xs → Ends both_bits (Transform xs nre nim) 1 before before
  refused_element l wrong = untouched 1 ([], []) (λ e. omega arith) (record {
    bad_length = λ h. absurd (h l);
    out_of_range = λ h g. refl;
    success = λ a. absurd (wrong a.elements);
    as_many = λ a. absurd (wrong a.elements);
    finite = λ a. absurd (wrong a.elements);
    zero_plus = λ a. absurd (wrong a.elements);
    alone = λ a. absurd (wrong a.elements);
    near = λ a. absurd (wrong a.elements);
    energy = λ a. absurd (wrong a.elements);
  })

-- a largest pattern from 2 ^ 120 on is that of an element that is none
pub too_large : (xs : List Float) (m : ℕ) → Largest xs (length xs) m → 2071986176 ≤ m → ¬ Elements xs
too_large xs m h l a = let (i, b, s) = h.there (λ z. omega arith) in under (element_below (at xs i) (a.each i b)) s
  where
    under : {b : ℕ} → b < 2071986176 → b ≡ m → ⊥
    under p q = omega arith

-- ---- success
module _ (xs : List Float) (nre nim m e : ℕ) (accepts : Accepts xs nre nim) (largest : Largest xs 128 m) (scale : Scale m e) (ys r re im : List ℕ) (loaded : Loaded e xs ys) (count : length r ≡ 128) (fills : FilledWith ys 0 1 r)
    (real : StoredReal e r re) (imaginary : StoredImaginary e r im) where
  elements : (n : ℕ) → n < 128 → Element (at xs n)
  elements n l = accepts.elements.each n (omega (arith, accepts.lengths.values))

  -- the pattern k, and the value that it is that of
  record Written (k b : ℕ) : Type 0 where
    W : Difference
    is : Output (2 ^ e) W b

  real_written : (k : ℕ) → k ≤ 64 → Written k (get_or re k 0)
  real_written k l = subst (Written k) (sym (real.each k l)) (record { W = value_of (get_or r k 0); is = output e (get_or r k 0) scale.high (holdable xs m e elements largest scale ys r loaded count fills k (omega arith)) })

  place : (k : ℕ) → k ≤ 64 → ((k ≡ 0) ⊎ (k ≡ 64)) ⊎ ((1 ≤ k) × (k < 64))
  place k l = elim (eq-or-lt_of_le l) [ inl z ↦ inl (inr z) | inr b ↦ elim (zero_or k) [ inl z ↦ inl (inl z) | inr a ↦ inr (a, b) ] ]
    where
      zero_or : (k : ℕ) → (k ≡ 0) ⊎ (1 ≤ k)
      zero_or zero = inl refl
      zero_or (suc k) = inr (omega arith)

  end_zero : (k : ℕ) → (k ≡ 0) ⊎ (k ≡ 64) → get_or im k 0 ≡ 0
  end_zero k (inl z) = rw z imaginary.first
  end_zero k (inr z) = rw z imaginary.last

  imaginary_written : (k : ℕ) → k ≤ 64 → Written k (get_or im k 0)
  imaginary_written k l = elim (place k l) [
    | inl ends ↦ subst (Written k) (sym (end_zero k ends)) (record { W = whole 0; is = zero_output (2 ^ e) })
    | inr (a, b) ↦ subst (Written k) (sym (imaginary.each k a b)) (record { W = value_of (get_or r (128 - k) 0); is = output e (get_or r (128 - k) 0) scale.high (holdable xs m e elements largest scale ys r loaded count fills (128 - k) (omega arith)) })
  ]

  at_re : (k : ℕ) → k ≤ 64 → at (floats re) k ≡ of_bits binary32 (get_or re k 0)
  at_re k l = at_floats re k (omega (arith, real.as_many))

  at_im : (k : ℕ) → k ≤ 64 → at (floats im) k ≡ of_bits binary32 (get_or im k 0)
  at_im k l = at_floats im k (omega (arith, imaginary.as_many))

  numbers : (k : ℕ) → k ≤ 64 → Number (at (floats re) k) × Number (at (floats im) k)
  numbers k l = (subst Number (sym (at_re k l)) (real_written k l).is.number, subst Number (sym (at_im k l)) (imaginary_written k l).is.number)

  plus : {b : ℕ} {W : Difference} → Output (2 ^ e) W b → mag (of_bits binary32 b) ≡ 0 → float_bits (of_bits binary32 b) ≡ 0
  plus o z = o.back ∙ o.zero_plus z

  zeros : (k : ℕ) → k ≤ 64 → (mag (at (floats re) k) ≡ 0 → float_bits (at (floats re) k) ≡ 0) × (mag (at (floats im) k) ≡ 0 → float_bits (at (floats im) k) ≡ 0)
  zeros k l = (
    subst (λ (x : Float). mag x ≡ 0 → float_bits x ≡ 0) (sym (at_re k l)) (plus (real_written k l).is),
    subst (λ (x : Float). mag x ≡ 0 → float_bits x ≡ 0) (sym (at_im k l)) (plus (imaginary_written k l).is),
  )

  module _ (c s : ℕ → Difference) (u l : ℕ) (turns : Turns c s u) (covers : Covers l xs) (k : ℕ) (few : k ≤ 64) where
    re_near : NearOutput (at (floats re) k) (exact_re xs c k) u l
    re_near =
        subst (λ (x : Float). NearOutput x (exact_re xs c k) u l) (sym (at_re k few ∙ ap (of_bits binary32) (real.each k few)))
        (real_near xs m e elements largest scale ys r loaded count fills c s u l turns covers k few)

    im_near : NearOutput (at (floats im) k) (exact_im xs s k) u l
    im_near = elim (place k few) [
      | inl ends ↦ subst (λ (x : Float). NearOutput x (exact_im xs s k) u l) (sym (at_im k few ∙ ap (of_bits binary32) (end_zero k ends))) (end_near xs m e elements largest scale ys r loaded count fills c s u l turns covers k ends)
      | inr (a, b) ↦ subst (λ (x : Float). NearOutput x (exact_im xs s k) u l) (sym (at_im k few ∙ ap (of_bits binary32) (imaginary.each k a b))) (imaginary_near xs m e elements largest scale ys r loaded count fills c s u l turns covers k a b)
    ]

  summed : (c s : ℕ → Difference) (u : ℕ) → Turns c s u → 10 ^ 14 * sum_of (λ k. square (error_of (at (floats re) k) (exact_re xs c k) u) + square (error_of (at (floats im) k) (exact_im xs s k) u)) 65
      ≤ sum_of (λ k. square (size (exact_re xs c k)) + square (size (exact_im xs s k))) 65 + 10 ^ 14 * (64 * square u)
  summed c s u turns =
      let covers = covered xs m e elements largest scale ys r loaded count fills in
      energy (λ k. exact_re xs c k) (λ k. exact_im xs s k) (λ k. error_of (at (floats re) k) (exact_re xs c k) u) (λ k. error_of (at (floats im) k) (exact_im xs s k) u) u (size_in m)
      (largest_output xs m e elements largest scale ys r loaded count fills accepts.lengths.values c s u turns) (λ k l. (re_near c s u (size_in m) turns covers k l).holds) (λ k l. (im_near c s u (size_in m) turns covers k l).holds)

  -- the patterns, back from their floats
  re_back : list_bits (floats re) ≡ re
  re_back = bits_back re (λ k l. (real_written k (omega (arith, real.as_many))).is.back)

  im_back : list_bits (floats im) ≡ im
  im_back = bits_back im (λ k l. (imaginary_written k (omega (arith, imaginary.as_many))).is.back)

  made : IsTransform xs (list_bits (floats re)) (list_bits (floats im))
  made = subst (λ (a : List ℕ). IsTransform xs a (list_bits (floats im))) (sym re_back) (subst (IsTransform xs re) (sym im_back) (record { m = m; e = e; ys = ys; r = r; largest = largest; scale = scale; loaded = loaded; count = count; fills = fills; real = real; imaginary = imaginary }))

  kept : Transform xs nre nim 0 (floats re, floats im)
  kept = record {
    bad_length = λ h. absurd (h accepts.lengths);
    out_of_range = λ h g. absurd (g accepts.elements);
    success = λ a. refl;
    as_many = λ a. (floats_length re ∙ real.as_many, floats_length im ∙ imaginary.as_many);
    finite = λ a. numbers;
    zero_plus = λ a. zeros;
    alone = λ a. made;
    near = λ a c s u l turns covers k few. (re_near c s u l turns covers k few, im_near c s u l turns covers k few);
    energy = λ a. summed;
  }

  pub promised : {before : List ℕ × List ℕ} → Ends both_bits (Transform xs nre nim) 0 before (re, im)
  promised = written (floats re, floats im) kept (ap₂ (λ a b. (a, b)) (sym re_back) (sym im_back))
