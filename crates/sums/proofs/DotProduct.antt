-- The dot product's promise, for each way in which the program returns. Assumes nothing.
use mathlib.Core.Path.{◌≡◌, refl, ap, ◌∙◌}
use mathlib.Core.List.{List, [], ◌∷◌}
use Prim.Native.Nat.{ℕ, ◌≤◌}
use native.Mathlib.Nat.{le_trans, le_of_eq}
use native.Mathlib.Omega.{arith}
use lib.Dec.{T}
use lib.ListN.{length}
use lib.Ieee.{Float}
use lib.Ieee.Scale.{finite}
use Rattle.units.specs.Answers.{Ends, float_bits}
use Rattle.units.proofs.Answers.{written, untouched}
use Rattle.units.proofs.Ranges.{zero_units}
use Rattle.sums.specs.Sum.{Intermediates, above, below, size, apart, NearSum}
use Rattle.sums.specs.Dot.{Lengths, Elements, Accepts, Dot, products, dot_sum, dot_of, levels, most_roundings, sum_over}
use Rattle.sums.proofs.Count.{Factors, added, one, roundings}
use Rattle.sums.proofs.Trees.{intermediates, last_finite, total-number, finite_factors, factors, tree_near, near_more}
use Rattle.sums.proofs.Rows.{added_pairs, added_products, rounded_pairs, rounded-products, steady, length-products}
use Rattle.sums.proofs.Levels.{enough, least, no_more}
use Rattle.sums.proofs.Lists.{Fits, as_many, finite_elements, number_elements}
use Rattle.sums.proofs.Pieces.{dot_empty}

module _ (a b : List Float) (l : Lengths a b) where
  -- the order has every product once
  added_dot : (f : Float → Float → ℕ) → added f (dot_sum a b) ≡ sum_over f a b
  added_dot f = added_pairs f 16 (products a b) (le_trans (le_of_eq (length-products a b l.same)) l.most) ∙ added_products f a b

  -- none goes through more roundings than there are levels, and its own
  rounded_dot : roundings (dot_sum a b) ≤ most_roundings (length a)
  rounded_dot =
      let n = length-products a b l.same in
      let h = levels (length a) in
      let e = steady 16 h (products a b) (least (length a) 16 l.most) (le_trans (le_of_eq n) (enough (length a))) in
      let r = rounded_pairs h 1 (products a b) (rounded-products a b) in
      rw e (omega arith)

  factors_dot : Fits a → Fits b → Elements a b → Factors (dot_sum a b)
  factors_dot p q e = factors (dot_sum a b) (added_dot _ ∙ number_elements a b p q e)

  finite_dot : T (finite (dot_of a b)) → Elements a b
  finite_dot f = finite_elements a b l.same (rw (added_dot _) at (finite_factors (dot_sum a b) f))

  -- so the law of sums is the bound
  dot_near : Fits a → Fits b → Elements a b → Intermediates (dot_sum a b) → NearSum (most_roundings (length a)) (length a) (dot_of a b) (sum_over above a b) (sum_over below a b) (sum_over size a b)
  dot_near p q e i =
      let h = least (length a) 16 l.most in
      rw (added_dot one ∙ as_many a b l.same, added_dot above, added_dot below, added_dot size) at
      (tree_near (dot_sum a b) (most_roundings (length a)) (factors_dot p q e) i rounded_dot (omega arith))

-- ---- success: the result is finite, and with it everything before
promised : (a b : List Float) → Fits a → Fits b → Lengths a b → T (finite (dot_of a b)) → Dot a b 0 (dot_of a b)
promised a b p q l f =
    let h : Accepts a b = record { lengths = l; elements = finite_dot a b l f; intermediates = intermediates (dot_sum a b) f } in
    record {
      bad_length = λ n. absurd (n l);
      out_of_range = λ g n. absurd (n h.elements);
      overflow = λ g e n. absurd (n h.intermediates);
      only_there = λ e. absurd (omega arith);
      success = λ g. refl;
      value = λ g. refl;
      finite = λ g. total-number (dot_sum a b) (factors_dot a b l p q h.elements) h.intermediates;
      near = λ g. dot_near a b l p q h.elements h.intermediates;
      empty = λ g e. dot_empty a b e;
    }

-- the place holds the pattern of the program's sum s
pub success : (a b : List Float) {before : ℕ} {s : Float} → Fits a → Fits b → Lengths a b → s ≡ dot_of a b → T (finite s) → Ends float_bits (Dot a b) 0 before (float_bits s)
success a b p q l e f = written (dot_of a b) (promised a b p q l (rw e at f)) (ap float_bits e)

-- ---- refusals: what is not accepted has a code, and nothing is written
module _ (a b : List Float) {before : ℕ} where
  refused : (code : ℕ) → ¬ (code ≡ 0) → ¬ Accepts a b → (¬ Lengths a b → code ≡ 2) → (Lengths a b → ¬ Elements a b → code ≡ 1) → (Lengths a b → Elements a b → ¬ Intermediates (dot_sum a b) → code ≡ 3)
      → (code ≡ 3 → ¬ Intermediates (dot_sum a b)) → Ends float_bits (Dot a b) code before before
  refused code z n c₂ c₁ c₃ only = untouched code (dot_of a b) z (record {
    bad_length = c₂;
    out_of_range = c₁;
    overflow = c₃;
    only_there = only;
    success = λ h. absurd (n h);
    value = λ h. absurd (n h);
    finite = λ h. absurd (n h);
    near = λ h. absurd (n h);
    empty = λ h. absurd (n h);
  })

  -- lengths that differ or are forbidden
  pub refused_lengths : ¬ Lengths a b → Ends float_bits (Dot a b) 2 before before
  refused_lengths n = refused 2 (λ z. omega arith) (λ h. n h.lengths) (λ m. refl) (λ l. absurd (n l)) (λ l. absurd (n l)) (λ e. absurd (omega arith))

  -- an element that is not finite
  pub refused_element : Lengths a b → ¬ Elements a b → Ends float_bits (Dot a b) 1 before before
  refused_element l n = refused 1 (λ z. omega arith) (λ h. n h.elements) (λ m. absurd (m l)) (λ g m. refl) (λ g e. absurd (n e)) (λ e. absurd (omega arith))

  -- finite elements and a result that is not finite: one of the intermediate results, the result among them, is not
  pub refused_overflow : Lengths a b → Elements a b → ¬ T (finite (dot_of a b)) → Ends float_bits (Dot a b) 3 before before
  refused_overflow l e n =
      let not-all : ¬ Intermediates (dot_sum a b) = λ i. n (last_finite (dot_sum a b) i) in
      refused 3 (λ z. omega arith) (λ h. not-all h.intermediates) (λ m. absurd (m l)) (λ g m. absurd (m e)) (λ g h m. refl) (λ c. not-all)

-- ---- document 01's bound, with G = n u / (1 - n u), for every n: n products go through n roundings at most, in whatever order they are added
pub as_asked : (a b : List Float) (code : ℕ) (r : Float) → Dot a b code r → Accepts a b → NearSum (length a) (length a) r (sum_over above a b) (sum_over below a b) (sum_over size a b)
unfolding sum_over apart
as_asked [] b code r d h = rw (d.empty h refl, zero_units.0, zero_units.1) (le_of_eq refl)
as_asked (x ∷ a) b code r d h = near_more (most_roundings n) n n r (sum_over above (x ∷ a) b) (sum_over below (x ∷ a) b) (sum_over size (x ∷ a) b) (no_more n (omega arith)) (d.near h)
  where
    n : ℕ
    n = length (x ∷ a)
