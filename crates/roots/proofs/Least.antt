-- The least number that passes a test is found by the two tests at its ends, where the test is passed from some number on. Assumes nothing.
use Rattle.std.proofs.Common.{◌≡◌, ℕ, zero, suc, ◌<◌, ◌≤◌, Bool, true, false, cond, ◌⊎◌, sym, refl, ap, ◌∙◌, inl, inr, zero-le, le_of_eq, le_of_suc-le-suc, eq-or-lt_of_le, not-le_of_lt, arith}
use Rattle.roots.specs.Value.{least_passing}

module _ (passes : ℕ → Bool) (h : ℕ) (here : passes h ≡ true) (before : (j : ℕ) → j < h → passes j ≡ false) where
  -- up to h nothing passes, so that the search has come to its end
  up_to : (k : ℕ) → k ≤ h → least_passing passes k ≡ k
  unfolding least_passing
  up_to zero l = refl
  up_to (suc k) l =
      let e = up_to k (omega arith) in
      ap (λ (j : ℕ). cond (passes j) j (suc j)) e ∙ ap (λ (b : Bool). cond b k (suc k)) (before k l)

  -- from h on it stays there
  pub least_is : (k : ℕ) → h ≤ k → least_passing passes k ≡ h
  unfolding least_passing
  least_is zero l = up_to 0 (omega arith) ∙ omega arith
  least_is (suc k) l = go (eq-or-lt_of_le l) (least_is k)
    where
      go : (h ≡ suc k) ⊎ (h < suc k) → (h ≤ k → least_passing passes k ≡ h) → least_passing passes (suc k) ≡ h
      go (inl e) rest = up_to (suc k) (le_of_eq (sym e)) ∙ sym e
      go (inr g) rest =
          ap (λ (j : ℕ). cond (passes j) j (suc j)) (rest (omega arith)) ∙ ap (λ (b : Bool). cond b h (suc h)) here

-- where some number passes, there is a first one
pub first_passing : (passes : ℕ → Bool) (k : ℕ) → passes k ≡ true → (h : ℕ) × (passes h ≡ true) × ((j : ℕ) → j < h → passes j ≡ false)
first_passing passes k e = elim (below k) [ inl f ↦ f | inr none ↦ (k, e, none) ]
  where
    First : Type 0
    First = (h : ℕ) × (passes h ≡ true) × ((j : ℕ) → j < h → passes j ≡ false)

    None : ℕ → Type 0
    None k = (j : ℕ) → j < k → passes j ≡ false

    next : (k : ℕ) → None k → (b : Bool) → passes k ≡ b → First ⊎ None (suc k)
    next k none true e = inl (k, e, none)
    next k none false e = inr (λ j l. elim (eq-or-lt_of_le l) [ inl i ↦ (let q : j ≡ k = omega arith in ap passes q ∙ e) | inr i ↦ none j (le_of_suc-le-suc i) ])

    below : (k : ℕ) → First ⊎ None k
    below zero = inr (λ j l. absurd (not-le_of_lt l zero-le))
    below (suc k) = elim (below k) [ inl f ↦ inl f | inr none ↦ next k none (passes k) refl ]
