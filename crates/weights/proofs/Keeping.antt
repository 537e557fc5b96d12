-- While the powers are summed: beside another list, the digits of those passed stand in the places of their outputs.
-- Assumes nothing.
use Rattle.std.proofs.Common.{◌≡◌, List, ℕ, ◌+◌, ◌^◌, ◌<◌, length, get_or, set, refl, sym, ap, ◌∙◌, subst}
use Rattle.std.proofs.Common.{lt_of_lt_of_le, le_of_eq, below_none, below_more}
use native.Mathlib.Nat.{ne_of_lt}
use lib.ListN.{length-set}
use lib.Seq.{get_or-set_same, get_or-set_other}
use lib.Ieee.{Float}
use Rattle.powers.specs.Base.{Base}
use Rattle.powers.specs.Fixed.{fixed_digits}
use Rattle.weights.specs.Lists.{at}
use Rattle.weights.specs.Softmax.{floats_of}
use Rattle.weights.specs.Weight.{Source, own, other, source_of, Sized, HoldsDigits, kept_at, Kept}

-- p₀ became p, with the digits of the first j powers
pub record Keeping (base : Base) (s : Source) (p₀ p : List ℕ) (j : ℕ) : Type 0 where
  pub same : length p ≡ length p₀
  pub source : source_of s p ≡ source_of s p₀
  pub digits : (i : ℕ) → i < j → HoldsDigits s p i (fixed_digits base (at (source_of s p₀) i))

-- none yet
pub keeping_none : (base : Base) (s : Source) (p₀ : List ℕ) → Keeping base s p₀ p₀ 0
keeping_none base s p₀ = record { same = refl; source = refl; digits = below_none _ }

-- those of the power j
pub keeping_more : (base : Base) (s : Source) (p₀ p : List ℕ) (j : ℕ) → Keeping base s p₀ p j → (q : ℕ) (next : List ℕ)
    → j < length p₀ → q + 2 ^ 32 ≡ fixed_digits base (at (source_of s p₀) j) → next ≡ kept_at s p j q
    → Keeping base s p₀ next (j + 1)
keeping_more base own p₀ p j k q next h d e =
    record { same = ap length e ∙ k.same; source = ap floats_of e ∙ k.source; digits = λ i l. tt }
keeping_more base (other x) p₀ p j k q next h d e = record {
  same = ap length e ∙ length-set p j q ∙ k.same;
  source = refl;
  digits = rw e (below_more (λ i. get_or (set p j q) i 0 + 2 ^ 32 ≡ fixed_digits base (at x i)) j
      (λ i l. ap (λ (t : ℕ). t + 2 ^ 32) (get_or-set_other p j i q 0 (ne_of_lt l)) ∙ k.digits i l)
      (ap (λ (t : ℕ). t + 2 ^ 32) (get_or-set_same p j q 0 (lt_of_lt_of_le h (le_of_eq (sym k.same)))) ∙ d));
}

module _ (base : Base) (s : Source) (p₀ p : List ℕ) (j : ℕ) (k : Keeping base s p₀ p j) where
  pub keeping_sized : Sized s p₀ → Sized s p
  keeping_sized z = ap length k.source ∙ z ∙ sym k.same

  -- all of them
  pub keeping_all : j ≡ length p₀ → Kept base s p₀ p
  keeping_all e = record {
    same = k.same;
    source = k.source;
    digits = λ i h.
        subst (λ (l : List Float). HoldsDigits s p i (fixed_digits base (at l i))) (sym k.source)
        (k.digits i (lt_of_lt_of_le h (le_of_eq (k.same ∙ sym e))));
  }
