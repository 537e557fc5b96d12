-- What is weighed, while the places of the outputs are written. Assumes nothing.
use Rattle.std.proofs.Common.{◌≡◌, List, ℕ, ◌+◌, ◌^◌, ◌<◌, length, get_or, refl, sym, ap, ◌∙◌, arith}
use lib.ListN.{length-map}
use lib.Ieee.{nan, binary32, of_bits}
use Rattle.weights.specs.Lists.{at}
use Rattle.weights.specs.Softmax.{floats_of}
use Rattle.weights.specs.Weight.{Source, own, other, source_of, Sized, HoldsDigits}
use Rattle.std.proofs.lemmas.List.{get_or-map}

-- in place, an element is the float of its pattern
pub own_at : (p : List ℕ) (i : ℕ) → i < length p → at (floats_of p) i ≡ of_bits binary32 (get_or p i 0)
own_at p i h = get_or-map (of_bits binary32) p i 0 nan h

-- p became q, which has the same length
module _ (p q : List ℕ) (same : length q ≡ length p) where
  pub sized_still : (s : Source) → Sized s p → Sized s q
  sized_still own z = length-map q (of_bits binary32)
  sized_still (other x) z = z ∙ sym same

  -- and the same pattern at i
  module _ (i : ℕ) (k : get_or q i 0 ≡ get_or p i 0) where
    pub still_at : (s : Source) → i < length p → at (source_of s q) i ≡ at (source_of s p) i
    still_at own h = own_at q i (omega arith) ∙ ap (of_bits binary32) k ∙ sym (own_at p i h)
    still_at (other x) h = refl

    pub holds_still : (s : Source) (d : ℕ) → HoldsDigits s p i d → HoldsDigits s q i d
    holds_still own d h = tt
    holds_still (other x) d h = ap (λ (t : ℕ). t + 2 ^ 32) k ∙ h
