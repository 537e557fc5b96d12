-- What a frame and one band alone make it: of two currents of the same frame and band each is the other. Assumes nothing.
use mathlib.Core.Path.{◌≡◌, refl, sym, ap, ap₂, ◌∙◌}
use mathlib.Core.Logic.{inl, inr, ◌⊎◌}
use mathlib.Core.List.{List}
use Prim.Native.Nat.{ℕ, zero, suc, ◌+◌, ◌-◌, ◌%◌, ◌≤◌, ◌<◌}
use native.Mathlib.Omega.{arith}
use lib.ListN.{get_or}
use lib.Ieee.{Float}
use Rattle.spectrum.proofs.Unique.{blocks_same}
use Rattle.loudness.specs.Value.{step_of}
use Rattle.path.specs.Steps.{size_of, modulus_of, real_size, imaginary_size, envelope_of, IsCurrent}
use Rattle.path.proofs.Adding.{sum_same}
use Rattle.path.proofs.Bins.{real_is, imaginary_none, imaginary_some}

-- ---- so the current is one
module _ (xs ws : List Float) (low high : ℕ) (bins : high ≤ 64) (b m : Float) (t c i i' : ℕ) (h : IsCurrent xs ws low high b m t c i) (h' : IsCurrent xs ws low high b m t c i') where
  blocks : (k : ℕ) → k < 128 → get_or h.r k 0 ≡ get_or h'.r k 0
  blocks = blocks_same h.ys h'.ys h.r h'.r h.products.as_many h'.products.as_many (λ i l. h.products.each i l ∙ sym (h'.products.each i l)) h.count h'.count h.fills h'.fills

  parts : (k : ℕ) → k ≤ 64 → modulus_of (real_size h.r k) (imaginary_size h.r k) ≡ modulus_of (real_size h'.r k) (imaginary_size h'.r k)
  parts k l = ap₂ modulus_of real imaginary
    where
      real : real_size h.r k ≡ real_size h'.r k
      real = sym (real_is h.r k) ∙ ap size_of (blocks k (omega arith)) ∙ real_is h'.r k

      imaginary : imaginary_size h.r k ≡ imaginary_size h'.r k
      imaginary = elim (zero_or (k % 64)) [
        | inl z ↦ sym (imaginary_none h.r k z) ∙ imaginary_none h'.r k z
        | inr n ↦ sym (imaginary_some h.r k n) ∙ ap size_of (blocks (128 - k) (inside k l n)) ∙ imaginary_some h'.r k n
      ]
        where
          zero_or : (x : ℕ) → (x ≡ 0) ⊎ ¬ (x ≡ 0)
          zero_or zero = inl refl
          zero_or (suc x) = inr (λ e. omega arith)

          inside : (k : ℕ) → k ≤ 64 → ¬ (k % 64 ≡ 0) → 128 - k < 128
          inside zero l n = absurd (n refl)
          inside (suc k) l n = omega arith

  pub one_current : i ≡ i'
  one_current = h.is ∙ ap (λ (s : ℕ). step_of b m t c (envelope_of s)) (sum_same _ _ (suc high - low) (λ j l. parts (low + j) (few j l))) ∙ sym h'.is
    where
      few : (j : ℕ) → j < suc high - low → low + j ≤ 64
      few j l = omega arith
