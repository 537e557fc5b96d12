-- A polynomial read from the other end of an interval: at (1 - k x) / k in place of x, as a difference of two polynomials with whole coefficients.
use mathlib.Core.Path.{◌≡◌, refl, ap}
use mathlib.Core.List.{List, [], ◌∷◌}
use Prim.Native.Nat.{ℕ, zero, suc, ◌+◌, ◌*◌, ◌^◌, ◌≤◌}
use native.Mathlib.Nat.{pow-zero, add_comm, le_of_suc-le-suc}
use native.Mathlib.Numerals.{add-one}
use native.Mathlib.Omega.{arith}
use lib.ListN.{length}
use Rattle.exact.specs.Polynomial.{value}
use Rattle.exact.proofs.Forms.{add, scale, value-add, value_scale_by, value_raise, length-add, length_scale}
use Rattle.exact.proofs.Power.{mul-pow, pow-one}

-- Σ cᵢ (d - k y) ^ i (k d) ^ (n - i), as a form in y and d: what is added, and what is taken away
unfoldable pub mirror : ℕ → ℕ → List ℕ → List ℕ × List ℕ
unfolding add scale
mirror k n [] = ([], [])
mirror k zero (c ∷ cs) = (c ∷ [], [])
mirror k (suc n) (c ∷ cs) =
    let m = mirror k n cs in
    (add ((c * k ^ suc n) ∷ []) (add m.0 (0 ∷ scale k m.1)), add m.1 (0 ∷ scale k m.0))

module _ (k : ℕ) where
  -- the lengths
  pub length_mirror : (n : ℕ) (cs : List ℕ) → (length (mirror k n cs).0 ≤ suc n) × (length (mirror k n cs).1 ≤ suc n)
  unfolding mirror
  length_mirror n [] = (omega arith, omega arith)
  length_mirror zero (c ∷ cs) = (omega arith, omega arith)
  length_mirror (suc n) (c ∷ cs) =
      let (p, m) = length_mirror n cs in
      let P = (mirror k n cs).0 in
      let M = (mirror k n cs).1 in (
        length-add (suc (suc n)) ((c * k ^ suc n) ∷ []) (add P (0 ∷ scale k M)) (omega arith) (length-add (suc (suc n)) P (0 ∷ scale k M) (omega arith) (rw length_scale (omega arith))),
        length-add (suc (suc n)) M (0 ∷ scale k P) (omega arith) (rw length_scale (omega arith)),
      )

  -- a form times d, and k times a form times y
  both : (n : ℕ) (f g : List ℕ) (y d : ℕ) → length f ≤ suc n → value (suc n) (add f (0 ∷ scale k g)) y d ≡ d * value n f y d + k * (y * value n g y d)
  unfolding value
  both n f g y d fits = rw (value-add (suc n) f (0 ∷ scale k g) y d, raised, value_scale_by n k g y d) (omega arith)
    where
      raised : value (suc n) f y d ≡ d * value n f y d
      raised = rw (← add-one n, add_comm n 1, value_raise 1 n f y d fits, pow-one d) refl

  -- the value, where u / (k d) is the other end's distance
  pub value_mirror : (n : ℕ) (cs : List ℕ) (y d u : ℕ) → length cs ≤ suc n → u + k * y ≡ d →
      value n cs u (k * d) + value n (mirror k n cs).1 y d ≡ value n (mirror k n cs).0 y d
  unfolding mirror value
  value_mirror n [] y d u fits e = omega arith
  value_mirror zero (c ∷ []) y d u fits e = simp pow-zero (omega arith)
  value_mirror zero (c ∷ b ∷ cs) y d u fits e = absurd (omega arith)
  value_mirror (suc n) (c ∷ cs) y d u fits e =
      let (p, m) = length_mirror n cs in
      let P = (mirror k n cs).0 in
      let M = (mirror k n cs).1 in
      rw (
        both n M P y d m,
        value-add (suc n) ((c * k ^ suc n) ∷ []) (add P (0 ∷ scale k M)) y d,
        both n P M y d p,
        mul-pow k d (suc n),
      )
      (through (k ^ suc n) (d ^ suc n) (value n cs u (k * d)) (value n P y d) (value n M y d) (value_mirror n cs y d u (le_of_suc-le-suc fits) e))
    where
      through : (K D F p m : ℕ) → F + m ≡ p → c * (K * D) + u * F + (d * m + k * (y * p)) ≡ c * K * D + y * 0 + (d * p + k * (y * m))
      through K D F p m h = omega (arith, ap (λ (i : ℕ). i * F) e, ap (λ (i : ℕ). i * d) h, ap (λ (i : ℕ). i * (k * y)) h)
