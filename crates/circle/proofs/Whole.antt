-- The exact cases of pi x: where 2 x is a whole number the phase is a whole number of quarters, and there the pattern is that of +0, 1, +0 or -1. Assumes nothing.
use Rattle.std.proofs.Common.{◌≡◌, ℕ, zero, suc, ◌+◌, ◌*◌, ◌/◌, ◌%◌, ◌^◌, ◌<◌, ◌≤◌, Bool, true, false, cond, get_or, sym, refl, ap, ◌∙◌, inl, inr, mul-le-mul_right, mul-div_cancel, arith, pow_pos}
use native.Mathlib.Nat.{le_dest, add-mul-mod_self_right}
use lib.Count.{count_leading_zeros}
use lib.Ieee.{Float, binary32, of_bits}
use Rattle.units.specs.Units.{mag, negative, P, N, Number}
use Rattle.units.proofs.Naturals.{le-or-lt}
use Rattle.fixed.specs.Horner.{alternating}
use Rattle.fixed.specs.Rounded.{nearest_digits, nearest_bits}
use Rattle.circle.specs.Kernel.{kernel_rest, slope_of, quarter_sine}
use Rattle.circle.specs.Wave.{forward, into_quarter, place_of, size_of, wave_bits, wave, sin_pi_of, cos_pi_of}
use Rattle.circle.specs.Promise.{quarter_bits, at_quarter}
use Rattle.circle.proofs.Near.{sin_pi_is, cos_pi_is}

-- at each quarter
at-quarter : (i : ℕ) → i < 4 → wave_bits (i * 2 ^ 62) ≡ get_or quarter_bits i 0
unfolding wave_bits size_of place_of forward into_quarter quarter_sine slope_of kernel_rest alternating nearest_bits nearest_digits count_leading_zeros
at-quarter zero h = refl
at-quarter (suc zero) h = refl
at-quarter (suc (suc zero)) h = refl
at-quarter (suc (suc (suc zero))) h = refl
at-quarter (suc (suc (suc (suc i)))) h = absurd (omega arith)

-- after n quarters
after_quarters : (n : ℕ) → wave (n % 4 * 2 ^ 62) ≡ at_quarter n
unfolding wave
after_quarters n = ap (λ (b : ℕ). of_bits binary32 b) (at-quarter (n % 4) (omega arith))

-- ---- 2 x is j or - j, and k - l
module _ (M : ℕ) (j : ℕ) (whole : 2 * M ≡ j * 2 ^ 149) where
  quarters : M / 2 ^ 86 ≡ j * 2 ^ 62
  quarters = ap (λ (n : ℕ). n / 2 ^ 86) (half M j (2 ^ 62) (2 ^ 86) whole) ∙ mul-div_cancel (j * 2 ^ 62) (pow_pos 86)
    where
      half : (M j a b : ℕ) → 2 * M ≡ j * (2 * a * b) → M ≡ j * a * b
      half M j a b e = omega arith

-- a sign's patterns: the sine of the opposite angle, and the cosine of it
same_quarter : (n m : ℕ) → n % 4 ≡ m % 4 → at_quarter n ≡ at_quarter m
same_quarter n m e = ap (λ (i : ℕ). of_bits binary32 (get_or quarter_bits i 0)) e

by_rest : (n m a b : ℕ) → n % 4 ≡ a → m % 4 ≡ b → get_or quarter_bits a 0 ≡ get_or quarter_bits b 0 → at_quarter n ≡ at_quarter m
by_rest n m a b f g h = rw (f, g) (ap (λ (p : ℕ). of_bits binary32 p) h)

-- what four leaves of a number
left : (m q c : ℕ) → m ≡ 4 * q + c → c < 4 → m % 4 ≡ c
left m q c e h = omega arith

opposite-sine : (j n : ℕ) → n % 4 ≡ 3 * j % 4 → at_quarter (j + 2) ≡ at_quarter n
opposite-sine j n e = go (j % 4) (j / 4) (omega arith) (omega arith)
  where
    go : (i q : ℕ) → i < 4 → j ≡ 4 * q + i → at_quarter (j + 2) ≡ at_quarter n
    go zero q h f = by_rest (j + 2) n 2 0 (left (j + 2) q 2 (omega arith) (omega arith)) (e ∙ left (3 * j) (3 * q) 0 (omega arith) (omega arith)) refl
    go (suc zero) q h f = by_rest (j + 2) n 3 3 (left (j + 2) q 3 (omega arith) (omega arith)) (e ∙ left (3 * j) (3 * q) 3 (omega arith) (omega arith)) refl
    go (suc (suc zero)) q h f = by_rest (j + 2) n 0 2 (left (j + 2) (q + 1) 0 (omega arith) (omega arith)) (e ∙ left (3 * j) (3 * q + 1) 2 (omega arith) (omega arith)) refl
    go (suc (suc (suc zero))) q h f = by_rest (j + 2) n 1 1 (left (j + 2) (q + 1) 1 (omega arith) (omega arith)) (e ∙ left (3 * j) (3 * q + 2) 1 (omega arith) (omega arith)) refl
    go (suc (suc (suc (suc i)))) q h f = absurd (omega arith)

opposite-cosine : (j n : ℕ) → n % 4 ≡ (3 * j + 1) % 4 → at_quarter (j + 1) ≡ at_quarter n
opposite-cosine j n e = go (j % 4) (j / 4) (omega arith) (omega arith)
  where
    go : (i q : ℕ) → i < 4 → j ≡ 4 * q + i → at_quarter (j + 1) ≡ at_quarter n
    go zero q h f = by_rest (j + 1) n 1 1 (left (j + 1) q 1 (omega arith) (omega arith)) (e ∙ left (3 * j + 1) (3 * q) 1 (omega arith) (omega arith)) refl
    go (suc zero) q h f = by_rest (j + 1) n 2 0 (left (j + 1) q 2 (omega arith) (omega arith)) (e ∙ left (3 * j + 1) (3 * q + 1) 0 (omega arith) (omega arith)) refl
    go (suc (suc zero)) q h f = by_rest (j + 1) n 3 3 (left (j + 1) q 3 (omega arith) (omega arith)) (e ∙ left (3 * j + 1) (3 * q + 1) 3 (omega arith) (omega arith)) refl
    go (suc (suc (suc zero))) q h f = by_rest (j + 1) n 0 2 (left (j + 1) (q + 1) 0 (omega arith) (omega arith)) (e ∙ left (3 * j + 1) (3 * q + 2) 2 (omega arith) (omega arith)) refl
    go (suc (suc (suc (suc i)))) q h f = absurd (omega arith)

-- whole turns more
turns_more : (n m q : ℕ) → n ≡ m + q * 4 → n % 4 ≡ m % 4
turns_more n m q e = ap (λ (k : ℕ). k % 4) e ∙ add-mul-mod_self_right m q 4

-- a difference of two whole numbers
difference : (M k l U : ℕ) → 0 < U → 2 * M + l * U ≡ 2 * 0 + k * U → (j : ℕ) × (l + j ≡ k) × (2 * M ≡ j * U)
difference M k l U pos e = elim (le-or-lt l k) [
  | inl h ↦ let (j, s) = le_dest h in (j, s, omega (arith, ap (λ (n : ℕ). n * U) s))
  | inr h ↦ absurd (let more : suc k * U ≤ l * U = mul-le-mul_right U h in omega arith)
]

module _ (x : Float) (h : Number x) (k l : ℕ) where
  -- the phase, by the sign
  pub sin_pi_whole : 2 * P x + l * 2 ^ 149 ≡ 2 * N x + k * 2 ^ 149 → sin_pi_of x ≡ at_quarter (k + 3 * l)
  sin_pi_whole e = sin_pi_is x h ∙ go (negative x) (mag x) e
    where
      go : (s : Bool) (M : ℕ) → 2 * cond s 0 M + l * 2 ^ 149 ≡ 2 * cond s M 0 + k * 2 ^ 149 → wave ((M / 2 ^ 86 % 2 ^ 64 + cond s 1 0 * 2 ^ 63) % 2 ^ 64) ≡ at_quarter (k + 3 * l)
      go false M e =
          let (j, s, w) = difference M k l (2 ^ 149) (pow_pos 149) e in
          let place : (j * 2 ^ 62 % 2 ^ 64 + 0) % 2 ^ 64 ≡ j % 4 * 2 ^ 62 = omega arith in
          rw (quarters M j w, place) (after_quarters j ∙ same_quarter j (k + 3 * l) (sym (turns_more (k + 3 * l) j l (omega arith))))
      go true M e =
          let (j, s, w) = difference M l k (2 ^ 149) (pow_pos 149) (sym e) in
          let place : (j * 2 ^ 62 % 2 ^ 64 + 2 ^ 63) % 2 ^ 64 ≡ (j + 2) % 4 * 2 ^ 62 = omega arith in
          rw (quarters M j w, place) (after_quarters (j + 2) ∙ opposite-sine j (k + 3 * l) (turns_more (k + 3 * l) (3 * j) k (omega arith)))

  pub cos_pi_whole : 2 * P x + l * 2 ^ 149 ≡ 2 * N x + k * 2 ^ 149 → cos_pi_of x ≡ at_quarter (k + 3 * l + 1)
  cos_pi_whole e = cos_pi_is x h ∙ go (negative x) (mag x) e
    where
      go : (s : Bool) (M : ℕ) → 2 * cond s 0 M + l * 2 ^ 149 ≡ 2 * cond s M 0 + k * 2 ^ 149 → wave ((M / 2 ^ 86 + 2 ^ 62) % 2 ^ 64) ≡ at_quarter (k + 3 * l + 1)
      go false M e =
          let (j, s, w) = difference M k l (2 ^ 149) (pow_pos 149) e in
          let place : (j * 2 ^ 62 + 2 ^ 62) % 2 ^ 64 ≡ (j + 1) % 4 * 2 ^ 62 = omega arith in
          rw (quarters M j w, place) (after_quarters (j + 1) ∙ same_quarter (j + 1) (k + 3 * l + 1) (sym (turns_more (k + 3 * l + 1) (j + 1) l (omega arith))))
      go true M e =
          let (j, s, w) = difference M l k (2 ^ 149) (pow_pos 149) (sym e) in
          let place : (j * 2 ^ 62 + 2 ^ 62) % 2 ^ 64 ≡ (j + 1) % 4 * 2 ^ 62 = omega arith in
          rw (quarters M j w, place) (after_quarters (j + 1) ∙ opposite-cosine j (k + 3 * l + 1) (turns_more (k + 3 * l + 1) (3 * j + 1) k (omega arith)))
