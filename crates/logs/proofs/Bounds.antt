-- What the error of a logarithm in fixed point says of the first digits: 15 parts in 2 ^ 33 are less than 8 of the last of 32 digits, and 3 * 2 ^ 22 steps, from 1 on, less than 2.
-- Assumes nothing.
use Rattle.std.proofs.Common.{◌≡◌, ℕ, ◌+◌, ◌-◌, ◌*◌, ◌^◌, ◌<◌, ◌≤◌, sym, ap, ◌∙◌, mul-le-mul_right, mul_assoc, mul-lt-mul_of_pos_right, arith, lit<, pow_pos, pow_mono, pow-add}
use Rattle.exact.specs.Power.{AtMost, AtLeast}
use Rattle.exact.proofs.Exponents.{less_of_larger, more_of_smaller}
use Rattle.fixed.proofs.Rounding.{Placed}
use Rattle.logs.proofs.Told.{Known}

-- ---- over plain numbers: R is A shifted up to 64 digits, G a quarter step, K the unit of both

above : (A K R G M : ℕ) → A * K ≡ R * G → 0 < G → R < 2 ^ 64 → R + 8 * 2 ^ 32 ≤ M * 2 ^ 38 → (2 ^ 33 + 15) * A * (K * 2 ^ 16) + 0 * 2 ^ 87 < M * G * 2 ^ 87 + 0 * (K * 2 ^ 16)
above A K R G M e pos few h =
    let l : (2 ^ 33 + 15) * R * 2 ^ 16 < M * 2 ^ 87 = omega arith in
    let k : (2 ^ 33 + 15) * R * 2 ^ 16 * G < M * 2 ^ 87 * G = mul-lt-mul_of_pos_right l pos in
    omega (arith, ap (λ (i : ℕ). (2 ^ 33 + 15) * 2 ^ 16 * i) e)

below : (A K R G M : ℕ) → A * K ≡ R * G → 0 < G → R < 2 ^ 64 → M * 2 ^ 38 + 8 * 2 ^ 32 ≤ R → M * G * 2 ^ 87 + 0 * (K * 2 ^ 16) < (2 ^ 33 - 15) * A * (K * 2 ^ 16) + 0 * 2 ^ 87
below A K R G M e pos few h =
    let l : M * 2 ^ 87 < (2 ^ 33 - 15) * R * 2 ^ 16 = omega arith in
    let k : M * 2 ^ 87 * G < (2 ^ 33 - 15) * R * 2 ^ 16 * G = mul-lt-mul_of_pos_right l pos in
    omega (arith, ap (λ (i : ℕ). (2 ^ 33 - 15) * 2 ^ 16 * i) e)

-- Z is 2 ^ z, no more than 2 ^ 9
above_by : (A K R G M Z : ℕ) → A * K ≡ R * G → K ≡ Z * G → Z ≤ 2 ^ 9 → 0 < G → R + 2 * 2 ^ 32 ≤ M * 2 ^ 38 → (2 ^ 32 * A + 3 * 2 ^ 54) * (K * 2 ^ 16) + 0 * 2 ^ 86 < M * G * 2 ^ 86 + 0 * (K * 2 ^ 16)
above_by A K R G M Z e f small pos h =
    let l : R * 2 ^ 48 + 3 * 2 ^ 79 < M * 2 ^ 86 = omega arith in
    let k : (R * 2 ^ 48 + 3 * 2 ^ 79) * G < M * 2 ^ 86 * G = mul-lt-mul_of_pos_right l pos in
    let s : K ≤ 2 ^ 9 * G = rw f (mul-le-mul_right G small) in
    omega arith

below_by : (A K R G M Z : ℕ) → A * K ≡ R * G → K ≡ Z * G → Z ≤ 2 ^ 9 → 0 < G → M * 2 ^ 38 + 2 * 2 ^ 32 ≤ R → M * G * 2 ^ 86 + 3 * 2 ^ 54 * (K * 2 ^ 16) < 2 ^ 32 * A * (K * 2 ^ 16) + 0 * 2 ^ 86
below_by A K R G M Z e f small pos h =
    let l : M * 2 ^ 86 + 3 * 2 ^ 79 < R * 2 ^ 48 = omega arith in
    let k : (M * 2 ^ 86 + 3 * 2 ^ 79) * G < R * 2 ^ 48 * G = mul-lt-mul_of_pos_right l pos in
    let s : K ≤ 2 ^ 9 * G = rw f (mul-le-mul_right G small) in
    omega arith

module _ (n d A z : ℕ) (p : Placed A z) where
  abbrev G : ℕ
  G = 2 ^ (134 - z)

  unit : 2 ^ 134 ≡ 2 ^ z * G
  unit = let h : 134 ≡ z + (134 - z) = omega (arith, p.small) in ap (λ (i : ℕ). 2 ^ i) h ∙ pow-add 2 z (134 - z)

  scaled : A * 2 ^ 134 ≡ A * 2 ^ z * G
  scaled = ap (λ (i : ℕ). A * i) unit ∙ sym (mul_assoc A (2 ^ z) G)

  -- within 15 parts in 2 ^ 33
  pub relative : AtLeast n d ((2 ^ 33 - 15) * A) 0 (2 ^ 87) → AtMost n d ((2 ^ 33 + 15) * A) 0 (2 ^ 87) → Known n d A z 8
  relative least most = record {
    over = λ M h. less_of_larger (lit< tt) (above A (2 ^ 134) (A * 2 ^ z) G M scaled (pow_pos (134 - z)) p.high h) most;
    under = λ M h. more_of_smaller (lit< tt) (below A (2 ^ 134) (A * 2 ^ z) G M scaled (pow_pos (134 - z)) p.high h) least;
  }

  -- within 3 * 2 ^ 22 steps, from 1 on
  pub absolute : z ≤ 9 → AtLeast n d (2 ^ 32 * A) (3 * 2 ^ 54) (2 ^ 86) → AtMost n d (2 ^ 32 * A + 3 * 2 ^ 54) 0 (2 ^ 86) → Known n d A z 2
  absolute few least most = record {
    over = λ M h. less_of_larger (lit< tt) (above_by A (2 ^ 134) (A * 2 ^ z) G M (2 ^ z) scaled unit (pow_mono {i = z} {j = 9} few) (pow_pos (134 - z)) h) most;
    under = λ M h. more_of_smaller (lit< tt) (below_by A (2 ^ 134) (A * 2 ^ z) G M (2 ^ z) scaled unit (pow_mono {i = z} {j = 9} few) (pow_pos (134 - z)) h) least;
  }
