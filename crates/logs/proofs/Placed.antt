-- The middle that is near a logarithm has its whole part: no whole number lies between them, since a middle is an odd number of half steps and whole numbers are even ones. So its
-- fraction is what the program makes of it. Assumes nothing.
use Rattle.std.proofs.Common.{◌≡◌, ℕ, ◌+◌, ◌-◌, ◌*◌, ◌%◌, ◌^◌, ◌<◌, ◌≤◌, sym, ap, ◌∙◌, le_of_eq, lt_of_lt_of_le, mod-eq_of_lt, add-mul, mul-lt-mul_of_pos_right, arith}
use native.Mathlib.Nat.{add-mul-mod_self_right}

-- an odd number M of half steps, of which 2 c are 1, is v more than e: above log2 1
pub record Above (M c e v : ℕ) : Type 0 where
  pub whole : 127 * (2 * c) + M ≡ v + e * (2 * c)
  pub some : 0 < v
  pub less : v < 2 * c

-- or below it
pub record Below (M c e v : ℕ) : Type 0 where
  pub whole : 127 * (2 * c) ≡ v + e * (2 * c) + M
  pub some : 0 < v
  pub less : v < 2 * c

-- ---- a logarithm of W small steps, of which c 2 ^ 40 are 1 and 2 ^ 39 a half step, at the distance R from log2 1
module _ (c e s R W : ℕ) (low : e * (c * 2 ^ 40) ≤ W) (high : W < (e + 1) * (c * 2 ^ 40)) (up : R ≤ (2 * s + 1) * 2 ^ 39 + 2 ^ 35) (down : (2 * s + 1) * 2 ^ 39 ≤ R + 2 ^ 35) where
  pub placed_above : W ≡ 127 * (c * 2 ^ 40) + R → (v : ℕ) × Above (2 * s + 1) c e v
  placed_above h =
      let l = over (e * c) (omega arith) in
      let k = under (e * c) (omega arith) in
      (127 * (2 * c) + (2 * s + 1) - e * (2 * c), record { whole = back (e * c) l; some = first (e * c) l; less = last (e * c) l k })
    where
      over : (p : ℕ) → p * 2 ^ 40 ≤ 127 * (c * 2 ^ 40) + R → p * 2 ≤ 127 * (2 * c) + (2 * s + 1)
      over p g = omega arith

      under : (p : ℕ) → 127 * (c * 2 ^ 40) + R < p * 2 ^ 40 + c * 2 ^ 40 → 127 * (2 * c) + (2 * s + 1) < p * 2 + 2 * c
      under p g = omega arith

      back : (p : ℕ) → e * c * 2 ≤ 127 * (2 * c) + (2 * s + 1) → 127 * (2 * c) + (2 * s + 1) ≡ 127 * (2 * c) + (2 * s + 1) - e * (2 * c) + e * (2 * c)
      back p g = omega arith

      first : (p : ℕ) → e * c * 2 ≤ 127 * (2 * c) + (2 * s + 1) → 0 < 127 * (2 * c) + (2 * s + 1) - e * (2 * c)
      first p g = omega arith

      last : (p : ℕ) → e * c * 2 ≤ 127 * (2 * c) + (2 * s + 1) → 127 * (2 * c) + (2 * s + 1) < e * c * 2 + 2 * c → 127 * (2 * c) + (2 * s + 1) - e * (2 * c) < 2 * c
      last p g l = omega arith

  pub placed_below : W + R ≡ 127 * (c * 2 ^ 40) → (v : ℕ) × Below (2 * s + 1) c e v
  placed_below h =
      let l = over (e * c) (omega arith) in
      let k = under (e * c) (omega arith) in
      (127 * (2 * c) - (e * (2 * c) + (2 * s + 1)), record { whole = omega arith; some = omega arith; less = omega arith })
    where
      over : (p : ℕ) → p * 2 ^ 40 + R ≤ 127 * (c * 2 ^ 40) → p * 2 + (2 * s + 1) ≤ 127 * (2 * c)
      over p g = omega arith

      under : (p : ℕ) → 127 * (c * 2 ^ 40) < p * 2 ^ 40 + c * 2 ^ 40 + R → 127 * (2 * c) < p * 2 + 2 * c + (2 * s + 1)
      under p g = omega arith

-- ---- the fraction, in units of which a make a half step and K a whole: 2 c a = K
module _ (M c e v a K : ℕ) (unit : 2 * c * a ≡ K) (apos : 0 < a) where
  fits : (k : ℕ) → k < 2 * c → k * a < K
  fits k h = lt_of_lt_of_le (mul-lt-mul_of_pos_right h apos) (le_of_eq unit)

  pub fraction_above : Above M c e v → 127 ≤ e → M * a % K ≡ v * a
  fraction_above h l = ap (λ (i : ℕ). i % K) split ∙ add-mul-mod_self_right (v * a) (e - 127) K ∙ mod-eq_of_lt (fits v h.less)
    where
      split : M * a ≡ v * a + (e - 127) * K
      split = through (e - 127) (omega arith)
        where
          through : (j : ℕ) → e ≡ 127 + j → M * a ≡ v * a + j * K
          through j f =
              let g : 127 * (2 * c) + M ≡ v + (127 + j) * (2 * c) = h.whole ∙ ap (λ (i : ℕ). v + i * (2 * c)) f in
              let k : M ≡ v + j * (2 * c) = omega arith in
              ap (λ (i : ℕ). i * a) k ∙ omega (arith, ap (λ (i : ℕ). j * i) unit)

  pub fraction_below : Below M c e v → e ≤ 126 → (K - M * a % K) % K ≡ v * a
  fraction_below h l = go (2 * c - v) (omega (arith, h.less)) (omega (arith, h.some, h.less))
    where
      go : (k : ℕ) → k + v ≡ 2 * c → k < 2 * c → (K - M * a % K) % K ≡ v * a
      go k filled fewer = ap (λ (i : ℕ). (K - i) % K) rest ∙ ap (λ (i : ℕ). i % K) back ∙ mod-eq_of_lt (fits v h.less)
        where
          through : (j : ℕ) → 126 ≡ e + j → M * a ≡ k * a + j * K
          through j f =
              let g : 127 * (2 * c) ≡ v + e * (2 * c) + M = h.whole in
              let i' : 126 * (2 * c) ≡ (e + j) * (2 * c) = ap (λ (i : ℕ). i * (2 * c)) f in
              let m : M ≡ k + j * (2 * c) = omega (arith, filled) in
              ap (λ (i : ℕ). i * a) m ∙ omega (arith, ap (λ (i : ℕ). j * i) unit)

          rest : M * a % K ≡ k * a
          rest = ap (λ (i : ℕ). i % K) (through (126 - e) (omega arith)) ∙ add-mul-mod_self_right (k * a) (126 - e) K ∙ mod-eq_of_lt (fits k fewer)

          sum : k * a + v * a ≡ K
          sum = sym (add-mul k v a) ∙ ap (λ (i : ℕ). i * a) filled ∙ unit

          back : K - k * a ≡ v * a
          back = omega (arith, sum)
