-- The factor of a fitted segment: k steps over the word h of its span, in steps of 2 ^ -65. Its product with a word is that word's quotient, to the nearest step. Assumes nothing.
use Rattle.std.proofs.Common.{◌≡◌, ℕ, suc, ◌+◌, ◌*◌, ◌/◌, ◌<◌, ◌≤◌, inl, inr, mul-le-mul_right, mul-le-mul_left, div-mul-le_self, arith}
use native.Mathlib.Nat.{lt-div-mul-add}
use Rattle.units.proofs.Naturals.{le-or-lt}
use Rattle.loudness.specs.Value.{nearest_step}
use Rattle.loudness.specs.Words.{factor_of}

-- F is k 2 ^ 65 / h, or a little more
pub record Close (k h F : ℕ) : Type 0 where
  pub full : 2147483648 ≤ h
  pub word : h < 4294967296
  pub least : k * 36893488147419103232 ≤ F * h
  pub most : F * h ≤ k * 36893488147419103232 + 4294967296

-- the factor is
pub factor_close : (k h : ℕ) → 2147483648 ≤ h → h < 4294967296 → Close k h (factor_of k h)
unfolding factor_of
factor_close k h f w =
    let n = k * 36893488147419103232 in
    through (n / h) (div-mul-le_self n h) (lt-div-mul-add {a = n} {b = h} (omega arith))
  where
    through : (q : ℕ) → q * h ≤ k * 36893488147419103232 → k * 36893488147419103232 < q * h + h → Close k h (q + 1)
    through q a b = record { full = f; word = w; least = omega arith; most = omega arith }

-- and has 44 digits
pub factor_few : (k h : ℕ) → k ≤ 1023 → 2147483648 ≤ h → factor_of k h < 17592186044416
unfolding factor_of
factor_few k h few f = through (k * 36893488147419103232 / h) (div-mul-le_self (k * 36893488147419103232) h)
  where
    through : (q : ℕ) → q * h ≤ k * 36893488147419103232 → q + 1 < 17592186044416
    through q a = let b = mul-le-mul_left q f in omega arith

-- ---- a word N times such a factor
module _ (k h F N : ℕ) (cl : Close k h F) where
  abbrev X : ℕ
  X = N * F / 18446744073709551616

  product_least : N * k * 36893488147419103232 ≤ N * F * h
  product_least = turned (mul-le-mul_left N cl.least)
    where
      turned : N * (k * 36893488147419103232) ≤ N * (F * h) → N * k * 36893488147419103232 ≤ N * F * h
      turned l = omega arith

  product_most : N * F * h ≤ N * k * 36893488147419103232 + N * 4294967296
  product_most = turned (mul-le-mul_left N cl.most)
    where
      turned : N * (F * h) ≤ N * (k * 36893488147419103232 + 4294967296) → N * F * h ≤ N * k * 36893488147419103232 + N * 4294967296
      turned l = omega arith

  -- up to the span: the quotient, to the nearest whole number
  pub nearest : N ≤ h → (X + 1) / 2 ≡ nearest_step k N h
  unfolding nearest_step
  nearest nh =
      let p = k * N + h / 2 in
      let f = cl.full in
      let l = div-mul-le_self p h in
      let u = lt-div-mul-add {a = p} {b = h} (omega arith) in
      let few : N * 4294967296 < 18446744073709551616 = let w = cl.word in omega arith in
      let low : p / h * 2 ≤ X + 1 = elim (le-or-lt (p / h * 2) (X + 1)) [ inl g ↦ g | inr g ↦ absurd (too_small (p / h) X (N * F) 18446744073709551616 l (omega arith) g product_least) ] in
      let high : X ≤ p / h * 2 = elim (le-or-lt X (p / h * 2)) [ inl g ↦ g | inr g ↦ absurd (too_large (p / h) X (N * F) 18446744073709551616 u (omega arith) g product_most few) ] in
      halves (p / h) X low high
    where
      -- with any number E for 2 ^ 64
      too_small : (i x G E : ℕ) → i * h ≤ k * N + h / 2 → G < (x + 1) * E → x + 1 < i * 2 → N * k * (2 * E) ≤ G * h → ⊥
      too_small i x G E l g less pl =
          let f = cl.full in
          let a = mul-le-mul_right h g in
          let b = mul-le-mul_right h less in
          let c = mul-le-mul_right E (below b) in
          omega arith
        where
          below : suc (x + 1) * h ≤ i * 2 * h → (x + 1) * h ≤ 2 * (k * N)
          below b = omega arith

      too_large : (i x G E : ℕ) → k * N + h / 2 < i * h + h → x * E ≤ G → i * 2 < x → G * h ≤ N * k * (2 * E) + N * 4294967296 → N * 4294967296 < E → ⊥
      too_large i x G E u g more pm few =
          let a = mul-le-mul_right h g in
          let b = mul-le-mul_right h more in
          let c = mul-le-mul_right E (above b) in
          omega arith
        where
          above : suc (i * 2) * h ≤ x * h → 2 * (k * N) + 1 ≤ x * h
          above b = omega arith

      halves : (i x : ℕ) → i * 2 ≤ x + 1 → x ≤ i * 2 → (x + 1) / 2 ≡ i
      halves i x a b = omega arith

  -- from the span on: all steps
  pub all_steps : h ≤ N → k ≤ (X + 1) / 2
  all_steps hn = through (N * F) (mul-le-mul_right F hn) cl.least
    where
      through : (G : ℕ) → h * F ≤ G → k * 36893488147419103232 ≤ F * h → k ≤ (G / 18446744073709551616 + 1) / 2
      through G a b = omega arith
