-- The whole turn: at every phase, what is computed is the sine, and a quarter on the cosine, within 13 / 2 units of 2 ^ -32. Assumes nothing.
use Rattle.std.proofs.Common.{◌≡◌, ℕ, zero, suc, ◌+◌, ◌-◌, ◌*◌, ◌/◌, ◌%◌, ◌^◌, ◌<◌, ◌≤◌, true, false, sym, refl, ap, ◌∙◌, inl, inr, le_trans, le_of_lt, mul-le-mul_right, div-lt_iff_lt-mul, mul-pos, arith, lit<, lit≤, pow_pos, le-ltb, lt-ltb, eq-eqb, ne_eqb}
use native.Mathlib.Nat.{one-le-pow}
use Rattle.units.proofs.Naturals.{le-or-lt}
use Rattle.exact.specs.Polynomial.{value}
use Rattle.exact.proofs.Approximation.{near_instead}
use Rattle.exact.specs.Circle.{quarter, quarter_unit}
use Rattle.exact.proofs.Limits.{near_wider, Both, both_wider}
use Rattle.exact.proofs.Quarter.{fine, fine_pos}
use Rattle.exact.proofs.Turns.{turned0, turned1, turned2, turned3}
use Rattle.circle.specs.Kernel.{quarter_sine}
use Rattle.circle.specs.Wave.{forward, into_quarter, place_of, size_of}
use Rattle.circle.proofs.Method.{D, part, mirrored, sine-near, cosine-near, mirrored_same}
use Rattle.circle.proofs.Rounding.{quarter_most, quarter_least}
use Rattle.circle.proofs.Pattern.{plus_of, minus_of}

-- ---- one quarter

-- w / D is x / d cut off, and v / D is y / d, what is left of the quarter
pub record Cut (w x d : ℕ) : Type 0 where
  pub few : w < D
  pub low : w * d ≤ x * D
  pub high : x * D ≤ (w + 1) * d

module _ (w v x y d : ℕ) (pos : 0 < d) (whole : y + x ≡ d) (a : Cut w x d) (b : Cut v y d) where
  pub quarter_near : Both (quarter * x) (quarter_unit * d) (quarter_sine v) 0 (quarter_sine w) 0 D 25 (4 * D)
  quarter_near = record {
    cosine =
        near_wider (lit< tt) (lit≤ tt)
        (near_instead (quarter_sine v) 0 6 (one-le-pow 11 d pos) cosine_low cosine_high (cosine-near x d pos (omega arith)));
    sine =
        near_wider (lit< tt) (lit≤ tt)
        (near_instead (quarter_sine w) 0 6 (one-le-pow 11 d pos) sine_low sine_high (sine-near x d pos (omega arith)));
  }
    where
      sine_low : quarter_sine w * d ^ 11 + value 11 (part false) x d ≤ value 11 (part true) x d + 0 * d ^ 11 + 6 * d ^ 11
      sine_low = omega (arith, quarter_most w x d a.few pos (omega arith) a.low a.high)

      sine_high : value 11 (part true) x d + 0 * d ^ 11 ≤ quarter_sine w * d ^ 11 + value 11 (part false) x d + 6 * d ^ 11
      sine_high = omega (arith, quarter_least w x d a.few pos (omega arith) a.low a.high)

      cosine_low : quarter_sine v * d ^ 11 + value 11 (mirrored false) x d ≤ value 11 (mirrored true) x d + 0 * d ^ 11 + 6 * d ^ 11
      cosine_low = omega (arith, mirrored_same x y d whole, quarter_most v y d b.few pos (omega arith) b.low b.high)

      cosine_high : value 11 (mirrored true) x d + 0 * d ^ 11 ≤ quarter_sine v * d ^ 11 + value 11 (mirrored false) x d + 6 * d ^ 11
      cosine_high = omega (arith, mirrored_same x y d whole, quarter_least v y d b.few pos (omega arith) b.low b.high)

-- ---- a phase, by its quarter

-- the phase t is r into its quarter
module _ (t r : ℕ) (rest : t % 2 ^ 62 ≡ r) where
  digits : t / 2 ^ 30 % 2 ^ 32 ≡ r / 2 ^ 30
  digits = omega arith

  even_size : t / 2 ^ 62 % 2 ≡ 0 → size_of t ≡ quarter_sine (r / 2 ^ 30)
  unfolding size_of place_of forward into_quarter
  even_size e = rw (eq-eqb (t / 2 ^ 62 % 2) 0 e) (ap quarter_sine digits)

  odd_size : t / 2 ^ 62 % 2 ≡ 1 → size_of t ≡ quarter_sine (4294967295 - r / 2 ^ 30)
  unfolding size_of place_of forward into_quarter
  odd_size e = rw (ne_eqb (t / 2 ^ 62 % 2) 0 (λ z. omega arith)) (ap (λ (n : ℕ). quarter_sine (4294967295 - n)) digits)

  -- the sign, by the half of the turn
  above : {n : ℕ} → t < 2 ^ 63 → size_of t ≡ n → (plus_of t ≡ n) × (minus_of t ≡ 0)
  unfolding plus_of minus_of
  above h e = rw (lt-ltb t (2 ^ 63) h) (e, refl)

  under : {n : ℕ} → 2 ^ 63 ≤ t → size_of t ≡ n → (plus_of t ≡ 0) × (minus_of t ≡ n)
  unfolding plus_of minus_of
  under h e = rw (le-ltb t (2 ^ 63) h) (refl, e)

  -- by the quarter
  at0 : t / 2 ^ 62 ≡ 0 → (plus_of t ≡ quarter_sine (r / 2 ^ 30)) × (minus_of t ≡ 0)
  at0 e = above (omega arith) (even_size (omega arith))

  at1 : t / 2 ^ 62 ≡ 1 → (plus_of t ≡ quarter_sine (4294967295 - r / 2 ^ 30)) × (minus_of t ≡ 0)
  at1 e = above (omega arith) (odd_size (omega arith))

  at2 : t / 2 ^ 62 ≡ 2 → (plus_of t ≡ 0) × (minus_of t ≡ quarter_sine (r / 2 ^ 30))
  at2 e = under (omega arith) (even_size (omega arith))

  at3 : t / 2 ^ 62 ≡ 3 → (plus_of t ≡ 0) × (minus_of t ≡ quarter_sine (4294967295 - r / 2 ^ 30))
  at3 e = under (omega arith) (odd_size (omega arith))

-- what four equations say, put into the bounds
instead : {p q C C' S S' U a b c c' s s' : ℕ} → (c ≡ C) × (c' ≡ C') → (s ≡ S) × (s' ≡ S') → Both p q C C' S S' U a b → Both p q c c' s s' U a b
instead (e, e''') (f, f') h = rw (e, e''', f, f') h

-- ---- every phase, in whole turns and quarters
module _ (t : ℕ) (small : t < 2 ^ 200) where
  abbrev k : ℕ
  k = t / 2 ^ 62

  abbrev r : ℕ
  r = t % 2 ^ 62

  abbrev w : ℕ
  w = r / 2 ^ 30

  abbrev v : ℕ
  v = 4294967295 - w

  abbrev here : ℕ
  here = t % 2 ^ 64

  abbrev on : ℕ
  on = (t + 2 ^ 62) % 2 ^ 64

  within : Both (quarter * r) (quarter_unit * 2 ^ 62) (quarter_sine v) 0 (quarter_sine w) 0 D 25 (4 * D)
  within =
      quarter_near w v r (2 ^ 62 - r) (2 ^ 62) (lit< tt) (omega arith)
      (record { few = omega arith; low = omega arith; high = omega arith }) (record { few = omega arith; low = omega arith; high = omega arith })

  -- the place, after k quarters
  placed : {C C' S S' U a b : ℕ} → Both (quarter * (k * 2 ^ 62 + r)) (quarter_unit * 2 ^ 62) C C' S S' U a b → Both (quarter * t) (quarter_unit * 2 ^ 62) C C' S S' U a b
  placed h = let e : k * 2 ^ 62 + r ≡ t = omega arith in rw e at h

  -- a turn of so many quarters costs next to nothing
  few_quarters : k * 2 ^ 34 ≤ fine
  unfolding fine
  few_quarters =
      let l : k ≤ 2 ^ 138 = le_of_lt ((div-lt_iff_lt-mul (pow_pos 62)).1 small) in
      le_trans (mul-le-mul_right (2 ^ 34) l) (lit≤ tt)

  wider : {p q C C' S S' U : ℕ} → Both p q C C' S S' U (25 * fine + k * (4 * D)) (4 * D * fine) → Both p q C C' S S' U 13 (2 * D)
  wider h = both_wider (mul-pos (lit< tt) fine_pos) (through k fine few_quarters) h
    where
      through : (k f : ℕ) → k * 2 ^ 34 ≤ f → (25 * f + k * (4 * D)) * (2 * D) ≤ 13 * (4 * D * f)
      through k f h = omega arith

  -- what is computed here, and a quarter on
  pub phase_near : Both (quarter * t) (quarter_unit * 2 ^ 62) (plus_of on) (minus_of on) (plus_of here) (minus_of here) D 13 (2 * D)
  phase_near = go (k % 4) refl
    where
      bpos : 0 < 4 * D
      bpos = lit< tt

      rest : here % 2 ^ 62 ≡ r
      rest = omega arith

      rest_on : on % 2 ^ 62 ≡ r
      rest_on = omega arith

      go : (i : ℕ) → k % 4 ≡ i → Both (quarter * t) (quarter_unit * 2 ^ 62) (plus_of on) (minus_of on) (plus_of here) (minus_of here) D 13 (2 * D)
      go zero e = instead (at1 on r rest_on (omega arith)) (at0 here r rest (omega arith)) (placed (wider (turned0 r (2 ^ 62) k (pow_pos 62) bpos within e)))
      go (suc zero) e = instead (at2 on r rest_on (omega arith)) (at1 here r rest (omega arith)) (placed (wider (turned1 r (2 ^ 62) k (pow_pos 62) bpos within e)))
      go (suc (suc zero)) e = instead (at3 on r rest_on (omega arith)) (at2 here r rest (omega arith)) (placed (wider (turned2 r (2 ^ 62) k (pow_pos 62) bpos within e)))
      go (suc (suc (suc zero))) e = instead (at0 on r rest_on (omega arith)) (at3 here r rest (omega arith)) (placed (wider (turned3 r (2 ^ 62) k (pow_pos 62) bpos within e)))
      go (suc (suc (suc (suc i)))) e = absurd (omega arith)

-- ---- half a turn on, the opposite
module _ (t : ℕ) (few : t < 2 ^ 64) where
  abbrev across : ℕ
  across = (t + 2 ^ 63) % 2 ^ 64

  same_size : size_of across ≡ size_of t
  unfolding size_of place_of forward into_quarter
  same_size =
      let e : across / 2 ^ 62 % 2 ≡ t / 2 ^ 62 % 2 = omega arith in
      let f : across / 2 ^ 30 % 2 ^ 32 ≡ t / 2 ^ 30 % 2 ^ 32 = omega arith in
      rw (e, f) refl

  pub opposite : (plus_of across ≡ minus_of t) × (minus_of across ≡ plus_of t)
  opposite = elim (le-or-lt (2 ^ 63) t) [
    | inl h ↦
        let (p, m) = under t _ refl h refl in
        let (p', m') = above across _ refl (omega arith) same_size in
        (p' ∙ sym m, m' ∙ sym p)
    | inr h ↦
        let (p, m) = above t _ refl h refl in
        let (p', m') = under across _ refl (omega arith) same_size in
        (p' ∙ sym m, m' ∙ sym p)
  ]
