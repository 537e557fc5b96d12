-- Open digits: their x is not near zero, its fraction is taken whole, and 2 to that fraction keeps away from the middles of floats, since the fraction is that of a float in
-- `Rising` or `Falling`, or a multiple of 2 ^ -24. Assumes nothing.
use Rattle.std.proofs.Common.{◌≡◌, ℕ, zero, suc, ◌+◌, ◌-◌, ◌*◌, ◌/◌, ◌%◌, ◌^◌, ◌<◌, ◌≤◌, true, sym, ap, ◌∙◌, subst, ap₂, inl, inr, le_trans, le_of_eq, le_refl, lt_of_lt_of_le, lt_of_le_of_lt, le_of_lt, mul_assoc, mul_comm, div-lt_iff_lt-mul, mul-le-mul_left, mul-lt-mul_of_pos_right, mul-pos, pow-suc, arith, lit<, lit≤, pow_pos, pow_mono, pow-add, leb-true}
use native.Mathlib.Nat.{mul-sub}
use lib.Ieee.{Float}
use Rattle.units.specs.Units.{mag, P, N}
use Rattle.units.proofs.Naturals.{le-or-lt, pow_split}
use Rattle.units.proofs.Signs.{sides}
use Rattle.gaps.specs.Apart.{OffMiddles, Rising, Falling}
use Rattle.powers.specs.Exp2.{Accepts}
use Rattle.powers.specs.Raised.{raised}
use Rattle.powers.specs.Value.{cut_of, open_lower, open_upper, is_left_open, fraction_of}
use Rattle.powers.proofs.Method.{D, raised-zero, raised_mono, raised_top, raised_near_one, raised_near_two}
use Rattle.powers.proofs.Places.{Placed, placed, places_from, in_cut, cut_plus, cut_minus, fraction_plus, fraction_minus, minus_room}

-- ---- the fraction of what is open

-- digits so near to 1, or to 2, are not open
away_one : (R : ℕ) → D ≤ R → R ≤ D + 247 → (R + 256 + open_lower) % 512 ≤ open_lower + open_upper → ⊥
away_one R l h o = omega arith

away_two : (R : ℕ) → 2 * D ≤ R + 253 → R ≤ 2 * D → (R + 256 + open_lower) % 512 ≤ open_lower + open_upper → ⊥
away_two R l h o = omega arith

pub open_fraction : (f : ℕ) → f ≤ D → is_left_open (raised f) ≡ true → (256 < f) × (f < D - 128)
unfolding is_left_open
open_fraction f small opened = (elim (le-or-lt f 256) [ inl h ↦ absurd (low h) | inr h ↦ h ], elim (le-or-lt (D - 128) f) [ inl h ↦ absurd (high h) | inr h ↦ h ])
  where
    near : (raised f + 256 + open_lower) % 512 ≤ open_lower + open_upper
    near = leb-true ((raised f + 256 + open_lower) % 512) (open_lower + open_upper) opened

    low : f ≤ 256 → ⊥
    low h = away_one (raised f) (le_trans (le_of_eq (sym raised-zero)) (raised_mono (omega arith))) (le_trans (raised_mono h) raised_near_one) near

    high : D - 128 ≤ f → ⊥
    high h = away_two (raised f) (le_trans raised_near_two (more (raised_mono h))) (raised_top f small) near
      where
        more : {a b : ℕ} → a ≤ b → a + 253 ≤ b + 253
        more l = omega arith

-- ---- points: fractions t / 2 ^ 64 that keep away
pub record Point (t : ℕ) : Type 0 where
  pub p : ℕ
  pub q : ℕ
  pub per : 0 < q
  pub same : p * 2 ^ 64 ≡ t * q
  pub off : OffMiddles p q

-- shifted to the left a number below 2 ^ 24 has 24 digits
shift : (n u : ℕ) → u < 2 ^ 24 → 2 ^ 23 ≤ u * 2 ^ n → (i : ℕ) × (i ≤ n) × (2 ^ 23 ≤ u * 2 ^ i) × (u * 2 ^ i < 2 ^ 24)
shift zero u few many = (0, le_refl 0, many, lt_of_le_of_lt (le_of_eq (one u)) few)
  where
    one : (u : ℕ) → u * 1 ≡ u
    one u = omega arith
shift (suc n) u few many = elim (le-or-lt (2 ^ 23) (u * 2 ^ n)) [
  | inl h ↦ let (i, l, a, b) = shift n u few h in (i, omega arith, a, b)
  | inr h ↦ (suc n, le_refl (suc n), many, lt_of_le_of_lt (le_of_eq (twice u (2 ^ n) (2 ^ suc n) (pow-suc 2 n))) (below (u * 2 ^ n) h))
]
  where
    twice : (u a b : ℕ) → b ≡ a * 2 → u * b ≡ 2 * (u * a)
    twice u a b e = rw e (omega arith)

    below : (v : ℕ) → v < 2 ^ 23 → 2 * v < 2 ^ 24
    below v l = omega arith

-- 64 places, in two parts
places : (j : ℕ) → j ≤ 40 → 2 ^ 64 ≡ 2 ^ j * 2 ^ (41 - j + 23)
places j h = let e : 64 ≡ j + (41 - j + 23) = omega arith in ap (λ (n : ℕ). 2 ^ n) e ∙ pow-add 2 j (41 - j + 23)

module _ (rising : Rising) where
  -- a multiple of 2 ^ -24, as a float from 2 ^ -24 to 1
  multiple : (u : ℕ) → 0 < u → u < 2 ^ 24 → Point (u * 2 ^ 40)
  multiple u above few =
      let (i, l, a, b) = shift 23 u few (at_least u above) in
      record {
        p = u * 2 ^ i;
        q = 2 ^ (i + 1 + 23);
        per = pow_pos (i + 1 + 23);
        same = rw (placed i) (regroup u (2 ^ i));
        off = rising (i + 1) (u * 2 ^ i) (omega arith) (omega arith) a b;
      }
    where
      at_least : (u : ℕ) → 0 < u → 2 ^ 23 ≤ u * 2 ^ 23
      at_least u h = omega arith

      placed : (i : ℕ) → 2 ^ (i + 1 + 23) ≡ 2 ^ i * 2 ^ 24
      placed i = ap (λ (n : ℕ). 2 ^ n) (omega arith) ∙ pow-add 2 i 24

      regroup : (u v : ℕ) → u * v * 2 ^ 64 ≡ u * 2 ^ 40 * (v * 2 ^ 24)
      regroup u v = omega arith

  -- a float from 2 ^ -24 to 1 itself
  itself : (m j : ℕ) → 2 ^ 23 ≤ m → m < 2 ^ 24 → 17 ≤ j → j ≤ 40 → Point (m * 2 ^ j)
  itself m j least digits low high = record {
    p = m;
    q = 2 ^ (41 - j + 23);
    per = pow_pos (41 - j + 23);
    same = ap (λ (n : ℕ). m * n) (places j high) ∙ sym (mul_assoc m (2 ^ j) (2 ^ (41 - j + 23)));
    off = rising (41 - j) m (omega arith) (omega arith) least digits;
  }

-- 1 less a float from 2 ^ -25 to 1 / 2
less : Falling → (m j : ℕ) → 2 ^ 23 ≤ m → m < 2 ^ 24 → 16 ≤ j → j ≤ 39 → Point (2 ^ 64 - m * 2 ^ j)
less falling m j least digits low high = record {
  p = 2 ^ (41 - j + 23) - m;
  q = 2 ^ (41 - j + 23);
  per = pow_pos (41 - j + 23);
  same = regroup m (2 ^ j) (2 ^ (41 - j + 23)) (2 ^ 64) (places j (le_trans high (lit≤ tt)));
  off = falling (41 - j) m (omega arith) (omega arith) least digits;
}
  where
    regroup : (m u q w : ℕ) → w ≡ u * q → (q - m) * w ≡ (w - m * u) * q
    regroup m u q w e = mul_comm (q - m) w ∙ mul-sub w q m ∙ ap₂ (λ (a b : ℕ). a - b) (mul_comm w q) (rw e (order m u q)) ∙ sym (mul-sub q w (m * u)) ∙ mul_comm q (w - m * u)
      where
        order : (m u q : ℕ) → u * q * m ≡ q * (m * u)
        order m u q = omega arith

-- ---- the fraction of x + 126, for x of w steps of 2 ^ -64, which is cut to w / 2 ^ 32 steps of 2 ^ -32

-- above zero
plus_parts : (w : ℕ) → (126 * 2 ^ 32 + w / 2 ^ 32) / 2 ^ 32 * 2 ^ 64 + (126 * 2 ^ 64 + w) % 2 ^ 64 ≡ 126 * 2 ^ 64 + w
plus_parts w = omega arith

plus_above : (w : ℕ) → 0 < (126 * 2 ^ 32 + w / 2 ^ 32) % 2 ^ 32 → 0 < (126 * 2 ^ 64 + w) % 2 ^ 64
plus_above w h = omega arith

-- below zero: where the cut is no whole number, both have one whole part
minus_parts : (w : ℕ) → w ≤ 126 * 2 ^ 64 → 0 < (126 * 2 ^ 32 - w / 2 ^ 32) % 2 ^ 32 → (126 * 2 ^ 32 - w / 2 ^ 32) / 2 ^ 32 * 2 ^ 64 + (126 * 2 ^ 64 - w) % 2 ^ 64 + w ≡ 126 * 2 ^ 64
minus_parts w l h = omega arith

minus_above : (w : ℕ) → w ≤ 126 * 2 ^ 64 → 0 < (126 * 2 ^ 32 - w / 2 ^ 32) % 2 ^ 32 → 0 < (126 * 2 ^ 64 - w) % 2 ^ 64
minus_above w l h = omega arith

-- a multiple of 2 ^ 40 has one as its remainder
plus_multiple : (c : ℕ) → (126 * 2 ^ 64 + c * 2 ^ 40) % 2 ^ 64 ≡ c % 2 ^ 24 * 2 ^ 40
plus_multiple c = omega arith

minus_multiple : (c : ℕ) → c * 2 ^ 40 ≤ 126 * 2 ^ 64 → (126 * 2 ^ 64 - c * 2 ^ 40) % 2 ^ 64 ≡ (126 * 2 ^ 24 - c) % 2 ^ 24 * 2 ^ 40
minus_multiple c h = omega arith

-- w = m 2 ^ j from 2 ^ 40 on is such a multiple
whole_places : (m j : ℕ) → 40 ≤ j → m * 2 ^ j ≡ m * 2 ^ (j - 40) * 2 ^ 40
whole_places m j h = ap (λ (n : ℕ). m * n) (pow_split 40 j h) ∙ sym (mul_assoc m (2 ^ (j - 40)) (2 ^ 40))

-- below it has few digits
few_places : (m j n : ℕ) → m < 2 ^ 24 → j ≤ n → m * 2 ^ j < 2 ^ (24 + n)
few_places m j n digits h = lt_of_lt_of_le (mul-lt-mul_of_pos_right digits (pow_pos j)) (le_trans (mul-le-mul_left (2 ^ 24) (pow_mono h)) (le_of_eq (sym (pow-add 2 24 n))))

small_plus : (w : ℕ) → w < 2 ^ 64 → (126 * 2 ^ 64 + w) % 2 ^ 64 ≡ w
small_plus w h = omega arith

small_minus : (w : ℕ) → 0 < w → w < 2 ^ 64 → (126 * 2 ^ 64 - w) % 2 ^ 64 ≡ 2 ^ 64 - w
small_minus w l h = omega arith

-- what is above zero with a factor is so without
factor : (u : ℕ) → 0 < u * 2 ^ 40 → 0 < u
factor u h = omega arith

module _ (m j : ℕ) (least : 2 ^ 23 ≤ m) (digits : m < 2 ^ 24) where
  abbrev w : ℕ
  w = m * 2 ^ j

  plus_point : Rising → 17 ≤ j → 0 < (126 * 2 ^ 64 + w) % 2 ^ 64 → Point ((126 * 2 ^ 64 + w) % 2 ^ 64)
  plus_point rising low above = elim (le-or-lt j 40) [
    | inl h ↦ subst Point (sym (small_plus w (few_places m j 40 digits h))) (itself rising m j least digits low h)
    | inr h ↦
        let e : (126 * 2 ^ 64 + w) % 2 ^ 64 ≡ m * 2 ^ (j - 40) % 2 ^ 24 * 2 ^ 40 = ap (λ (n : ℕ). (126 * 2 ^ 64 + n) % 2 ^ 64) (whole_places m j (le_of_lt h)) ∙ plus_multiple (m * 2 ^ (j - 40)) in
        subst Point (sym e) (multiple rising (m * 2 ^ (j - 40) % 2 ^ 24) (factor _ (lt_of_lt_of_le above (le_of_eq e))) (omega arith))
  ]

  minus_point : Rising → Falling → 16 ≤ j → w ≤ 126 * 2 ^ 64 → 0 < (126 * 2 ^ 64 - w) % 2 ^ 64 → Point ((126 * 2 ^ 64 - w) % 2 ^ 64)
  minus_point rising falling low room above = elim (le-or-lt j 39) [
    | inl h ↦ subst Point (sym (small_minus w (mul-pos (lt_of_lt_of_le (lit< tt) least) (pow_pos j)) (lt_of_lt_of_le (few_places m j 39 digits h) (lit≤ tt)))) (less falling m j least digits low h)
    | inr h ↦
        let s = whole_places m j h in
        let c = m * 2 ^ (j - 40) in
        let e : (126 * 2 ^ 64 - w) % 2 ^ 64 ≡ (126 * 2 ^ 24 - c) % 2 ^ 24 * 2 ^ 40 = ap (λ (n : ℕ). (126 * 2 ^ 64 - n) % 2 ^ 64) s ∙ minus_multiple c (le_trans (le_of_eq (sym s)) room) in
        subst Point (sym e) (multiple rising ((126 * 2 ^ 24 - c) % 2 ^ 24) (factor _ (lt_of_lt_of_le above (le_of_eq e))) (omega arith))
  ]

-- ---- in units of a float, of which u make a step of 2 ^ -64

plus_units : (g v t c w u p n : ℕ) → g * v + t ≡ c + w → p ≡ w * u → n ≡ 0 → g * (v * u) + t * u + n ≡ p + c * u
plus_units g v t c w u p n e i z = omega (arith, ap (λ (a : ℕ). a * u) e)

minus_units : (g v t c w u p n : ℕ) → g * v + t + w ≡ c → p ≡ 0 → n ≡ w * u → g * (v * u) + t * u + n ≡ p + c * u
minus_units g v t c w u p n e z i = omega (arith, ap (λ (a : ℕ). a * u) e)

-- fewer steps than 2 ^ 8, or 2 ^ 7, are no fraction of what is open
plus_few : (s : ℕ) → s < 256 → 256 < (126 * 2 ^ 32 + s) % 2 ^ 32 → ⊥
plus_few s h l = omega arith

minus_few : (s : ℕ) → s < 128 → 256 < (126 * 2 ^ 32 - s) % 2 ^ 32 → (126 * 2 ^ 32 - s) % 2 ^ 32 < D - 128 → ⊥
minus_few s h l k = omega arith

-- the whole part and the fraction are x + 126, and the fraction keeps away
pub record Exactly (x : Float) : Type 0 where
  pub whole : cut_of x / 2 ^ 32 * 2 ^ 149 + fraction_of x * 2 ^ 85 + N x ≡ P x + 126 * 2 ^ 149
  pub point : Point (fraction_of x)

module _ (x : Float) (a : Accepts x) (opened : is_left_open (raised (cut_of x % 2 ^ 32)) ≡ true) where
  inside : (256 < cut_of x % 2 ^ 32) × (cut_of x % 2 ^ 32 < D - 128)
  inside = open_fraction (cut_of x % 2 ^ 32) (omega arith) opened

  plus_size : P x ≡ mag x → N x ≡ 0 → 2 ^ 125 ≤ mag x
  plus_size p n = elim (le-or-lt (2 ^ 125) (mag x)) [
    | inl h ↦ h
    | inr h ↦ absurd (plus_few (mag x / 2 ^ 117) ((div-lt_iff_lt-mul (pow_pos 117)).1 h) (subst (λ (c : ℕ). 256 < c % 2 ^ 32) (cut_plus x p n) inside.0))
  ]

  minus_size : P x ≡ 0 → N x ≡ mag x → 2 ^ 124 ≤ mag x
  minus_size p n = elim (le-or-lt (2 ^ 124) (mag x)) [
    | inl h ↦ h
    | inr h ↦
        let e = cut_minus x p n in
        absurd
        (minus_few (mag x / 2 ^ 117) ((div-lt_iff_lt-mul (pow_pos 117)).1 h) (subst (λ (c : ℕ). 256 < c % 2 ^ 32) e inside.0) (subst (λ (c : ℕ). c % 2 ^ 32 < D - 128) e inside.1))
  ]

  pub open_size : 2 ^ 124 ≤ mag x
  open_size = elim (sides x) [ inl h ↦ le_trans (lit≤ tt) (plus_size h.0 h.1) | inr h ↦ minus_size h.0 h.1 ]

  exactly_plus : Rising → P x ≡ mag x → N x ≡ 0 → Exactly x
  exactly_plus rising p n = record {
    whole = rw (cut, fraction) (plus_units ((126 * 2 ^ 32 + w / 2 ^ 32) / 2 ^ 32) (2 ^ 64) ((126 * 2 ^ 64 + w) % 2 ^ 64) (126 * 2 ^ 64) w (2 ^ 85) (P x) (N x) (plus_parts w) (p ∙ t.steps) n);
    point = rw fraction (plus_point t.m t.j t.least t.digits rising (omega (arith, places_from x t 125 size)) (plus_above w (lt_of_lt_of_le (lit< tt) (le_of_lt (subst (λ (c : ℕ). 256 < c % 2 ^ 32) cut inside.0)))));
  }
    where
      size : 2 ^ 125 ≤ mag x
      size = plus_size p n

      t : Placed x
      t = placed x a.number (le_trans (lit≤ tt) size)

      w : ℕ
      w = t.m * 2 ^ t.j

      cut : cut_of x ≡ 126 * 2 ^ 32 + w / 2 ^ 32
      cut = cut_plus x p n ∙ ap (λ (s : ℕ). 126 * 2 ^ 32 + s) (in_cut x t)

      fraction : fraction_of x ≡ (126 * 2 ^ 64 + w) % 2 ^ 64
      fraction = fraction_plus x t p n

  exactly_minus : Rising → Falling → P x ≡ 0 → N x ≡ mag x → Exactly x
  exactly_minus rising falling p n = record {
    whole =
        rw (cut, fraction)
        (minus_units ((126 * 2 ^ 32 - w / 2 ^ 32) / 2 ^ 32) (2 ^ 64) ((126 * 2 ^ 64 - w) % 2 ^ 64) (126 * 2 ^ 64) w (2 ^ 85) (P x) (N x) (minus_parts w room part) p (n ∙ t.steps));
    point = rw fraction (minus_point t.m t.j t.least t.digits rising falling (omega (arith, places_from x t 124 size)) room (minus_above w room part));
  }
    where
      size : 2 ^ 124 ≤ mag x
      size = minus_size p n

      t : Placed x
      t = placed x a.number (le_trans (lit≤ tt) size)

      w : ℕ
      w = t.m * 2 ^ t.j

      room : w ≤ 126 * 2 ^ 64
      room = minus_room x t n a.at_least

      cut : cut_of x ≡ 126 * 2 ^ 32 - w / 2 ^ 32
      cut = cut_minus x p n ∙ ap (λ (s : ℕ). 126 * 2 ^ 32 - s) (in_cut x t)

      part : 0 < (126 * 2 ^ 32 - w / 2 ^ 32) % 2 ^ 32
      part = lt_of_lt_of_le (lit< tt) (le_of_lt (subst (λ (c : ℕ). 256 < c % 2 ^ 32) cut inside.0))

      fraction : fraction_of x ≡ (126 * 2 ^ 64 - w) % 2 ^ 64
      fraction = fraction_minus x t p n

  pub exactly : Rising → Falling → Exactly x
  exactly rising falling = elim (sides x) [ inl h ↦ exactly_plus rising h.0 h.1 | inr h ↦ exactly_minus rising falling h.0 h.1 ]
