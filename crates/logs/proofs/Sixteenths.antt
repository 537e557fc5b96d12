-- The sixteenths of an octave: for a significand m below the cut, 23 / 16, the row's polynomial gives log2 (m / 2 ^ 23), from the cut on log2 (2 ^ 24 / m), each within
-- 5 parts in 2 ^ 32. One test over all rows is computed.
use Rattle.std.proofs.Common.{◌≡◌, ℕ, zero, suc, ◌+◌, ◌-◌, ◌*◌, ◌^◌, ◌<◌, ◌≤◌, Bool, true, false, cond, ◌&&◌, T, ltb, leb, List, [], ◌∷◌, length, get_or, take, drop, refl, ap, inl, inr, le_trans, le_of_suc-le-suc, lt_of_le_of_lt, add-zero, add-suc, mul-le-mul, suc-add, mul-le-mul_left, zero-add, arith, lit<, lit≤, ltb→lt, leb→le, get_or-drop, get_or-take, le-ltb, lt-ltb}
use lib.Ieee.Fits.{and_l, and_r}
use Rattle.exact.specs.Polynomial.{value}
use Rattle.exact.proofs.Polynomial.{value_scale, value_linear}
use Rattle.exact.proofs.Forms.{mul, value-mul, length-mul}
use Rattle.units.proofs.Naturals.{le-or-lt}
use Rattle.fixed.specs.Horner.{horner}
use Rattle.fixed.proofs.Horner.{horner-below, horner_mono}
use Rattle.logs.specs.Rows.{rows, row}
use Rattle.exact.proofs.Mirror.{mirror, value_mirror, length_mirror}
use Rattle.logs.proofs.Method.{Close, close_same, floors, encloses, close}

-- the rows' polynomials are taken at v / 2 ^ 32 for a multiple v of 512; all is in steps of 2 ^ -32
abbrev D : ℕ
D = 2 ^ 32

-- what holds of a polynomial and what is made of it holds of their multiples
multiple : (n p K X : ℕ) → p * K ≤ X → (2 ^ 32 + 1) * X ≤ (2 ^ 32 + 5) * (p * K) → (n * p * K ≤ n * X) × ((2 ^ 32 + 1) * (n * X) ≤ (2 ^ 32 + 5) * (n * p * K))
multiple n p K X l h = (omega (arith, mul-le-mul_left n l), omega (arith, mul-le-mul_left n h))

-- ---- below the cut the polynomial is read from the lower end of the sixteenth, where m is (16 + i) 2 ^ 19
unfoldable pub low_test : ℕ → List ℕ → Bool
unfolding encloses mul mirror
low_test i cs = encloses (16 ∷ 0 ∷ []) (0 ∷ 0 ∷ []) ((16 + i) ∷ 16 ∷ []) (mul (i ∷ 16 ∷ []) (mirror 16 4 cs).0) (mul (i ∷ 16 ∷ []) (mirror 16 4 cs).1) (2 ^ 51)

-- ---- from the cut on it is read from the upper end, where m is (17 + i) 2 ^ 19
unfoldable pub high_test : ℕ → List ℕ → Bool
unfolding encloses mul
high_test i cs = encloses ((17 + i) ∷ 0 ∷ []) (0 ∷ 16 ∷ []) (32 ∷ 0 ∷ []) (mul ((15 - i) ∷ 16 ∷ []) cs) [] (2 ^ 35)

module _ (i c b : ℕ) (cs : List ℕ) (few : length cs ≤ 3) (large : 5 * 2 ^ 28 ≤ c) (v y : ℕ) (whole : v + y ≡ 2 ^ 19) where
  abbrev all : List ℕ
  all = c ∷ b ∷ cs

  abbrev p : ℕ
  p = horner D all (v * 512)

  abbrev exact : ℕ
  exact = value 4 all (v * 512) D

  made : (n : ℕ) → (n * p * D ^ 4 ≤ n * exact) × ((2 ^ 32 + 1) * (n * exact) ≤ (2 ^ 32 + 5) * (n * p * D ^ 4))
  made n = multiple n p (D ^ 4) exact (horner-below D (v * 512) 4 all (omega arith)) (floors D (v * 512) c b cs (lit< tt) (omega arith) few large)

  module _ (y' : ℕ) (at_y : y' ≡ y * 512) where
    abbrev lin : List ℕ
    lin = i ∷ 16 ∷ []

    abbrev P : List ℕ
    P = (mirror 16 4 all).0

    abbrev M : List ℕ
    M = (mirror 16 4 all).1

    mirrored : exact * 16 ^ 4 + value 4 M y' D ≡ value 4 P y' D
    mirrored = rw (value_scale 4 all (v * 512) D 16 (omega arith)) at (value_mirror 16 4 all y' D (v * 512 * 16) (omega arith) (omega arith))

    low_z : value 1 lin y' D * (exact * 16 ^ 4) + value 5 (mul lin M) y' D ≡ value 5 (mul lin P) y' D
    low_z =
        let (p, m) = length_mirror 16 4 all in
        rw (value-mul 1 4 lin M y' D (lit≤ tt) m, value-mul 1 4 lin P y' D (lit≤ tt) p) (through (value 1 lin y' D) (exact * 16 ^ 4) (value 4 M y' D) (value 4 P y' D) mirrored)
      where
        through : (l a m p : ℕ) → a + m ≡ p → l * a + l * m ≡ l * p
        through l a m p e = omega (arith, ap (λ (n : ℕ). l * n) e)

  -- log2 (m / 2 ^ 23)
  low_close : T (low_test i all) → 5 * ((i * 2 ^ 19 + y) * p) ≤ 3 * 2 ^ 54 → Close ((16 + i) * 2 ^ 19 + y) (2 ^ 23) ((i * 2 ^ 19 + y) * p)
  unfolding low_test
  low_close t small =
      let y' = y * 512 in
      let n = i * 2 ^ 19 + y in
      let (pl, ml) = length_mirror 16 4 all in
      let at-m = value_linear (16 + i) 16 y' D in
      close_same (lit< tt) (rw at-m (omega arith))
      (close (16 ∷ 0 ∷ []) (0 ∷ 0 ∷ []) ((16 + i) ∷ 16 ∷ []) (mul (i ∷ 16 ∷ []) (mirror 16 4 all).0) (mul (i ∷ 16 ∷ []) (mirror 16 4 all).1) (2 ^ 51)
      t (lit≤ tt) (lit≤ tt) (lit≤ tt) (length-mul 1 4 (i ∷ 16 ∷ []) (mirror 16 4 all).0 (lit≤ tt) pl) (length-mul 1 4 (i ∷ 16 ∷ []) (mirror 16 4 all).1 (lit≤ tt) ml)
      y' D (value 1 (i ∷ 16 ∷ []) y' D * (exact * 16 ^ 4)) (16 * D) (lit< tt) (omega arith) (low_z y' refl) (rw (value_linear, value_linear) (omega arith)) (lit< tt) (lit< tt)
      (2 ^ 29) (n * exact) (n * p) refl (rw (value_linear i 16 y' D) (omega arith)) (made n).0 (made n).1 small)

  nothing : value 5 [] (v * 512) D ≡ 0
  unfolding value
  nothing = refl

  high_z : value 1 ((15 - i) ∷ 16 ∷ []) (v * 512) D * exact + value 5 [] (v * 512) D ≡ value 5 (mul ((15 - i) ∷ 16 ∷ []) all) (v * 512) D
  high_z = rw (value-mul 1 4 ((15 - i) ∷ 16 ∷ []) all (v * 512) D (lit≤ tt) (omega arith), nothing) (add-zero (value 1 ((15 - i) ∷ 16 ∷ []) (v * 512) D * exact))

  -- log2 (2 ^ 24 / m)
  high_close : i ≤ 15 → 0 < v → T (high_test i all) → 5 * (((15 - i) * 2 ^ 19 + v) * p) ≤ 3 * 2 ^ 54 → Close (2 ^ 24) ((16 + i) * 2 ^ 19 + y) (((15 - i) * 2 ^ 19 + v) * p)
  unfolding high_test
  high_close last pos t small =
      let v' = v * 512 in
      let n = (15 - i) * 2 ^ 19 + v in
      let E = 2 ^ 13 * ((16 + i) * 2 ^ 19 + y) in
      let at-m = value_linear 32 0 v' D in
      close_same (omega arith) (rw at-m (omega arith))
      (close ((17 + i) ∷ 0 ∷ []) (0 ∷ 16 ∷ []) (32 ∷ 0 ∷ []) (mul ((15 - i) ∷ 16 ∷ []) all) [] (2 ^ 35)
      t (lit≤ tt) (lit≤ tt) (lit≤ tt) (length-mul 1 4 ((15 - i) ∷ 16 ∷ []) all (lit≤ tt) (omega arith)) (lit≤ tt)
      v' D (value 1 ((15 - i) ∷ 16 ∷ []) v' D * exact) E (lit< tt) (omega arith) high_z (rw (value_linear, value_linear) (omega arith)) (omega arith) (lit< tt)
      (2 ^ 13) (n * exact) (n * p) refl (rw (value_linear (15 - i) 16 v' D) (omega arith)) (made n).0 (made n).1 small)

-- ---- the test of a row, and what it shows of every m of the sixteenth
-- the farthest that an m of the sixteenth is from its power of two
unfoldable pub far : ℕ → ℕ
far i = cond (ltb i 7) (suc i) (16 - i) * 2 ^ 19

-- what is made at the sixteenth's lower end, which is the most
unfoldable pub top : List ℕ → ℕ
unfolding horner
top cs = horner D cs (2 ^ 28)

-- the row has five coefficients, the first of them large; what is made of them has 32 digits, and its product with the farthest distance is below 3/5
unfoldable pub passes : ℕ → List ℕ → Bool
unfolding far top low_test high_test
passes i [] = false
passes i (c ∷ []) = false
passes i (c ∷ b ∷ cs) =
    leb (length cs) 3 && (leb (5 * 2 ^ 28) c && (ltb (top (c ∷ b ∷ cs)) (2 ^ 32) && (leb (5 * (far i * top (c ∷ b ∷ cs))) (3 * 2 ^ 54)
    && cond (ltb i 7) (low_test i (c ∷ b ∷ cs)) (high_test i (c ∷ b ∷ cs)))))

-- F = n p is the logarithm of n' / d', and below 3/5
pub record Sixteenth (n' d' n p : ℕ) : Type 0 where
  pub close : Close n' d' (n * p)
  pub small : 5 * (n * p) ≤ 3 * 2 ^ 54
  pub digits : p < 2 ^ 32

-- the parts of the test
module _ (i c b : ℕ) (cs : List ℕ) (t : T (passes i (c ∷ b ∷ cs))) where
  abbrev all_of : List ℕ
  all_of = c ∷ b ∷ cs

  few_of : length cs ≤ 3
  unfolding passes
  few_of = leb→le (length cs) 3 (and_l (leb (length cs) 3) _ t)

  after_few : T (leb (5 * 2 ^ 28) c && (ltb (top all_of) (2 ^ 32) && (leb (5 * (far i * top all_of)) (3 * 2 ^ 54) && cond (ltb i 7) (low_test i all_of) (high_test i all_of))))
  unfolding passes
  after_few = and_r (leb (length cs) 3) _ t

  large_of : 5 * 2 ^ 28 ≤ c
  large_of = leb→le (5 * 2 ^ 28) c (and_l (leb (5 * 2 ^ 28) c) _ after_few)

  after_large : T (ltb (top all_of) (2 ^ 32) && (leb (5 * (far i * top all_of)) (3 * 2 ^ 54) && cond (ltb i 7) (low_test i all_of) (high_test i all_of)))
  after_large = and_r (leb (5 * 2 ^ 28) c) _ after_few

  digits_of : top all_of < 2 ^ 32
  digits_of = ltb→lt (top all_of) (2 ^ 32) (and_l (ltb (top all_of) (2 ^ 32)) _ after_large)

  after_digits : T (leb (5 * (far i * top all_of)) (3 * 2 ^ 54) && cond (ltb i 7) (low_test i all_of) (high_test i all_of))
  after_digits = and_r (ltb (top all_of) (2 ^ 32)) _ after_large

  small_of : 5 * (far i * top all_of) ≤ 3 * 2 ^ 54
  small_of = leb→le (5 * (far i * top all_of)) (3 * 2 ^ 54) (and_l (leb (5 * (far i * top all_of)) (3 * 2 ^ 54)) _ after_digits)

  side_of : T (cond (ltb i 7) (low_test i all_of) (high_test i all_of))
  side_of = and_r (leb (5 * (far i * top all_of)) (3 * 2 ^ 54)) _ after_digits

  -- at the distance v from the upper end
  module _ (v y : ℕ) (whole : v + y ≡ 2 ^ 19) where
    p_top : horner D all_of (v * 512) ≤ top all_of
    unfolding top
    p_top = horner_mono D all_of (lit< tt) (omega arith)

    small_at : (n : ℕ) → n ≤ far i → 5 * (n * horner D all_of (v * 512)) ≤ 3 * 2 ^ 54
    small_at n h = le_trans (mul-le-mul_left 5 (mul-le-mul h p_top)) small_of

    p_digits : horner D all_of (v * 512) < 2 ^ 32
    p_digits = lt_of_le_of_lt p_top digits_of

module _ (v y : ℕ) (whole : v + y ≡ 2 ^ 19) where
  -- below the cut
  pub below_cut : (i : ℕ) (cs : List ℕ) → T (passes i cs) → i < 7 → Sixteenth ((16 + i) * 2 ^ 19 + y) (2 ^ 23) (i * 2 ^ 19 + y) (horner D cs (v * 512))
  unfolding far
  below_cut i [] t h = absurd (unfold passes in t)
  below_cut i (c ∷ []) t h = absurd (unfold passes in t)
  below_cut i (c ∷ b ∷ cs) t h =
      let s = small_at i c b cs t v y whole (i * 2 ^ 19 + y) (rw (lt-ltb i 7 h) (omega arith)) in
      record { close = low_close i c b cs (few_of i c b cs t) (large_of i c b cs t) v y whole (rw (lt-ltb i 7 h) at (side_of i c b cs t)) s; small = s; digits = p_digits i c b cs t v y whole }

  -- from the cut on
  pub above_cut : (i : ℕ) (cs : List ℕ) → T (passes i cs) → 7 ≤ i → i ≤ 15 → 0 < v → Sixteenth (2 ^ 24) ((16 + i) * 2 ^ 19 + y) ((15 - i) * 2 ^ 19 + v) (horner D cs (v * 512))
  unfolding far
  above_cut i [] t h l pos = absurd (unfold passes in t)
  above_cut i (c ∷ []) t h l pos = absurd (unfold passes in t)
  above_cut i (c ∷ b ∷ cs) t h l pos =
      let s = small_at i c b cs t v y whole ((15 - i) * 2 ^ 19 + v) (rw (le-ltb i 7 h) (omega arith)) in
      record { close = high_close i c b cs (few_of i c b cs t) (large_of i c b cs t) v y whole l pos (rw (le-ltb i 7 h) at (side_of i c b cs t)) s; small = s; digits = p_digits i c b cs t v y whole }

-- ---- all rows
unfoldable pub pass_all : ℕ → List (List ℕ) → Bool
unfolding passes
pass_all i [] = true
pass_all i (r ∷ rs) = passes i r && pass_all (suc i) rs

one_of : (rs : List (List ℕ)) (i j : ℕ) → T (pass_all i rs) → j < length rs → T (passes (i + j) (get_or rs j []))
unfolding pass_all
one_of [] i j t h = absurd (omega arith)
one_of (r ∷ rs) i zero t h = rw add-zero (and_l (passes i r) (pass_all (suc i) rs) t)
one_of (r ∷ rs) i (suc j) t h = rw (add-suc, ← suc-add) (one_of rs (suc i) j (and_r (passes i r) (pass_all (suc i) rs) t) (le_of_suc-le-suc h))

-- computed in two parts, which takes less memory than in one
low_rows : T (pass_all 0 (take 7 rows))
unfolding pass_all
low_rows = tt

high_rows : T (pass_all 7 (drop 7 rows))
unfolding pass_all
high_rows = tt

-- every row passes
pub row_passes : (i : ℕ) → i < 16 → T (passes i (row i))
row_passes i h = elim (le-or-lt 7 i) [
  | inl l ↦
      let e : 7 + (i - 7) ≡ i = omega arith in
      rw (get_or-drop 7 rows (i - 7) [], e) at (one_of (drop 7 rows) 7 (i - 7) high_rows (omega arith))
  | inr l ↦ rw (get_or-take 7 rows i [] l, zero-add) at (one_of (take 7 rows) 0 i low_rows l)
]
