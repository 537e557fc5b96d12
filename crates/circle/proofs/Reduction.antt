-- The argument: from a phase to the angle that it stands for, whose cosine and sine are as near, but for what was cut off. Assumes nothing.
use Rattle.std.proofs.Common.{◌≡◌, ℕ, ◌+◌, ◌*◌, ◌/◌, ◌%◌, ◌^◌, ◌<◌, ◌≤◌, zero-le, le_trans, lt_of_lt_of_le, lt_of_le_of_lt, le_of_lt, mul-le-mul_right, div-lt_iff_lt-mul, mul-le-mul_left, mul-lt-mul_of_pos_right, mul-pos, mul-zero, zero-mul, div-mul-le_self, le_of_mul-le-mul_right, arith, lit<, lit≤, pow_pos, pow_mono, pow-add}
use native.Mathlib.Nat.{lt-div-mul-add}
use Rattle.exact.specs.Circle.{quarter, quarter_unit}
use Rattle.exact.proofs.Limits.{Both, both_wider}
use Rattle.exact.proofs.Shift.{moved_to}
use Rattle.exact.proofs.Quarter.{quarter-unit_pos}
use Rattle.circle.proofs.Method.{D}
use Rattle.circle.proofs.Turn.{phase_near}
use Rattle.circle.proofs.Pattern.{plus_of, minus_of}
use Rattle.circle.proofs.Window.{turns_of}

-- the unit of a phase's angle, quarter t / K
abbrev K : ℕ
K = quarter_unit * 2 ^ 62

-- ---- to any angle p / q that is at most h from it, in units of 1 / (K q), where h is small
module _ (t : ℕ) (small : t < 2 ^ 200) (p q h : ℕ) (qpos : 0 < q) (near : h * 2 ^ 34 ≤ K * q) (low : quarter * t * q ≤ p * K + h) (high : p * K ≤ quarter * t * q + h) where
  abbrev here : ℕ
  here = t % 2 ^ 64

  abbrev on : ℕ
  on = (t + 2 ^ 62) % 2 ^ 64

  pub arrived : Both p q (plus_of on) (minus_of on) (plus_of here) (minus_of here) D 7 D
  arrived =
      both_wider (mul-pos (lit< tt) (mul-pos (mul-pos Kpos qpos) (lit< tt))) (through (K * q) near)
      (moved_to h (2 ^ 40) Kpos qpos (lit< tt) (lit< tt) low high (phase_near t small))
    where
      Kpos : 0 < K
      Kpos = mul-pos quarter-unit_pos (pow_pos 62)

      through : (Q : ℕ) → h * 2 ^ 34 ≤ Q → (13 * (Q * 2 ^ 40) + 2 * D * (h * 2 ^ 40 + Q)) * D ≤ 7 * (2 * D * (Q * 2 ^ 40))
      through Q l = omega arith

-- ---- pi x, of M units: 2 M / 2 ^ 149 quarter turns, cut off to half as many turns
module _ (M : ℕ) (few : M < 2 ^ 277) where
  abbrev half : ℕ
  half = M / 2 ^ 86

  abbrev lost : ℕ
  lost = quarter * quarter_unit * 2 ^ 149

  half_small : half < 2 ^ 200
  half_small = (div-lt_iff_lt-mul (pow_pos 86)).1 (lt_of_lt_of_le few (lit≤ tt))

  half_near : lost * 2 ^ 34 ≤ K * (quarter_unit * 2 ^ 149)
  unfolding quarter quarter_unit
  half_near = lit≤ tt

  half_low : quarter * half * (quarter_unit * 2 ^ 149) ≤ quarter * (2 * M) * K + lost
  half_low = through quarter quarter_unit (2 ^ 62) (2 ^ 86) half lost (div-mul-le_self M (2 ^ 86))
    where
      through : (q u a b t h : ℕ) → t * b ≤ M → q * t * (u * (2 * a * b)) ≤ q * (2 * M) * (u * a) + h
      through q u a b t h l = omega (arith, mul-le-mul_left (q * u * (2 * a)) l)

  half_high : quarter * (2 * M) * K ≤ quarter * half * (quarter_unit * 2 ^ 149) + lost
  half_high = through quarter quarter_unit (2 ^ 62) (2 ^ 86) half (le_of_lt (lt-div-mul-add (pow_pos 86)))
    where
      through : (q u a b t : ℕ) → M ≤ t * b + b → q * (2 * M) * (u * a) ≤ q * t * (u * (2 * a * b)) + q * u * (2 * a * b)
      through q u a b t l = omega (arith, mul-le-mul_left (q * u * (2 * a)) l)

  -- its cosine and sine, by our own pi / 2
  pub half-arrived :
      Both (quarter * (2 * M)) (quarter_unit * 2 ^ 149) (plus_of ((half + 2 ^ 62) % 2 ^ 64)) (minus_of ((half + 2 ^ 62) % 2 ^ 64)) (plus_of (half % 2 ^ 64)) (minus_of (half % 2 ^ 64)) D 7 D
  half-arrived = arrived half half_small (quarter * (2 * M)) (quarter_unit * 2 ^ 149) lost (mul-pos quarter-unit_pos (pow_pos 149)) half_near half_low half_high

-- ---- x itself, of M units: m digits times the turns of 2 ^ i radians
quarter_pos : 0 < 4 * quarter
unfolding quarter
quarter_pos = lit< tt

module _ (i : ℕ) where
  -- these turns against their exact number
  turns_most : turns_of i * (4 * quarter) ≤ 2 ^ i * quarter_unit
  unfolding turns_of
  turns_most = div-mul-le_self (2 ^ i * quarter_unit) (4 * quarter)

  turns_least : 2 ^ i * quarter_unit ≤ turns_of i * (4 * quarter) + 4 * quarter
  unfolding turns_of
  turns_least = le_of_lt (lt-div-mul-add quarter_pos)

  turns_few : turns_of i ≤ 2 ^ i
  turns_few = le_of_mul-le-mul_right (le_trans turns_most (mul-le-mul_left (2 ^ i) less)) quarter_pos
    where
      less : quarter_unit ≤ 4 * quarter
      less = unfold quarter quarter_unit in lit≤ tt

-- far more places than any float asks for
module _ (M m i : ℕ) (few : m < 2 ^ 24) (place : i ≤ 175) where
  abbrev turns : ℕ
  turns = m * turns_of i

  abbrev cut : ℕ
  cut = quarter * 2 ^ 173

  turns_small : turns < 2 ^ 200
  turns_small =
      let l : turns_of i ≤ 2 ^ 175 = le_trans (turns_few i) (pow_mono place) in
      lt_of_le_of_lt (mul-le-mul_left m l) (lt_of_lt_of_le (mul-lt-mul_of_pos_right few (pow_pos 175)) (lit≤ tt))

  cut_near : cut * 2 ^ 34 ≤ K * 2 ^ 149
  unfolding quarter quarter_unit
  cut_near = lit≤ tt

  arrives : quarter * turns * 2 ^ 149 ≤ M * K + cut → M * K ≤ quarter * turns * 2 ^ 149 + cut →
      Both M (2 ^ 149) (plus_of ((turns + 2 ^ 62) % 2 ^ 64)) (minus_of ((turns + 2 ^ 62) % 2 ^ 64)) (plus_of (turns % 2 ^ 64)) (minus_of (turns % 2 ^ 64)) D 7 D
  arrives low high = arrived turns turns_small M (2 ^ 149) cut (pow_pos 149) cut_near low high

  -- from 2 ^ -40 or so on
  module _ (units : M ≡ m * 2 ^ (i + 85)) where
    exact_units : M * K ≡ m * (2 ^ i * quarter_unit) * 2 ^ 147
    exact_units = rw (units, pow-add 2 i 85) (through (2 ^ i) (2 ^ 85) (2 ^ 62) quarter_unit)
      where
        through : (I a b u : ℕ) → m * (I * a) * (u * b) ≡ m * (I * u) * (a * b)
        through I a b u = omega arith

    turns_low : quarter * turns * 2 ^ 149 ≤ M * K + cut
    turns_low = rw exact_units (through (turns_of i) (2 ^ i * quarter_unit) quarter (2 ^ 147) cut (turns_most i))
      where
        through : (W X q a h : ℕ) → W * (4 * q) ≤ X → q * (m * W) * (4 * a) ≤ m * X * a + h
        through W X q a h l = omega (arith, mul-le-mul_left (m * a) l)

    turns_high : M * K ≤ quarter * turns * 2 ^ 149 + cut
    turns_high = rw exact_units (through (turns_of i) (2 ^ i * quarter_unit) quarter (2 ^ 147) (turns_least i))
      where
        through : (W X q a : ℕ) → X ≤ W * (4 * q) + 4 * q → m * X * a ≤ q * (m * W) * (4 * a) + q * (2 ^ 26 * a)
        through W X q a l = let f : m ≤ 2 ^ 24 = le_of_lt few in omega (arith, mul-le-mul_left (m * a) l, mul-le-mul_right (q * a) f)

    pub turns-arrived :
        Both M (2 ^ 149) (plus_of ((turns + 2 ^ 62) % 2 ^ 64)) (minus_of ((turns + 2 ^ 62) % 2 ^ 64)) (plus_of (turns % 2 ^ 64)) (minus_of (turns % 2 ^ 64)) D 7 D
    turns-arrived = arrives turns_low turns_high

-- so little that no turns are left
pub still_arrived : (M : ℕ) → M < 2 ^ 110 → Both M (2 ^ 149) (plus_of (2 ^ 62)) (minus_of (2 ^ 62)) (plus_of 0) (minus_of 0) D 7 D
still_arrived M little = rw (zero-mul (turns_of 0)) at (arrives M 0 0 (lit< tt) (lit≤ tt) (none quarter (turns_of 0) (M * K + quarter * 2 ^ 173)) most)
  where
    none : (q t n : ℕ) → q * (0 * t) * 2 ^ 149 ≤ n
    none q t n = rw (zero-mul t, mul-zero q, zero-mul) zero-le

    most : M * K ≤ quarter * (0 * turns_of 0) * 2 ^ 149 + quarter * 2 ^ 173
    most = le_trans (mul-le-mul_right K (le_of_lt little)) (le_trans less (more (quarter * (0 * turns_of 0) * 2 ^ 149) (quarter * 2 ^ 173)))
      where
        more : (a b : ℕ) → b ≤ a + b
        more a b = omega arith

        less : 2 ^ 110 * K ≤ quarter * 2 ^ 173
        less = unfold quarter quarter_unit in lit≤ tt
