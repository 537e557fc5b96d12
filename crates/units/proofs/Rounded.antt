-- What lib.Ieee's `round` makes of a fraction, in units: the rounding of Round.antt, held to 2 ^ 277, the size of an infinity. So overflow is no case of its own.
use mathlib.Core.Path.{◌≡◌, refl, sym, ap, ◌∙◌}
use mathlib.Core.Logic.{◌↔◌}
use Prim.Native.Nat.{ℕ, ◌*◌, ◌^◌, ◌≤◌, ◌<◌, min}
use native.Mathlib.Nat.{le_of_lt, min-eq_left, min-eq_right}
use native.Mathlib.Omega.{arith}
use mathlib.Core.Bool.{Bool, true, false, not, cond}
use lib.Dec.{T, ltb, ltb→lt, nltb→le, lt→ltb}
use lib.Pow.{pow_pos}
use lib.Ieee.{Float, nan, inf, fin, binary32, odd, units, round, is_nan}
use lib.Ieee.Fits.{round_is, round-fits}
use lib.Ieee.Exact.{HasValue, odd_sign}
use lib.Ieee.Order.{drop, kept}
use lib.Ieee.Scale.{finite}
use Rattle.units.specs.Units.{mag, negative, P, N, Number}
use Rattle.units.proofs.Size.{value-mag, finite_real}
use Rattle.units.proofs.Round.{rnd, rnd_exact}

-- a size held to that of an infinity
abbrev pub cap : ℕ → ℕ
cap n = min n (2 ^ 277)

units_is : (s : Bool) (q k : ℕ) → (mag (units binary32 s q k) ≡ cap (q * 2 ^ k)) × (negative (units binary32 s q k) ≡ s)
unfolding units
units_is s q k = go (ltb (q * 2 ^ k) (2 ^ 277)) (ltb→lt (q * 2 ^ k) (2 ^ 277)) (nltb→le (q * 2 ^ k) (2 ^ 277))
  where
    go : (b : Bool) → (T b → q * 2 ^ k < 2 ^ 277) → (T (not b) → 2 ^ 277 ≤ q * 2 ^ k)
        → (mag (cond b (odd 25 s q k 149) (inf s)) ≡ cap (q * 2 ^ k)) × (negative (cond b (odd 25 s q k 149) (inf s)) ≡ s)
    go true h g = let v = value-mag (odd 25 s q k 149) s (q * 2 ^ k) (odd_sign 25 s q k 149) in (v.0 ∙ sym (min-eq_left (le_of_lt (h tt))), v.1)
    go false h g = unfold mag negative in (sym (min-eq_right (g tt)), refl)

-- the size of a rounded fraction a / c
pub round_mag : (s : Bool) (a c : ℕ) → mag (round binary32 s a c) ≡ cap (rnd (a * 2 ^ 149) c)
unfolding rnd
round_mag s a c = let n = a * 2 ^ 149 in ap mag (round_is binary32 s a c) ∙ (units_is s (kept 24 n c) (drop 24 n c)).0

-- its sign
pub round_sign : (s : Bool) (a c : ℕ) → negative (round binary32 s a c) ≡ s
round_sign s a c = let n = a * 2 ^ 149 in ap negative (round_is binary32 s a c) ∙ (units_is s (kept 24 n c) (drop 24 n c)).1

value_finite : (x : Float) (s : Bool) (a c : ℕ) → HasValue x s a c → T (finite x)
value_finite nan s a c h = h
value_finite (inf t) s a c h = h
value_finite (fin t m e) s a c h = tt

units_finite : (s : Bool) (q k : ℕ) → T (finite (units binary32 s q k)) ↔ (q * 2 ^ k < 2 ^ 277)
unfolding units
units_finite s q k = go (ltb (q * 2 ^ k) (2 ^ 277)) (ltb→lt (q * 2 ^ k) (2 ^ 277)) (lt→ltb (q * 2 ^ k) (2 ^ 277))
  where
    go : (b : Bool) → (T b → q * 2 ^ k < 2 ^ 277) → (q * 2 ^ k < 2 ^ 277 → T b) → T (finite (cond b (odd 25 s q k 149) (inf s))) ↔ (q * 2 ^ k < 2 ^ 277)
    go true h g = (λ t. h tt, λ l. value_finite (odd 25 s q k 149) s (q * 2 ^ k) (2 ^ 149) (odd_sign 25 s q k 149))
    go false h g = (λ t. absurd t, g)

-- it is finite exactly where it is rounded to less than 2 ^ 277 units
pub round_finite : (s : Bool) (a c : ℕ) → T (finite (round binary32 s a c)) ↔ (rnd (a * 2 ^ 149) c < 2 ^ 277)
unfolding rnd
round_finite s a c = let n = a * 2 ^ 149 in rw round_is (units_finite s (kept 24 n c) (drop 24 n c))

-- and then it is a number of the format
pub round_number : (s : Bool) (a c : ℕ) → rnd (a * 2 ^ 149) c < 2 ^ 277 → Number (round binary32 s a c)
round_number s a c h = record { fits32 = round-fits binary32 s a c; is_finite = (round_finite s a c).1 h }

units_real : (s : Bool) (q k : ℕ) → T (not (is_nan (units binary32 s q k)))
unfolding units
units_real s q k = go (ltb (q * 2 ^ k) (2 ^ 277))
  where
    go : (b : Bool) → T (not (is_nan (cond b (odd 25 s q k 149) (inf s))))
    go true = finite_real (odd 25 s q k 149) (value_finite (odd 25 s q k 149) s (q * 2 ^ k) (2 ^ 149) (odd_sign 25 s q k 149))
    go false = unfold is_nan in tt

-- it is never a NaN
pub round_real : (s : Bool) (a c : ℕ) → T (not (is_nan (round binary32 s a c)))
round_real s a c = let n = a * 2 ^ 149 in rw round_is (units_real s (kept 24 n c) (drop 24 n c))

-- its positive side: its size where it is positive, and else 0
pub round_P : (s : Bool) (a c : ℕ) → P (round binary32 s a c) ≡ cond s 0 (cap (rnd (a * 2 ^ 149) c))
round_P s a c = rw (round_sign s a c, round_mag s a c)

-- its negative side: its size where it is negative, and else 0
pub round_N : (s : Bool) (a c : ℕ) → N (round binary32 s a c) ≡ cond s (cap (rnd (a * 2 ^ 149) c)) 0
round_N s a c = rw (round_sign s a c, round_mag s a c)

-- ---- held to an infinity's size
-- below that size nothing was cut off
pub cap_under : (a : ℕ) → cap a < 2 ^ 277 → cap a ≡ a
cap_under a h = held a (2 ^ 277) h
  where
    held : (x m : ℕ) → min x m < m → min x m ≡ x
    held x m l = omega arith

-- ---- every number of 24 digits below 2 ^ 277 is a float
stays : (q j : ℕ) → q ≤ 2 ^ 24 → rnd (q * 2 ^ j * 2 ^ 149) (2 ^ 149) ≡ q * 2 ^ j
stays q j h = rnd_exact (q * 2 ^ j * 2 ^ 149) (2 ^ 149) q j (pow_pos 149) h refl
