-- The float put together from a sine in units of 2 ^ -32: its pattern is no NaN's, its size is at most 1, and it is within half a step of what was computed. Assumes nothing.
use Rattle.std.proofs.Common.{◌≡◌, ℕ, ◌+◌, ◌-◌, ◌*◌, ◌/◌, ◌^◌, ◌<◌, ◌≤◌, Bool, true, false, cond, not, T, ltb, ◌⊎◌, sym, refl, ◌∙◌, inl, inr, le_trans, le_of_eq, le_refl, add-le-add, mul-le-mul_right, mod-lt, eq-zero-or-pos, le_of_mul-le-mul_right, arith, lit<, lit≤, pow_pos, le-ltb, lt-ltb, eq-eqb, ne_eqb}
use lib.Count.{count_leading_zeros}
use lib.Ieee.{Float, binary32, of_bits, to_bits, nan_bits}
use Rattle.units.specs.Units.{mag, negative, P, N, Number}
use Rattle.units.proofs.Naturals.{le-or-lt}
use Rattle.units.proofs.Bits.{sign_bit, no_nan, no_nan_positive}
use Rattle.units.proofs.Ranges.{zero_is, zero_units}
use Rattle.units.proofs.Patterns.{pattern_back}
use Rattle.fixed.specs.Rounded.{Normal, nearest_digits, nearest_bits}
use Rattle.fixed.proofs.Rounding as fixed
use Rattle.fixed.proofs.Rounding.{units_of, bits_fit, is_units, half_most, half_least, units_order}
use Rattle.circle.specs.Wave.{forward, into_quarter, place_of, size_of, wave_bits, wave}
use Rattle.circle.proofs.Method.{D}
use Rattle.circle.proofs.Rounding.{quarter_top}

-- every number above zero of such units is a normal float's
pub normal : (n : ℕ) → Normal n 157
normal n = record { least = λ h. le_trans (le_trans (lit≤ tt) (mul-le-mul_right (2 ^ 157) h)) (le_of_eq refl); most = omega arith }

-- ---- the size of a sine

module _ (t : ℕ) where
  -- a place has 32 digits
  pub place_few : place_of t < D
  unfolding place_of into_quarter
  place_few = go (forward t) (into_quarter t) (mod-lt _ (pow_pos 32))
    where
      go : (b : Bool) (n : ℕ) → n < 2 ^ 32 → cond b n (4294967295 - n) < D
      go true n l = omega arith
      go false n l = omega arith

  pub size_top : size_of t ≤ D + 7
  unfolding size_of
  size_top = quarter_top (place_of t) place_few

-- ---- rounding

top_units : units_of (D + 7) 157 ≡ 2 ^ 149
unfolding units_of nearest_digits count_leading_zeros
top_units = refl

one_units : units_of D 157 ≡ 2 ^ 149
unfolding units_of nearest_digits count_leading_zeros
one_units = refl

module _ (n : ℕ) (top : n ≤ D + 7) where
  short : n < 2 ^ 64
  short = omega arith

  -- at most 1
  pub units_top : units_of n 157 ≤ 2 ^ 149
  units_top = le_trans (units_order n 157 (D + 7) 157 short (normal n) (lit< tt) (normal (D + 7)) (mul-le-mul_right (2 ^ 157) top)) (le_of_eq top_units)

  -- from 1 on, 1
  one : D ≤ n → 2 ^ 149 ≤ units_of n 157
  one h = le_trans (le_of_eq (sym one_units)) (units_order D 157 n 157 (lit< tt) (normal D) short (normal n) (mul-le-mul_right (2 ^ 157) h))

  -- within half a step, 2 ^ -25
  pub units_most : units_of n 157 ≤ n * 2 ^ 117 + 2 ^ 124
  units_most = elim (le-or-lt D n) [
    | inl h ↦ le_trans units_top (le_trans (mul-le-mul_right (2 ^ 117) h) (omega arith))
    | inr h ↦ through (units_of n 157) (2 ^ 117) (2 ^ 40) (2 ^ 124) (pow_pos 40) (half_most n 157 short (normal n) 32 h)
  ]
    where
      through : (u H K W : ℕ) → 0 < K → u * K ≤ n * (H * K) + W * K → u ≤ n * H + W
      through u H K W pos h = le_of_mul-le-mul_right (omega arith) pos

  pub units_least : n * 2 ^ 117 ≤ units_of n 157 + 2 ^ 124
  units_least = elim (le-or-lt D n) [
    | inl h ↦ le_trans (mul-le-mul_right (2 ^ 117) top) (le_trans (lit≤ tt) (add-le-add (one h) (le_refl (2 ^ 124))))
    | inr h ↦ through (units_of n 157) (2 ^ 117) (2 ^ 40) (2 ^ 124) (pow_pos 40) (half_least n 157 short (normal n) 32 h)
  ]
    where
      through : (u H K W : ℕ) → 0 < K → n * (H * K) ≤ u * K + W * K → n * H ≤ u + W
      through u H K W pos h = le_of_mul-le-mul_right (omega arith) pos

-- ---- the sine of a phase, with its sign

-- what is above zero of it, in units of 2 ^ -32
unfoldable pub plus_of : ℕ → ℕ
plus_of t = cond (ltb t (2 ^ 63)) (size_of t) 0

-- and what is below
unfoldable pub minus_of : ℕ → ℕ
minus_of t = cond (ltb t (2 ^ 63)) 0 (size_of t)

-- the pattern where nothing is left, and where something is
module _ (t : ℕ) where
  wave-zero : size_of t ≡ 0 → wave_bits t ≡ 0
  unfolding wave_bits
  wave-zero z = rw (eq-eqb (size_of t) 0 z)

  wave_some : (size_of t ≡ 0 → ⊥) → wave_bits t ≡ t / 2 ^ 63 * 2147483648 + nearest_bits (size_of t) 157
  unfolding wave_bits
  wave_some h = rw (ne_eqb (size_of t) 0 h)

-- the float x of the pattern b is what was computed, rounded
pub record Computed (t b : ℕ) (x : Float) : Type 0 where
  pub few : b < 4294967296
  pub real : T (not (nan_bits binary32 b))
  pub number : Number x
  pub plus : P x ≡ units_of (plus_of t) 157
  pub minus : N x ≡ units_of (minus_of t) 157
  pub size : mag x ≡ units_of (size_of t) 157

module _ (t : ℕ) (few : t < 2 ^ 64) where
  abbrev n : ℕ
  n = size_of t

  short_size : n < 2 ^ 64
  short_size = short n (size_top t)

  -- nothing is left
  nothing : n ≡ 0 → Computed t 0 (of_bits binary32 0)
  unfolding plus_of minus_of
  nothing z = record {
    few = omega arith;
    real = no_nan_positive 0 (omega arith);
    number = zero_is.number;
    plus = zero_units.0 ∙ sym (none (ltb t (2 ^ 63)));
    minus = zero_units.1 ∙ sym (none' (ltb t (2 ^ 63)));
    size = zero_is.units ∙ sym (fixed.zero_units n 157 z);
  }
    where
      none : (b : Bool) → units_of (cond b n 0) 157 ≡ 0
      none true = fixed.zero_units n 157 z
      none false = fixed.zero_units 0 157 refl

      none' : (b : Bool) → units_of (cond b 0 n) 157 ≡ 0
      none' true = fixed.zero_units 0 157 refl
      none' false = fixed.zero_units n 157 z

  -- something, in either half of the turn
  some : 0 < n → (s : Bool) → ltb t (2 ^ 63) ≡ not s → Computed t (sign_bit s + nearest_bits n 157) (of_bits binary32 (sign_bit s + nearest_bits n 157))
  unfolding plus_of minus_of
  some h s half =
      let is = is_units n 157 short_size (normal n) s h in
      record {
        few = under_sign s (bits_fit n 157 short_size (normal n));
        real = no_nan s (nearest_bits n 157) (bits_fit n 157 short_size (normal n));
        number = is.number;
        plus = above s half is.sign is.units;
        minus = under s half is.sign is.units;
        size = is.units;
      }
    where
      x : Float
      x = of_bits binary32 (sign_bit s + nearest_bits n 157)

      under_sign : (s : Bool) → nearest_bits n 157 < 255 * 8388608 → sign_bit s + nearest_bits n 157 < 4294967296
      under_sign true l = omega arith
      under_sign false l = omega arith

      above : (s : Bool) → ltb t (2 ^ 63) ≡ not s → negative x ≡ s → mag x ≡ units_of n 157 → P x ≡ units_of (cond (ltb t (2 ^ 63)) n 0) 157
      above true e i u = rw (e, i) (sym (fixed.zero_units 0 157 refl))
      above false e i u = rw (e, i) u

      under : (s : Bool) → ltb t (2 ^ 63) ≡ not s → negative x ≡ s → mag x ≡ units_of n 157 → N x ≡ units_of (cond (ltb t (2 ^ 63)) 0 n) 157
      under true e i u = rw (e, i) u
      under false e i u = rw (e, i) (sym (fixed.zero_units 0 157 refl))

  -- the sine's pattern, and its float
  pub wave-signed : Computed t (wave_bits t) (wave t)
  unfolding wave
  wave-signed = elim (eq-zero-or-pos n) [
    | inl z ↦ rw (wave-zero t z) (nothing z)
    | inr h ↦ rw (wave_some t (λ z. omega arith)) (either (le-or-lt (2 ^ 63) t) h)
  ]
    where
      either : (2 ^ 63 ≤ t) ⊎ (t < 2 ^ 63) → 0 < n → Computed t (t / 2 ^ 63 * 2147483648 + nearest_bits n 157) (of_bits binary32 (t / 2 ^ 63 * 2147483648 + nearest_bits n 157))
      either (inl l) h = let e : t / 2 ^ 63 ≡ 1 = omega arith in rw e (some h true (le-ltb t (2 ^ 63) l))
      either (inr l) h = let e : t / 2 ^ 63 ≡ 0 = omega arith in rw e (some h false (lt-ltb t (2 ^ 63) l))

  -- read back
  pub wave_pattern : to_bits binary32 (wave t) ≡ wave_bits t
  unfolding wave
  wave_pattern = pattern_back (wave_bits t) wave-signed.few wave-signed.real
