-- A power of two between the middles of a float and its neighbours: that float is the nearest, and within 2 ^ -24 of it. Assumes nothing.
use Rattle.std.proofs.Common.{◌≡◌, ℕ, ◌+◌, ◌-◌, ◌*◌, ◌^◌, ◌<◌, ◌≤◌, false, ◌⊎◌, sym, ◌∙◌, subst, inl, inr, mul-le-mul_right, eq-or-lt_of_le, mul-lt-mul_of_pos_right, arith, lit<, pow_pos}
use lib.Ieee.{Float}
use Rattle.units.specs.Units.{P, N}
use Rattle.units.proofs.Signs.{plus_of_lem, minus_of_lem}
use Rattle.units.proofs.Bits.{Is}
use Rattle.fixed.proofs.Nearest.{Middle, nearest_above, nearest_below}
use Rattle.exact.specs.Power.{AtMost, AtLeast, LessThan, MoreThan}
use Rattle.exact.proofs.Power.{most_of_less, least_of_more}
use Rattle.exact.proofs.Strict.{less_of_less, more_grows, less_falls, less_most, more_least}
use Rattle.powers.specs.Exp2.{NearestPower, NearPower, exp2_error_num, exp2_error_den}

-- 2 ^ x is between the middles of S steps of 2 ^ g units and their neighbours; at the least significand, where floats below are denser, it is no less than S steps
pub record Rounds (x : Float) (S g : ℕ) : Type 0 where
  pub least : 2 ^ 23 ≤ S
  pub most : S ≤ 2 ^ 24
  pub over : MoreThan ((2 * S + 1) * 2 ^ g) (2 * 2 ^ 149) (P x) (N x) (2 ^ 149)
  pub under : LessThan ((2 * S - 1) * 2 ^ g) (2 * 2 ^ 149) (P x) (N x) (2 ^ 149)
  pub first : S ≡ 2 ^ 23 → AtMost (S * 2 ^ g) (2 ^ 149) (P x) (N x) (2 ^ 149)

-- such S and g, for u units
pub record Found (x : Float) (u : ℕ) : Type 0 where
  pub S : ℕ
  pub g : ℕ
  pub rounds : Rounds x S g
  pub same : u ≡ S * 2 ^ g

-- ---- over plain numbers: a significand S, a step G and the unit U

-- where s is below 2 n, half of it is below n
doubled : (U S G s : ℕ) → 0 < U → s < 2 * S * G → s * U < S * G * (2 * U)
doubled U S G s pos l = omega (arith, mul-lt-mul_of_pos_right l pos)

-- half a step below is no more than 2 ^ -24 of S steps, but at the least significand
half_below : (T G U : ℕ) → 2 ^ 23 ≤ T → 2 ^ 24 * ((T + 1) * G) * (2 * U) ≤ (2 * T + 1) * G * ((2 ^ 24 + 1) * U)
half_below T G U l = omega (arith, mul-le-mul_right (G * U) l)

-- and half a step above
half_above : (S G U : ℕ) → 2 ^ 23 ≤ S → (2 * S + 1) * G * ((2 ^ 24 - 1) * U) ≤ 2 ^ 24 * (S * G) * (2 * U)
half_above S G U l = omega (arith, mul-le-mul_right (G * U) l)

wider : (n U : ℕ) → 2 ^ 24 * n * U ≤ n * ((2 ^ 24 + 1) * U)
wider n U = omega arith

-- the significand before one that is not the least
before : (S : ℕ) → 2 ^ 23 < S → (T : ℕ) × (S ≡ T + 1) × (2 * S - 1 ≡ 2 * T + 1) × (2 ^ 23 ≤ T)
before S l = (S - 1, omega arith, omega arith, omega arith)

module _ (x : Float) (S g : ℕ) (h : Rounds x S g) (r : Float) (is : Is r false (S * 2 ^ g)) where
  abbrev Over : ℕ → Type 0
  Over s = MoreThan s (2 * 2 ^ 149) (P x) (N x) (2 ^ 149)

  abbrev Under : ℕ → Type 0
  Under s = LessThan s (2 * 2 ^ 149) (P x) (N x) (2 ^ 149)

  middle : Middle Over Under S (2 ^ g)
  middle = record {
    grows = λ s s' l. more_grows l;
    falls = λ s s' l. less_falls l;
    over = h.over;
    under = h.under;
    first = λ e s l. less_of_less (lit< tt) (doubled (2 ^ 149) S (2 ^ g) s (pow_pos 149) l) (h.first e);
  }

  -- so no float is as near
  pub rounds_nearest : NearestPower x r
  rounds_nearest = record { from_above = nearest_above Over Under S g h.least middle r is; from_below = nearest_below Over Under S g h.least middle r is }

  units : P r ≡ S * 2 ^ g
  units = plus_of_lem r is.sign ∙ is.units

  low : AtMost (2 ^ 24 * (S * 2 ^ g)) ((2 ^ 24 + 1) * 2 ^ 149) (P x) (N x) (2 ^ 149)
  low = go (eq-or-lt_of_le h.least)
    where
      go : (2 ^ 23 ≡ S) ⊎ (2 ^ 23 < S) → AtMost (2 ^ 24 * (S * 2 ^ g)) ((2 ^ 24 + 1) * 2 ^ 149) (P x) (N x) (2 ^ 149)
      go (inl e) = most_of_less (lit< tt) (wider (S * 2 ^ g) (2 ^ 149)) (h.first (sym e))
      go (inr l) =
          let (T, e, d, k) = before S l in
          subst (λ (n : ℕ). AtMost (2 ^ 24 * (n * 2 ^ g)) ((2 ^ 24 + 1) * 2 ^ 149) (P x) (N x) (2 ^ 149)) (sym e)
          (most_of_less (lit< tt) (half_below T (2 ^ g) (2 ^ 149) k) (less_most (subst (λ (n : ℕ). LessThan (n * 2 ^ g) (2 * 2 ^ 149) (P x) (N x) (2 ^ 149)) d h.under)))

  high : AtLeast (2 ^ 24 * (S * 2 ^ g)) ((2 ^ 24 - 1) * 2 ^ 149) (P x) (N x) (2 ^ 149)
  high = least_of_more (lit< tt) (half_above S (2 ^ g) (2 ^ 149) h.least) (more_least h.over)

  -- and r is within 2 ^ -24
  pub rounds_near : NearPower exp2_error_num exp2_error_den x r
  rounds_near = record { plus = minus_of_lem r is.sign; at_most = rw units low; at_least = rw units high }
