-- A logarithm between the middles of a float and its neighbours: that float is the nearest, and within 2 ^ -24 of it. Assumes nothing.
use Rattle.std.proofs.Common.{◌≡◌, ℕ, ◌+◌, ◌-◌, ◌*◌, ◌^◌, ◌<◌, ◌≤◌, false, ◌⊎◌, sym, refl, subst, inl, inr, mul-le-mul_right, eq-or-lt_of_le, mul-lt-mul_of_pos_right, arith, lit<, pow_pos}
use lib.Ieee.{Float, neg}
use Rattle.units.specs.Units.{P, N, Number, Lt}
use Rattle.units.proofs.Opposite.{opposite, opposite_plus, opposite_minus}
use Rattle.units.proofs.Bits.{Is}
use Rattle.fixed.proofs.Nearest.{Middle, nearest_above, nearest_below}
use Rattle.exact.specs.Power.{AtLeast, LessThan, MoreThan}
use Rattle.exact.proofs.Power.{most_of_larger, least_of_smaller}
use Rattle.exact.proofs.Strict.{less_most, more_least}
use Rattle.exact.proofs.Exponents.{more_of_smaller, less_wider, more_narrower, less_mirrored, more_mirrored}
use Rattle.logs.specs.Log2.{AroundLog, log2_error_num, log2_error_den}

-- the exponents' unit: half of one of the float's
abbrev pub Q : ℕ
Q = 2 * 2 ^ 149

-- log2 (n / d), above zero, is between the middles of S steps of 2 ^ g units and their neighbours; at the least significand, where floats below are denser, it is no less than S steps
pub record Rounds (n d S g : ℕ) : Type 0 where
  pub least : 2 ^ 23 ≤ S
  pub most : S ≤ 2 ^ 24
  pub over : LessThan n d ((2 * S + 1) * 2 ^ g) 0 Q
  pub under : MoreThan n d ((2 * S - 1) * 2 ^ g) 0 Q
  pub first : S ≡ 2 ^ 23 → AtLeast n d (S * 2 ^ g) 0 (2 ^ 149)

-- such S and g, for T units
pub record Found (n d T : ℕ) : Type 0 where
  pub S : ℕ
  pub g : ℕ
  pub rounds : Rounds n d S g
  pub same : T ≡ S * 2 ^ g

-- r is the float nearest to log2 (n / d)
pub record Nearest (n d : ℕ) (r : Float) : Type 0 where
  pub from_above : (z : Float) → Number z → Lt r z → LessThan n d (P r + P z) (N r + N z) Q
  pub from_below : (z : Float) → Number z → Lt z r → MoreThan n d (P r + P z) (N r + N z) Q

-- ---- over plain numbers: a significand S, a step G and the unit U

restored : (s t : ℕ) → t < s → s - t + t ≤ s + 0
restored s t h = omega arith

kept : (s t : ℕ) → s + 0 ≤ s - t + t
kept s t = omega arith

below-zero : (s t u : ℕ) → s < t → s + 0 ≤ u + t
below-zero s t u h = omega arith

doubled : (U S G s : ℕ) → 0 < U → s < 2 * S * G → s * U + 0 * (2 * U) < S * G * (2 * U) + 0 * U
doubled U S G s pos l = omega (arith, mul-lt-mul_of_pos_right l pos)

-- half a step below is no more than 2 ^ -24 of S steps, but at the least significand
half_below : (T G U : ℕ) → 2 ^ 23 ≤ T → (T + 1) * G * 2 ^ 24 * (2 * U) + 0 * (U * (2 ^ 24 + 1)) ≤ (2 * T + 1) * G * (U * (2 ^ 24 + 1)) + 0 * (2 * U)
half_below T G U l = omega (arith, mul-le-mul_right (G * U) l)

-- and half a step above
half_above : (S G U : ℕ) → 2 ^ 23 ≤ S → (2 * S + 1) * G * (U * (2 ^ 24 - 1)) + 0 * (2 * U) ≤ S * G * 2 ^ 24 * (2 * U) + 0 * (U * (2 ^ 24 - 1))
half_above S G U l = omega (arith, mul-le-mul_right (G * U) l)

wider : (n U : ℕ) → n * 2 ^ 24 * U + 0 * (U * (2 ^ 24 + 1)) ≤ n * (U * (2 ^ 24 + 1)) + 0 * U
wider n U = omega arith

-- the significand before one that is not the least
before : (S : ℕ) → 2 ^ 23 < S → (T : ℕ) × (S ≡ T + 1) × (2 * S - 1 ≡ 2 * T + 1) × (2 ^ 23 ≤ T)
before S l = (S - 1, omega arith, omega arith, omega arith)

module _ (n d S g : ℕ) (h : Rounds n d S g) where
  abbrev Over : ℕ → Type 0
  Over s = LessThan n d s 0 Q

  abbrev Under : ℕ → Type 0
  Under s = MoreThan n d s 0 Q

  middle : Middle Over Under S (2 ^ g)
  middle = record {
    grows = λ s s' l. less_wider (omega arith);
    falls = λ s s' l. more_narrower (omega arith);
    over = h.over;
    under = h.under;
    first = λ e s l. more_of_smaller (lit< tt) (doubled (2 ^ 149) S (2 ^ g) s (pow_pos 149) l) (h.first e);
  }

  -- so no float is as near as that of S steps
  pub rounds_nearest : (r : Float) → Is r false (S * 2 ^ g) → Nearest n d r
  rounds_nearest r is = record { from_above = up; from_below = down }
    where
      up : (z : Float) → Number z → Lt r z → LessThan n d (P r + P z) (N r + N z) Q
      up z k l = let (a, b) = nearest_above Over Under S g h.least middle r is z k l in less_wider (restored (P r + P z) (N r + N z) a) b

      down : (z : Float) → Number z → Lt z r → MoreThan n d (P r + P z) (N r + N z) Q
      down z k l = elim (nearest_below Over Under S g h.least middle r is z k l) [
        | inl a ↦ more_narrower (below-zero (P r + P z) (N r + N z) ((2 * S - 1) * 2 ^ g) a) h.under
        | inr b ↦ more_narrower (kept (P r + P z) (N r + N z)) b
      ]

  low : AtLeast n d (S * 2 ^ g * 2 ^ 24) 0 (2 ^ 149 * (2 ^ 24 + 1))
  low = go (eq-or-lt_of_le h.least)
    where
      go : (2 ^ 23 ≡ S) ⊎ (2 ^ 23 < S) → AtLeast n d (S * 2 ^ g * 2 ^ 24) 0 (2 ^ 149 * (2 ^ 24 + 1))
      go (inl e) = least_of_smaller (lit< tt) (wider (S * 2 ^ g) (2 ^ 149)) (h.first (sym e))
      go (inr l) =
          let (T, e, d', k) = before S l in
          subst (λ (i : ℕ). AtLeast n d (i * 2 ^ g * 2 ^ 24) 0 (2 ^ 149 * (2 ^ 24 + 1))) (sym e)
          (least_of_smaller (lit< tt) (half_below T (2 ^ g) (2 ^ 149) k) (more_least (subst (λ (i : ℕ). MoreThan n d (i * 2 ^ g) 0 Q) d' h.under)))

  -- and they are within 2 ^ -24 of the logarithm
  pub rounds_near : AroundLog log2_error_num log2_error_den (S * 2 ^ g) n d
  rounds_near = record { least = low; most = most_of_larger (lit< tt) (half_above S (2 ^ g) (2 ^ 149) h.least) (less_most h.over) }

-- ---- the other sign: the opposite float is nearest to the logarithm of the reciprocal
module _ (n d : ℕ) (pos : 0 < n) (r : Float) (k : Number r) (h : Nearest n d (neg r)) where
  -- a sum with the opposite floats
  plus : (z : Float) → Number z → P (neg r) + P (neg z) ≡ N r + N z
  plus z l = rw (opposite_plus r k, opposite_plus z l) refl

  minus : (z : Float) → Number z → N (neg r) + N (neg z) ≡ P r + P z
  minus z l = rw (opposite_minus r k, opposite_minus z l) refl

  pub mirrored_nearest : Nearest d n r
  mirrored_nearest = record {
    from_above = λ z l o. rw (plus z l, minus z l) at (less_mirrored (h.from_below (neg z) (opposite z l) (rw (opposite_plus r k, opposite_minus r k, opposite_plus z l, opposite_minus z l) (turned (P r) (N r) (P z) (N z) o))));
    from_below = λ z l o. rw (plus z l, minus z l) at (more_mirrored pos (h.from_above (neg z) (opposite z l) (rw (opposite_plus r k, opposite_minus r k, opposite_plus z l, opposite_minus z l) (turned (P z) (N z) (P r) (N r) o))));
  }
    where
      turned : (p m q o : ℕ) → p + o < q + m → o + p < m + q
      turned p m q o l = omega arith
