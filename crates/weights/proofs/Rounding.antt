-- One weight: n 2 ^ E times 2 ^ (75 - c) units, for n of 63 or 64 digits, rounded to 24 digits, or cut off to a whole unit where there are no more digits than these.
-- Its error, its order, and that it is at most 1. Assumes nothing.
use mathlib.Core.Path.{◌≡◌, refl, sym, ap, ◌∙◌}
use mathlib.Core.Logic.{inl, inr}
use mathlib.Core.Bool.{false, cond}
use Prim.Native.Nat.{ℕ, ◌+◌, ◌-◌, ◌*◌, ◌/◌, ◌^◌, ◌≤◌, ◌<◌}
use native.Mathlib.Nat.{le_trans, le_of_eq, le_of_lt, zero-mul, zero-add, pow-zero, lt_of_le_of_lt, lt_of_lt_of_le, mul_assoc, mul_right_comm, mul-one, mul-pos, mul-le-mul_left, mul-le-mul_right, mul-lt-mul_of_pos_right, le_of_mul-le-mul_right, lt_of_mul-lt-mul_right, div-mul-le_self, lt-div-mul-add, div-eq_of_lt}
use native.Mathlib.Omega.{arith}
use lib.Dec.{ltb, lit≤}
use lib.Pow.{pow-add, pow_pos, pow_mono}
use borrow.Author.Tests.{lt-ltb, le-ltb}
use lib.Ieee.{binary32, of_bits}
use Rattle.units.proofs.Naturals.{le-or-lt, pow_back, pow_split}
use Rattle.units.proofs.Bits.{Is, put_positive}
use Rattle.fixed.specs.Rounded.{Normal, nearest_bits}
use Rattle.fixed.proofs.Rounding.{units_of, near_most, near_least, whole_units, is_positive, units_order, bits_fit}
use Rattle.weights.specs.Value.{unit_bits}
use Rattle.weights.specs.Weight.{Scaling, AtMostOne}

-- the units of the weight
unfoldable pub weight_units : ℕ → ℕ → ℕ → ℕ
weight_units n e c = cond (ltb c e) (units_of n (e - c)) (n / 2 ^ (c + 40 - e))

-- n digits with the exponent E, scaled by c to at most 1
pub record Placed (n E c : ℕ) : Type 0 where
  pub least : 2 ^ 62 ≤ n
  pub most : n < 2 ^ 64
  pub at_most_one : n * 2 ^ E ≤ 2 ^ 74 * 2 ^ c

-- digits from 2 ^ 32 to 2 ^ 33, scaled by r
pub placed : (d E r c : ℕ) → 2 ^ 32 ≤ d → d ≤ 2 ^ 33 → Scaling r c → AtMostOne (d * 2 ^ E) r c → Placed (d * r) E c
placed d E r c least most s one = record { least = above r s.least; most = below r s.most; at_most_one = le_trans (le_of_eq (mul_right_comm d r (2 ^ E))) one }
  where
    above : (r : ℕ) → 2 ^ 30 ≤ r → 2 ^ 62 ≤ d * r
    above r h = omega (arith, mul-le-mul_left d h)

    below : (r : ℕ) → r < 2 ^ 31 → d * r < 2 ^ 64
    below r h = omega (arith, mul-le-mul_left d h)

module _ (n E c : ℕ) (p : Placed n E c) where
  abbrev e : ℕ
  e = E + 115

  abbrev U : ℕ
  U = weight_units n e c

  -- ---- more than 24 digits
  module _ (more : c < e) where
    units_more : U ≡ units_of n (e - c)
    unfolding weight_units
    units_more = rw (lt-ltb c e more)

    -- the pattern is rounded
    pub bits_more : unit_bits n e c ≡ nearest_bits n (e - c)
    unfolding unit_bits
    bits_more = rw (lt-ltb c e more)

    exponent_in : E ≤ 12 + c
    exponent_in =
        let h : 62 + E ≤ 74 + c = pow_back (62 + E) (74 + c) (le_trans (le_of_eq (pow-add 2 62 E)) (le_trans (mul-le-mul_right (2 ^ E) p.least) (le_trans p.at_most_one (le_of_eq (sym (pow-add 2 74 c)))))) in
        omega arith

    pub normal : Normal n (e - c)
    normal = let i = exponent_in in record { least = λ h. le_trans (twice p.least) (mul-le-mul_left n (pow_mono {i = 1} {j = e - c} (omega arith))); most = omega arith }
      where
        twice : 2 ^ 62 ≤ n → 2 ^ 63 ≤ n * 2 ^ 1
        twice h = omega arith

    -- over c again
    pub over_c : n * 2 ^ (e - c) * 2 ^ c ≡ n * 2 ^ E * 2 ^ 115
    over_c = mul_assoc n (2 ^ (e - c)) (2 ^ c) ∙ ap (λ (i : ℕ). n * i) (sym (pow_split c e (omega arith)) ∙ pow-add 2 E 115) ∙ sym (mul_assoc n (2 ^ E) (2 ^ 115))

    -- within one part in 2 ^ 24, from above and from below
    more_most : U * 2 ^ 24 * 2 ^ c ≤ n * 2 ^ E * 2 ^ 75 * (2 ^ 24 + 1)
    more_most = rw units_more (le_of_mul-le-mul_right (through (units_of n (e - c)) (n * 2 ^ (e - c)) (n * 2 ^ E) (2 ^ c) (2 ^ 24) (2 ^ 40) (2 ^ 75) (2 ^ 24 + 1) (near_most n (e - c) p.most normal) over_c) (pow_pos 40))
      where
        through : (u v w C A M L K : ℕ) → u * (A * M) ≤ v * K → v * C ≡ w * (L * M) → u * A * C * M ≤ w * L * K * M
        through u v w C A M L K h o = omega (arith, mul-le-mul_right C h, ap (λ (i : ℕ). i * K) o)

    more_least : n * 2 ^ E * 2 ^ 75 * (2 ^ 24 - 1) ≤ U * 2 ^ 24 * 2 ^ c
    more_least = rw units_more (le_of_mul-le-mul_right (through (units_of n (e - c)) (n * 2 ^ (e - c)) (n * 2 ^ E) (2 ^ c) (2 ^ 24) (2 ^ 40) (2 ^ 75) (2 ^ 24 - 1) (near_least n (e - c) p.most normal) over_c) (pow_pos 40))
      where
        through : (u v w C A M L K : ℕ) → v * K ≤ u * (A * M) → v * C ≡ w * (L * M) → w * L * K * M ≤ u * A * C * M
        through u v w C A M L K h o = omega (arith, mul-le-mul_right C h, ap (λ (i : ℕ). i * K) o)

    -- a normal float
    pub more_units : 2 ^ 23 ≤ U
    more_units = rw units_more (half (units_of n (e - c)) (n * 2 ^ (e - c)) (near_least n (e - c) p.most normal) (normal.least (lt_of_lt_of_le (omega arith) p.least)))
      where
        half : (u v : ℕ) → v * (2 ^ 24 - 1) ≤ u * 2 ^ 64 → 2 ^ 63 ≤ v → 2 ^ 23 ≤ u
        half u v h l = omega arith

    -- 1 is a float
    more_one : U ≤ 2 ^ 149
    more_one = rw units_more (le_trans (units_order n (e - c) (2 ^ 63) 126 p.most normal (omega arith) one below) exact)
      where
        one : Normal (2 ^ 63) 126
        one = record { least = λ h. lit≤ tt; most = omega arith }

        exact : units_of (2 ^ 63) 126 ≤ 2 ^ 149
        exact = le_of_mul-le-mul_right (le_of_eq (whole_units (2 ^ 63) 126 (omega arith) one 1 63 refl (omega arith))) (pow_pos 40)

        below : n * 2 ^ (e - c) ≤ 2 ^ 63 * 2 ^ 126
        below = le_of_mul-le-mul_right (le_trans (le_of_eq over_c) (scaled (n * 2 ^ E) (2 ^ 74) (2 ^ 115) (2 ^ c) p.at_most_one)) (pow_pos c)
          where
            scaled : (w k m C : ℕ) → w ≤ k * C → w * m ≤ k * m * C
            scaled w k m C h = omega (arith, mul-le-mul_right m h)

  -- ---- 24 digits at most
  module _ (few : e ≤ c) where
    abbrev H : ℕ
    H = 2 ^ (c + 40 - e)

    abbrev S : ℕ
    S = n / H

    units_few : U ≡ S
    unfolding weight_units
    units_few = rw (le-ltb c e few)

    -- the pattern is cut off
    pub bits_few : unit_bits n e c ≡ S
    unfolding unit_bits
    bits_few = rw (le-ltb c e few)

    -- over c again
    places : 2 ^ c ≡ H * (2 ^ E * 2 ^ 75)
    places =
        let i : c - (E + 75) ≡ c + 40 - e = omega arith in
        pow_split (E + 75) c (omega arith) ∙ ap (λ (j : ℕ). 2 ^ j * 2 ^ (E + 75)) i ∙ ap (λ (j : ℕ). H * j) (pow-add 2 E 75)

    -- cut off to a whole unit
    few_most : U * 2 ^ c ≤ n * 2 ^ E * 2 ^ 75
    few_most = rw (units_few, places) (through S H (2 ^ E) (2 ^ 75) (div-mul-le_self n H))
      where
        through : (s h v L : ℕ) → s * h ≤ n → s * (h * (v * L)) ≤ n * v * L
        through s h v L k = omega (arith, mul-le-mul_right (v * L) k)

    few_least : n * 2 ^ E * 2 ^ 75 < (U + 1) * 2 ^ c
    few_least = rw (units_few, places) (through S H (2 ^ E) (2 ^ 75) (mul-pos (pow_pos E) (pow_pos 75)) (lt-div-mul-add (pow_pos (c + 40 - e))))
      where
        through : (s h v L : ℕ) → 0 < v * L → n < s * h + h → n * v * L < (s + 1) * (h * (v * L))
        through s h v L o k = omega (arith, mul-lt-mul_of_pos_right k o)

    -- and is the number of units
    pub few_units : S < 2 ^ 24
    few_units = small S H (div-mul-le_self n H) (pow_mono {i = 40} {j = c + 40 - e} (omega arith)) p.most
      where
        small : (s h : ℕ) → s * h ≤ n → 2 ^ 40 ≤ h → n < 2 ^ 64 → s < 2 ^ 24
        small s h a b d = omega (arith, mul-le-mul_left s b)

    -- nothing is left behind 64 places
    pub few_none : 64 ≤ c + 40 - e → S ≡ 0
    few_none far = div-eq_of_lt (lt_of_lt_of_le p.most (pow_mono {i = 64} {j = c + 40 - e} far))

  -- ---- both
  -- the error: one part in 2 ^ 24, and from below one unit
  pub units_most : U * 2 ^ 24 * 2 ^ c ≤ n * 2 ^ E * 2 ^ 75 * (2 ^ 24 + 1)
  units_most = elim (le-or-lt e c) [ inl h ↦ weaker U (2 ^ c) (n * 2 ^ E * 2 ^ 75) (2 ^ 24) (few_most h) | inr h ↦ more_most h ]
    where
      weaker : (u C w A : ℕ) → u * C ≤ w → u * A * C ≤ w * (A + 1)
      weaker u C w A h = omega (arith, mul-le-mul_right A h)

  pub units_least : n * 2 ^ E * 2 ^ 75 * (2 ^ 24 - 1) ≤ (U + 1) * 2 ^ 24 * 2 ^ c
  units_least = elim (le-or-lt e c) [
    | inl h ↦ weaker U (2 ^ c) (n * 2 ^ E * 2 ^ 75) (few_least h)
    | inr h ↦ le_trans (more_least h) (mul-le-mul_right (2 ^ c) (mul-le-mul_right (2 ^ 24) (omega arith)))
  ]
    where
      weaker : (u C w : ℕ) → w < (u + 1) * C → w * (2 ^ 24 - 1) ≤ (u + 1) * 2 ^ 24 * C
      weaker u C w h = omega arith

  -- no weight passes 1
  pub units_one : U ≤ 2 ^ 149
  units_one = elim (le-or-lt e c) [
    | inl h ↦ rw (units_few h) (le_trans (le_of_lt (few_units h)) (pow_mono {i = 24} {j = 149} (omega arith)))
    | inr h ↦ more_one h
  ]

  -- the pattern is that of these units
  pub weight_is : Is (of_bits binary32 (unit_bits n e c)) false U
  weight_is = elim (le-or-lt e c) [
    | inl h ↦ rw (bits_few h, units_few h) (rw (zero-mul, zero-add, pow-zero, mul-one) at (put_positive (S h) 0 (inl refl) (le_of_lt (few_units h)) (omega (arith, few_units h))))
    | inr h ↦ rw (bits_more h, units_more h) (is_positive n (e - c) p.most (normal h))
  ]

  pub pattern_in : unit_bits n e c < 255 * 8388608
  pattern_in = elim (le-or-lt e c) [
    | inl h ↦ rw (bits_few h) (lt_of_lt_of_le (few_units h) (lit≤ tt))
    | inr h ↦ rw (bits_more h) (bits_fit n (e - c) p.most (normal h))
  ]

-- ---- order: a larger power, with no smaller exponent, has no smaller weight
module _ (n E n' E' c : ℕ) (p : Placed n E c) (p' : Placed n' E' c) (up : E ≤ E') (l : n * 2 ^ E ≤ n' * 2 ^ E') where
  abbrev u : ℕ
  u = weight_units n (E + 115) c

  abbrev u' : ℕ
  u' = weight_units n' (E' + 115) c

  both_more : c < E + 115 → u ≤ u'
  both_more h =
      let h' : c < E' + 115 = omega arith in
      rw (units_more n E c p h, units_more n' E' c p' h')
      (units_order n (E + 115 - c) n' (E' + 115 - c) p.most (normal n E c p h) p'.most (normal n' E' c p' h')
      (le_of_mul-le-mul_right (rw (over_c n E c p h, over_c n' E' c p' h') (mul-le-mul_right (2 ^ 115) l)) (pow_pos c)))

  both_few : E' + 115 ≤ c → u ≤ u'
  both_few h =
      let k : u * 2 ^ c < (u' + 1) * 2 ^ c = lt_of_le_of_lt (le_trans (few_most n E c p (omega arith)) (mul-le-mul_right (2 ^ 75) l)) (few_least n' E' c p' h) in
      let m : u < u' + 1 = lt_of_mul-lt-mul_right (2 ^ c) k in
      omega arith

  -- whole units from 2 ^ 23 to 2 ^ 24 are floats, and rounding keeps their order
  few_more : E + 115 ≤ c → c < E' + 115 → u ≤ u'
  few_more h h' = elim (le-or-lt (2 ^ 23) u) [
    | inr k ↦ le_trans (le_of_lt k) (more_units n' E' c p' h')
    | inl k ↦
        let s : u < 2 ^ 24 = rw (units_few n E c p h) (few_units n E c p h) in
        let o : Normal u 40 = record { least = λ z. omega arith; most = omega arith } in
        let w : u ≤ units_of u 40 = le_of_mul-le-mul_right (le_of_eq (sym (whole_units u 40 (omega arith) o u 0 (sym (mul-one u)) s))) (pow_pos 40) in
        le_trans w (rw (units_more n' E' c p' h') (units_order u 40 n' (E' + 115 - c) (omega arith) o p'.most (normal n' E' c p' h') below))
  ]
    where
      scaled : (a C w w' L M : ℕ) → a * C ≤ w * L → w ≤ w' → a * M * C ≤ w' * (L * M)
      scaled a C w w' L M g k = omega (arith, mul-le-mul_right M g, mul-le-mul_right (L * M) k)

      below : u * 2 ^ 40 ≤ n' * 2 ^ (E' + 115 - c)
      below = le_of_mul-le-mul_right (rw (over_c n' E' c p' h') (scaled u (2 ^ c) (n * 2 ^ E) (n' * 2 ^ E') (2 ^ 75) (2 ^ 40) (few_most n E c p h) l)) (pow_pos c)

  pub weight_order : u ≤ u'
  weight_order = elim (le-or-lt (E + 115) c) [
    | inr h ↦ both_more h
    | inl h ↦ elim (le-or-lt (E' + 115) c) [ inl k ↦ both_few k | inr k ↦ few_more h k ]
  ]
