-- Rounding: n * 2 ^ (e - 40) units, to 24 digits. The float put together is half a digit off at most, has the order of n, and is exact where 24 digits are enough. Assumes nothing.
use mathlib.Core.Path.{◌≡◌, refl, sym, ap, ◌∙◌, subst}
use mathlib.Core.Logic.{inl, inr}
use mathlib.Core.Bool.{Bool, false, cond}
use Prim.Native.Nat.{ℕ, suc, ◌+◌, ◌-◌, ◌*◌, ◌/◌, ◌^◌, ◌≤◌, ◌<◌, zero-le}
use native.Mathlib.Nat.{le_trans, le_of_eq, lt_of_lt_of_le, eq-or-lt_of_le, eq-zero-or-pos, mul_assoc, mul-pos, mul-le-mul_left, mul-le-mul_right, mul-lt-mul_of_pos_right, le_of_mul-le-mul_right, lt_of_mul-lt-mul_right, le_antisymm, not-le_of_lt, pow-suc, zero-mul, zero-add}
use native.Mathlib.Omega.{arith}
use lib.Pow.{pow-add, pow_pos, pow_mono}
use lib.Count.{count_leading_zeros, leading_top}
use lib.Dec.{eqb}
use borrow.Author.Tests.{eq-eqb, ne_eqb}
use lib.Ieee.{binary32, of_bits}
use Rattle.units.proofs.Naturals.{le-or-lt, pow_split}
use Rattle.units.proofs.Round.{step}
use Rattle.units.proofs.Bits.{Is, sign_bit, put, put_positive}
use Rattle.fixed.specs.Rounded.{Normal, nearest_digits, nearest_bits}

-- ---- how many digits n has
-- shifted by the leading zeros of its k + 1 digits, a number has its top digit set
pub leading_shift : (k n : ℕ) → 0 < n → n < 2 ^ suc k → (count_leading_zeros (suc k) n ≤ k) × (2 ^ k ≤ n * 2 ^ count_leading_zeros (suc k) n) × (n * 2 ^ count_leading_zeros (suc k) n < 2 ^ suc k)
leading_shift k n pos h =
    let (j, e, l, u) = leading_top (suc k) n pos h in
    let z = count_leading_zeros (suc k) n in
    let e' : j + z ≡ k = omega arith in
    let e'' : suc j + z ≡ suc k = omega arith in (
      omega arith,
      le_trans (le_of_eq (ap (λ (i : ℕ). 2 ^ i) (sym e') ∙ pow-add 2 j z)) (mul-le-mul_right (2 ^ z) l),
      lt_of_lt_of_le (mul-lt-mul_of_pos_right u (pow_pos z)) (le_of_eq (sym (pow-add 2 (suc j) z) ∙ ap (λ (i : ℕ). 2 ^ i) e'')),
    )

-- n has 64 - z digits
pub record Placed (n z : ℕ) : Type 0 where
  pub small : z ≤ 63
  pub low : 2 ^ 63 ≤ n * 2 ^ z
  pub high : n * 2 ^ z < 2 ^ 64

-- as its leading zeros say
pub placed : (n : ℕ) → 0 < n → n < 2 ^ 64 → Placed n (count_leading_zeros 64 n)
placed n pos h = let (s, l, u) = leading_shift 63 n pos h in record { small = s; low = l; high = u }

-- a number that reaches 2 ^ 63 when multiplied by 2 ^ e has at most e leading zeros
pub few_zeros : (n z e : ℕ) → Placed n z → 2 ^ 63 ≤ n * 2 ^ e → z ≤ e
few_zeros n z e p l = elim (le-or-lt z e) [
  | inl h ↦ h
  | inr h ↦ absurd (not-le_of_lt p.high (le_trans (twice n (2 ^ e) l) (le_trans (le_of_eq (ap (λ (i : ℕ). n * i) (sym (pow-suc 2 e)))) (mul-le-mul_left n (pow_mono h)))))
]
  where
    twice : (m u : ℕ) → 2 ^ 63 ≤ m * u → 2 ^ 64 ≤ m * (u * 2)
    twice m u h = omega arith

-- one of k digits has 64 - k leading zeros at least
many_zeros : (n z k : ℕ) → Placed n z → n < 2 ^ k → 64 ≤ k + z
many_zeros n z k p l = elim (le-or-lt 64 (k + z)) [
  | inl h ↦ h
  | inr h ↦ absurd (not-le_of_lt (lt_of_lt_of_le (mul-lt-mul_of_pos_right l (pow_pos z)) (le_trans (le_of_eq (sym (pow-add 2 k z))) (pow_mono {i = k + z} {j = 63} (omega arith)))) p.low)
]

-- a number of more than 32 digits has the leading zeros of its upper word
pub upper_zeros : (n : ℕ) → 0 < n / 4294967296 → n < 2 ^ 64 → (count_leading_zeros 32 (n / 4294967296) ≤ 31) × (count_leading_zeros 32 (n / 4294967296) ≡ count_leading_zeros 64 n)
upper_zeros n pos h =
    let (s, l, u) = leading_shift 31 (n / 4294967296) pos (omega arith) in
    let p = upper (count_leading_zeros 32 (n / 4294967296)) s l u in
    let q = placed n (omega arith) h in
    (s, le_antisymm (few_zeros n _ _ p q.low) (few_zeros n _ _ q p.low))
  where
    raised : (k m U : ℕ) → k * 4294967296 ≤ m → 2 ^ 31 ≤ k * U → 2 ^ 63 ≤ m * U
    raised k m U g l = le_trans (multiplied (k * U) l) (le_trans (le_of_eq (turned k U)) (mul-le-mul_right U g))
      where
        multiplied : (a : ℕ) → 2 ^ 31 ≤ a → 2 ^ 63 ≤ a * 4294967296
        multiplied a l = omega arith

        turned : (k U : ℕ) → k * U * 4294967296 ≡ k * 4294967296 * U
        turned k U = omega arith

    topped : (k m U W : ℕ) → m < (k + 1) * 4294967296 → 0 < U → W * U ≡ 2 ^ 32 → k * U < 2 ^ 32 → m * U < 2 ^ 64
    topped k m U W g pu w l =
        let c : k + 1 ≤ W = next (lt_of_mul-lt-mul_right U (lt_of_lt_of_le l (le_of_eq (sym w)))) in
        lt_of_lt_of_le (mul-lt-mul_of_pos_right g pu) (le_trans (le_of_eq (turned (k + 1) U)) (le_trans (mul-le-mul_right 4294967296 (mul-le-mul_right U c)) (le_of_eq (ap (λ (i : ℕ). i * 4294967296) w))))
      where
        next : k < W → k + 1 ≤ W
        next h = omega arith

        turned : (k U : ℕ) → k * 4294967296 * U ≡ k * U * 4294967296
        turned k U = omega arith

    upper : (z : ℕ) → z ≤ 31 → 2 ^ 31 ≤ n / 4294967296 * 2 ^ z → n / 4294967296 * 2 ^ z < 2 ^ 32 → Placed n z
    upper z s l u =
        record {
          small = le_trans s (omega arith);
          low = raised (n / 4294967296) n (2 ^ z) (omega arith) l;
          high = topped (n / 4294967296) n (2 ^ z) (2 ^ (32 - z)) (omega arith) (pow_pos z) (sym (pow_split z 32 (le_trans s (omega arith)))) u;
        }

-- one of at most 32 digits has 32 more than its word
pub lower_zeros : (n : ℕ) → 0 < n → n < 4294967296 → (count_leading_zeros 32 n ≤ 31) × (n * 2 ^ count_leading_zeros 32 n < 4294967296) × (32 + count_leading_zeros 32 n ≡ count_leading_zeros 64 n)
lower_zeros n pos h =
    let (s, l, u) = leading_shift 31 n pos h in
    let p = lower (count_leading_zeros 32 n) s l u in
    let q = placed n pos (lt_of_lt_of_le h (omega arith)) in
    (s, u, le_antisymm (few_zeros n _ _ p q.low) (few_zeros n _ _ q p.low))
  where
    whole : (z : ℕ) → n * 2 ^ (32 + z) ≡ n * 2 ^ z * 4294967296
    whole z = ap (λ (i : ℕ). n * i) (pow-add 2 32 z) ∙ turned n (2 ^ z)
      where
        turned : (n U : ℕ) → n * (4294967296 * U) ≡ n * U * 4294967296
        turned n U = omega arith

    lower : (z : ℕ) → z ≤ 31 → 2 ^ 31 ≤ n * 2 ^ z → n * 2 ^ z < 4294967296 → Placed n (32 + z)
    lower z s l u = record { small = omega arith; low = rw (whole z) (omega (arith, l)); high = rw (whole z) (omega (arith, u)) }

-- ---- the digits of a number n of 64 - z digits
module _ (n z : ℕ) (p : Placed n z) where
  abbrev S : ℕ
  S = nearest_digits n z

  -- there are 24 of them
  pub digits_least : 2 ^ 23 ≤ S
  unfolding nearest_digits
  digits_least = let l = p.low in omega arith

  -- or a carry
  pub digits_most : S ≤ 2 ^ 24
  unfolding nearest_digits
  digits_most = let h = p.high in omega arith

  -- at most half a digit off
  upward : S * 2 ^ 40 ≤ n * 2 ^ z + 2 ^ 39
  unfolding nearest_digits
  upward = omega arith

  downward : n * 2 ^ z ≤ S * 2 ^ 40 + 2 ^ 39
  unfolding nearest_digits
  downward = omega arith

  -- none off where n is of 24 digits and zeros
  digits_whole : (c j : ℕ) → n ≡ c * 2 ^ j → c < 2 ^ 24 → S * 2 ^ 40 ≡ n * 2 ^ z
  unfolding nearest_digits
  digits_whole c j e few = even (n * 2 ^ z) (c * 2 ^ (j + z - 40)) (rw e (mul_assoc c (2 ^ j) (2 ^ z)) ∙ ap (λ (i : ℕ). c * i) split ∙ sym (mul_assoc c (2 ^ (j + z - 40)) (2 ^ 40)))
    where
      places : 40 ≤ j + z
      places = elim (le-or-lt 40 (j + z)) [
        | inl h ↦ h
        | inr h ↦
            let u : 2 ^ (j + z) ≤ 2 ^ 39 = pow_mono {i = j + z} {j = 39} (omega arith) in
            let v : n * 2 ^ z ≡ c * 2 ^ (j + z) = rw (e, pow-add 2 j z) (mul_assoc c (2 ^ j) (2 ^ z)) in
            absurd (short c (2 ^ (j + z)) few u (le_trans p.low (le_of_eq v)))
      ]
        where
          short : (a b : ℕ) → a < 2 ^ 24 → b ≤ 2 ^ 39 → 2 ^ 63 ≤ a * b → ⊥
          short a b h k l = let m : a * b ≤ a * 2 ^ 39 = mul-le-mul_left a k in omega arith

      split : 2 ^ j * 2 ^ z ≡ 2 ^ (j + z - 40) * 2 ^ 40
      split = let f : j + z ≡ j + z - 40 + 40 = omega (arith, places) in sym (pow-add 2 j z) ∙ ap (λ (i : ℕ). 2 ^ i) f ∙ pow-add 2 (j + z - 40) 40

      even : (N c : ℕ) → N ≡ c * 2 ^ 40 → (N / 549755813888 + 1) / 2 * 2 ^ 40 ≡ N
      even N c h = omega arith

-- ---- the units of the float
unfoldable pub units_of : ℕ → ℕ → ℕ
unfolding nearest_digits
units_of n e = cond (eqb n 0) 0 (nearest_digits n (count_leading_zeros 64 n) * 2 ^ (e - count_leading_zeros 64 n))

module _ (n e : ℕ) where
  -- none of 0
  pub zero_units : n ≡ 0 → units_of n e ≡ 0
  unfolding units_of
  zero_units h = rw (eq-eqb n 0 h)

  -- 0 has the pattern of +0
  pub zero_bits : n ≡ 0 → nearest_bits n e ≡ 0
  unfolding nearest_bits
  zero_bits h = rw (eq-eqb n 0 h)

  module _ (pos : 0 < n) where
    -- n is not zero
    pub some : eqb n 0 ≡ false
    some = ne_eqb n 0 (λ h. omega arith)

    -- its units
    pub some_units : units_of n e ≡ nearest_digits n (count_leading_zeros 64 n) * 2 ^ (e - count_leading_zeros 64 n)
    unfolding units_of
    some_units = rw some

-- ---- a number above zero
module _ (n e z : ℕ) (p : Placed n z) (few : z ≤ e) where
  abbrev G : ℕ
  G = 2 ^ (e - z)

  exact_units : n * 2 ^ e ≡ n * 2 ^ z * G
  exact_units = let h : e ≡ z + (e - z) = omega arith in ap (λ (i : ℕ). n * 2 ^ i) h ∙ ap (λ (i : ℕ). n * i) (pow-add 2 z (e - z)) ∙ sym (mul_assoc n (2 ^ z) G)

  swap : nearest_digits n z * G * 2 ^ 40 ≡ nearest_digits n z * 2 ^ 40 * G
  swap = omega arith

  -- within one part in 2 ^ 24, from above
  units_most : nearest_digits n z * G * 2 ^ 64 ≤ n * 2 ^ e * (2 ^ 24 + 1)
  units_most = rw exact_units (through (nearest_digits n z) (n * 2 ^ z) G (upward n z p) p.low)
    where
      through : (S R g : ℕ) → S * 2 ^ 40 ≤ R + 2 ^ 39 → 2 ^ 63 ≤ R → S * g * 2 ^ 64 ≤ R * g * (2 ^ 24 + 1)
      through S R g h l = omega (arith, mul-le-mul_right g h, mul-le-mul_right g l)

  -- and from below
  units_least : n * 2 ^ e * (2 ^ 24 - 1) ≤ nearest_digits n z * G * 2 ^ 64
  units_least = rw exact_units (through (nearest_digits n z) (n * 2 ^ z) G (downward n z p) p.low)
    where
      through : (S R g : ℕ) → R ≤ S * 2 ^ 40 + 2 ^ 39 → 2 ^ 63 ≤ R → R * g * (2 ^ 24 - 1) ≤ S * g * 2 ^ 64
      through S R g h l = omega (arith, mul-le-mul_right g h, mul-le-mul_right g l)

  -- for n of k digits half a digit is 2 ^ (e + k - 25)
  half : (k : ℕ) → n < 2 ^ k → 2 ^ 39 * G ≤ 2 ^ (e + k - 25)
  half k l =
      let m = many_zeros n z k p l in
      le_trans (le_of_eq (sym (pow-add 2 39 (e - z)))) (pow_mono {i = 39 + (e - z)} {j = e + k - 25} (omega arith))

  above_most : (k : ℕ) → n < 2 ^ k → nearest_digits n z * G * 2 ^ 40 ≤ n * 2 ^ e + 2 ^ (e + k - 25)
  above_most k l = rw exact_units (through (nearest_digits n z) (n * 2 ^ z) G (2 ^ (e + k - 25)) (upward n z p) (half k l))
    where
      through : (S R g H : ℕ) → S * 2 ^ 40 ≤ R + 2 ^ 39 → 2 ^ 39 * g ≤ H → S * g * 2 ^ 40 ≤ R * g + H
      through S R g H h l = omega (arith, mul-le-mul_right g h)

  below_most : (k : ℕ) → n < 2 ^ k → n * 2 ^ e ≤ nearest_digits n z * G * 2 ^ 40 + 2 ^ (e + k - 25)
  below_most k l = rw exact_units (through (nearest_digits n z) (n * 2 ^ z) G (2 ^ (e + k - 25)) (downward n z p) (half k l))
    where
      through : (S R g H : ℕ) → R ≤ S * 2 ^ 40 + 2 ^ 39 → 2 ^ 39 * g ≤ H → R * g ≤ S * g * 2 ^ 40 + H
      through S R g H h l = omega (arith, mul-le-mul_right g h)

  units_whole : (c j : ℕ) → n ≡ c * 2 ^ j → c < 2 ^ 24 → nearest_digits n z * G * 2 ^ 40 ≡ n * 2 ^ e
  units_whole c j h l = swap ∙ ap (λ (i : ℕ). i * G) (digits_whole n z p c j h l) ∙ sym exact_units

-- ---- order
digits_order : (n n' z z' : ℕ) → n * 2 ^ z ≤ n' * 2 ^ z' → nearest_digits n z ≤ nearest_digits n' z'
unfolding nearest_digits
digits_order n n' z z' l = omega arith

module _ (n e z : ℕ) (p : Placed n z) (few : z ≤ e) (n' e''' z' : ℕ) (p' : Placed n' z') (few' : z' ≤ e''') (l : n * 2 ^ e ≤ n' * 2 ^ e''') where
  same_places : n * 2 ^ z * 2 ^ (e - z) ≤ n' * 2 ^ z' * 2 ^ (e''' - z')
  same_places = rw (exact_units n e z p few, exact_units n' e''' z' p' few') at l

  -- the larger number does not have the smaller exponent
  exponents : e - z ≤ e''' - z'
  exponents = elim (le-or-lt (e - z) (e''' - z')) [
    | inl h ↦ h
    | inr h ↦
        let twice : 2 ^ (e''' - z') * 2 ≤ 2 ^ (e - z) = le_trans (le_of_eq (sym (pow-suc 2 (e''' - z')))) (pow_mono h) in
        absurd (apart (2 ^ 63) (n * 2 ^ z) (2 ^ (e - z)) (n' * 2 ^ z') (2 ^ (e''' - z')) p.low p'.high (pow_pos (e''' - z')) twice same_places)
  ]
    where
      apart : (K R g R' g' : ℕ) → K ≤ R → R' < K * 2 → 0 < g' → g' * 2 ≤ g → R * g ≤ R' * g' → ⊥
      apart K R g R' g' a b c d f = omega (arith, mul-le-mul_right g a, mul-le-mul_right g' b, mul-le-mul_left K d)

  placed_order : nearest_digits n z * 2 ^ (e - z) ≤ nearest_digits n' z' * 2 ^ (e''' - z')
  placed_order = elim (eq-or-lt_of_le exponents) [
    | inl h ↦
        let k : n * 2 ^ z ≤ n' * 2 ^ z' = le_of_mul-le-mul_right (subst (λ (i : ℕ). n * 2 ^ z * 2 ^ (e - z) ≤ n' * 2 ^ z' * 2 ^ i) (sym h) same_places) (pow_pos (e - z)) in
        subst (λ (i : ℕ). nearest_digits n z * 2 ^ (e - z) ≤ nearest_digits n' z' * 2 ^ i) h (mul-le-mul_right (2 ^ (e - z)) (digits_order n n' z z' k))
    | inr h ↦
        le_trans (mul-le-mul_right (2 ^ (e - z)) (digits_most n z p))
        (le_trans (step (e - z) (e''' - z') h) (mul-le-mul_right (2 ^ (e''' - z')) (digits_least n' z' p')))
  ]

-- ---- laws of any number of at most 64 digits, zero or a normal float's
module _ (n e : ℕ) (short : n < 2 ^ 64) (normal : Normal n e) where
  abbrev z : ℕ
  z = count_leading_zeros 64 n

  -- above zero, its leading zeros are at most e
  pub fits : 0 < n → z ≤ e
  fits h = few_zeros n z e (placed n h short) (normal.least h)

  -- the units of the float are within one part in 2 ^ 24 of the number, from above
  pub near_most : units_of n e * 2 ^ 64 ≤ n * 2 ^ e * (2 ^ 24 + 1)
  near_most = elim (eq-zero-or-pos n) [
    | inl h ↦ rw (zero_units n e h) zero-le
    | inr h ↦ rw (some_units n e h) (units_most n e z (placed n h short) (fits h))
  ]

  -- from below
  pub near_least : n * 2 ^ e * (2 ^ 24 - 1) ≤ units_of n e * 2 ^ 64
  near_least = elim (eq-zero-or-pos n) [
    | inl h ↦ rw (h, zero-mul, zero-mul) zero-le
    | inr h ↦ rw (some_units n e h) (units_least n e z (placed n h short) (fits h))
  ]

  -- and for n of k digits within 2 ^ (k - 25) of n's own units, from above
  pub half_most : (k : ℕ) → n < 2 ^ k → units_of n e * 2 ^ 40 ≤ n * 2 ^ e + 2 ^ (e + k - 25)
  half_most k l = elim (eq-zero-or-pos n) [
    | inl h ↦ rw (zero_units n e h) zero-le
    | inr h ↦ rw (some_units n e h) (above_most n e z (placed n h short) (fits h) k l)
  ]

  -- from below
  pub half_least : (k : ℕ) → n < 2 ^ k → n * 2 ^ e ≤ units_of n e * 2 ^ 40 + 2 ^ (e + k - 25)
  half_least k l = elim (eq-zero-or-pos n) [
    | inl h ↦ rw (h, zero-mul) zero-le
    | inr h ↦ rw (some_units n e h) (below_most n e z (placed n h short) (fits h) k l)
  ]

  -- 24 digits and zeros are exact
  pub whole_units : (c j : ℕ) → n ≡ c * 2 ^ j → c < 2 ^ 24 → units_of n e * 2 ^ 40 ≡ n * 2 ^ e
  whole_units c j w l = elim (eq-zero-or-pos n) [
    | inl h ↦ rw (zero_units n e h, h, zero-mul, zero-mul) refl
    | inr h ↦ rw (some_units n e h) (units_whole n e z (placed n h short) (fits h) c j w l)
  ]

  below_infinity : 0 < n → (e - z) * 8388608 + nearest_digits n z < 255 * 8388608
  below_infinity h = let most = digits_most n z (placed n h short) in let top = normal.most in omega arith

  -- the pattern is that of the float of these units, with either sign
  pub is_units : (s : Bool) → 0 < n → Is (of_bits binary32 (sign_bit s + nearest_bits n e)) s (units_of n e)
  unfolding nearest_bits
  is_units s h =
      let p = placed n h short in
      rw (some n e h, some_units n e h) (put s (nearest_digits n z) (e - z) (inr (digits_least n z p)) (digits_most n z p) (below_infinity h))

  -- with the plus sign, of zero too
  pub is_positive : Is (of_bits binary32 (nearest_bits n e)) false (units_of n e)
  is_positive = elim (eq-zero-or-pos n) [
    | inl h ↦ rw (zero_bits n e h, zero_units n e h) (put_positive 0 0 (inl refl) (omega arith) (omega arith))
    | inr h ↦ subst (λ (b : ℕ). Is (of_bits binary32 b) false (units_of n e)) (zero-add (nearest_bits n e)) (is_units false h)
  ]

  -- the pattern is below that of the infinity
  pub bits_fit : nearest_bits n e < 255 * 8388608
  unfolding nearest_bits
  bits_fit = elim (eq-zero-or-pos n) [ inl h ↦ rw (eq-eqb n 0 h) (omega arith) | inr h ↦ rw (some n e h) (below_infinity h) ]

-- a larger number never makes fewer units
pub units_order : (n e n' e''' : ℕ) → n < 2 ^ 64 → Normal n e → n' < 2 ^ 64 → Normal n' e''' → n * 2 ^ e ≤ n' * 2 ^ e''' → units_of n e ≤ units_of n' e'''
units_order n e n' e''' short normal short' normal' l = elim (eq-zero-or-pos n) [
  | inl h ↦ rw (zero_units n e h) zero-le
  | inr h ↦
      let h' : 0 < n' = above n' (2 ^ e''') (lt_of_lt_of_le (mul-pos h (pow_pos e)) l) in
      rw (some_units n e h, some_units n' e''' h')
      (placed_order n e (count_leading_zeros 64 n) (placed n h short) (fits n e short normal h) n' e''' (count_leading_zeros 64 n') (placed n' h' short') (fits n' e''' short' normal' h') l)
]
  where
    above : (m u : ℕ) → 0 < m * u → 0 < m
    above m u k = elim (eq-zero-or-pos m) [ inl a ↦ absurd (not-le_of_lt k (le_of_eq (rw a (zero-mul u)))) | inr a ↦ a ]
