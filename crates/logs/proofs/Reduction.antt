-- Reduction: the exponent of the nearer power of two, and the logarithm of what is left, are the logarithm of x in fixed point: w steps of 2 ^ -54 are log2 x + 127
-- within 5 parts in 2 ^ 32 of the distance F between w and that exponent.
use Rattle.std.proofs.Common.{◌≡◌, ℕ, zero, suc, ◌+◌, ◌-◌, ◌*◌, ◌/◌, ◌%◌, ◌^◌, ◌<◌, ◌≤◌, Bool, true, ◌&&◌, T, leb, ◌⊎◌, List, [], ◌∷◌, sym, refl, ap, ◌∙◌, inl, inr, zero-le, le_trans, le_of_eq, lt_of_lt_of_le, le_of_suc-le-suc, lt_of_le_of_lt, mul-le-mul_right, add-mul, eq-or-lt_of_le, pow-suc, zero-mul, arith, lit<, leb→le, pow-add}
use lib.Ieee.Fits.{and_l, and_r}
use lib.Ieee.{Float, binary32, to_bits}
use Rattle.exact.specs.Power.{AtMost, AtLeast}
use Rattle.exact.proofs.Power.{at_most, at_least, most_of_less, least_of_more, most_of_larger, least_of_smaller, most_shift, least_shift}
use Rattle.units.specs.Units.{mag}
use Rattle.units.proofs.Naturals.{le-or-lt, pow_back_lt}
use Rattle.units.proofs.Signs.{sign_plus}
use Rattle.units.proofs.Size.{mag-lt}
use Rattle.units.proofs.Bits.{pattern_normal}
use Rattle.units.specs.Units.{Positive}
use Rattle.fixed.specs.Parts.{Apart}
use Rattle.fixed.specs.Horner.{horner}
use Rattle.fixed.proofs.Horner.{horner_first}
use Rattle.fixed.proofs.Take.{apart_high, unique}
use Rattle.logs.specs.Rows.{row}
use Rattle.logs.specs.Log2.{Accepts}
use Rattle.logs.specs.Value.{slope, nearer, fixed_bits, fixed_of}
use Rattle.logs.proofs.Method.{Close}
use Rattle.logs.proofs.Sixteenths.{Sixteenth, row_passes, below_cut, above_cut}

-- ---- exponents over one denominator
-- a smaller exponent, from below
pub least_over : {n d p m q p' m' : ℕ} → p' + m ≤ p + m' → AtLeast n d p m q → AtLeast n d p' m' q
least_over {p} {m} {q} {p'} {m'} h b = least_of_smaller b.root (le_trans (le_of_eq (sym (add-mul p' m q))) (le_trans (mul-le-mul_right q h) (le_of_eq (add-mul p m' q)))) b

-- a larger one, from above
pub most_over : {n d p m q p' m' : ℕ} → p + m' ≤ p' + m → AtMost n d p m q → AtMost n d p' m' q
most_over {p} {m} {q} {p'} {m'} h b = most_of_larger b.root (le_trans (le_of_eq (sym (add-mul p m' q))) (le_trans (mul-le-mul_right q h) (le_of_eq (add-mul p' m q)))) b

-- ---- what w steps say of X / 2 ^ 22: F is their distance from the whole number k
pub record Read (X W : ℕ) : Type 0 where
  pub k : ℕ
  pub F : ℕ
  pub least : AtLeast X (2 ^ 22) (2 ^ 32 * W) (5 * F) (2 ^ 86)
  pub most : AtMost X (2 ^ 22) (2 ^ 32 * W + 5 * F) 0 (2 ^ 86)
  pub place : (W ≡ k * 2 ^ 54 + F) ⊎ (W + F ≡ k * 2 ^ 54)
  pub small : 5 * F ≤ 3 * 2 ^ 54
  pub few : k ≤ 255

doubled : (X m G : ℕ) → X * 2 ≡ m * G → m * (G * 2) * 2 ^ 22 ≡ X * (2 ^ 24 * 2 ^ 0)
doubled X m G h = omega arith

halved : (X m G K M : ℕ) → K ≡ G * 2 ^ 23 → M ≡ m → X * 2 ^ 24 ≡ M * K → X * 2 ≡ m * G
halved X m G K M h l f = let g : X * 2 ^ 24 ≡ m * (G * 2 ^ 23) = rw (h, l) at f in omega arith

module _ (X m E W F : ℕ) (same : X * 2 ≡ m * 2 ^ E) (small : 5 * F ≤ 3 * 2 ^ 54) (few : E ≤ 254) where
  -- m / 2 ^ 23 is above 1, and the logarithm is added
  added : W ≡ E * 2 ^ 54 + F → Close m (2 ^ 23) F → Read X W
  added e c = record {
    k = E;
    F = F;
    least = least_over (omega arith) (least_of_more (lit< tt) (le_of_eq (omega arith)) (least_shift E 0 c.least));
    most = most_over (omega arith) (most_of_less (lit< tt) (le_of_eq (omega arith)) (most_shift E 0 c.most));
    place = inl e;
    small = small;
    few = omega arith;
  }

  -- m / 2 ^ 24 is at most 1, and the logarithm is taken away
  taken : W + F ≡ suc E * 2 ^ 54 → Close (2 ^ 24) m F → Read X W
  taken e c = record {
    k = suc E;
    F = F;
    least = least_over (omega arith) (least_of_more (lit< tt) (le_of_eq twice) (least_shift (suc E) 0 (at_least (lit< tt) c.most)));
    most = most_over (omega arith) (most_of_less (lit< tt) (le_of_eq (sym twice)) (most_shift (suc E) 0 (at_most c.least)));
    place = inr e;
    small = small;
    few = omega arith;
  }
    where
      twice : m * 2 ^ suc E * 2 ^ 22 ≡ X * (2 ^ 24 * 2 ^ 0)
      twice = rw (pow-suc 2 E) (doubled X m (2 ^ E) same)

-- ---- the first coefficients of the rows: at least 2 ^ 30 of 2 ^ -31, and those below the cut 2 ^ 31
first_of : List ℕ → ℕ
first_of [] = 0
first_of (c ∷ cs) = c

first_least : (D : ℕ) (cs : List ℕ) (f : ℕ) → first_of cs ≤ horner D cs f
unfolding first_of
first_least D [] f = zero-le
first_least D (c ∷ cs) f = horner_first D c cs f

firsts : ℕ → ℕ → Bool
unfolding first_of
firsts m zero = true
firsts m (suc k) = leb m (first_of (row k)) && firsts m k

first_of_lem : (m k : ℕ) → T (firsts m k) → (i : ℕ) → i < k → m ≤ first_of (row i)
unfolding firsts
first_of_lem m zero t i h = absurd (omega arith)
first_of_lem m (suc k) t i h = elim (eq-or-lt_of_le (le_of_suc-le-suc h)) [
  | inl e ↦ rw e (leb→le m (first_of (row k)) (and_l (leb m (first_of (row k))) (firsts m k) t))
  | inr l ↦ first_of_lem m k (and_r (leb m (first_of (row k))) (firsts m k) t) i l
]

first_large : (i : ℕ) → i < 16 → 2 ^ 30 ≤ first_of (row i)
unfolding firsts
first_large = first_of_lem (2 ^ 30) 16 tt

first_low : (i : ℕ) → i < 7 → 2 ^ 31 ≤ first_of (row i)
unfolding firsts
first_low = first_of_lem (2 ^ 31) 7 tt

-- ---- the pattern b of a float: its exponent field, its sixteenth and the digits after
module _ (b : ℕ) where
  abbrev i : ℕ
  i = b / 524288 % 16

  abbrev y : ℕ
  y = b % 524288

  abbrev v : ℕ
  v = 524288 - y

  abbrev above : ℕ
  above = i * 2 ^ 19 + y

  abbrev below : ℕ
  below = (15 - i) * 2 ^ 19 + v

  -- the significand
  abbrev m : ℕ
  m = (16 + i) * 2 ^ 19 + y

  sixteenth_above : i < 7 → Sixteenth m (2 ^ 23) above (slope b)
  unfolding slope
  sixteenth_above h = below_cut v y (omega arith) i (row i) (row_passes i (omega arith)) h

  sixteenth_below : 7 ≤ i → Sixteenth (2 ^ 24) m below (slope b)
  unfolding slope
  sixteenth_below h = above_cut v y (omega arith) i (row i) (row_passes i (omega arith)) h (omega arith) (omega arith)

  -- the cut is where the rows have it
  nearer-above : i < 7 → nearer b ≡ b / 8388608
  unfolding nearer
  nearer-above h = omega arith

  nearer-below : 7 ≤ i → nearer b ≡ suc (b / 8388608)
  unfolding nearer
  nearer-below h = omega arith

  -- b p against k 2 ^ 23 p
  product-above : i < 7 → b * slope b ≡ nearer b * 8388608 * slope b + above * slope b
  product-above h = let k = nearer-above h in let e : b ≡ nearer b * 8388608 + above = omega arith in ap (λ (c : ℕ). c * slope b) e ∙ add-mul (nearer b * 8388608) above (slope b)

  product-below : 7 ≤ i → b * slope b + below * slope b ≡ nearer b * 8388608 * slope b
  product-below h = let k = nearer-below h in let e : b + below ≡ nearer b * 8388608 = omega arith in sym (add-mul b below (slope b)) ∙ ap (λ (c : ℕ). c * slope b) e

  fixed_above_lem : i < 7 → fixed_bits b ≡ b / 8388608 * 2 ^ 54 + above * slope b
  unfolding fixed_bits
  fixed_above_lem h = omega (arith, nearer-above h, product-above h)

  fixed_below_lem : 7 ≤ i → fixed_bits b + below * slope b ≡ suc (b / 8388608) * 2 ^ 54
  unfolding fixed_bits
  fixed_below_lem h = omega (arith, nearer-below h, product-below h, (sixteenth_below h).small)

  -- what the program multiplies fits a word
  pub slope_fits : slope b < 2 ^ 32
  slope_fits = elim (le-or-lt 7 i) [ inl h ↦ (sixteenth_below h).digits | inr h ↦ (sixteenth_above h).digits ]

  -- and what it takes away is there
  pub no_borrow : nearer b * 8388608 * slope b ≤ nearer b * 18014398509481984 + b * slope b
  no_borrow = elim (le-or-lt 7 i) [
    | inl h ↦ omega (arith, nearer-below h, product-below h, (sixteenth_below h).small)
    | inr h ↦ omega (arith, product-above h)
  ]

  -- it is at least the row's first coefficient
  slope_least : first_of (row i) ≤ slope b
  unfolding slope
  slope_least = first_least 4294967296 (row i) (v * 512)

  -- the whole part of the logarithm in fixed point is the exponent; where there is a fraction, it and what it lacks to 1 are not the least
  pub fraction_bounds : (b / 8388608 * 2 ^ 54 ≤ fixed_bits b) × (b / 8388608 * 2 ^ 54 < fixed_bits b → b / 8388608 * 2 ^ 54 + 2 ^ 31 ≤ fixed_bits b) × (fixed_bits b + 2 ^ 30 ≤ (b / 8388608 + 1) * 2 ^ 54)
  fraction_bounds = elim (le-or-lt 7 i) [
    | inl h ↦
        let F = times_least below (slope b) (omega arith) in
        let k = first_large i (omega arith) in
        let f = fixed_below_lem h in
        let s = (sixteenth_below h).small in
        let l = slope_least in
        (omega arith, λ g. omega arith, omega arith)
    | inr h ↦
        let k = first_low i h in
        let f = fixed_above_lem h in
        let s = (sixteenth_above h).small in
        let l = slope_least in
        (omega arith, λ g. omega (arith, times_least above (slope b) (some above (slope b) (omega arith))), omega arith)
  ]
    where
      times_least : (n p : ℕ) → 0 < n → p ≤ n * p
      times_least n p pos = omega (arith, mul-le-mul_right p pos)

      some : (n p : ℕ) → 0 < n * p → 0 < n
      some n p h = elim (le-or-lt n 0) [ inl z ↦ let e : n ≡ 0 = omega arith in absurd (omega (arith, rw (e, zero-mul p) at h)) | inr l ↦ l ]

  -- so the value lies in the octave of the exponent
  pub octave : (b / 8388608 * 2 ^ 54 ≤ fixed_bits b) × (fixed_bits b ≤ suc (b / 8388608) * 2 ^ 54)
  octave = let (low, _, high) = fraction_bounds in (low, omega arith)

  -- a number of X units with this pattern is read
  read_bits : (X : ℕ) → X * 2 ^ 24 ≡ (b % 8388608 + 8388608) * 2 ^ (b / 8388608 + 23) → b / 8388608 ≤ 254 → Read X (fixed_bits b)
  read_bits X e few = elim (le-or-lt 7 i) [
    | inl h ↦ let s = sixteenth_below h in taken X m (b / 8388608) (fixed_bits b) (below * slope b) same s.small few (fixed_below_lem h) s.close
    | inr h ↦ let s = sixteenth_above h in added X m (b / 8388608) (fixed_bits b) (above * slope b) same s.small few (fixed_above_lem h) s.close
  ]
    where
      same : X * 2 ≡ m * 2 ^ (b / 8388608)
      same = halved X m (2 ^ (b / 8388608)) (2 ^ (b / 8388608 + 23)) (b % 8388608 + 8388608) (pow-add 2 (b / 8388608) 23) (omega arith) e

-- ---- of an accepted float
pub positive : (x : Float) → Accepts x → Positive x
positive x a =
    let l = lt_of_lt_of_le (lit< tt) a.normal in
    record { number = a.number; sign = sign_plus x a.at_least_zero l; above = l }

module _ (x : Float) (a : Accepts x) where
  abbrev bits : ℕ
  bits = to_bits binary32 x

  -- its pattern is that of a normal number
  pub normal_bits : 2 ^ 23 ≤ bits
  normal_bits = let n = pattern_normal x a.number a.normal in rw n.bits (omega (arith, n.least))

  -- and is taken apart by its digits
  pub parts : Apart x (bits % 8388608 + 8388608) (bits / 8388608 + 23)
  parts = apart_high x (positive x a) normal_bits

  -- below the infinity's
  pub bits_few : bits < 255 * 8388608
  bits_few = let h = parts.high in omega arith

  -- its units by its pattern
  pub units_by : mag x * 2 ≡ (bits % 8388608 + 8388608) * 2 ^ (bits / 8388608)
  units_by = halved (mag x) (bits % 8388608 + 8388608) (2 ^ (bits / 8388608)) (2 ^ (bits / 8388608 + 23)) (bits % 8388608 + 8388608) (pow-add 2 (bits / 8388608) 23) refl parts.same

  -- the logarithm in fixed point, read
  pub reading : Read (mag x) (fixed_of x)
  unfolding fixed_of
  reading = read_bits bits (mag x) parts.same (omega (arith, bits_few))

  -- of 2 ^ j units it is j - 22
  pub whole_fixed : (j : ℕ) → mag x ≡ 2 ^ j → fixed_of x + 22 * 2 ^ 54 ≡ j * 2 ^ 54
  unfolding fixed_of
  whole_fixed j e =
      let (ee, me) = unique x (2 ^ 23) (j + 1) power in
      let (eb, mb) = unique x (bits % 8388608 + 8388608) (bits / 8388608 + 23) parts in
      through (bits / 8388608) (above bits) (slope bits) (fixed_bits bits) (omega arith) (fixed_above_lem bits (omega arith)) (eb ∙ sym ee)
    where
      power : Apart x (2 ^ 23) (j + 1)
      power = record {
        same = rw (e, pow-add 2 j 1) (omega arith);
        least = omega arith;
        digits = omega arith;
        low = omega arith;
        high = let l : j < 277 = pow_back_lt j 277 (lt_of_le_of_lt (le_of_eq (sym e)) (mag-lt x a.number)) in omega arith;
      }

      through : (E n p W : ℕ) → n ≡ 0 → W ≡ E * 2 ^ 54 + n * p → E + 23 ≡ j + 1 → W + 22 * 2 ^ 54 ≡ j * 2 ^ 54
      through E n p W z h l = let g : W ≡ E * 2 ^ 54 + 0 * p = rw z at h in omega arith
