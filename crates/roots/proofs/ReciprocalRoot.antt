-- The reciprocal root: the whole number nearest to the root of a power of two over the significand of x, put together with minus half the exponent, is the float
-- nearest to 1 / √x. Assumes nothing.
use Rattle.std.specs.Prelude.{Ok, Err}
use Rattle.std.proofs.Common.{◌≡◌, ℕ, zero, suc, ◌+◌, ◌-◌, ◌*◌, ◌/◌, ◌%◌, ◌^◌, ◌<◌, ◌≤◌, Bool, true, false, leb, sym, refl, ap, ◌∙◌, subst, inl, inr, zero-le, le_trans, lt_trans, le_of_eq, lt_of_lt_of_le, lt_of_le_of_lt, le_of_lt, mul-le-mul_right, mod-eq_of_lt, mul_assoc, mul-le-mul, eq-or-lt_of_le, mul-le-mul_left, mul-lt-mul_of_pos_right, mul-pos, mul-zero, mul_right_comm, not-le_of_lt, arith, pow_pos, pow_mono, pow-add, le-leb, leb-false, leb-true}
use native.Mathlib.Nat.{mul-lt-mul_of_pos_left, pow-succ'}
use borrow.Author.Tests.{lt-leb}
use lib.Ieee.{Float, binary32, of_bits}
use Rattle.units.specs.Units.{mag, P, Number, Le}
use Rattle.units.specs.declared.refusal.Refusal.TheVariants.{OutOfRange}
use Rattle.units.specs.Answers.{Ends, float_bits}
use Rattle.units.specs.Refusals.{Gives}
use Rattle.units.proofs.Naturals.{le-or-lt, proportion_le, proportion_lt}
use Rattle.units.proofs.Signs.{plus_of_lem, minus_of_lem}
use Rattle.units.proofs.Answers.{given, declined, untouched, err}
use Rattle.units.proofs.Bits.{Is, put_positive, no_nan_positive}
use Rattle.units.proofs.Patterns.{pattern_back}
use Rattle.units.specs.Units.{Positive}
use Rattle.fixed.specs.Parts.{Apart, significand, exponent}
use Rattle.fixed.proofs.Take.{unique, own}
use Rattle.fixed.proofs.Nearest.{Middle, nearest_above, nearest_below, in_order}
use Rattle.roots.specs.Rsqrt.{NearestRecip, NearRecipRoot, rsqrt_error_num, rsqrt_error_den, Rsqrt}
use Rattle.roots.specs.Value.{IsNearRecip, near_recip, parity, turned, rsqrt_bits, rsqrt_of}
use Rattle.roots.proofs.Least.{least_is, first_passing}

-- ---- Reduction: the power of two that the significand divides, and the exponent g of the result
abbrev pub evened : ℕ → ℕ
evened e = 2 ^ (70 + parity e)

-- x times the square of the result's step, and 1, in one proportion: as the significand to the power of two
scaled : (x : Float) (m e : ℕ) → Apart x m e → mag x * (2 ^ turned e * 2 ^ turned e) * 2 ^ 24 ≡ m * 2 ^ (e + (turned e + turned e))
scaled x m e a =
    let g = turned e in
    ap (λ (n : ℕ). mag x * n * 2 ^ 24) (sym (pow-add 2 g g))
    ∙ mul_right_comm (mag x) (2 ^ (g + g)) (2 ^ 24)
    ∙ ap (λ (n : ℕ). n * 2 ^ (g + g)) a.same
    ∙ mul_assoc m (2 ^ e) (2 ^ (g + g))
    ∙ ap (λ (n : ℕ). m * n) (sym (pow-add 2 e (g + g)))

one-scaled : (e : ℕ) → e ≤ 277 → 2 ^ 447 * 2 ^ 24 ≡ evened e * 2 ^ (e + (turned e + turned e))
one-scaled e h =
    let k : 70 + parity e + (e + (turned e + turned e)) ≡ 447 + 24 = omega arith in
    sym (pow-add 2 447 24) ∙ ap (λ (n : ℕ). 2 ^ n) (sym k) ∙ pow-add 2 (70 + parity e) (e + (turned e + turned e))

-- the power of two as the program has it, in steps of 2 ^ 62 and in a word of 32 digits
abbrev in_word : ℕ → ℕ
in_word e = 1 * 2 ^ (8 + parity e) % 4294967296

word_is : (e : ℕ) → in_word e ≡ 2 ^ (8 + parity e)
word_is e =
    let p = 2 ^ (8 + parity e) in
    let h : p ≤ 2 ^ 9 = pow_mono {i = 8 + parity e} {j = 9} (omega arith) in
    mod-eq_of_lt (omega arith) ∙ omega arith

pub word_least : (e : ℕ) → 1 ≤ in_word e
word_least e = le_trans (pow_pos (8 + parity e)) (le_of_eq (sym (word_is e)))

pub word_most : (e : ℕ) → in_word e ≤ 2 ^ 9
word_most e = le_trans (le_of_eq (word_is e)) (pow_mono {i = 8 + parity e} {j = 9} (omega arith))

pub word_evened : (e : ℕ) → in_word e * 2 ^ 62 ≡ evened e
word_evened e =
    let k : 8 + parity e + 62 ≡ 70 + parity e = omega arith in
    ap (λ (n : ℕ). n * 2 ^ 62) (word_is e) ∙ sym (pow-add 2 (8 + parity e) 62) ∙ ap (λ (n : ℕ). 2 ^ n) k

-- ---- Method: sides of a test on m and t, and of the same test on x, are in one proportion. X u² c = m w and B c = t w
module _ (X m t w c u B : ℕ) (xs : X * (u * u) * c ≡ m * w) (bs : B * c ≡ t * w) where
  square_side : (i k : ℕ) → i * (X * (k * u * (k * u))) * c ≡ i * (k * k * m) * w
  square_side i k =
      let a : i * (X * (k * u * (k * u))) * c ≡ i * (k * k) * (X * (u * u) * c) = omega arith in
      let b : i * (k * k * m) * w ≡ i * (k * k) * (m * w) = omega arith in
      a ∙ ap (λ (n : ℕ). i * (k * k) * n) xs ∙ sym b

  square_of_lem : (k : ℕ) → X * (k * u * (k * u)) * c ≡ k * k * m * w
  square_of_lem k = omega (arith, square_side 1 k)

  one_side : (j : ℕ) → j * B * c ≡ j * t * w
  one_side j = mul_assoc j B c ∙ ap (λ (n : ℕ). j * n) bs ∙ sym (mul_assoc j t w)

-- an odd number above 1 divides no power of two
odd_power : (k a h : ℕ) → (2 * h + 1) * a ≡ 2 ^ k → h ≡ 0
odd_power zero a h e = go a h e
  where
    go : (a h : ℕ) → (2 * h + 1) * a ≡ 1 → h ≡ 0
    go zero h e = absurd (let z : 0 ≡ 1 = sym (mul-zero (2 * h + 1)) ∙ e in omega arith)
    go (suc a) h e = omega arith
odd_power (suc k) a h e =
    let b = a / 2 in
    let f : (2 * h + 1) * a ≡ 2 * 2 ^ k = e ∙ pow-succ' 2 k in
    let even : a ≡ 2 * b = omega arith in
    let g : (2 * h + 1) * (2 * b) ≡ 2 * 2 ^ k = subst (λ (n : ℕ). (2 * h + 1) * n ≡ 2 * 2 ^ k) even f in
    odd_power k b h (omega arith)

-- so no tie occurs
strict : (k m h : ℕ) → 0 < h → 4 * 2 ^ k ≤ (2 * h + 1) * (2 * h + 1) * m → 4 * 2 ^ k < (2 * h + 1) * (2 * h + 1) * m
strict k m h p l = elim (eq-or-lt_of_le l) [
  | inl e ↦
      let z : h ≡ 0 = odd_power (2 + k) ((2 * h + 1) * m) h (sym (mul_assoc (2 * h + 1) (2 * h + 1) m) ∙ sym e ∙ sym (pow-add 2 2 k)) in
      absurd (let q : 0 < 0 = subst (λ (n : ℕ). 0 < n) z p in omega arith)
  | inr k ↦ k
]

-- the relative error of the digits: half a step in at least b / 2 of them
low_by : (m t h c : ℕ) → c ≤ 2 * h → 4 * t ≤ (2 * h + 1) * (2 * h + 1) * m → c * c * t ≤ (c + 1) * (c + 1) * (h * h * m)
low_by m t h c b l =
    let q : c * (2 * h + 1) ≤ 2 * (c + 1) * h = omega arith in
    let a : c * c * (4 * t) ≤ c * c * ((2 * h + 1) * (2 * h + 1) * m) = mul-le-mul_left (c * c) l in
    let d : c * (2 * h + 1) * (c * (2 * h + 1)) * m ≤ 2 * (c + 1) * h * (2 * (c + 1) * h) * m = mul-le-mul_right m (mul-le-mul q q) in
    omega arith

high_by : (m t h b o : ℕ) → o + 1 ≡ 2 * h → b ≤ o → o * o * m ≤ 4 * t → b * b * (h * h * m) ≤ (b + 1) * (b + 1) * t
high_by m t h b o e k l =
    let q : b * (2 * h) ≤ (b + 1) * o = subst (λ (n : ℕ). b * n ≤ (b + 1) * o) e (omega arith) in
    let a : (b + 1) * (b + 1) * (o * o * m) ≤ (b + 1) * (b + 1) * (4 * t) = mul-le-mul_left ((b + 1) * (b + 1)) l in
    let d : b * (2 * h) * (b * (2 * h)) * m ≤ (b + 1) * o * ((b + 1) * o) * m = mul-le-mul_right m (mul-le-mul q q) in
    omega arith

-- ---- Rounding: the digits h, and the float put together from them
digits_least : (m t h : ℕ) → m < 2 ^ 24 → 2 ^ 70 ≤ t → 4 * t ≤ (2 * h + 1) * (2 * h + 1) * m → 2 ^ 23 ≤ h
digits_least m t h ml tl l = elim (le-or-lt (2 ^ 23) h) [
  | inl k ↦ k
  | inr k ↦
      let o : 2 * h + 1 ≤ 16777215 = omega arith in
      let d : m ≤ 16777215 = omega arith in
      let a : (2 * h + 1) * (2 * h + 1) * m ≤ 16777215 * 16777215 * 16777215 = mul-le-mul (mul-le-mul o o) d in
      absurd (not-le_of_lt (lt_of_le_of_lt (le_trans l a) (omega arith)) (mul-le-mul_left 4 tl))
]

digits_most : (m t h : ℕ) → 2 ^ 23 ≤ m → t ≤ 2 ^ 71 → (2 * h - 1) * (2 * h - 1) * m < 4 * t → h ≤ 2 ^ 24
digits_most m t h ml tl l = elim (le-or-lt h (2 ^ 24)) [
  | inl k ↦ k
  | inr k ↦
      let o : 33554433 ≤ 2 * h - 1 = omega arith in
      let a : 33554433 * 33554433 * 8388608 ≤ (2 * h - 1) * (2 * h - 1) * m = mul-le-mul (mul-le-mul o o) ml in
      absurd (not-le_of_lt l (le_trans (mul-le-mul_left 4 tl) (le_trans (omega arith) a)))
]

-- at the least significand h is below the number
first_digits_lem : (m t h : ℕ) → m < 2 ^ 24 → 2 ^ 70 ≤ t → h ≡ 2 ^ 23 → h * h * m ≤ t
first_digits_lem m t h ml tl e =
    let a : 8388608 * 8388608 * m ≤ 2 ^ 70 = omega arith in
    le_trans (le_of_eq (ap (λ (n : ℕ). n * n * m) e)) (le_trans a tl)

even_least : (e : ℕ) → 2 ^ 70 ≤ evened e
even_least e = pow_mono {i = 70} {j = 70 + parity e} (omega arith)

even_most : (e : ℕ) → evened e ≤ 2 ^ 71
even_most e = pow_mono {i = 70 + parity e} {j = 71} (omega arith)

module _ (x : Float) (m e h : ℕ) (p : 0 < mag x) (a : Apart x m e) (near : IsNearRecip (evened e) m h) where
  abbrev g : ℕ
  g = turned e

  abbrev t : ℕ
  t = evened e

  abbrev u : ℕ
  u = 2 ^ g

  abbrev w : ℕ
  w = 2 ^ (e + (g + g))

  least : 2 ^ 23 ≤ h
  least = digits_least m t h a.digits (even_least e) near.half_above

  most : h ≤ 2 ^ 24
  most = digits_most m t h a.least (even_most e) near.half_below

  -- the sides of the tests on x
  squares : (i k : ℕ) → i * (mag x * (k * u * (k * u))) * 2 ^ 24 ≡ i * (k * k * m) * w
  squares = square_side (mag x) m t w (2 ^ 24) u (2 ^ 447) (scaled x m e a) (one-scaled e a.high)

  square : (k : ℕ) → mag x * (k * u * (k * u)) * 2 ^ 24 ≡ k * k * m * w
  square = square_of_lem (mag x) m t w (2 ^ 24) u (2 ^ 447) (scaled x m e a) (one-scaled e a.high)

  ones : (j : ℕ) → j * 2 ^ 447 * 2 ^ 24 ≡ j * t * w
  ones = one_side (mag x) m t w (2 ^ 24) u (2 ^ 447) (scaled x m e a) (one-scaled e a.high)

  abbrev Over : ℕ → Type 0
  Over s = 4 * 2 ^ 447 < mag x * (s * s)

  abbrev Under : ℕ → Type 0
  Under s = mag x * (s * s) < 4 * 2 ^ 447

  above : Over ((2 * h + 1) * u)
  above =
      let l = least in
      proportion_lt (2 ^ 24) w (ones 4) (square (2 * h + 1)) (pow_pos (e + (g + g))) (strict (70 + parity e) m h (omega arith) near.half_above)

  below : Under ((2 * h - 1) * u)
  below = proportion_lt (2 ^ 24) w (square (2 * h - 1)) (ones 4) (pow_pos (e + (g + g))) near.half_below

  -- twice h steps, where h steps are at most the number
  twice : h * h * m ≤ t → mag x * (2 * h * u * (2 * h * u)) ≤ 4 * 2 ^ 447
  twice l =
      let k : 2 * h * (2 * h) * m ≤ 4 * t = le_trans (le_of_eq (omega arith)) (mul-le-mul_left 4 l) in
      proportion_le (2 ^ 24) w (square (2 * h)) (ones 4) (pow_pos 24) k

  middle : Middle Over Under h u
  middle = record {
    grows = λ s s' l k. lt_of_lt_of_le k (mul-le-mul_left (mag x) (mul-le-mul l l));
    falls = λ s s' l k. lt_of_le_of_lt (mul-le-mul_left (mag x) (mul-le-mul l l)) k;
    over = above;
    under = below;
    first = λ c s l.
        let d : s * s < 2 * h * u * (2 * h * u) = lt_of_le_of_lt (mul-le-mul_left s (le_of_lt l)) (mul-lt-mul_of_pos_right l (lt_of_le_of_lt zero-le l)) in
        lt_of_lt_of_le (mul-lt-mul_of_pos_left d p) (twice (first_digits_lem m t h a.digits (even_least e) c));
  }

  pub pattern_in : g * 8388608 + h < 255 * 8388608
  pattern_in = let k = most in omega arith

  abbrev result : Float
  result = of_bits binary32 (g * 8388608 + h)

  result_is : Is result false (h * u)
  result_is = put_positive h g (inr least) most pattern_in

  result_nearest : NearestRecip x result
  result_nearest = record {
    from_above = nearest_above Over Under h g least middle result result_is;
    from_below = nearest_below Over Under h g least middle result result_is;
  }

  result_plus : P result ≡ h * u
  result_plus = plus_of_lem result result_is.sign ∙ result_is.units

  abbrev b : ℕ
  b = rsqrt_error_den

  -- b² h² m ≤ (b + 1)² t
  high : b * b * (h * h * m) ≤ (b + 1) * (b + 1) * t
  high = elim (eq-or-lt_of_le least) [
    | inl c ↦ mul-le-mul {n₁ = b * b} {n₂ = (b + 1) * (b + 1)} (omega arith) (first_digits_lem m t h a.digits (even_least e) (sym c))
    | inr c ↦ high_by m t h b (2 * h - 1) (omega arith) (omega arith) (le_of_lt near.half_below)
  ]

  result_near : NearRecipRoot rsqrt_error_num b x result
  result_near =
      let l = least in
      record {
        above_zero = rw result_plus (mul-pos (lt_of_lt_of_le (pow_pos 23) l) (pow_pos g));
        at_least = rw result_plus (proportion_le (2 ^ 24) w (ones ((b - 1) * (b - 1))) (squares (b * b) h) (pow_pos 24) (low_by m t h (b - 1) (omega arith) near.half_above));
        at_most = rw result_plus (proportion_le (2 ^ 24) w (squares (b * b) h) (ones ((b + 1) * (b + 1))) (pow_pos 24) high);
      }

-- ---- the value function: of every significand there is a nearest reciprocal root, and one only
near_recip_lem : (t m h : ℕ) → h ≤ 2 ^ 24 → IsNearRecip t m h → near_recip t m ≡ h
unfolding near_recip
near_recip_lem t m h top n =
    least_is (λ (q : ℕ). leb (4 * t) ((2 * q + 1) * (2 * q + 1) * m)) h (le-leb (4 * t) ((2 * h + 1) * (2 * h + 1) * m) n.half_above)
    (λ j l. lt-leb (4 * t) ((2 * j + 1) * (2 * j + 1) * m) (before j l)) (2 ^ 25) (omega arith)
  where
    before : (j : ℕ) → j < h → (2 * j + 1) * (2 * j + 1) * m < 4 * t
    before j l =
        let k : 2 * j + 1 ≤ 2 * h - 1 = omega arith in
        lt_of_le_of_lt (mul-le-mul_right m (mul-le-mul k k)) n.half_below

near_exists : (t m : ℕ) → m < 4 * t → t ≤ 2 ^ 71 → 2 ^ 23 ≤ m → (h : ℕ) × IsNearRecip t m h
near_exists t m low top l = go (first_passing test (2 ^ 24) (le-leb (4 * t) ((2 * 2 ^ 24 + 1) * (2 * 2 ^ 24 + 1) * m) enough))
  where
    test : ℕ → Bool
    test q = leb (4 * t) ((2 * q + 1) * (2 * q + 1) * m)

    enough : 4 * t ≤ (2 * 2 ^ 24 + 1) * (2 * 2 ^ 24 + 1) * m
    enough = le_trans (mul-le-mul_left 4 top) (omega arith)

    go : (h : ℕ) × (test h ≡ true) × ((j : ℕ) → j < h → test j ≡ false) → (h : ℕ) × IsNearRecip t m h
    go (zero, y, before) = absurd (not-le_of_lt low (le_trans (leb-true (4 * t) ((2 * 0 + 1) * (2 * 0 + 1) * m) y) (le_of_eq (omega arith))))
    go (suc h, y, before) =
        let e : 2 * suc h - 1 ≡ 2 * h + 1 = omega arith in (
          suc h,
          record {
            half_above = leb-true (4 * t) ((2 * suc h + 1) * (2 * suc h + 1) * m) y;
            half_below = subst (λ (o : ℕ). o * o * m < 4 * t) (sym e) (leb-false (4 * t) ((2 * h + 1) * (2 * h + 1) * m) (before h (omega arith)));
          },
        )

-- the value's pattern is the program's, however its digits were found
pub rsqrt_bits_lem : (x : Float) (m e h : ℕ) → 0 < mag x → Apart x m e → IsNearRecip (evened e) m h → rsqrt_bits x ≡ turned e * 8388608 + h
unfolding rsqrt_bits
rsqrt_bits_lem x m e h p a n =
    let (i, j) = unique x m e a in
    rw (← i, ← j, near_recip_lem (evened e) m h (most x m e h p a n) n)

-- the pattern is a finite float's, and that float is the nearest
module _ (x : Float) (p : Positive x) where
  accepted : (rsqrt_bits x < 255 * 8388608) × NearestRecip x (rsqrt_of x) × NearRecipRoot rsqrt_error_num rsqrt_error_den x (rsqrt_of x) × Number (rsqrt_of x)
  unfolding rsqrt_of
  accepted = go (near_exists t m (lt_of_lt_of_le a.digits (le_trans (omega arith) (mul-le-mul_left 4 (even_least e)))) (even_most e) a.least)
    where
      m : ℕ
      m = significand x

      e : ℕ
      e = exponent x

      t : ℕ
      t = evened e

      a : Apart x m e
      a = own x p

      go : (h : ℕ) × IsNearRecip t m h → (rsqrt_bits x < 255 * 8388608) × NearestRecip x (of_bits binary32 (rsqrt_bits x)) × NearRecipRoot rsqrt_error_num rsqrt_error_den x (of_bits binary32 (rsqrt_bits x)) × Number (of_bits binary32 (rsqrt_bits x))
      go (h, n) = rw (rsqrt_bits_lem x m e h p.above a n) (pattern_in x m e h p.above a n, result_nearest x m e h p.above a n, result_near x m e h p.above a n, (result_is x m e h p.above a n).number)

-- ---- Order: the middle of two results lies on one side only
rsqrt_order : (x : Float) → Positive x → (x' : Float) → Positive x' → Le x' x → Le (rsqrt_of x) (rsqrt_of x')
rsqrt_order x p x' p' l =
    let (b, n, c, h) = accepted x p in
    let (b', n', c', h') = accepted x' p' in
    let units : mag x' ≤ mag x = omega (arith, plus_of_lem x p.sign, minus_of_lem x p.sign, plus_of_lem x' p'.sign, minus_of_lem x' p'.sign) in
    in_order (λ s. 4 * 2 ^ 447 < mag x' * (s * s)) (λ s. mag x * (s * s) < 4 * 2 ^ 447)
    (λ s b c. not-le_of_lt (lt_trans c b) (mul-le-mul_right (s * s) units))
    (rsqrt_of x') (rsqrt_of x) (n'.from_above (rsqrt_of x) h) (n.from_below (rsqrt_of x') h')

-- ---- the whole promise, of an accepted x and of any other

-- code 0 and the value
promised : (x : Float) → Positive x → Rsqrt x 0 (rsqrt_of x)
promised x p =
    let (b, n, c, h) = accepted x p in
    record {
      answers = given rsqrt_of x (rsqrt_of x) p refl h;
      nearest = λ q. n;
      near = λ q. c;
      order = λ q. rsqrt_order x p;
    }

-- code 1
refused : (x : Float) → ¬ Positive x → Rsqrt x 1 (rsqrt_of x)
refused x n = record {
  answers = declined rsqrt_of x (rsqrt_of x) n;
  nearest = λ h. absurd (n h);
  near = λ h. absurd (n h);
  order = λ h. absurd (n h);
}

-- ---- how the call ends
pub success : (x : Float) {bits : ℕ} → Positive x → bits ≡ rsqrt_bits x → Gives float_bits (Rsqrt x) (Ok bits)
unfolding rsqrt_of
success x p e = record {
  result = rsqrt_of x;
  promise = promised x p;
  given = e ∙ sym (pattern_back _ (omega (arith, (accepted x p).0)) (no_nan_positive _ (accepted x p).0));
}

-- of any other x nothing is written
pub refusal : (x : Float) {before : ℕ} → ¬ Positive x → Ends float_bits (Rsqrt x) 1 before before
refusal x n = untouched 1 (rsqrt_of x) (λ z. omega arith) (refused x n)

pub declines : (x : Float) → ¬ Positive x → Gives float_bits (Rsqrt x) (Err OutOfRange)
declines x n = err OutOfRange (refusal x {before = 0} n)

-- document 01's bound, relative 2 ^ -22, follows from the promise
pub as_asked : (x r : Float) → NearRecipRoot rsqrt_error_num rsqrt_error_den x r → NearRecipRoot 1 (2 ^ 22) x r
as_asked x r w = record {
  above_zero = w.above_zero;
  at_least = least (2 ^ 447) (mag x * (P r * P r)) w.at_least;
  at_most = most (2 ^ 447) (mag x * (P r * P r)) w.at_most;
}
  where
    least : (B Y : ℕ) → 281474943156225 * B ≤ 281474976710656 * Y → 17592177655809 * B ≤ 17592186044416 * Y
    least B Y h = omega arith

    most : (B Y : ℕ) → 281474976710656 * Y ≤ 281475010265089 * B → 17592186044416 * Y ≤ 17592194433025 * B
    most B Y h = omega arith
