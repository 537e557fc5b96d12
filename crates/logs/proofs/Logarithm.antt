-- The logarithm: method, reduction and rounding joined to the promise. Assumes nothing.
use Rattle.std.proofs.Common.{◌≡◌, ℕ, ◌+◌, ◌-◌, ◌*◌, ◌/◌, ◌^◌, ◌<◌, ◌≤◌, Bool, true, false, cond, sym, refl, ap, ◌∙◌, subst, inl, inr, le_of_eq, lt_of_lt_of_le, add_comm, le_antisymm, eq-or-lt_of_le, arith, lit<, lit≤, le-ltb, lt-ltb}
use lib.Ieee.{Float, binary32, to_bits, of_bits, neg}
use Rattle.units.specs.Units.{mag, P, N, Number, Le}
use Rattle.units.specs.Answers.{Ends, float_bits}
use Rattle.units.proofs.Naturals.{le-or-lt}
use Rattle.units.proofs.Signs.{plus_of_lem, minus_of_lem, size-sum}
use Rattle.units.proofs.Opposite.{opposite_is}
use Rattle.units.proofs.Bits.{Is, put_positive}
use Rattle.units.proofs.Answers.{given, declined, written, untouched}
use Rattle.exact.specs.Power.{AtMost, AtLeast, MoreThan}
use Rattle.exact.proofs.Power.{at_most, at_least, most_of_larger, least_of_smaller}
use Rattle.exact.proofs.Strict.{not_both}
use Rattle.exact.proofs.Exponents.{less_of_larger, more_of_smaller, between}
use Rattle.fixed.proofs.Rounding.{Placed, placed}
use Rattle.logs.specs.Log2.{Accepts, NearestLog, NearLog, log2_error_num, log2_error_den, Log2}
use Rattle.logs.specs.Value.{fixed_of, log_of_one, steps_above, steps_below, distance_of, first_word, width_of, log2_digits, rounded_bits, log2_of}
use Rattle.logs.specs.Fixed.{FixedLog2}
use Rattle.logs.proofs.Reduction.{least_over, most_over, reading, whole_fixed, units_by, fraction_bounds}
use Rattle.logs.proofs.Order.{fixed_least, fixed_most, fixed_order}
use Rattle.logs.proofs.Rounding.{zeros_of, digits_at, none_bits, is_float, rounded_back, whole_shut, whole_units}
use Rattle.logs.proofs.Relative.{InSteps, over_one, in_steps, mirrored, from_one, up_to_one, at_most_one}
use Rattle.logs.proofs.Middles.{Q, rounds_nearest, rounds_near, mirrored_nearest}
use Rattle.logs.proofs.Told.{Known, Digits}
use Rattle.logs.proofs.Bounds.{relative, absolute}
use Rattle.logs.proofs.Chosen.{chosen_above, chosen_below}
use Rattle.logs.proofs.Asked.{positive, negative}

-- ---- in fixed point
-- what the program computes keeps the promise
pub fixed_promised : (x : Float) (w : ℕ) → Accepts x → w ≡ fixed_of x → FixedLog2 x w
fixed_promised x w a e =
    subst (FixedLog2 x) (sym e)
    (record { value = refl; least = fixed_least x a; most = fixed_most x a; whole = whole_fixed x a; order = λ x' a' l. fixed_order x x' a a' l })

-- ---- the float that is made
-- what is shown of the result r
record Result (x r : Float) : Type 0 where
  number : Number r
  nearest : NearestLog x r
  near : NearLog log2_error_num log2_error_den x r
  whole : (k : ℕ) → mag x ≡ 2 ^ k → P r + 149 * 2 ^ 149 ≡ k * 2 ^ 149 + N r

-- what is more than a power of two whose exponent is at least 0 is more than 1
above_one : {n d p q : ℕ} → MoreThan n d p 0 q → n ≤ d → ⊥
above_one {q} m l = not_both (most_of_larger m.root (omega arith) (up_to_one m.per l)) m

-- what is known of one side where nothing is on the other
sided : {n d A B K : ℕ} → InSteps n d A B → A ≡ K → B ≡ 0 → AtLeast n d ((2 ^ 33 - 15) * K) 0 (2 ^ 87) × AtMost n d ((2 ^ 33 + 15) * K) 0 (2 ^ 87)
sided {n} {d} {A} s e z = (
  subst (λ (i : ℕ). AtLeast n d ((2 ^ 33 - 15) * i) 0 (2 ^ 87)) e (subst (λ (i : ℕ). AtLeast n d ((2 ^ 33 - 15) * A) ((2 ^ 33 + 15) * i) (2 ^ 87)) z s.least),
  subst (λ (i : ℕ). AtMost n d ((2 ^ 33 + 15) * i) 0 (2 ^ 87)) e (subst (λ (i : ℕ). AtMost n d ((2 ^ 33 + 15) * A) ((2 ^ 33 - 15) * i) (2 ^ 87)) z s.most),
)

-- of digits with less than 10 zeros before them by the absolute error, of others by the relative one
known : {n d A z : ℕ} → Placed A z → AtLeast n d ((2 ^ 33 - 15) * A) 0 (2 ^ 87) × AtMost n d ((2 ^ 33 + 15) * A) 0 (2 ^ 87) → AtLeast n d (2 ^ 32 * A) (3 * 2 ^ 54) (2 ^ 86) × AtMost n d (2 ^ 32 * A + 3 * 2 ^ 54) 0 (2 ^ 86)
    → Known n d A z (width_of z)
unfolding width_of
known {n} {d} {A} {z} p r s = elim (le-or-lt 10 z) [
  | inl h ↦ rw (le-ltb z 10 h) (relative n d A z p r.0 r.1)
  | inr h ↦ rw (lt-ltb z 10 h) (absolute n d A z p (omega arith) s.0 s.1)
]

-- ---- of an accepted x
module _ (x : Float) (a : Accepts x) where
  abbrev bits : ℕ
  bits = to_bits binary32 x

  abbrev w : ℕ
  w = fixed_of x

  abbrev A : ℕ
  A = distance_of w

  abbrev z : ℕ
  z = zeros_of w

  -- the logarithm in fixed point has 63 digits
  pub few : w < 2 ^ 63
  few = let r = reading x a in elim r.place [ inl e ↦ omega (arith, r.small, r.few) | inr e ↦ omega (arith, r.small, r.few) ]

  short : A < 2 ^ 63
  short = omega (arith, few)

  in_fixed_point : InSteps (mag x) (2 ^ 149) (steps_above w) (steps_below w)
  in_fixed_point = in_steps (mag x) w (reading x a)

  -- and the absolute error of either side
  in_all_above : log_of_one ≤ w → AtLeast (mag x) (2 ^ 149) (2 ^ 32 * A) (3 * 2 ^ 54) (2 ^ 86) × AtMost (mag x) (2 ^ 149) (2 ^ 32 * A + 3 * 2 ^ 54) 0 (2 ^ 86)
  in_all_above h = let r = over_one (mag x) w (reading x a) in (least_over (omega (arith, (reading x a).small)) r.0, most_over (omega (arith, (reading x a).small)) r.1)

  in_all_below : w ≤ log_of_one → AtLeast (2 ^ 149) (mag x) (2 ^ 32 * A) (3 * 2 ^ 54) (2 ^ 86) × AtMost (2 ^ 149) (mag x) (2 ^ 32 * A + 3 * 2 ^ 54) 0 (2 ^ 86)
  in_all_below h =
      let r = over_one (mag x) w (reading x a) in
      (least_over (omega (arith, (reading x a).small)) (at_least (lt_of_lt_of_le (lit< tt) a.normal) r.1), most_over (omega (arith, (reading x a).small)) (at_most r.0))

  bounds : (bits / 8388608 * 2 ^ 54 ≤ w) × (bits / 8388608 * 2 ^ 54 < w → bits / 8388608 * 2 ^ 54 + 2 ^ 31 ≤ w) × (w + 2 ^ 30 ≤ (bits / 8388608 + 1) * 2 ^ 54)
  unfolding fixed_of
  bounds = fraction_bounds bits

  -- the digits of a whole number of ones
  exact : (c : ℕ) → 0 < A → A ≡ c * 2 ^ 54 → digits_at bits w * 2 ^ (135 - z) ≡ c * 2 ^ 149
  unfolding log2_digits
  exact c pos e = rw (whole_shut A c pos short e z) (whole_units A c pos short e)

  -- ---- above log2 1
  module _ (up : log_of_one < w) where
    pos : 0 < A
    pos = omega arith

    digits_above : Digits (mag x) (2 ^ 149) (digits_at bits w) z
    unfolding first_word
    digits_above =
        let (low, next, last) = bounds in
        chosen_above bits w (mag x) A z (placed A pos (omega (arith, short))) (units_by x a) low next last (omega arith) pos (known (placed A pos (omega (arith, short))) (sided in_fixed_point (omega arith) (omega arith)) (in_all_above (omega arith)))

    is_above_lem : Is (log2_of x) false (digits_at bits w * 2 ^ (135 - z))
    unfolding log2_of
    is_above_lem = subst (λ (s : Bool). Is (of_bits binary32 (rounded_bits bits w)) s (digits_at bits w * 2 ^ (135 - z))) (le-ltb w log_of_one (omega arith)) (is_float bits w pos (omega (arith, short)) digits_above.least)

    result_above : Result x (log2_of x)
    result_above =
        let f = digits_above.found in
        let r = f.rounds in
        let n = rounds_nearest _ _ _ _ r (log2_of x) (subst (λ (u : ℕ). Is (log2_of x) false u) f.same is_above_lem) in
        let p : P (log2_of x) ≡ digits_at bits w * 2 ^ (135 - z) = plus_of_lem (log2_of x) is_above_lem.sign ∙ is_above_lem.units in
        let m : N (log2_of x) ≡ 0 = minus_of_lem (log2_of x) is_above_lem.sign in
        record {
          number = is_above_lem.number;
          nearest = record { from_above = n.from_above; from_below = n.from_below };
          near = record { above = λ h. rw (p, f.same) (rounds_near _ _ _ _ r); below = λ h. absurd (above_one r.under h) };
          whole = λ k e.
              let g = whole_fixed x a k e in
              rw (p, m, exact (k - 149) pos (omega arith)) (counted (k - 149) k (2 ^ 149) (omega arith));
        }
      where
        counted : (j k u : ℕ) → k ≡ 149 + j → j * u + 149 * u ≡ k * u + 0
        counted j k u e = rw e (omega arith)

  -- ---- below it
  module _ (down : w < log_of_one) where
    some : 0 < A
    some = omega arith

    digits_below : Digits (2 ^ 149) (mag x) (digits_at bits w) z
    unfolding first_word
    digits_below =
        let (low, next, last) = bounds in
        chosen_below bits w (mag x) A z (placed A some (omega (arith, short))) (units_by x a) low next last (omega arith) some (lt_of_lt_of_le (lit< tt) a.normal) (known (placed A some (omega (arith, short))) (sided (mirrored in_fixed_point) (omega arith) (omega arith)) (in_all_below (omega arith)))

    is_below : Is (log2_of x) true (digits_at bits w * 2 ^ (135 - z))
    unfolding log2_of
    is_below = subst (λ (s : Bool). Is (of_bits binary32 (rounded_bits bits w)) s (digits_at bits w * 2 ^ (135 - z))) (lt-ltb w log_of_one down) (is_float bits w some (omega (arith, short)) digits_below.least)

    result_below : Result x (log2_of x)
    result_below =
        let f = digits_below.found in
        let r = f.rounds in
        let o = opposite_is (log2_of x) (subst (λ (u : ℕ). Is (log2_of x) true u) f.same is_below) in
        let n = mirrored_nearest (2 ^ 149) (mag x) (lit< tt) (log2_of x) is_below.number (rounds_nearest _ _ _ _ r (neg (log2_of x)) o) in
        let p : P (log2_of x) ≡ 0 = ap (λ (s : Bool). cond s 0 (mag (log2_of x))) is_below.sign in
        let m : N (log2_of x) ≡ digits_at bits w * 2 ^ (135 - z) = ap (λ (s : Bool). cond s (mag (log2_of x)) 0) is_below.sign ∙ is_below.units in
        record {
          number = is_below.number;
          nearest = record { from_above = n.from_above; from_below = n.from_below };
          near = record { above = λ h. absurd (above_one r.under h); below = λ h. rw (m, f.same) (rounds_near _ _ _ _ r) };
          whole = λ k e.
              let g = whole_fixed x a k e in
              rw (p, m, exact (149 - k) some (omega arith)) (counted (149 - k) k (2 ^ 149) (omega arith));
        }
      where
        counted : (j k u : ℕ) → k + j ≡ 149 → 0 + 149 * u ≡ k * u + j * u
        counted j k u e = omega (arith, ap (λ (i : ℕ). i * u) e)

  -- ---- at it, where x is 1
  module _ (at_one : w ≡ log_of_one) where
    zero_known : AtLeast (mag x) (2 ^ 149) 0 0 (2 ^ 87) × AtMost (mag x) (2 ^ 149) 0 0 (2 ^ 87)
    zero_known = sided {K = 0} in_fixed_point (omega arith) (omega arith)

    one : mag x ≡ 2 ^ 149
    one = le_antisymm (at_most_one zero_known.1) (at_most_one (at_most zero_known.0))

    none : log2_of x ≡ of_bits binary32 0
    unfolding log2_of
    none = ap (of_bits binary32) (none_bits bits w (omega arith))

    is_zero : Is (log2_of x) false 0
    is_zero = rw none (put_positive 0 0 (inl refl) (omega arith) (omega arith))

    result_one : Result x (log2_of x)
    result_one =
        let p : P (log2_of x) ≡ 0 = plus_of_lem (log2_of x) is_zero.sign ∙ is_zero.units in
        let m : N (log2_of x) ≡ 0 = minus_of_lem (log2_of x) is_zero.sign in
        record {
          number = is_zero.number;
          nearest = record {
            from_above = λ y h l. less_of_larger (lit< tt) (zero_less (P (log2_of x)) (N (log2_of x)) (P y) (N y) Q p m l) (up_to_one (lit< tt) (le_of_eq one));
            from_below = λ y h l. more_of_smaller (lit< tt) (zero_more (P (log2_of x)) (N (log2_of x)) (P y) (N y) Q p m l) (from_one (lit< tt) (le_of_eq (sym one)));
          };
          near = record {
            above = λ h. rw p (record { least = least_of_smaller (lit< tt) (lit≤ tt) (from_one (lit< tt) (le_of_eq (sym one))); most = most_of_larger (lit< tt) (lit≤ tt) (up_to_one (lit< tt) (le_of_eq one)) });
            below = λ h. rw m (record { least = least_of_smaller (lit< tt) (lit≤ tt) (from_one (one_pos) (le_of_eq one)); most = most_of_larger (lit< tt) (lit≤ tt) (up_to_one (one_pos) (le_of_eq (sym one))) });
          };
          whole = λ k e.
              let g = whole_fixed x a k e in
              let l : k ≡ 149 = omega arith in
              rw (p, m, l) refl;
        }
      where
        one_pos : 0 < mag x
        one_pos = lt_of_lt_of_le (lit< tt) a.normal

        zero_less : (p m q n K : ℕ) → p ≡ 0 → m ≡ 0 → p + n < q + m → 0 * K + (m + n) * 1 < (p + q) * 1 + 0 * K
        zero_less p m q n K e f l = omega arith

        zero_more : (p m q n K : ℕ) → p ≡ 0 → m ≡ 0 → q + m < p + n → (p + q) * 1 + 0 * K < 0 * K + (m + n) * 1
        zero_more p m q n K e f l = omega arith

  result : Result x (log2_of x)
  result = elim (le-or-lt w log_of_one) [ inl h ↦ elim (eq-or-lt_of_le h) [ inl e ↦ result_one e | inr l ↦ result_below l ] | inr l ↦ result_above l ]

  log2_one : mag x ≡ 2 ^ 149 → log2_of x ≡ of_bits binary32 0
  log2_one e = let f = whole_fixed x a 149 e in none (omega arith)

-- ---- the whole promise, of an accepted x and of any other
-- the nearest floats are in the order of the numbers
log2_order : (x : Float) → Accepts x → (x' : Float) → Accepts x' → Le x' x → Le (log2_of x') (log2_of x)
log2_order x a x' a' l = elim (le-or-lt (P (log2_of x') + N (log2_of x)) (P (log2_of x) + N (log2_of x'))) [
  | inl h ↦ h
  | inr h ↦
      let r = result x a in
      let r' = result x' a' in
      let m = r'.nearest.from_below (log2_of x) r.number h in
      let g : mag x < mag x' = between (r.nearest.from_above (log2_of x') r'.number h) (rw (add_comm (P (log2_of x')), add_comm (N (log2_of x'))) at m) in
      absurd (omega (arith, size-sum x, size-sum x', a.at_least_zero, a'.at_least_zero))
]

-- code 0 and the value
promised : (x : Float) → Accepts x → Log2 x 0 (log2_of x)
promised x a =
    let r = result x a in
    record {
      answers = given log2_of x (log2_of x) a refl r.number;
      nearest = λ h. r.nearest;
      near = λ h. r.near;
      below_one = λ h. negative r.near;
      one = λ h. log2_one x a;
      above_one = λ h. positive r.near;
      whole = λ h. r.whole;
      order = λ h. log2_order x a;
    }

-- code 1
refused : (x : Float) → ¬ Accepts x → Log2 x 1 (log2_of x)
refused x n = record {
  answers = declined log2_of x (log2_of x) n;
  nearest = λ h. absurd (n h);
  near = λ h. absurd (n h);
  below_one = λ h. absurd (n h);
  one = λ h. absurd (n h);
  above_one = λ h. absurd (n h);
  whole = λ h. absurd (n h);
  order = λ h. absurd (n h);
}

-- ---- how the call ends
-- the pattern that is written is the value's
pub success : (x : Float) {before after : ℕ} → Accepts x → after ≡ rounded_bits (to_bits binary32 x) (fixed_of x) → Ends float_bits (Log2 x) 0 before after
unfolding log2_of
success x a e = written (log2_of x) (promised x a) (e ∙ sym (rounded_back (to_bits binary32 x) (fixed_of x) (few x a)))

-- nothing is written
pub refusal : (x : Float) {before : ℕ} → ¬ Accepts x → Ends float_bits (Log2 x) 1 before before
refusal x n = untouched 1 (log2_of x) (λ z. omega arith) (refused x n)
