-- The square root: the whole number nearest to the root of 46 to 48 digits of x, put together with half the exponent, is the float nearest to the root of x.
-- Assumes nothing.
use Rattle.std.specs.Prelude.{Ok, Err}
use Rattle.std.proofs.Common.{◌≡◌, ℕ, zero, suc, ◌+◌, ◌-◌, ◌*◌, ◌^◌, ◌<◌, ◌≤◌, false, leb, sym, refl, ap, ◌∙◌, subst, inl, inr, zero-le, le_trans, lt_trans, le_of_eq, lt_of_lt_of_le, lt_of_le_of_lt, le_of_lt, mul-le-mul_right, mul_assoc, mul-le-mul, mul-le-mul_left, mul-lt-mul_of_pos_right, mul-pos, zero-mul, not-le_of_lt, arith, pow_pos, pow_mono, pow-add, eq-eqb, ne_eqb, le-leb}
use borrow.Author.Tests.{lt-leb}
use lib.Ieee.{Float, binary32, of_bits}
use Rattle.units.specs.Units.{mag, P, N, Number, Le}
use Rattle.units.proofs.Naturals.{le-or-lt}
use Rattle.units.specs.declared.refusal.Refusal.TheVariants.{OutOfRange}
use Rattle.units.specs.Answers.{Ends, float_bits}
use Rattle.units.specs.Refusals.{Gives}
use Rattle.units.proofs.Signs.{size-sum, sign_plus, minus_of_lem}
use Rattle.units.proofs.Answers.{given, declined, untouched, err}
use Rattle.units.proofs.Bits.{Is, put_positive, no_nan_positive}
use Rattle.units.proofs.Patterns.{pattern_back}
use Rattle.units.specs.Units.{Positive}
use Rattle.fixed.specs.Parts.{Apart, significand, exponent}
use Rattle.fixed.proofs.Take.{unique, own}
use Rattle.fixed.proofs.Nearest.{Middle, nearest_above, nearest_below, in_order}
use Rattle.roots.specs.Sqrt.{Accepts, NearestRoot, Sqrt}
use Rattle.roots.specs.Value.{IsNear, near_root, shifted, radicand, halved, sqrt_bits, sqrt_of}
use Rattle.roots.proofs.Least.{least_is}

-- ---- Reduction: the digits n that the root is taken of, and the exponent g of the result. n is x, in steps of the square of the result's step
scaled : (x : Float) (m e : ℕ) → Apart x m e → radicand m e * (2 ^ halved e * 2 ^ halved e) ≡ mag x * 2 ^ 149
scaled x m e a =
    let g = halved e in
    let k : shifted e + (g + g) ≡ e + 125 = omega arith in
    ap (λ (n : ℕ). radicand m e * n) (sym (pow-add 2 g g))
    ∙ mul_assoc m (2 ^ shifted e) (2 ^ (g + g))
    ∙ ap (λ (n : ℕ). m * n) (sym (pow-add 2 (shifted e) (g + g)) ∙ ap (λ (n : ℕ). 2 ^ n) k ∙ pow-add 2 e 125)
    ∙ sym (mul_assoc m (2 ^ e) (2 ^ 125))
    ∙ ap (λ (n : ℕ). n * 2 ^ 125) (sym a.same)
    ∙ mul_assoc (mag x) (2 ^ 24) (2 ^ 125)

-- n has 47 or 48 digits, so that it is whole in a word of 64
pub many : (x : Float) (m e : ℕ) → Apart x m e → 2 ^ 46 ≤ radicand m e
many x m e a = le_trans (le_of_eq (pow-add 2 23 23)) (mul-le-mul a.least (pow_mono {i = 23} {j = shifted e} (omega arith)))

pub few : (x : Float) (m e : ℕ) → Apart x m e → radicand m e < 2 ^ 48
few x m e a =
    let h : shifted e ≤ 24 = omega arith in
    lt_of_lt_of_le (mul-lt-mul_of_pos_right a.digits (pow_pos (shifted e))) (le_trans (mul-le-mul_left (2 ^ 24) (pow_mono h)) (le_of_eq (sym (pow-add 2 24 24))))

-- ---- Method: two tests on whole numbers are the tests on sums of floats
over_by : (n S u B : ℕ) → 0 < u → n * (u * u) ≡ B → n ≤ S * S + S → 4 * B < (2 * S + 1) * u * ((2 * S + 1) * u)
over_by n S u B pu e h =
    let w = u * u in
    let pw : 0 < w = mul-pos pu pu in
    let a : n * w ≤ (S * S + S) * w = mul-le-mul_right w h in
    let b : (2 * S + 1) * u * ((2 * S + 1) * u) ≡ 4 * ((S * S + S) * (u * u)) + u * u = omega arith in
    omega arith

under_by : (n T u B : ℕ) → 0 < u → n * (u * u) ≡ B → (T + 1) * (T + 1) < n + (T + 1) → (2 * T + 1) * u * ((2 * T + 1) * u) < 4 * B
under_by n T u B pu e h =
    let w = u * u in
    let pw : 0 < w = mul-pos pu pu in
    let k : T * T + T + 1 ≤ n = omega arith in
    let a : (T * T + T + 1) * w ≤ n * w = mul-le-mul_right w k in
    let b : (2 * T + 1) * u * ((2 * T + 1) * u) ≡ 4 * ((T * T + T) * (u * u)) + u * u = omega arith in
    omega arith

-- where S steps are at most the root, so is the middle of S steps and anything less
first_by : (n S u B s : ℕ) → n * (u * u) ≡ B → S * S ≤ n → s < 2 * S * u → s * s < 4 * B
first_by n S u B s e h l =
    let a : S * S * (u * u) ≤ n * (u * u) = mul-le-mul_right (u * u) h in
    let b : 2 * S * u * (2 * S * u) ≡ 4 * (S * S * (u * u)) = omega arith in
    let c : s * s ≤ s * (2 * S * u) = mul-le-mul_left s (le_of_lt l) in
    let d : s * (2 * S * u) < 2 * S * u * (2 * S * u) = mul-lt-mul_of_pos_right l (lt_of_le_of_lt zero-le l) in
    omega arith

-- S has 24 digits, since n has 47 or 48
digits_least : (n S : ℕ) → 2 ^ 46 ≤ n → n ≤ S * S + S → 2 ^ 23 ≤ S
digits_least n S h l = elim (le-or-lt (2 ^ 23) S) [
  | inl k ↦ k
  | inr k ↦ let b : S ≤ 8388607 = omega arith in let a : S * S ≤ 8388607 * 8388607 = mul-le-mul b b in absurd (not-le_of_lt (lt_of_le_of_lt l (omega arith)) h)
]

digits_most : (n S : ℕ) → n < 2 ^ 48 → S * S < n + S → S ≤ 2 ^ 24
digits_most n S h l = elim (le-or-lt S (2 ^ 24)) [
  | inl k ↦ k
  | inr k ↦ let a : 16777217 * S ≤ S * S = mul-le-mul_right S k in absurd (not-le_of_lt l (omega arith))
]

-- ---- Rounding: the pattern that the program puts together is the float nearest to the root
module _ (x : Float) (m e S : ℕ) (a : Apart x m e) (near : IsNear (radicand m e) S) where
  abbrev g : ℕ
  g = halved e

  abbrev n : ℕ
  n = radicand m e

  least : 2 ^ 23 ≤ S
  least = digits_least n S (many x m e a) near.half_above

  abbrev Over : ℕ → Type 0
  Over s = 4 * (mag x * 2 ^ 149) < s * s

  abbrev Under : ℕ → Type 0
  Under s = s * s < 4 * (mag x * 2 ^ 149)

  middle : Middle Over Under S (2 ^ g)
  middle =
      let e1 = scaled x m e a in
      let T = S - 1 in
      let l = least in
      let i : S ≡ T + 1 = omega arith in
      let j : 2 * S - 1 ≡ 2 * T + 1 = omega arith in
      record {
        grows = λ s s' h k. lt_of_lt_of_le k (mul-le-mul h h);
        falls = λ s s' h k. lt_of_le_of_lt (mul-le-mul h h) k;
        over = over_by n S (2 ^ g) (mag x * 2 ^ 149) (pow_pos g) e1 near.half_above;
        under =
            subst (λ (q : ℕ). Under (q * 2 ^ g)) (sym j)
            (under_by n T (2 ^ g) (mag x * 2 ^ 149) (pow_pos g) e1 (subst (λ (q : ℕ). q * q < n + q) i near.half_below));
        first = λ c s h. first_by n S (2 ^ g) (mag x * 2 ^ 149) s e1 (le_trans (le_of_eq (ap (λ (q : ℕ). q * q) c)) (many x m e a)) h;
      }

  pub pattern_in : g * 8388608 + S < 255 * 8388608
  pattern_in =
      let h = a.high in
      let t = digits_most n S (few x m e a) near.half_below in
      omega arith

  abbrev result : Float
  result = of_bits binary32 (g * 8388608 + S)

  result_is : Is result false (S * 2 ^ g)
  result_is = put_positive S g (inr least) (digits_most n S (few x m e a) near.half_below) pattern_in

  result_nearest : NearestRoot x result
  result_nearest = record {
    from_above = nearest_above Over Under S g least middle result result_is;
    from_below = nearest_below Over Under S g least middle result result_is;
  }

-- ---- the value function: of every number there is a nearest root, and one only
pub near_root_lem : (n S : ℕ) → 1 < S → IsNear n S → near_root n ≡ S
unfolding near_root
near_root_lem n S two h = least_is (λ (q : ℕ). leb n (q * q + q)) S (le-leb n (S * S + S) h.half_above) (λ j l. lt-leb n (j * j + j) (before j l)) n small
  where
    before : (j : ℕ) → j < S → j * j + j < n
    before j l =
        let k : j + 1 ≤ S = omega arith in
        let a : (j + 1) * j ≤ S * j = mul-le-mul_right j k in
        let b : S * (j + 1) ≤ S * S = mul-le-mul_left S k in
        let c = h.half_below in
        omega arith

    small : S ≤ n
    small =
        let a : 2 * S ≤ S * S = mul-le-mul_right S two in
        let c = h.half_below in
        omega arith

near_exists : (n : ℕ) → 0 < n → (S : ℕ) × IsNear n S
near_exists zero l = absurd (not-le_of_lt l zero-le)
near_exists (suc zero) l = (1, record { half_above = omega arith; half_below = omega arith })
near_exists (suc (suc k)) l = go (near_exists (suc k) (omega arith))
  where
    go : (S : ℕ) × IsNear (suc k) S → (S : ℕ) × IsNear (suc (suc k)) S
    go (S, h) = elim (le-or-lt (suc (suc k)) (S * S + S)) [
      | inl l ↦ (S, record { half_above = l; half_below = let c = h.half_below in omega arith })
      | inr l ↦ (S + 1, record { half_above = let c = h.half_above in omega arith; half_below = omega arith })
    ]

-- the value's pattern is the program's, however its digits were found
pub sqrt_bits_lem : (x : Float) (m e S : ℕ) → Apart x m e → IsNear (radicand m e) S → sqrt_bits x ≡ halved e * 8388608 + S
unfolding sqrt_bits
sqrt_bits_lem x m e S a h =
    let (i, j) = unique x m e a in
    let l = least x m e S a h in
    let two : 1 < S = omega arith in
    rw (← i, ← j, near_root_lem (radicand m e) S two h)

-- ---- above zero
module _ (x : Float) (p : Positive x) where
  sqrt_above : sqrt_of x ≡ of_bits binary32 (sqrt_bits x)
  unfolding sqrt_of
  sqrt_above = rw (ne_eqb (mag x) 0 (λ k. let q = p.above in omega arith))

  -- the pattern is a finite float's, and that float is the nearest
  sqrt_positive : (sqrt_bits x < 255 * 8388608) × NearestRoot x (sqrt_of x) × Number (sqrt_of x)
  sqrt_positive = go (near_exists (radicand m e) (lt_of_lt_of_le (pow_pos 46) (many x m e a)))
    where
      m : ℕ
      m = significand x

      e : ℕ
      e = exponent x

      a : Apart x m e
      a = own x p

      go : (S : ℕ) × IsNear (radicand m e) S → (sqrt_bits x < 255 * 8388608) × NearestRoot x (sqrt_of x) × Number (sqrt_of x)
      go (S, h) =
          rw (sqrt_above, sqrt_bits_lem x m e S a h) (pattern_in x m e S a h, result_nearest x m e S a h, (result_is x m e S a h).number)

-- ---- zero is its own root
zero_nearest : (x : Float) → mag x ≡ 0 → NearestRoot x x
zero_nearest x e = record {
  from_above = λ z h l.
      let d : 0 < P x + P z - (N x + N z) = omega (arith, size-sum x) in
      (omega (arith, size-sum x), lt_of_le_of_lt (le_of_eq (ap (λ (n : ℕ). 4 * (n * 2 ^ 149)) e ∙ ap (λ (n : ℕ). 4 * n) (zero-mul (2 ^ 149)))) (mul-pos d d));
  from_below = λ z h l. inl (omega (arith, size-sum x));
}

sqrt_zero : (x : Float) → mag x ≡ 0 → sqrt_of x ≡ x
unfolding sqrt_of
sqrt_zero x e = rw (eq-eqb (mag x) 0 e)

pub above_zero : (x : Float) → Accepts x → 0 < mag x → Positive x
above_zero x a h = record { number = a.number; sign = sign_plus x a.at_least_zero h; above = h }

-- of every accepted x the value function is the nearest float, and a finite one
accepted : (x : Float) → Accepts x → NearestRoot x (sqrt_of x) × Number (sqrt_of x)
accepted x a = elim (le-or-lt (mag x) 0) [
  | inl z ↦
      let e : mag x ≡ 0 = omega arith in
      subst (λ (r : Float). NearestRoot x r × Number r) (sym (sqrt_zero x e)) (zero_nearest x e, a.number)
  | inr h ↦ let (b, n, k) = sqrt_positive x (above_zero x a h) in (n, k)
]

-- ---- Order: the middle of two results lies on one side only
nearest_order : (x x' r r' : Float) → Number r → Number r' → NearestRoot x r → NearestRoot x' r' → mag x' ≤ mag x → Le r' r
nearest_order x x' r r' h h' n n' l =
    in_order (λ s. 4 * (mag x * 2 ^ 149) < s * s) (λ s. s * s < 4 * (mag x' * 2 ^ 149))
    (λ s a b. not-le_of_lt (lt_trans a b) (mul-le-mul_left 4 (mul-le-mul_right (2 ^ 149) l)))
    r r' (n.from_above r' h') (n'.from_below r h)

in_units : (x x' : Float) → Accepts x → Accepts x' → Le x' x → mag x' ≤ mag x
in_units x x' a a' l = omega (arith, size-sum x, size-sum x', a.at_least_zero, a'.at_least_zero)

sqrt_order : (x : Float) → Accepts x → (x' : Float) → Accepts x' → Le x' x → Le (sqrt_of x') (sqrt_of x)
sqrt_order x a x' a' l =
    nearest_order x x' (sqrt_of x) (sqrt_of x') (accepted x a).1 (accepted x' a').1 (accepted x a).0 (accepted x' a').0 (in_units x x' a a' l)

-- ---- the whole promise, of an accepted x and of any other

-- code 0 and the value
promised : (x : Float) → Accepts x → Sqrt x 0 (sqrt_of x)
promised x a = record {
  answers = given sqrt_of x (sqrt_of x) a refl (accepted x a).1;
  nearest = λ h. (accepted x a).0;
  zero = λ h. sqrt_zero x;
  order = λ h. sqrt_order x a;
}

-- code 1
refused : (x : Float) → ¬ Accepts x → Sqrt x 1 (sqrt_of x)
refused x n = record {
  answers = declined sqrt_of x (sqrt_of x) n;
  nearest = λ h. absurd (n h);
  zero = λ h. absurd (n h);
  order = λ h. absurd (n h);
}

-- ---- how the call ends
gives : (x : Float) {bits : ℕ} → Accepts x → bits ≡ float_bits (sqrt_of x) → Gives float_bits (Sqrt x) (Ok bits)
gives x a e = record { result = sqrt_of x; promise = promised x a; given = e }

-- of a zero its own pattern
pub success_zero : (x : Float) {bits : ℕ} → Number x → mag x ≡ 0 → bits ≡ float_bits x → Gives float_bits (Sqrt x) (Ok bits)
success_zero x n z e = gives x (record { number = n; at_least_zero = omega (arith, size-sum x) }) (rw (sqrt_zero x z) e)

-- the pattern of the root
pub success : (x : Float) {bits : ℕ} → Positive x → bits ≡ sqrt_bits x → Gives float_bits (Sqrt x) (Ok bits)
success x p e =
    gives x (record { number = p.number; at_least_zero = minus_of_lem x p.sign })
    (rw (sqrt_above x p) (e ∙ sym (pattern_back _ (omega (arith, (sqrt_positive x p).0)) (no_nan_positive _ (sqrt_positive x p).0))))

-- of any other x nothing is written
pub refusal : (x : Float) {before : ℕ} → ¬ Accepts x → Ends float_bits (Sqrt x) 1 before before
refusal x n = untouched 1 (sqrt_of x) (λ z. omega arith) (refused x n)

pub declines : (x : Float) → ¬ Accepts x → Gives float_bits (Sqrt x) (Err OutOfRange)
declines x n = err OutOfRange (refusal x {before = 0} n)
