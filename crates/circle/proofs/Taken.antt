-- The phases as they are taken from a float's bit pattern, against the float's units. Assumes nothing.
use Rattle.std.proofs.Common.{◌≡◌, ℕ, suc, ◌+◌, ◌-◌, ◌*◌, ◌/◌, ◌%◌, ◌^◌, ◌<◌, ◌≤◌, ◌⊎◌, sym, refl, ap, ◌∙◌, inl, inr, le_of_eq, lt_of_lt_of_le, le_of_suc-le-suc, lt_of_le_of_lt, le_of_lt, mul_comm, mul-le-mul_left, mul-lt-mul_of_pos_right, pow-suc, mul-zero, arith, lit≤, pow_pos, pow_mono}
use native.Mathlib.Nat.{mul-div-mul_right, div-eq_of_lt, add-mul-mod_self_right}
use lib.Ieee.{Float, binary32, to_bits}
use Rattle.units.specs.Units.{mag, Number}
use Rattle.units.proofs.Naturals.{le-or-lt}
use Rattle.units.proofs.Patterns.{below_infinity}
use Rattle.exact.proofs.Limits.{Both}
use Rattle.fixed.proofs.Either.{Normal, Subnormal, size_bits_lem}
use Rattle.circle.specs.Phase.{significand_of, exponent_field, half_turns, window_of, radians}
use Rattle.circle.specs.Promise.{Accepts}
use Rattle.circle.proofs.Method.{D}
use Rattle.circle.proofs.Pattern.{plus_of, minus_of}
use Rattle.circle.proofs.Window.{turns_of, windows, window_turns}
use Rattle.circle.proofs.Reduction.{turns-arrived, still_arrived}

-- the pattern of a float's size
abbrev pub size_bits : Float → ℕ
size_bits x = to_bits binary32 x % 2147483648

-- ---- pi x: half of x's turns
pub half_turns_taken : (x : Float) → Number x → half_turns (size_bits x) ≡ mag x / 2 ^ 86 % 2 ^ 64
unfolding half_turns
half_turns_taken x h = go (size_bits_lem x h)
  where
    b : ℕ
    b = size_bits x

    go : Normal x b ⊎ Subnormal x b → significand_of b * 2 ^ exponent_field b / 2 ^ 87 % 2 ^ 64 ≡ mag x / 2 ^ 86 % 2 ^ 64
    go (inl n) = ap (λ (u : ℕ). u / 2 ^ 87 % 2 ^ 64) (sym n.units ∙ mul_comm 2 (mag x)) ∙ ap (λ (u : ℕ). u % 2 ^ 64) (mul-div-mul_right (mag x) (2 ^ 86) (pow_pos 1))
    go (inr s) =
        let e : b / 8388608 ≡ 0 = s.none in
        let little : significand_of b * 2 ^ exponent_field b < 2 ^ 87 = rw e (lt_of_lt_of_le (few b) (lit≤ tt)) in
        let less : mag x < 2 ^ 86 = lt_of_lt_of_le s.few (lit≤ tt) in
        ap (λ (u : ℕ). u % 2 ^ 64) (div-eq_of_lt little ∙ sym (div-eq_of_lt less))
      where
        few : (b : ℕ) → significand_of b * 2 ^ 0 < 2 ^ 25
        few b = omega arith

-- ---- x itself
first_window : window_of 0 ≡ 0
unfolding window_of
first_window = refl

module _ (x : Float) (a : Accepts x) where
  abbrev b : ℕ
  b = size_bits x

  -- the exponent of a finite size
  top_exponent_lem : exponent_field b ≤ 254
  top_exponent_lem = let l : b < 2139095040 = below_infinity x a in omega arith

  abbrev t : ℕ
  t = radians b

  abbrev Result : Type 0
  Result = Both (mag x) (2 ^ 149) (plus_of ((t + 2 ^ 62) % 2 ^ 64)) (minus_of ((t + 2 ^ 62) % 2 ^ 64)) (plus_of t) (minus_of t) D 7 D

  -- a window has digits yet
  far : 86 ≤ exponent_field b → 2 * mag x ≡ significand_of b * 2 ^ exponent_field b → Result
  unfolding radians
  far h units =
      let i = exponent_field b - 86 in
      let W = turns_of i in
      let place : i < windows = let l = top_exponent_lem in omega arith in
      let reduced : significand_of b * window_of i % 2 ^ 64 ≡ significand_of b * W % 2 ^ 64 = ap (λ (n : ℕ). significand_of b * n % 2 ^ 64) (window_turns i place) ∙ mul-mod_rest (significand_of b) W in
      let on : (significand_of b * window_of i % 2 ^ 64 + 2 ^ 62) % 2 ^ 64 ≡ (significand_of b * W + 2 ^ 62) % 2 ^ 64 = ap (λ (n : ℕ). (n + 2 ^ 62) % 2 ^ 64) reduced ∙ add_rest (significand_of b * W) in
      rw (on, reduced) (turns-arrived (mag x) (significand_of b) i (omega arith) (omega arith) halved)
    where
      mul-mod_rest : (m n : ℕ) → m * (n % 2 ^ 64) % 2 ^ 64 ≡ m * n % 2 ^ 64
      mul-mod_rest m n = sym (ap (λ (k : ℕ). k % 2 ^ 64) (split (n / 2 ^ 64) (n % 2 ^ 64) (omega arith)) ∙ add-mul-mod_self_right (m * (n % 2 ^ 64)) (m * (n / 2 ^ 64)) (2 ^ 64))
        where
          split : (q r : ℕ) → q * 2 ^ 64 + r ≡ n → m * n ≡ m * r + m * q * 2 ^ 64
          split q r e = omega (arith, ap (λ (k : ℕ). m * k) e)

      add_rest : (n : ℕ) → (n % 2 ^ 64 + 2 ^ 62) % 2 ^ 64 ≡ (n + 2 ^ 62) % 2 ^ 64
      add_rest n = omega arith

      halved : mag x ≡ significand_of b * 2 ^ (exponent_field b - 86 + 85)
      halved =
          let e : exponent_field b ≡ suc (exponent_field b - 86 + 85) = omega arith in
          half (mag x) (significand_of b) (2 ^ (exponent_field b - 86 + 85)) (units ∙ ap (λ (n : ℕ). significand_of b * 2 ^ n) e ∙ ap (λ (n : ℕ). significand_of b * n) (pow-suc 2 (exponent_field b - 86 + 85)))
        where
          half : (m d p : ℕ) → 2 * m ≡ d * (p * 2) → m ≡ d * p
          half m d p h = omega arith

  -- a window has none yet
  near : mag x < 2 ^ 110 → exponent_field b ≤ 86 → Result
  unfolding radians
  near little h =
      let none : exponent_field b - 86 ≡ 0 = omega arith in
      rw (none, first_window, mul-zero (significand_of b)) (still_arrived (mag x) little)

  under : exponent_field b < 86 → 2 * mag x ≡ significand_of b * 2 ^ exponent_field b → mag x < 2 ^ 110
  under l units =
      let most : significand_of b * 2 ^ exponent_field b < 2 ^ 25 * 2 ^ 85 = lt_of_lt_of_le (mul-lt-mul_of_pos_right (few b) (pow_pos (exponent_field b))) (mul-le-mul_left (2 ^ 25) (pow_mono (le_of_suc-le-suc l))) in
      lt_of_le_of_lt (twice (mag x)) (lt_of_le_of_lt (le_of_eq units) most)
    where
      few : (b : ℕ) → significand_of b < 2 ^ 25
      few b = omega arith

      twice : (m : ℕ) → m ≤ 2 * m
      twice m = omega arith

  pub radians_taken : Result
  radians_taken = go (size_bits_lem x a) (le-or-lt 86 (exponent_field b))
    where
      go : Normal x b ⊎ Subnormal x b → (86 ≤ exponent_field b) ⊎ (exponent_field b < 86) → Result
      go (inl n) (inl l) = far l n.units
      go (inl n) (inr l) = near (under l n.units) (le_of_lt l)
      go (inr s) l = near (lt_of_lt_of_le s.few (lit≤ tt)) (rw s.none (omega arith))
