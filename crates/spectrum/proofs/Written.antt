-- A word's value, written as a float. Assumes nothing.
use mathlib.Core.Path.{◌≡◌, refl, sym, ap, ap₂, ◌∙◌, subst}
use mathlib.Core.Logic.{inl, inr, ◌⊎◌}
use mathlib.Core.Bool.{Bool, true, false, not, cond}
use Prim.Native.Nat.{ℕ, ◌+◌, ◌-◌, ◌*◌, ◌%◌, ◌^◌, ◌≤◌, ◌<◌}
use native.Mathlib.Nat.{add_comm, zero-add, eq-zero-or-pos}
use native.Mathlib.Omega.{arith}
use lib.Dec.{T}
use borrow.Author.Tests.{lt-ltb, le-ltb, eq-eqb, ne_eqb}
use lib.Ieee.{Float, binary32, to_bits, of_bits, nan_bits}
use Rattle.units.specs.Units.{mag, P, N, Number}
use Rattle.units.proofs.Naturals.{le-or-lt}
use Rattle.units.proofs.Bits.{Is, sign_bit, put, no_nan}
use Rattle.units.proofs.Patterns.{pattern_back}
use Rattle.spectrum.specs.Difference.{Difference, whole, times}
use Rattle.spectrum.specs.Table.{unit}
use Rattle.spectrum.specs.Words.{value_of}
use Rattle.spectrum.specs.Transform.{units_of}
use Rattle.spectrum.specs.Floats.{size_in, Holdable, size_bits_of, bits_of}
use Rattle.spectrum.proofs.Differences.{Close, length}
use Rattle.spectrum.proofs.Sizes.{size_of, size-zero}
use Rattle.spectrum.proofs.Outputs.{bits_below, Rounds, sized}

-- the pattern b is that of a float near the value W, scaled by E; it is not that of -0
pub record Output (E : ℕ) (W : Difference) (b : ℕ) : Type 0 where
  pub number : Number (of_bits binary32 b)
  pub back : to_bits binary32 (of_bits binary32 b) ≡ b
  pub zero_plus : mag (of_bits binary32 b) ≡ 0 → b ≡ 0
  pub rounds : Close (E * length W + 2 ^ 76) (times (whole (2 ^ 77)) (units_of (of_bits binary32 b))) (times (whole (2 ^ 24)) (times (whole E) W))

-- a float of so many units, of either sign
sides : (x : Float) (s : Bool) (u : ℕ) → Is x s u → (P x ≡ cond s 0 u) × (N x ≡ cond s u 0)
sides x s u h = (ap₂ (λ b n. cond b 0 n) h.sign h.units, ap₂ (λ b n. cond b n 0) h.sign h.units)

-- both signs of a rounding
plus_near : (E n u : ℕ) → Rounds (n * E) u → Close (E * (n + 0) + 2 ^ 76) (times (whole (2 ^ 77)) (record { plus = u; minus = 0 })) (times (whole (2 ^ 24)) (times (whole E) (record { plus = n; minus = 0 })))
plus_near E n u h = record { most = omega (arith, h.most); least = omega (arith, h.least) }

minus_near : (E n u : ℕ) → Rounds (n * E) u → Close (E * (0 + n) + 2 ^ 76) (times (whole (2 ^ 77)) (record { plus = 0; minus = u })) (times (whole (2 ^ 24)) (times (whole E) (record { plus = 0; minus = n })))
minus_near E n u h = record { most = omega (arith, h.least); least = omega (arith, h.most) }

-- zero
pub zero_output : (E : ℕ) → Output E (whole 0) 0
zero_output E =
    let h = put false 0 0 (inl refl) (omega arith) (omega arith) in
    let s = sides (of_bits binary32 0) false 0 h in
    record {
      number = h.number;
      back = pattern_back 0 (omega arith) (no_nan false 0 (omega arith));
      zero_plus = λ z. refl;
      rounds = rw (s.0, s.1) (record { most = omega arith; least = omega arith });
    }

module _ (e v : ℕ) (high : e ≤ 269) (h : Holdable v) where
  -- not below zero
  module _ (l : unit ≤ v) where
    abbrev n : ℕ
    n = v - unit

    few : n < 2 ^ 60
    few = omega (arith, h.most)

    bits : bits_of e v ≡ size_bits_of e n
    unfolding bits_of
    bits = rw (le-ltb v unit l) refl

    none : unit - v ≡ 0
    none = omega arith

    plus_output : Output (2 ^ e) (value_of v) (size_bits_of e n)
    plus_output =
        let t = sized n e few high false in
        let i = subst (λ (b : ℕ). Is (of_bits binary32 b) false t.units) (zero-add (size_bits_of e n)) t.is in
        let s = sides (of_bits binary32 (size_bits_of e n)) false t.units i in
        let below = bits_below n e few high in
        let back = pattern_back (size_bits_of e n) (omega arith) (subst (λ (b : ℕ). T (not (nan_bits binary32 b))) (zero-add (size_bits_of e n)) (no_nan false (size_bits_of e n) below)) in
        record {
          number = i.number;
          back = back;
          zero_plus = λ z. size-zero (size_bits_of e n) (sym (size_of (of_bits binary32 (size_bits_of e n)) i.number ∙ ap size_in (ap (λ (b : ℕ). b % 2147483648) back ∙ rest below)) ∙ z);
          rounds = rw (s.0, s.1, none) (plus_near (2 ^ e) n t.units t.rounds);
        }
      where
        rest : size_bits_of e n < 255 * 8388608 → size_bits_of e n % 2147483648 ≡ size_bits_of e n
        rest b = omega arith

  -- below zero
  module _ (l : v < unit) where
    abbrev k : ℕ
    k = unit - v

    few_below : k < 2 ^ 60
    few_below = omega (arith, h.least)

    none_above : v - unit ≡ 0
    none_above = omega arith

    nothing : size_bits_of e k ≡ 0 → Output (2 ^ e) (value_of v) 0
    nothing z =
        let t = sized k e few_below high true in
        let i = subst (λ (b : ℕ). Is (of_bits binary32 (sign_bit true + b)) true t.units) z t.is in
        let j = put true 0 0 (inl refl) (omega arith) (omega arith) in
        let units : t.units ≡ 0 = sym i.units ∙ j.units in
        let o = zero_output (2 ^ e) in
        let s = sides (of_bits binary32 0) false 0 (put false 0 0 (inl refl) (omega arith) (omega arith)) in
        record {
          number = o.number;
          back = o.back;
          zero_plus = λ z. refl;
          rounds = rw (s.0, s.1, none_above) (minus_near (2 ^ e) k 0 (subst (Rounds (k * 2 ^ e)) units t.rounds));
        }

    minus_output : ¬ (size_bits_of e k ≡ 0) → Output (2 ^ e) (value_of v) (size_bits_of e k + 2147483648)
    minus_output some =
        let t = sized k e few_below high true in
        let i = subst (λ (b : ℕ). Is (of_bits binary32 b) true t.units) (add_comm 2147483648 (size_bits_of e k)) t.is in
        let s = sides (of_bits binary32 (size_bits_of e k + 2147483648)) true t.units i in
        let below = bits_below k e few_below high in
        let back = pattern_back (size_bits_of e k + 2147483648) (omega arith) (subst (λ (b : ℕ). T (not (nan_bits binary32 b))) (add_comm 2147483648 (size_bits_of e k)) (no_nan true (size_bits_of e k) below)) in
        record {
          number = i.number;
          back = back;
          zero_plus = λ z. absurd (some (size-zero (size_bits_of e k) (sym (size_of (of_bits binary32 (size_bits_of e k + 2147483648)) i.number ∙ ap size_in (ap (λ (b : ℕ). b % 2147483648) back ∙ rest below)) ∙ z)));
          rounds = rw (s.0, s.1, none_above) (minus_near (2 ^ e) k t.units t.rounds);
        }
      where
        rest : size_bits_of e k < 255 * 8388608 → (size_bits_of e k + 2147483648) % 2147483648 ≡ size_bits_of e k
        rest b = omega arith

  pub output : Output (2 ^ e) (value_of v) (bits_of e v)
  unfolding bits_of
  output = elim (le-or-lt unit v) [
    | inl l ↦ rw (le-ltb v unit l) (plus_output l)
    | inr l ↦ elim (eq-zero-or-pos (size_bits_of e (unit - v))) [
      | inl z ↦ rw (lt-ltb v unit l, eq-eqb _ _ z) (nothing l z)
      | inr p ↦ rw (lt-ltb v unit l, ne_eqb _ _ (above p)) (minus_output l (above p))
    ]
  ]
    where
      above : {n : ℕ} → 0 < n → ¬ (n ≡ 0)
      above p z = omega arith

  -- one of plus and minus is zero
  pub one_sided : ((value_of v).plus ≡ 0) ⊎ ((value_of v).minus ≡ 0)
  one_sided = elim (le-or-lt unit v) [ inl l ↦ inr (none l) | inr l ↦ inl (none_above l) ]
