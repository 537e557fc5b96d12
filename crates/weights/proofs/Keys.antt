-- The largest element: keys are in the order of the floats, and the largest key is that of an element. Assumes nothing.
use mathlib.Core.Path.{◌≡◌, refl, sym, ap, ap₂, ◌∙◌, subst}
use mathlib.Core.Logic.{inl, inr}
use mathlib.Core.List.{List}
use Prim.Native.Nat.{ℕ, zero, suc, max, ◌+◌, ◌-◌, ◌%◌, ◌≤◌, ◌<◌}
use native.Mathlib.Nat.{le_trans, le_of_eq}
use native.Mathlib.Numerals.{add-one}
use native.Mathlib.Omega.{arith}
use borrow.Author.Tests.{lt-ltb, le-ltb}
use lib.ListN.{length}
use lib.Ieee.{Float, binary32, of_bits}
use lib.Ieee.Bits.{to_bits-lt, of_bits-to_bits}
use Rattle.units.specs.Units.{mag, Number, Le}
use Rattle.units.specs.Answers.{float_bits}
use Rattle.units.proofs.Naturals.{le-or-lt}
use Rattle.units.proofs.Patterns.{packed_le, packed_of}
use Rattle.units.proofs.Between.{sign_clear, sign_set}
use Rattle.weights.specs.Lists.{at}
use Rattle.weights.specs.Softmax.{Elements}
use Rattle.weights.specs.Value.{key_of, pattern_of, larger, largest, key_at, top_key, top_of}
use Rattle.weights.proofs.Range.{own_pattern}

-- ---- one key
pub key_clear : (b : ℕ) → b < 2147483648 → key_of b ≡ b + 2147483648
unfolding key_of
key_clear b l = rw (lt-ltb b 2147483648 l)

pub key_set : (b : ℕ) → 2147483648 ≤ b → key_of b ≡ 4294967295 - b
unfolding key_of
key_set b l = rw (le-ltb b 2147483648 l)

-- the pattern with that key is the pattern
key_back : (b : ℕ) → b < 4294967296 → pattern_of (key_of b) ≡ b
unfolding pattern_of
key_back b small = elim (le-or-lt 2147483648 b) [
  | inl l ↦ rw (key_set b l, lt-ltb (4294967295 - b) 2147483648 (omega arith)) (omega arith)
  | inr l ↦ rw (key_clear b l, le-ltb (b + 2147483648) 2147483648 (omega arith)) (omega arith)
]

-- sizes are in the order of their patterns
size_order : (x y : Float) → Number x → Number y → float_bits x % 2147483648 ≤ float_bits y % 2147483648 → mag x ≤ mag y
size_order x y n m l =
    let s = packed_of x n in
    let t = packed_of y m in
    rw (s.units, t.units) (packed_le s.m s.k t.m t.k s.shape t.shape (rw (s.size_bits_lem, t.size_bits_lem) at l))

-- and floats in that of their keys
key_order : (x y : Float) → Number x → Number y → key_of (float_bits x) ≤ key_of (float_bits y) → Le x y
key_order x y n m l = elim (le-or-lt 2147483648 (float_bits x)) [
  | inl h ↦ elim (le-or-lt 2147483648 (float_bits y)) [
    | inl k ↦
        let small = to_bits-lt binary32 x n.fits32 in
        let s = size_order y x m n (omega (arith, rw (key_set _ h, key_set _ k) at l)) in
        omega (arith, sign_set x n h, sign_set y m k)
    | inr k ↦ omega (arith, sign_set x n h, sign_clear y m k)
  ]
  | inr h ↦ elim (le-or-lt 2147483648 (float_bits y)) [
    | inl k ↦ absurd (omega (arith, rw (key_clear _ h, key_set _ k) at l))
    | inr k ↦
        let s = size_order x y n m (omega (arith, rw (key_clear _ h, key_clear _ k) at l)) in
        omega (arith, sign_clear x n h, sign_clear y m k)
  ]
]

-- ---- the largest of a family
larger_most : (a b : ℕ) → (a ≤ larger a b) × (b ≤ larger a b)
larger_most a b = elim (le-or-lt b a) [ inl l ↦ rw (le-ltb a b l) (omega arith, l) | inr l ↦ rw (lt-ltb a b l) (omega arith, omega arith) ]

-- the program's maximum is that
pub larger_is : (a b : ℕ) → max a b ≡ larger a b
larger_is a b = elim (le-or-lt b a) [ inl l ↦ rw (le-ltb a b l) (omega arith) | inr l ↦ rw (lt-ltb a b l) (omega arith) ]

-- no member is above it
not_above : (f : ℕ → ℕ) (n i : ℕ) → i < n → f i ≤ largest f n
unfolding largest
not_above f zero i h = absurd (omega arith)
not_above f (suc n) i h = elim (le-or-lt n i) [
  | inl l ↦ let e : i ≡ n = omega arith in rw e (larger_most (largest f n) (f n)).1
  | inr l ↦ le_trans (not_above f n i l) (larger_most (largest f n) (f n)).0
]

-- and it is one of them
one_of : (f : ℕ → ℕ) (n : ℕ) → (i : ℕ) × (i < suc n) × (f i ≡ largest f (suc n))
unfolding largest
one_of f zero = elim (le-or-lt (f 0) 0) [
  | inl l ↦ (0, omega arith, rw (le-ltb 0 (f 0) l) (omega arith))
  | inr l ↦ (0, omega arith, rw (lt-ltb 0 (f 0) l) refl)
]
one_of f (suc n) = elim (le-or-lt (f (suc n)) (largest f (suc n))) [
  | inl l ↦ let (i, s, e) = one_of f n in (i, omega arith, e ∙ sym (rw (le-ltb (largest f (suc n)) (f (suc n)) l) refl))
  | inr l ↦ (suc n, omega arith, rw (lt-ltb (largest f (suc n)) (f (suc n)) l) refl)
]

-- one more, by its pattern
pub one_more : (xs : List Float) (i b top : ℕ) → of_bits binary32 b ≡ at xs i → b < 4294967296 → Number (of_bits binary32 b) → top ≡ largest (key_at xs) i → larger top (key_of b) ≡ largest (key_at xs) (i + 1)
unfolding largest
one_more xs i b top same small n e = rw (add-one i) (ap₂ larger e (ap key_of (sym (own_pattern b small n)) ∙ ap (λ (x : Float). key_of (float_bits x)) same))

-- ---- the largest element
-- m is the largest of all
pub record Largest (xs : List Float) (m : Float) : Type 0 where
  pub place : ℕ
  pub within : place < length xs
  pub there : at xs place ≡ m
  pub most : (i : ℕ) → i < length xs → Le (at xs i) m

pub top_largest : (xs : List Float) → Elements xs → 0 < length xs → Largest xs (top_of xs)
unfolding top_of
top_largest xs all some =
    let (i, h, e) = one_of_some (length xs) some in
    let n = (all.each i h).number in
    let there : at xs i ≡ of_bits binary32 (pattern_of (top_key xs)) = sym (ap (λ (k : ℕ). of_bits binary32 (pattern_of k)) (sym e) ∙ ap (of_bits binary32) (key_back _ (to_bits-lt binary32 (at xs i) n.fits32)) ∙ of_bits-to_bits binary32 (at xs i) n.fits32) in
    record {
      place = i;
      within = h;
      there = there;
      most = λ j g. subst (Le (at xs j)) there (key_order (at xs j) (at xs i) (all.each j g).number n (le_trans (not_above (key_at xs) (length xs) j g) (le_of_eq (sym e))));
    }
  where
    one_of_some : (n : ℕ) → 0 < n → (i : ℕ) × (i < n) × (key_at xs i ≡ largest (key_at xs) n)
    one_of_some zero h = absurd (omega arith)
    one_of_some (suc n) h = one_of (key_at xs) n
