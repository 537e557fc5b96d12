-- The sum of the powers in one word: each is cut off to steps of the largest one's exponent, and one step more makes up for it. Assumes nothing.
use mathlib.Core.Path.{◌≡◌, sym, ap, ◌∙◌}
use mathlib.Core.List.{List}
use Prim.Native.Nat.{ℕ, zero, suc, ◌+◌, ◌-◌, ◌*◌, ◌/◌, ◌^◌, ◌≤◌, ◌<◌}
use native.Mathlib.Nat.{le_trans, lt_of_lt_of_le, le_of_mul-le-mul_right, mul-le-mul_right, div-mul-le_self, lt-div-mul-add, div-le_self, div-eq_of_lt, div-eq_of_eq-mul_left, mul-div-mul_right, mul_assoc}
use native.Mathlib.Omega.{arith}
use lib.Dec.{lit<}
use lib.Pow.{pow_pos, pow_mono}
use Rattle.units.proofs.Naturals.{pow_split}
use Rattle.powers.specs.Base.{Base}
use Rattle.powers.specs.Fixed.{fixed_digits, fixed_exponent, fixed_power}
use lib.Ieee.{Float}
use Rattle.weights.specs.Lists.{at, sum}
use Rattle.weights.specs.Softmax.{Element}
use Rattle.weights.specs.Value.{power_at, share_of, share_at}
use Rattle.weights.proofs.Range.{power}
use Rattle.weights.proofs.Families.{sum_few}

-- s is the number p in steps of 2 ^ (e - 20), rounded up by k steps at most
pub record Aligned (p e k s : ℕ) : Type 0 where
  pub least : p * 2 ^ 20 ≤ s * 2 ^ e
  pub most : s * 2 ^ e ≤ p * 2 ^ 20 + k * 2 ^ e

-- ---- one power, r digits with the exponent E, in steps of the exponent e
module _ (r E e : ℕ) (up : E ≤ e) (small : r ≤ 2 ^ 33) where
  abbrev G : ℕ
  G = 2 ^ (e - E)

  abbrev q : ℕ
  q = r * 1048576 / G

  -- the steps that are left, and one more
  digits_aligned : Aligned (r * 2 ^ E) e 1 (q + 1)
  digits_aligned = record {
    least = rw (pow_split E e up) (rounded_up q G (2 ^ E) (lt-div-mul-add (pow_pos (e - E))));
    most = rw (pow_split E e up) (not_more q G (2 ^ E) (div-mul-le_self (r * 1048576) G));
  }
    where
      rounded_up : (q G U : ℕ) → r * 1048576 < q * G + G → r * U * 2 ^ 20 ≤ (q + 1) * (G * U)
      rounded_up q G U h = omega (arith, mul-le-mul_right U h)

      not_more : (q G U : ℕ) → q * G ≤ r * 1048576 → (q + 1) * (G * U) ≤ r * U * 2 ^ 20 + 1 * (G * U)
      not_more q G U h = omega (arith, mul-le-mul_right U h)

  digits_few : q ≤ 2 ^ 53
  digits_few = omega (arith, div-le_self (r * 1048576) G)

-- of an element
module _ (base : Base) (x : Float) (a : Element x) (e : ℕ) (up : fixed_exponent base x ≤ e) where
  share_aligned : Aligned (fixed_power base x) e 1 (share_of base e x)
  unfolding share_of
  share_aligned = digits_aligned (fixed_digits base x) (fixed_exponent base x) e up (power x a base).most

  share_few : share_of base e x ≤ 2 ^ 53 + 1
  unfolding share_of
  share_few = omega (arith, digits_few (fixed_digits base x) (fixed_exponent base x) e up (power x a base).most)

-- ---- what is left of the digits d at k exponents below
-- all of them up to 20
pub left_all : (d k : ℕ) → k ≤ 20 → d * (1048576 / 2 ^ k) ≡ d * 1048576 / 2 ^ k
left_all d k h =
    let s : 1048576 ≡ 2 ^ (20 - k) * 2 ^ k = pow_split k 20 h in
    ap (λ (t : ℕ). d * t) (div-eq_of_eq-mul_left (pow_pos k) s) ∙ sym (div-eq_of_eq-mul_left (pow_pos k) (ap (λ (t : ℕ). d * t) s ∙ sym (mul_assoc d (2 ^ (20 - k)) (2 ^ k))))

-- all but the last k - 20 from there on
pub left_first : (d k : ℕ) → 20 ≤ k → d / 2 ^ (k - 20) ≡ d * 1048576 / 2 ^ k
left_first d k h = sym (ap (λ (t : ℕ). d * 1048576 / t) (pow_split 20 k h) ∙ mul-div-mul_right d (2 ^ (k - 20)) (lit< tt))

-- none from 64 on
pub left_none : (d k : ℕ) → d ≤ 2 ^ 33 → 64 ≤ k → d * 1048576 / 2 ^ k ≡ 0
left_none d k small far = div-eq_of_lt (lt_of_lt_of_le (omega arith) (pow_mono {i = 64} {j = k} far))

-- ---- their sum
-- nothing yet
aligned_none : (e : ℕ) → Aligned 0 e 0 0
aligned_none e = record { least = omega arith; most = omega arith }

-- one more
aligned_more : (p p' e k s s' : ℕ) → Aligned p e k s → Aligned p' e 1 s' → Aligned (p + p') e (suc k) (s + s')
aligned_more p p' e k s s' a b = record { least = added (2 ^ e) a.least b.least; most = in_all (2 ^ e) a.most b.most }
  where
    added : (U : ℕ) → p * 2 ^ 20 ≤ s * U → p' * 2 ^ 20 ≤ s' * U → (p + p') * 2 ^ 20 ≤ (s + s') * U
    added U h g = omega arith

    in_all : (U : ℕ) → s * U ≤ p * 2 ^ 20 + k * U → s' * U ≤ p' * 2 ^ 20 + 1 * U → (s + s') * U ≤ (p + p') * 2 ^ 20 + suc k * U
    in_all U h g = omega arith

-- all of them
pub sum_aligned : (base : Base) (xs : List Float) (e n : ℕ) → ((i : ℕ) → i < n → Element (at xs i) × (fixed_exponent base (at xs i) ≤ e)) → Aligned (sum (power_at base xs) n) e n (sum (share_at base e xs) n)
unfolding sum
sum_aligned base xs e zero all = aligned_none e
sum_aligned base xs e (suc n) all =
    let (a, up) = all n (omega arith) in
    aligned_more _ _ e n _ _ (sum_aligned base xs e n (λ i h. all i (omega arith))) (share_aligned base (at xs n) a e up)

-- 1,024 of them fit a word, with room for as many steps
pub sum_fits : (base : Base) (xs : List Float) (e n : ℕ) → n ≤ 1024 → ((i : ℕ) → i < n → Element (at xs i) × (fixed_exponent base (at xs i) ≤ e)) → sum (share_at base e xs) n + 1024 < 2 ^ 64
sum_fits base xs e n few all = room (sum (share_at base e xs) n) (sum_few (share_at base e xs) n (2 ^ 53 + 1) (λ i h. share_few base (at xs i) (all i h).0 e (all i h).1))
  where
    room : (t : ℕ) → t ≤ n * (2 ^ 53 + 1) → t + 1024 < 2 ^ 64
    room t h = omega (arith, mul-le-mul_right (2 ^ 53 + 1) few)

-- with a power of the exponent e among them there are 2 ^ 52 steps and more
pub aligned_many : (p e k s : ℕ) → Aligned p e k s → 2 ^ 32 * 2 ^ e ≤ p → 2 ^ 52 ≤ s
aligned_many p e k s a l = le_of_mul-le-mul_right (le_trans (scaled (2 ^ e) l) a.least) (pow_pos e)
  where
    scaled : (U : ℕ) → 2 ^ 32 * U ≤ p → 2 ^ 52 * U ≤ p * 2 ^ 20
    scaled U h = omega arith
