-- Rounding seen from outside: with the exponent given, times a power of two, and that no number of 24 digits is nearer.
use mathlib.Core.Path.{◌≡◌, sym, ap, ◌∙◌}
use mathlib.Core.Logic.{◌⊎◌, inl, inr}
use Prim.Native.Nat.{ℕ, suc, ◌+◌, ◌-◌, ◌*◌, ◌/◌, ◌%◌, ◌^◌, ◌≤◌, ◌<◌, zero-le, compare}
use native.Mathlib.Nat.{le_trans, le_of_lt, sub-eq-zero_of_le, le_of_eq, le_antisymm, lt_of_lt_of_le, lt_of_le_of_lt, lt_of_not-le, not-le_of_lt, eq-or-lt_of_le, eq-zero-or-pos, mul_assoc, mul-pos, mul-le-mul_right, le-div_iff_mul-le, div-lt_iff_lt-mul, div-mul-le_self, lt-div-mul-add}
use native.Mathlib.Omega.{arith}
use mathlib.Core.Bool.{Bool, true, false, not, cond}
use lib.Dec.{T}
use lib.Pow.{pow-add, pow_pos, pow_mono}
use lib.Ieee.{Float, size, nearest}
use lib.Ieee.Digits.{size-lt, size-le, back}
use lib.Ieee.Fits.{nearest-le}
use lib.Ieee.Nearest.{closest, nearest-ge}
use lib.Ieee.Order.{drop}
use lib.Ieee.Scale.{finite}
use Rattle.units.specs.Units.{mag, negative, P, N, Number}
use Rattle.units.proofs.Naturals.{le-or-lt}
use Rattle.units.proofs.Near.{Near, near_sym}
use Rattle.units.proofs.Size.{mag_digits}
use Rattle.units.proofs.Result.{Rounds, rounds_plus, rounds_minus}
use Rattle.units.proofs.Round.{rnd, rnd_half, rnd_zero, reaches, step}

regroup : (a b c : ℕ) → a * (b * c) ≡ a * c * b
regroup a b c = omega arith

size_gt : (n j : ℕ) → 2 ^ j ≤ n → j < size n
size_gt n j h = lt_of_not-le (λ (g : size n ≤ j). not-le_of_lt (lt_of_lt_of_le (size-lt n) (pow_mono g)) h)

-- how many digits are dropped, by the range that n / c is in
drop_at : (n c k : ℕ) → 0 < c → n < 2 ^ 24 * 2 ^ k * c → (0 < k → 2 ^ 23 * 2 ^ k * c ≤ n) → drop 24 n c ≡ k
drop_at n c k C h g = elim (eq-zero-or-pos k) [
  | inl e ↦ none (size (n / c)) k most e
  | inr p ↦ both (size (n / c)) k most (size_gt (n / c) (23 + k) (rw (pow-add 2 23 k) ((le-div_iff_mul-le C).1 (g p))))
]
  where
    most : size (n / c) ≤ 24 + k
    most = size-le (n / c) (24 + k) (rw (pow-add 2 24 k) ((div-lt_iff_lt-mul C).1 h))

    none : (z i : ℕ) → z ≤ 24 + i → i ≡ 0 → z - 24 ≡ i
    none z i a e = omega arith

    both : (z i : ℕ) → z ≤ 24 + i → 23 + i < z → z - 24 ≡ i
    both z i a b = omega arith

-- with the exponent given: n / c is below 2 ^ (24 + k) units, and at least 2 ^ (23 + k) or k is 0
pub rnd_at : (n c k : ℕ) → 0 < c → n < 2 ^ 24 * 2 ^ k * c → (0 < k → 2 ^ 23 * 2 ^ k * c ≤ n) → rnd n c ≡ closest n (c * 2 ^ k) * 2 ^ k
unfolding rnd
rnd_at n c k C h g = ap (λ (i : ℕ). closest n (c * 2 ^ i) * 2 ^ i) (drop_at n c k C h g)

-- ---- no number of 24 digits is nearer
-- how many whole steps there are in n / c
abbrev pub steps : ℕ → ℕ → ℕ
steps n c = n / (c * 2 ^ drop 24 n c)

module _ (n c q j : ℕ) (C : 0 < c) (h : q ≤ 2 ^ 24) where
  step_pos : 0 < c * 2 ^ drop 24 n c
  step_pos = mul-pos C (pow_pos (drop 24 n c))

  -- a number of 24 digits with a smaller step is at most that many steps
  finer : j < drop 24 n c → q * 2 ^ j ≤ steps n c * 2 ^ drop 24 n c
  finer l =
      let k = drop 24 n c in
      let a : 2 ^ 23 * (c * 2 ^ k) ≤ n = le_trans (le_of_eq (regroup (2 ^ 23) c (2 ^ k))) ((le-div_iff_mul-le C).0 (reaches n c (lt_of_le_of_lt zero-le l))) in
      le_trans (mul-le-mul_right (2 ^ j) h) (le_trans (step j k l) (mul-le-mul_right (2 ^ k) ((le-div_iff_mul-le step_pos).1 a)))

  -- one with a step as large is a whole number of steps
  coarser : drop 24 n c ≤ j → q * 2 ^ j ≡ q * 2 ^ (j - drop 24 n c) * 2 ^ drop 24 n c
  coarser l = let k = drop 24 n c in ap (λ (x : ℕ). q * x) (ap (λ (x : ℕ). 2 ^ x) (sym (back j k l)) ∙ pow-add 2 (j - k) k) ∙ sym (mul_assoc q (2 ^ (j - k)) (2 ^ k))

  pub below : q * 2 ^ j * c ≤ n → q * 2 ^ j ≤ steps n c * 2 ^ drop 24 n c
  below g = elim (le-or-lt (drop 24 n c) j) [
    | inl l ↦
        let k = drop 24 n c in
        let v = q * 2 ^ (j - k) in
        rw (coarser l) (mul-le-mul_right (2 ^ k) ((le-div_iff_mul-le step_pos).1 (le_trans (le_of_eq (regroup v c (2 ^ k))) (rw (coarser l) at g))))
    | inr l ↦ finer l
  ]

  pub above : n < q * 2 ^ j * c → suc (steps n c) * 2 ^ drop 24 n c ≤ q * 2 ^ j
  above g = elim (le-or-lt (drop 24 n c) j) [
    | inl l ↦
        let k = drop 24 n c in
        let v = q * 2 ^ (j - k) in
        rw (coarser l) (mul-le-mul_right (2 ^ k) ((div-lt_iff_lt-mul step_pos).1 (lt_of_lt_of_le (rw (coarser l) at g) (le_of_eq (sym (regroup v c (2 ^ k)))))))
    | inr l ↦
        let k = drop 24 n c in
        let a : q * 2 ^ j * c ≤ n = le_trans (mul-le-mul_right c (finer l)) (le_trans (le_of_eq (sym (regroup (steps n c) c (2 ^ k)))) (div-mul-le_self n (c * 2 ^ k))) in
        absurd (not-le_of_lt g a)
  ]

-- r is one of the two multiples of the step e about n, at most half a step off, and y is outside of them
outside : (r a e y n d : ℕ) → (r ≡ a) ⊎ (r ≡ a + e) → a ≤ n → n < a + e → Near (2 * r) (2 * n) e → Near y n d → (y ≤ a) ⊎ (a + e ≤ y) → Near r n d
outside r a e y n d (inl p) l m f g (inl b) = omega arith
outside r a e y n d (inl p) l m f g (inr b) = omega arith
outside r a e y n d (inr p) l m f g (inl b) = omega arith
outside r a e y n d (inr p) l m f g (inr b) = omega arith

-- the rounding is the whole steps, or one more
pub one_of_two : (n c : ℕ) → (rnd n c * c ≡ steps n c * (c * 2 ^ drop 24 n c)) ⊎ (rnd n c * c ≡ steps n c * (c * 2 ^ drop 24 n c) + c * 2 ^ drop 24 n c)
unfolding rnd
one_of_two n c =
    let k = drop 24 n c in
    let w = steps n c in
    let o = compare (n % (c * 2 ^ k) * 2) (c * 2 ^ k) in
    elim (eq-or-lt_of_le (nearest-ge w o)) [ inl e ↦ inl (same (nearest w o) w (2 ^ k) (sym e)) | inr l ↦ inr (next (nearest w o) w (2 ^ k) (le_antisymm (nearest-le w o) l)) ]
  where
    same : (r v p : ℕ) → r ≡ v → r * p * c ≡ v * (c * p)
    same r v p e = rw e (omega arith)

    next : (r v p : ℕ) → r ≡ suc v → r * p * c ≡ v * (c * p) + c * p
    next r v p e = rw e (omega arith)

-- the rounding is no further from n / c than any number of 24 digits is
pub rnd_nearest : (n c q j d : ℕ) → 0 < c → q ≤ 2 ^ 24 → Near (q * 2 ^ j * c) n d → Near (rnd n c * c) n d
rnd_nearest n c q j d C h g =
    let u = c * 2 ^ drop 24 n c in
    outside (rnd n c * c) (steps n c * u) u (q * 2 ^ j * c) n d (one_of_two n c) (div-mul-le_self n u) (lt-div-mul-add (mul-pos C (pow_pos (drop 24 n c)))) (rnd_half n c C) g
    (out (steps n c) (2 ^ drop 24 n c) (below n c q j C h) (above n c q j C h))
  where
    more : (a b e : ℕ) → a * (b * e) + b * e ≡ suc a * e * b
    more a b e = omega arith

    out : (w p : ℕ) → (q * 2 ^ j * c ≤ n → q * 2 ^ j ≤ w * p) → (n < q * 2 ^ j * c → suc w * p ≤ q * 2 ^ j) → (q * 2 ^ j * c ≤ w * (c * p)) ⊎ (w * (c * p) + c * p ≤ q * 2 ^ j * c)
    out w p a b = elim (le-or-lt (q * 2 ^ j * c) n) [
      | inl l ↦ inl (le_trans (mul-le-mul_right c (a l)) (le_of_eq (sym (regroup w c p))))
      | inr l ↦ inr (le_trans (le_of_eq (more w c p)) (mul-le-mul_right c (b l)))
    ]

-- ---- the same of a result and both signs: no finite float is nearer
restored : (r x y c d : ℕ) → y ≤ x → Near r (x - y) d → Near (r + y) (0 * c + x) d
restored r x y c d l f = omega arith

-- m units with the sign s, against x - y for y ≤ x
one_sided : (s : Bool) (m q j x y c d : ℕ) → 0 < c → q ≤ 2 ^ 24 → m ≡ q * 2 ^ j → y ≤ x → Near (cond s 0 m * c + y) (cond s m 0 * c + x) d
    → Near (rnd (x - y) c * c + y) (rnd (y - x) c * c + x) d
one_sided false m q j x y c d C h e l g =
    rw (sub-eq-zero_of_le l, rnd_zero c C) (restored (rnd (x - y) c * c) x y c d l (rnd_nearest (x - y) c q j d C h (rw (← e) (apart (m * c) g))))
  where
    apart : (v : ℕ) → Near (v + y) (0 * c + x) d → Near v (x - y) d
    apart v f = omega arith
one_sided true m q j x y c d C h e l g =
    rw (sub-eq-zero_of_le l, rnd_zero c C) (restored (rnd (x - y) c * c) x y c d l (rnd_nearest (x - y) c 0 0 d C zero-le (apart (m * c) g)))
  where
    apart : (v : ℕ) → Near (0 * c + y) (v + x) d → Near (0 * 2 ^ 0 * c) (x - y) d
    apart v f = omega arith

flip : (s : Bool) (m a b c d : ℕ) → Near (cond s 0 m * c + b) (cond s m 0 * c + a) d → Near (cond (not s) 0 m * c + a) (cond (not s) m 0 * c + b) d
flip false m a b c d g = near_sym g
flip true m a b c d g = near_sym g

-- a finite result is no further from the exact number than any finite float w is
pub rounds_nearest : (z w : Float) (a b c d : ℕ) → 0 < c → Rounds z a b c → T (finite z) → Number w → Near (P w * c + b) (N w * c + a) d → Near (P z * c + b) (N z * c + a) d
rounds_nearest z w a b c d C r t n g =
    let f = mag_digits w n in
    rw (rounds_plus z a b c r t, rounds_minus z a b c r t)
    (elim (le-or-lt b a) [
      | inl l ↦ one_sided (negative w) (mag w) f.0 f.1 a b c d C (le_of_lt f.2) f.3 l g
      | inr l ↦ near_sym (one_sided (not (negative w)) (mag w) f.0 f.1 b a c d C (le_of_lt f.2) f.3 (le_of_lt l) (flip (negative w) (mag w) a b c d g))
    ])
