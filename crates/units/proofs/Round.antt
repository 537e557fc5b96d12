-- Rounding as one function of natural numbers: n / c units, to the nearest number of 24 binary digits, a tie to the even one. It has no largest number, so overflow is no case of it.
-- The laws: it keeps the order, leaves alone what has 24 digits, and how far from n / c it ends.
use mathlib.Core.Path.{◌≡◌, refl, sym, ap, ◌∙◌}
use mathlib.Core.Logic.{◌⊎◌, inl, inr}
use Prim.Native.Nat.compare
use Prim.Native.Nat.{ℕ, zero, suc, ◌+◌, ◌-◌, ◌*◌, ◌/◌, ◌%◌, ◌^◌, ◌≤◌, ◌<◌, zero-le, compare, Ordering}
use native.Mathlib.Nat.{le_trans, le_of_eq, le_antisymm, lt_irrefl, lt_of_lt_of_le, lt_of_le_of_lt, eq-or-lt_of_le, eq-zero-or-pos, zero-mul, mul-one, pow-suc, mul_assoc, mul_comm, mul-pos, mul-le-mul_right, mod-lt, div-add-mod', mul-div_cancel, mul-mod_left, le-div_iff_mul-le, div-lt_iff_lt-mul, div-div-eq-div-mul}
use native.Mathlib.Omega.{arith}
use mathlib.Core.Bool.{not}
use lib.Dec.{T, lit<, is_le, compare_is_eq, leb→le, nleb→lt, eqb→eq}
use lib.Pow.{pow-add, pow_pos, pow_mono, shl_lt}
use lib.Ieee.{size, nearest}
use lib.Ieee.Digits.{size-lt, size-le, size_reaches, back}
use lib.Ieee.Fits.{kept-lt, nearest-le}
use lib.Ieee.Nearest.{closest, closest_mono, nearest-ge, div_mono}
use lib.Ieee.Order.{drop, kept}
use Rattle.units.proofs.Near.{Near}

-- n / c units rounded to 24 binary digits, for a c above 0: as many digits as are too many are dropped, and the rest goes to the nearest whole number
unfoldable pub rnd : ℕ → ℕ → ℕ
rnd n c = kept 24 n c * 2 ^ drop 24 n c

-- ---- the nearest whole number
closest_exact : (q u : ℕ) → 0 < u → closest (q * u) u ≡ q
closest_exact q u h = rw (mul-div_cancel q h, mul-mod_left) (ap (λ (o : Ordering). nearest q o) (above_zero u h))
  where
    above_zero : (v : ℕ) → 0 < v → compare 0 v ≡ Ordering.lt
    above_zero zero g = absurd (lt_irrefl 0 g)
    above_zero (suc v) g = compare.zero-suc v

tie : (q t r b : ℕ) → t < 2 → r * 2 ≡ b → Near (2 * ((q + t) * b)) (2 * (q * b + r)) b
tie q zero r b h e = omega arith
tie q (suc zero) r b h e = omega arith
tie q (suc (suc t)) r b h e = absurd (omega arith)

-- with the remainder r: the choice that `nearest` makes is at most half of b off
half : (q r b : ℕ) (o : Ordering) → (T (is_le o) → r * 2 ≤ b) → (T (not (is_le o)) → b < r * 2) → (T (compare_is_eq o) → r * 2 ≡ b) → r < b → Near (2 * (nearest q o * b)) (2 * (q * b + r)) b
half q r b Ordering.lt l g e h = let x = l tt in omega arith
half q r b Ordering.eq l g e h = tie q (q % 2) r b (omega arith) (e tt)
half q r b Ordering.gt l g e h = let x = g tt in omega arith

pub closest_half : (a b : ℕ) → 0 < b → Near (2 * (closest a b * b)) (2 * a) b
closest_half a b h =
    rw div-add-mod' at (half (a / b) (a % b) b (compare (a % b * 2) b) (leb→le (a % b * 2) b) (nleb→lt (a % b * 2) b) (eqb→eq (a % b * 2) b) (mod-lt a h))

-- ---- what is dropped and what is kept
size_mono : (a b : ℕ) → a ≤ b → size a ≤ size b
size_mono a b h = size-le a (size b) (lt_of_le_of_lt h (size-lt b))

pub kept_le : (n c : ℕ) → kept 24 n c ≤ 2 ^ 24
kept_le n c =
    let k = drop 24 n c in
    let u = c * 2 ^ k in
    let l : n / u < 2 ^ 24 = rw div-div-eq-div-mul at (kept-lt 24 (n / c)) in
    le_trans (nearest-le (n / u) (compare (n % u * 2) u)) l

all_in_use : (z : ℕ) → 0 < z - 24 → 23 + (z - 24) < z
all_in_use z h = omega arith

-- where digits are dropped, the whole part has all the digits that can be kept
pub reaches : (n c : ℕ) → 0 < drop 24 n c → 2 ^ 23 * 2 ^ drop 24 n c ≤ n / c
reaches n c h = rw pow-add at (size_reaches (n / c) (23 + drop 24 n c) (all_in_use (size (n / c)) h))

kept_ge : (n c : ℕ) → 0 < drop 24 n c → 2 ^ 23 ≤ kept 24 n c
kept_ge n c h =
    let k = drop 24 n c in
    let u = c * 2 ^ k in
    let l : 2 ^ 23 ≤ n / u = rw div-div-eq-div-mul at ((le-div_iff_mul-le (pow_pos k)).1 (reaches n c h)) in
    le_trans l (nearest-ge (n / u) (compare (n % u * 2) u))

-- ---- order
same_drop : (n c m d k : ℕ) → 0 < c → 0 < d → n * d ≤ m * c → closest n (c * 2 ^ k) * 2 ^ k ≤ closest m (d * 2 ^ k) * 2 ^ k
same_drop n c m d k C D h =
    mul-le-mul_right (2 ^ k)
    (closest_mono n (c * 2 ^ k) m (d * 2 ^ k) (mul-pos C (pow_pos k)) (mul-pos D (pow_pos k)) (rw (mul_assoc n d (2 ^ k), mul_assoc m c (2 ^ k)) at (mul-le-mul_right (2 ^ k) h)))

fewer : (x y : ℕ) → x ≤ y → x - 24 ≤ y - 24
fewer x y h = omega arith

-- 2 ^ 24 of the smaller step are at most 2 ^ 23 of the larger
pub step : (j k : ℕ) → j < k → 2 ^ 24 * 2 ^ j ≤ 2 ^ 23 * 2 ^ k
step j k h = rw (pow-add 2 24 j, pow-add 2 23 k) at (pow_mono (further j k h))
  where
    further : (x y : ℕ) → x < y → 24 + x ≤ 23 + y
    further x y l = omega arith

-- a larger fraction rounds to a number that is no smaller
pub rnd_mono : (n c m d : ℕ) → 0 < c → 0 < d → n * d ≤ m * c → rnd n c ≤ rnd m d
unfolding rnd
rnd_mono n c m d C D h =
    let j = drop 24 n c in
    let k = drop 24 m d in
    elim (eq-or-lt_of_le (fewer (size (n / c)) (size (m / d)) (size_mono (n / c) (m / d) (div_mono n c m d C D h)))) [
      | inl e ↦ rw e (same_drop n c m d k C D h)
      | inr l ↦
          le_trans (mul-le-mul_right (2 ^ j) (kept_le n c))
          (le_trans (step j k l) (mul-le-mul_right (2 ^ k) (kept_ge m d (lt_of_le_of_lt zero-le l))))
    ]

-- equal fractions round alike
pub rnd_same : (n c m d : ℕ) → 0 < c → 0 < d → n * d ≡ m * c → rnd n c ≡ rnd m d
rnd_same n c m d C D e = le_antisymm (rnd_mono n c m d C D (le_of_eq e)) (rnd_mono m d n c D C (le_of_eq (sym e)))

-- ---- where it is exact
fits_digits : (n c q j : ℕ) → 0 < c → q < 2 ^ 24 → n ≡ q * 2 ^ j * c → rnd n c ≡ q * 2 ^ j
unfolding rnd
fits_digits n c q j C h e =
    let k = drop 24 n c in
    let w : n / c ≡ q * 2 ^ j = rw e (mul-div_cancel (q * 2 ^ j) C) in
    let l : k ≤ j = spare (size (n / c)) j (size-le (n / c) (24 + j) (rw w (shl_lt 24 j h))) in
    let r = q * 2 ^ (j - k) in
    let p : r * 2 ^ k ≡ q * 2 ^ j = mul_assoc q (2 ^ (j - k)) (2 ^ k) ∙ ap (λ (x : ℕ). q * x) (sym (pow-add 2 (j - k) k) ∙ ap (λ (x : ℕ). 2 ^ x) (back j k l)) in
    let m : n ≡ r * (c * 2 ^ k) = e ∙ ap (λ (x : ℕ). x * c) (sym p) ∙ mul_assoc r (2 ^ k) c ∙ ap (λ (x : ℕ). r * x) (mul_comm (2 ^ k) c) in
    ap (λ (x : ℕ). closest x (c * 2 ^ k) * 2 ^ k) m ∙ ap (λ (x : ℕ). x * 2 ^ k) (closest_exact r (c * 2 ^ k) (mul-pos C (pow_pos k))) ∙ p
  where
    spare : (z x : ℕ) → z ≤ 24 + x → z - 24 ≤ x
    spare z x g = omega arith

-- a number of 24 digits, wherever they stand, stays as it is
pub rnd_exact : (n c q j : ℕ) → 0 < c → q ≤ 2 ^ 24 → n ≡ q * 2 ^ j * c → rnd n c ≡ q * 2 ^ j
rnd_exact n c q j C h e = elim (eq-or-lt_of_le h) [ inl p ↦ fits_digits n c (2 ^ 23) (suc j) C (lit< tt) (e ∙ ap (λ (x : ℕ). x * c) (up p)) ∙ sym (up p) | inr l ↦ fits_digits n c q j C l e ]
  where
    up : q ≡ 2 ^ 24 → q * 2 ^ j ≡ 2 ^ 23 * 2 ^ suc j
    up p = rw (p, pow-suc 2 j) (omega arith)

-- a fraction that is at most a number of 24 digits rounds to no more
pub rnd_upto : (n c q j : ℕ) → 0 < c → q ≤ 2 ^ 24 → n ≤ q * 2 ^ j * c → rnd n c ≤ q * 2 ^ j
rnd_upto n c q j C h l = rw (rnd_exact (q * 2 ^ j * c) c q j C h refl) at (rnd_mono n c (q * 2 ^ j * c) c C C (mul-le-mul_right c l))

-- a whole number of units with 24 digits stays as it is
pub rnd_stays : (n q j : ℕ) → q ≤ 2 ^ 24 → n ≡ q * 2 ^ j → rnd n 1 ≡ n
rnd_stays n q j h e = rnd_exact n 1 q j (lit< tt) h (e ∙ sym (mul-one (q * 2 ^ j))) ∙ sym e

-- so any up to 2 ^ 24 does
pub rnd_small : (n : ℕ) → n ≤ 2 ^ 24 → rnd n 1 ≡ n
rnd_small n h = rnd_stays n n 0 h (sym (mul-one n))

-- nothing rounds to nothing
pub rnd_zero : (c : ℕ) → 0 < c → rnd 0 c ≡ 0
rnd_zero c C = rnd_exact 0 c 0 0 C zero-le (sym (zero-mul c))

-- ---- how far off
-- twice the distance from n / c is at most one step, which is 2 ^ drop units
pub rnd_half : (n c : ℕ) → 0 < c → Near (2 * (rnd n c * c)) (2 * n) (c * 2 ^ drop 24 n c)
unfolding rnd
rnd_half n c C = regroup (kept 24 n c) (2 ^ drop 24 n c) (closest_half n (c * 2 ^ drop 24 n c) (mul-pos C (pow_pos (drop 24 n c))))
  where
    regroup : (q p : ℕ) → Near (2 * (q * (c * p))) (2 * n) (c * p) → Near (2 * (q * p * c)) (2 * n) (c * p)
    regroup q p h = omega arith

few : (n c : ℕ) → 0 < c → n < 2 ^ 24 * c → drop 24 n c ≡ 0
few n c C h = none (size (n / c)) (size-le (n / c) 24 ((div-lt_iff_lt-mul C).1 h))
  where
    none : (z : ℕ) → z ≤ 24 → z - 24 ≡ 0
    none z g = omega arith

-- below 2 ^ 24 units it is the nearest whole number of units: half a unit off at most
pub rnd_low : (n c : ℕ) → 0 < c → n < 2 ^ 24 * c → Near (2 * (rnd n c * c)) (2 * n) c
rnd_low n c C h = rw mul-one at (rw (few n c C h) at (rnd_half n c C))

-- where digits are dropped the step is at most n / c in 2 ^ 23
high : (n c : ℕ) → 0 < c → 0 < drop 24 n c → Near (rnd n c * c * 2 ^ 24) (n * 2 ^ 24) n
high n c C h = bound (rnd n c * c) (2 ^ drop 24 n c) (rnd_half n c C) ((le-div_iff_mul-le C).0 (reaches n c h))
  where
    bound : (r p : ℕ) → Near (2 * r) (2 * n) (c * p) → 2 ^ 23 * p * c ≤ n → Near (r * 2 ^ 24) (n * 2 ^ 24) n
    bound r p a b = omega arith

-- whether digits are dropped, said of n / c
low_or_high : (n c : ℕ) → 0 < c → (n < 2 ^ 24 * c) ⊎ (0 < drop 24 n c)
low_or_high n c C = elim (eq-zero-or-pos (drop 24 n c)) [ inl e ↦ inl ((div-lt_iff_lt-mul C).0 (lt_of_lt_of_le (size-lt (n / c)) (pow_mono (most (size (n / c)) e)))) | inr h ↦ inr h ]
  where
    most : (z : ℕ) → z - 24 ≡ 0 → z ≤ 24
    most z e = omega arith

-- anywhere: that, and half a unit
pub rnd_near : (n c : ℕ) → 0 < c → Near (rnd n c * c * 2 ^ 24) (n * 2 ^ 24) (n + 2 ^ 23 * c)
rnd_near n c C = elim (low_or_high n c C) [ inl l ↦ near (rnd n c * c) (rnd_low n c C l) | inr g ↦ more (rnd n c * c) (high n c C g) ]
  where
    near : (r : ℕ) → Near (2 * r) (2 * n) c → Near (r * 2 ^ 24) (n * 2 ^ 24) (n + 2 ^ 23 * c)
    near r a = omega arith

    more : (r : ℕ) → Near (r * 2 ^ 24) (n * 2 ^ 24) n → Near (r * 2 ^ 24) (n * 2 ^ 24) (n + 2 ^ 23 * c)
    more r a = omega arith

-- of a whole number of units: no half unit, since what has no more than 24 digits stays as it is
pub rnd_whole : (n : ℕ) → Near (rnd n 1 * 2 ^ 24) (n * 2 ^ 24) n
rnd_whole n = elim (low_or_high n 1 (lit< tt)) [ inl l ↦ same (rnd n 1) (rnd_small n (least l)) | inr g ↦ rw mul-one at (high n 1 (lit< tt) g) ]
  where
    least : n < 2 ^ 24 * 1 → n ≤ 2 ^ 24
    least l = omega arith

    same : (r : ℕ) → r ≡ n → Near (r * 2 ^ 24) (n * 2 ^ 24) n
    same r e = omega arith
