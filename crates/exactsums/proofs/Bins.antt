-- The number that a row of bins is: what one bin more or less does to it. Assumes nothing.
use mathlib.Core.Path.{◌≡◌, refl, sym, ap, ap₂, ◌∙◌}
use mathlib.Core.Logic.{◌⊎◌, inl, inr, ◌≢◌}
use mathlib.Core.List.{List}
use Prim.Native.Nat.{ℕ, zero, suc, ◌+◌, ◌-◌, ◌*◌, ◌/◌, ◌%◌, ◌^◌, ◌≤◌, ◌<◌}
use native.Mathlib.Nat.{le_trans, le_of_eq, lt_of_lt_of_le, zero-add, zero-mul, mul_comm, mul-le-mul_left, mul-le-mul_right, pow-suc, eq-or-lt_of_le}
use native.Mathlib.Numerals.{add-one}
use native.Mathlib.Omega.{arith}
use lib.ListN.{length, get_or, set, length-set}
use lib.Seq.{get_or-set_same, get_or-set_other}
use lib.Pow.{pow-add, pow_pos, pow_mono}
use Rattle.units.proofs.Naturals.{le-or-lt}
use Rattle.exactsums.specs.Work.{Exponent, IsProduct, number, Digits, Small}

-- one place more
pub number_next : (ds : List ℕ) (s n : ℕ) → number ds s (n + 1) ≡ number ds s n + get_or ds (s + n) 0 * 16 ^ n
unfolding number
number_next ds s n = rw (add-one n)

-- from the beginning of the list
pub number_next₀ : (ds : List ℕ) (n : ℕ) → number ds 0 (n + 1) ≡ number ds 0 n + get_or ds n 0 * 16 ^ n
number_next₀ ds n = number_next ds 0 n ∙ ap (λ (i : ℕ). number ds 0 n + get_or ds i 0 * 16 ^ n) (zero-add n)

-- a bin outside of the row does not count
pub number_out : (ds : List ℕ) (k v s n : ℕ) → (k < s) ⊎ (s + n ≤ k) → number (set ds k v) s n ≡ number ds s n
unfolding number
number_out ds k v s zero o = refl
number_out ds k v s (suc n) o = ap₂ (λ (x y : ℕ). x + y * 16 ^ n) (number_out ds k v s n (fewer o)) (get_or-set_other ds k (s + n) v 0 (other o))
  where
    fewer : (k < s) ⊎ (s + suc n ≤ k) → (k < s) ⊎ (s + n ≤ k)
    fewer (inl h) = inl h
    fewer (inr h) = inr (omega arith)

    other : (k < s) ⊎ (s + suc n ≤ k) → s + n ≢ k
    other (inl h) e = omega arith
    other (inr h) e = omega arith

-- t more in the bin k of the row
pub number_more : (ds : List ℕ) (s k t n : ℕ) → s + k < length ds → k < n → number (set ds (s + k) (get_or ds (s + k) 0 + t)) s n ≡ number ds s n + t * 16 ^ k
unfolding number
number_more ds s k t zero l h = absurd (omega arith)
number_more ds s k t (suc n) l h = go (eq-or-lt_of_le h) (λ f. number_more ds s k t n l f)
  where
    v : ℕ
    v = get_or ds (s + k) 0 + t

    go : (suc k ≡ suc n) ⊎ (suc k < suc n) → (k < n → number (set ds (s + k) v) s n ≡ number ds s n + t * 16 ^ k) → number (set ds (s + k) v) s n + get_or (set ds (s + k) v) (s + n) 0 * 16 ^ n ≡ number ds s n + get_or ds (s + n) 0 * 16 ^ n + t * 16 ^ k
    go (inl e) before =
        let f : n ≡ k = omega arith in
        rw f (ap₂ (λ (x y : ℕ). x + y * 16 ^ k) (number_out ds (s + k) v s k (inr (omega arith))) (get_or-set_same ds (s + k) v 0 l) ∙ split (number ds s k) (get_or ds (s + k) 0) (16 ^ k))
      where
        split : (x d w : ℕ) → x + (d + t) * w ≡ x + d * w + t * w
        split x d w = omega arith
    go (inr m) before =
        let f : k < n = omega arith in
        ap₂ (λ (x y : ℕ). x + y * 16 ^ n) (before f) (get_or-set_other ds (s + k) (s + n) v 0 (other f)) ∙ swap (number ds s n) (t * 16 ^ k) (get_or ds (s + n) 0 * 16 ^ n)
      where
        other : k < n → s + n ≢ s + k
        other f e = omega arith

        swap : (x y z : ℕ) → x + y + z ≡ x + z + y
        swap x y z = omega arith

-- a digit d at the place n, written after those before it
pub number_written : (ds : List ℕ) (n d : ℕ) → n < length ds → number (set ds n d) 0 (n + 1) ≡ number ds 0 n + d * 16 ^ n
number_written ds n d l = number_next₀ (set ds n d) n ∙ ap₂ (λ (x y : ℕ). x + y * 16 ^ n) (number_out ds n d 0 n (inr (omega arith))) (get_or-set_same ds n d 0 l)

-- of no digits it is 0
pub number_none : (ds : List ℕ) (s n : ℕ) → n ≤ 0 → number ds s n ≡ 0
unfolding number
number_none ds s zero l = refl
number_none ds s (suc n) l = absurd (omega arith)

-- one digit less, from above
pub number_down : (ds : List ℕ) (h i : ℕ) → 0 < i → number ds 0 (i - 1) + (16 * h + get_or ds (i - 1) 0) * 16 ^ (i - 1) ≡ number ds 0 i + h * 16 ^ i
number_down ds h i l = regroup (number ds 0 (i - 1)) (get_or ds (i - 1) 0) (16 ^ (i - 1)) ∙ sym (ap₂ (λ (x w : ℕ). x + h * w) (number_next₀ ds (i - 1)) (ap (λ (n : ℕ). 16 ^ n) (add-one (i - 1)) ∙ pow-suc 16 (i - 1))) ∙ ap (λ (n : ℕ). number ds 0 n + h * 16 ^ n) back
  where
    regroup : (x d w : ℕ) → x + (16 * h + d) * w ≡ x + d * w + h * (w * 16)
    regroup x d w = omega arith

    back : i - 1 + 1 ≡ i
    back = omega arith

-- digits are less than a place more
pub number_less : (ds : List ℕ) (s n : ℕ) → Digits ds → number ds s n < 16 ^ n
unfolding number
number_less ds s zero h = omega arith
number_less ds s (suc n) h = rw (pow-suc 16 n) (digit (16 ^ n) (number_less ds s n h) (h.each (s + n)))
  where
    digit : {x d : ℕ} (w : ℕ) → x < w → d < 16 → x + d * w < w * 16
    digit {x} {d} w l m = let k : d * w ≤ 15 * w = mul-le-mul_right w (omega arith) in omega arith

-- and bins of at most b less than b places more
pub number_most : (ds : List ℕ) (s n b : ℕ) → ((k : ℕ) → get_or ds k 0 ≤ b) → number ds s n ≤ b * 16 ^ n
unfolding number
number_most ds s zero b h = omega arith
number_most ds s (suc n) b h = rw (pow-suc 16 n) (sum (16 ^ n) (number_most ds s n b h) (mul-le-mul_right (16 ^ n) (h (s + n))))
  where
    sum : {x y : ℕ} (w : ℕ) → x ≤ b * w → y ≤ b * w → x + y ≤ b * (w * 16)
    sum w k l = omega arith

-- ---- whether a number is 0: with one digit more
pub sticky_next : (x d w t : ℕ) → 0 < w → ((x ≡ 0) × (t ≡ 0)) ⊎ ((0 < x) × (0 < t)) → ((x + d * w ≡ 0) × (t + d ≡ 0)) ⊎ ((0 < x + d * w) × (0 < t + d))
sticky_next x d w t pos (inr (a, b)) = inr (omega arith, omega arith)
sticky_next x zero w t pos (inl (a, b)) = inl (omega (arith, zero-mul w), omega arith)
sticky_next x (suc d) w t pos (inl (a, b)) = inr (more, omega arith)
  where
    more : 0 < x + suc d * w
    more = let m : 1 * w ≤ suc d * w = mul-le-mul_right w (omega arith) in omega arith

-- ---- one bin written
-- a bound on all of them stays
set_each : (l : List ℕ) (i v b : ℕ) → i < length l → ((k : ℕ) → get_or l k 0 ≤ b) → v ≤ b → (k : ℕ) → get_or (set l i v) k 0 ≤ b
set_each l i v b h each m k = elim (le-or-lt k i) [
  | inl a ↦ elim (le-or-lt i k) [
    | inl c ↦ let e : k ≡ i = omega arith in rw (e, get_or-set_same l i v 0 h) m
    | inr c ↦ rw (get_or-set_other l i k v 0 (λ e. omega arith)) (each k)
  ]
  | inr a ↦ rw (get_or-set_other l i k v 0 (λ e. omega arith)) (each k)
]

-- a digit among digits
pub digits_set : (ds : List ℕ) (j d : ℕ) → Digits ds → j < 41 → d < 16 → Digits (set ds j d)
digits_set ds j d h l m = record { long = length-set ds j d ∙ h.long; each = λ k. below (set_each ds j d 15 (lt_of_lt_of_le l (le_of_eq (sym h.long))) (λ i. upto (h.each i)) (upto m) k) }
  where
    upto : {x : ℕ} → x < 16 → x ≤ 15
    upto f = omega arith

    below : {x : ℕ} → x ≤ 15 → x < 16
    below f = omega arith

-- one product more
pub small_more : (t : ℕ) (bins : List ℕ) → Small t bins → Small (suc t) bins
small_more t bins h = record { long = h.long; each = λ k. le_trans (h.each k) (mul-le-mul_right (2 ^ 51) (omega arith)) }

pub small_set : (t : ℕ) (bins : List ℕ) (i d : ℕ) → Small t bins → i < 82 → d ≤ 2 ^ 51 → Small (suc t) (set bins i (get_or bins i 0 + d))
small_set t bins i d h l m = record { long = length-set bins i (get_or bins i 0 + d) ∙ h.long; each = set_each bins i (get_or bins i 0 + d) (suc t * 2 ^ 51) (lt_of_lt_of_le l (le_of_eq (sym h.long))) (small_more t bins h).each (sum (h.each i)) }
  where
    sum : {x : ℕ} → x ≤ t * 2 ^ 51 → x + d ≤ suc t * 2 ^ 51
    sum f = omega arith

-- ---- powers of 16 are powers of two
pub sixteen : (n : ℕ) → 16 ^ n ≡ 2 ^ (4 * n)
sixteen zero = refl
sixteen (suc n) = pow-suc 16 n ∙ ap (λ (w : ℕ). w * 16) (sixteen n) ∙ sym (pow-add 2 (4 * n) 4) ∙ ap (λ (i : ℕ). 2 ^ i) next
  where
    next : 4 * n + 4 ≡ 4 * suc n
    next = omega arith

pub sixteen_pos : (n : ℕ) → 0 < 16 ^ n
sixteen_pos n = rw (sixteen n) (pow_pos (4 * n))

-- ---- the product of two significands
-- up to three places more leave 27 digits
pub short_shift : (m p : ℕ) → m < 16777216 → m * 2 ^ (p % 4) ≤ 8 * m
short_shift m p l = rw (mul_comm 8 m) (mul-le-mul_left m (pow_mono {i = p % 4} {j = 3} (omega arith)))

module _ (x y : ℕ) (e : Exponent x) (f : Exponent y) where
  abbrev m : ℕ
  m = x % 8388608 + 8388608

  abbrev n : ℕ
  n = y % 8388608 + 8388608

  abbrev p : ℕ
  p = x / 8388608 % 256 + y / 8388608 % 256 - 174

  shifted : m * 2 ^ (p % 4) % 4294967296 ≡ m * 2 ^ (p % 4)
  shifted = let h = short_shift m p (omega arith) in omega arith

  pub product_small : m * 2 ^ (p % 4) % 4294967296 * n ≤ 2 ^ 51
  product_small = rw shifted (le_trans (mul-le-mul_right n (short_shift m p (omega arith))) (le_trans (mul-le-mul_left (8 * m) (small y)) (large x)))
    where
      small : (y : ℕ) → y % 8388608 + 8388608 ≤ 16777216
      small y = omega arith

      large : (x : ℕ) → 8 * (x % 8388608 + 8388608) * 16777216 ≤ 2 ^ 51
      large x = omega arith

  pub as_product : IsProduct x y (m * 2 ^ (p % 4) % 4294967296 * n) (p / 4)
  as_product = record {
    same = rw shifted (regroup (2 ^ (p % 4)) (16 ^ (p / 4)) ∙ ap (λ (w : ℕ). m * n * w) (ap (λ (w : ℕ). 2 ^ (p % 4) * w) (sixteen (p / 4)) ∙ sym (pow-add 2 (p % 4) (4 * (p / 4))) ∙ ap (λ (i : ℕ). 2 ^ i) parts));
    small = product_small;
    room = omega (arith, e.most, f.most);
  }
    where
      regroup : (u w : ℕ) → m * u * n * w ≡ m * n * (u * w)
      regroup u w = omega arith

      parts : p % 4 + 4 * (p / 4) ≡ p
      parts = omega arith

-- ---- one step of the subtraction at a place: bins f and g, what was carried and borrowed, and the digit
-- x = 16 a + r less y = 16 b + s, where s ≤ r, and where one is borrowed
unborrowed : (x y a b r s : ℕ) → x ≡ 16 * a + r → y ≡ 16 * b + s → r < 16 → s ≤ r → x + 16 * ((y + 15 - r) / 16) ≡ y + ((r + 16 - s) % 16 + 16 * a)
unborrowed x y a b r s e f l m = let d : (r + 16 - s) % 16 ≡ r - s = omega arith in let u : (y + 15 - r) / 16 ≡ b = omega arith in omega arith

borrowed : (x y a b r s : ℕ) → x ≡ 16 * a + r → y ≡ 16 * b + s → s < 16 → r < s → x + 16 * ((y + 15 - r) / 16) ≡ y + ((r + 16 - s) % 16 + 16 * a)
borrowed x y a b r s e f l m = let d : (r + 16 - s) % 16 ≡ r + 16 - s = omega arith in let u : (y + 15 - r) / 16 ≡ b + 1 = omega arith in omega arith

borrow_step : (x y : ℕ) → x + 16 * ((y + 15 - x % 16) / 16) ≡ y + ((x % 16 + 16 - y % 16) % 16 + 16 * (x / 16))
borrow_step x y = elim (le-or-lt (y % 16) (x % 16)) [
  | inl l ↦ unborrowed x y (x / 16) (y / 16) (x % 16) (y % 16) (parts x) (parts y) (less x) l
  | inr l ↦ borrowed x y (x / 16) (y / 16) (x % 16) (y % 16) (parts x) (parts y) (less y) l
]
  where
    parts : (n : ℕ) → n ≡ 16 * (n / 16) + n % 16
    parts n = omega arith

    less : (n : ℕ) → n % 16 < 16
    less n = omega arith

pub subtract_step : (X Y Z E f g over under : ℕ) → X + under * E ≡ Y + (Z + over * E)
    → X + f * E + (g + under + 15 - (f + over) % 16) / 16 * (E * 16) ≡ Y + g * E + (Z + ((f + over) % 16 + 16 - (g + under) % 16) % 16 * E + (f + over) / 16 * (E * 16))
subtract_step X Y Z E f g over under e = combined X Y Z E f g over under ((g + under + 15 - (f + over) % 16) / 16) (((f + over) % 16 + 16 - (g + under) % 16) % 16) ((f + over) / 16) (borrow_step (f + over) (g + under)) e
  where
    combined : (X Y Z E f g over under u d o : ℕ) → f + over + 16 * u ≡ g + under + (d + 16 * o) → X + under * E ≡ Y + (Z + over * E) → X + f * E + u * (E * 16) ≡ Y + g * E + (Z + d * E + o * (E * 16))
    combined X Y Z E f g over under u d o h e = let m : (f + over + 16 * u) * E ≡ (g + under + (d + 16 * o)) * E = ap (λ (n : ℕ). n * E) h in omega arith
