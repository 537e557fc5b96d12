-- Ties: the nearest whole number to a fraction by its laws, and what is rounded off where another number is as near. Assumes nothing.
use mathlib.Core.Path.{◌≡◌, refl, sym, ap, ◌∙◌, subst}
use mathlib.Core.Logic.{◌⊎◌, inl, inr}
use mathlib.Core.Bool.{not}
use Prim.Native.Nat.{ℕ, suc, ◌+◌, ◌-◌, ◌*◌, ◌/◌, ◌%◌, ◌^◌, ◌≤◌, ◌<◌, zero-le, compare, Ordering}
use native.Mathlib.Nat.{le_trans, le_of_eq, le_of_lt, le_antisymm, add_comm, eq-or-lt_of_le, lt_of_le_of_lt, mod-lt, div-add-mod', mul-pos, mul_assoc, mul-le-mul_right, mul-le-mul_left, le_of_mul-le-mul_right, zero-mul, div-mul-le_self, lt-div-mul-add}
use native.Mathlib.Omega.{arith}
use lib.Dec.{T, is_le, compare_is_eq, eqb, leb→le, nleb→lt, eqb_refl}
use lib.Pow.{pow_pos, pow_mono}
use lib.Ieee.{Float, binary32, to_bits, nearest}
use lib.Ieee.Fits.{nearest-le}
use lib.Ieee.Nearest.{closest, nearest-ge}
use lib.Ieee.Order.{drop, kept}
use lib.Ieee.Scale.{finite}
use Rattle.units.specs.Units.{mag, P, N, Number}
use Rattle.units.proofs.Naturals.{le-or-lt, pow_split}
use Rattle.units.proofs.Near.{Near}
use Rattle.units.proofs.Size.{mag_digits}
use Rattle.units.proofs.Signs.{sides, size-sum}
use Rattle.units.proofs.Patterns.{Shape, packed_of}
use Rattle.units.proofs.Round.{rnd, kept_le, rnd_half, closest_half}
use Rattle.units.proofs.Result.{Rounds, rounds_plus, rounds_minus, rounds_nonpositive, rounds_nonnegative}
use Rattle.units.proofs.Nearest.{steps, below, above, one_of_two, rnd_nearest}

-- q is the whole number nearest to a / b, and the even one of two
pub record Closest (a b q : ℕ) : Type 0 where
  pub half : Near (2 * (q * b)) (2 * a) b
  pub tie_up : 2 * (q * b) ≡ 2 * a + b → q % 2 ≡ 0
  pub tie_down : 2 * a ≡ 2 * (q * b) + b → q % 2 ≡ 0

-- at a tie the choice of `nearest` is even, and elsewhere there is none
even_choice : (w r b : ℕ) (o : Ordering) → (T (is_le o) → r * 2 ≤ b) → (T (not (is_le o)) → b < r * 2) → (r * 2 ≡ b → T (compare_is_eq o)) → r * 2 ≡ b → nearest w o % 2 ≡ 0
even_choice w r b Ordering.lt l g n e = absurd (n e)
even_choice w r b Ordering.eq l g n e = double w
  where
    double : (k : ℕ) → (k + k % 2) % 2 ≡ 0
    double k = omega arith
even_choice w r b Ordering.gt l g n e = absurd (let x = g tt in omega arith)

-- `closest` is such a number
module _ (a b : ℕ) (h : 0 < b) where
  one_of : (closest a b * b ≡ a / b * b) ⊎ (closest a b * b ≡ a / b * b + b)
  one_of = elim (eq-or-lt_of_le (nearest-ge (a / b) (compare (a % b * 2) b))) [
    | inl e ↦ inl (ap (λ (q : ℕ). q * b) (sym e))
    | inr l ↦ inr (next (closest a b) (a / b) (le_antisymm (nearest-le (a / b) (compare (a % b * 2) b)) l))
  ]
    where
      next : (q w : ℕ) → q ≡ suc w → q * b ≡ w * b + b
      next q w e = rw e (omega arith)

  even : a % b * 2 ≡ b → closest a b % 2 ≡ 0
  even = even_choice (a / b) (a % b) b (compare (a % b * 2) b) (leb→le (a % b * 2) b) (nleb→lt (a % b * 2) b) (λ (e : a % b * 2 ≡ b). subst (λ (x : ℕ). T (eqb (a % b * 2) x)) e (eqb_refl (a % b * 2)))

  -- twice the number is a half away, on either side: then the remainder is a half
  remainder : (k w r : ℕ) → (k ≡ w) ⊎ (k ≡ w + b) → w + r ≡ a → r < b → (2 * k ≡ 2 * a + b) ⊎ (2 * a ≡ 2 * k + b) → r * 2 ≡ b
  remainder k w r (inl c) e l (inl t) = absurd (omega arith)
  remainder k w r (inl c) e l (inr t) = omega arith
  remainder k w r (inr c) e l (inl t) = omega arith
  remainder k w r (inr c) e l (inr t) = absurd (omega arith)

  tie : (2 * (closest a b * b) ≡ 2 * a + b) ⊎ (2 * a ≡ 2 * (closest a b * b) + b) → closest a b % 2 ≡ 0
  tie t = even (remainder (closest a b * b) (a / b * b) (a % b) one_of (div-add-mod' a b) (mod-lt a h) t)

  pub closest_is : Closest a b (closest a b)
  closest_is = record { half = closest_half a b h; tie_up = λ e. tie (inl e); tie_down = λ e. tie (inr e) }

-- and there is no other
pub closest_only : (a b q : ℕ) → 0 < b → Closest a b q → q ≡ closest a b
closest_only a b q h c = le_antisymm (upto q (closest a b) c (closest_is a b h)) (upto (closest a b) q (closest_is a b h) c)
  where
    upto : (q p : ℕ) → Closest a b q → Closest a b p → q ≤ p
    upto q p c d = elim (le-or-lt q p) [ inl l ↦ l | inr l ↦ absurd (between (le_of_mul-le-mul_right (omega arith) h) l) ]
      where
        -- q is p + 1 at most, and then both are ties
        between : q ≤ suc p → p < q → ⊥
        between f l =
            let e : q ≡ suc p = omega arith in
            let m : q * b ≡ p * b + b = rw e (omega arith) in
            let i : q % 2 ≡ 0 = c.tie_up (omega (arith, c.half, d.half)) in
            let j : p % 2 ≡ 0 = d.tie_down (omega (arith, c.half, d.half)) in
            omega arith

-- ---- a digit s that says whether anything is left: h K + r over 2 u K rounds as 2 h + s over 4 u
module _ (h K r u q : ℕ) (small : r < K) where
  -- q u named by one variable, all are multiples of it
  flat : (s Q : ℕ) → q * u ≡ Q → (2 * (q * (4 * u)) ≡ 8 * Q) × (2 * (q * (2 * u * K)) ≡ 4 * (Q * K)) × (2 * u * K ≡ 2 * (u * K))
  flat s Q e = (rw (← e) (omega arith), rw (← e) (omega arith), omega arith)

  exactly : r ≡ 0 → Closest (2 * h + 0) (4 * u) q → Closest (h * K + r) (2 * u * K) q
  exactly z c = go (q * u) (flat 0 (q * u) refl) c
    where
      back : (a b : ℕ) → a * K ≡ b * K → a ≡ b
      back a b e = le_antisymm (le_of_mul-le-mul_right (le_of_eq e) (lt_of_le_of_lt zero-le small)) (le_of_mul-le-mul_right (le_of_eq (sym e)) (lt_of_le_of_lt zero-le small))

      go : (Q : ℕ) → (2 * (q * (4 * u)) ≡ 8 * Q) × (2 * (q * (2 * u * K)) ≡ 4 * (Q * K)) × (2 * u * K ≡ 2 * (u * K)) → Closest (2 * h + 0) (4 * u) q → Closest (h * K + r) (2 * u * K) q
      go Q (f, g, v) c =
          let l : 2 * Q ≤ h + u = omega arith in
          let m : h ≤ 2 * Q + u = omega arith in
          let l' : 2 * Q * K ≤ (h + u) * K = mul-le-mul_right K l in
          let m' : h * K ≤ (2 * Q + u) * K = mul-le-mul_right K m in
          record {
            half = rw (g, v) (omega arith);
            tie_up = λ e. let t : 2 * Q ≡ h + u = back (2 * Q) (h + u) (omega arith) in c.tie_up (omega arith);
            tie_down = λ e. let t : h ≡ 2 * Q + u = back h (2 * Q + u) (omega arith) in c.tie_down (omega arith);
          }

  between : 0 < r → Closest (2 * h + 1) (4 * u) q → Closest (h * K + r) (2 * u * K) q
  between z c = go (q * u) (flat 1 (q * u) refl) c.half
    where
      go : (Q : ℕ) → (2 * (q * (4 * u)) ≡ 8 * Q) × (2 * (q * (2 * u * K)) ≡ 4 * (Q * K)) × (2 * u * K ≡ 2 * (u * K)) → Near (2 * (q * (4 * u))) (2 * (2 * h + 1)) (4 * u) → Closest (h * K + r) (2 * u * K) q
      go Q (f, g, v) c =
          let l : 2 * Q ≤ h + u = omega arith in
          let m : h + 1 ≤ 2 * Q + u = omega arith in
          let l' : 2 * Q * K ≤ (h + u) * K = mul-le-mul_right K l in
          let m' : (h + 1) * K ≤ (2 * Q + u) * K = mul-le-mul_right K m in
          record { half = rw (g, v) (omega arith); tie_up = λ e. absurd (omega arith); tie_down = λ e. absurd (omega arith) }

-- s says whether r is 0
pub sticky : (h K r s u : ℕ) → 0 < u → r < K → ((r ≡ 0) × (s ≡ 0)) ⊎ ((0 < r) × (s ≡ 1)) → closest (h * K + r) (2 * u * K) ≡ closest (2 * h + s) (4 * u)
sticky h K r s u pos small w =
    sym (closest_only (h * K + r) (2 * u * K) (closest (2 * h + s) (4 * u)) (mul-pos {m = 2 * u} (omega arith) (lt_of_le_of_lt zero-le small)) (scaled w (closest_is (2 * h + s) (4 * u) (omega arith))))
  where
    scaled : {q : ℕ} → ((r ≡ 0) × (s ≡ 0)) ⊎ ((0 < r) × (s ≡ 1)) → Closest (2 * h + s) (4 * u) q → Closest (h * K + r) (2 * u * K) q
    scaled {q} (inl (e, z)) c = exactly h K r u q small e (subst (λ (i : ℕ). Closest (2 * h + i) (4 * u) q) z c)
    scaled {q} (inr (e, z)) c = between h K r u q small e (subst (λ (i : ℕ). Closest (2 * h + i) (4 * u) q) z c)

-- ---- where another number of 24 digits is as near as the rounding, the digits that are kept are even
module _ (n c q j : ℕ) (C : 0 < c) (few : q ≤ 2 ^ 24) where
  -- the other number y, the rounding r and the digits k: n is in the middle, between w steps of u and one more
  middle : (y r w u : ℕ) → (r ≡ w) ⊎ (r ≡ w + u) → w ≤ n → n < w + u → Near (2 * r) (2 * n) u → (y ≤ n → y ≤ w) → (n < y → w + u ≤ y) → y + r ≡ 2 * n → ¬ (y ≡ r) → (2 * r ≡ 2 * n + u) ⊎ (2 * n ≡ 2 * r + u)
  middle y r w u (inl e) l m f low high t d = elim (le-or-lt y n) [ inl k ↦ let x = low k in absurd (d (omega arith)) | inr k ↦ let x = high k in inr (omega arith) ]
  middle y r w u (inr e) l m f low high t d = elim (le-or-lt y n) [ inl k ↦ let x = low k in inl (omega arith) | inr k ↦ let x = high k in absurd (omega arith) ]

  -- the step
  abbrev u : ℕ
  u = c * 2 ^ drop 24 n c

  cancel : {x y : ℕ} → x * c ≡ y * c → x ≡ y
  cancel e = le_antisymm (le_of_mul-le-mul_right (le_of_eq e) C) (le_of_mul-le-mul_right (le_of_eq (sym e)) C)

  pub kept_even : q * 2 ^ j * c + rnd n c * c ≡ 2 * n → ¬ (q * 2 ^ j ≡ rnd n c) → kept 24 n c % 2 ≡ 0
  unfolding rnd
  kept_even t d =
      go (closest_is n u (mul-pos C (pow_pos (drop 24 n c)))) (middle (q * 2 ^ j * c) (rnd n c * c) (steps n c * u) u (one_of_two n c) (div-mul-le_self n u) (lt-div-mul-add (mul-pos C (pow_pos (drop 24 n c)))) (rnd_half n c C) low high t (λ e. d (cancel e)))
    where
      low : q * 2 ^ j * c ≤ n → q * 2 ^ j * c ≤ steps n c * u
      low l = regroup (steps n c) (2 ^ drop 24 n c) (mul-le-mul_right c (below n c q j C few l))
        where
          regroup : {x : ℕ} (a b : ℕ) → x ≤ a * b * c → x ≤ a * (c * b)
          regroup a b l = omega arith

      high : n < q * 2 ^ j * c → steps n c * u + u ≤ q * 2 ^ j * c
      high l = regroup (steps n c) (2 ^ drop 24 n c) (mul-le-mul_right c (above n c q j C few l))
        where
          regroup : {x : ℕ} (a b : ℕ) → suc a * b * c ≤ x → a * (c * b) + c * b ≤ x
          regroup a b l = omega arith

      go : Closest n u (kept 24 n c) → (2 * (rnd n c * c) ≡ 2 * n + u) ⊎ (2 * n ≡ 2 * (rnd n c * c) + u) → kept 24 n c % 2 ≡ 0
      go k (inl e) = k.tie_up (sym (swap (kept 24 n c) (2 ^ drop 24 n c)) ∙ e)
        where
          swap : (a b : ℕ) → 2 * (a * b * c) ≡ 2 * (a * (c * b))
          swap a b = omega arith
      go k (inr e) = k.tie_down (e ∙ swap (kept 24 n c) (2 ^ drop 24 n c))
        where
          swap : (a b : ℕ) → 2 * (a * b * c) + c * b ≡ 2 * (a * (c * b)) + c * b
          swap a b = omega arith

-- ---- the pattern of a float whose digits are even ends in 0
-- digits of a pattern are even where they are any even number of at most 24 digits
even_digits_lem : (m k q i : ℕ) → Shape m k → q ≤ 2 ^ 24 → m * 2 ^ k ≡ q * 2 ^ i → q % 2 ≡ 0 → m % 2 ≡ 0
even_digits_lem m k q i s few e even = elim (le-or-lt k i) [
  | inl l ↦ twice (2 ^ (i - k)) (unscale k (e ∙ ap (λ (x : ℕ). q * x) (pow_split k i l) ∙ sym (mul_assoc q (2 ^ (i - k)) (2 ^ k))))
  | inr l ↦ elim s.first [
    | inl z ↦ absurd (omega arith)
    | inr f ↦ first (2 ^ (k - i)) f (pow_mono {i = 1} {j = k - i} (omega arith)) (sym (unscale i (sym e ∙ ap (λ (x : ℕ). m * x) (pow_split i k (le_of_lt l)) ∙ sym (mul_assoc m (2 ^ (k - i)) (2 ^ i)))))
  ]
]
  where
    unscale : {x y : ℕ} (t : ℕ) → x * 2 ^ t ≡ y * 2 ^ t → x ≡ y
    unscale t f = le_antisymm (le_of_mul-le-mul_right (le_of_eq f) (pow_pos t)) (le_of_mul-le-mul_right (le_of_eq (sym f)) (pow_pos t))

    twice : (t : ℕ) → m ≡ q * t → m % 2 ≡ 0
    twice t f = let h : q * t ≡ q / 2 * 2 * t = ap (λ (x : ℕ). x * t) (omega arith) in omega arith

    -- one place more is the first digit alone
    first : (t : ℕ) → 2 ^ 23 ≤ m → 2 ≤ t → m * t ≡ q → m % 2 ≡ 0
    first t f l g = let h : m * 2 ≤ m * t = mul-le-mul_left m l in let o : m ≡ 8388608 = omega arith in omega arith

-- a finite float whose size is a rounding with even digits ends in 0
even_ends : (z : Float) → Number z → (D c : ℕ) → mag z ≡ rnd D c → kept 24 D c % 2 ≡ 0 → to_bits binary32 z % 2 ≡ 0
unfolding rnd
even_ends z n D c e even =
    let p = packed_of z n in
    let o : p.m % 2 ≡ 0 = even_digits_lem p.m p.k (kept 24 D c) (drop 24 D c) p.shape (kept_le D c) (sym p.units ∙ e) even in
    let v = p.size_bits_lem in
    omega arith

-- the rounding is at most twice the number
rnd_double : (n c : ℕ) → 0 < c → rnd n c * c ≤ 2 * n
rnd_double n c C = let h = rnd_nearest n c 0 0 n C zero-le (record { at_most = le_trans (le_of_eq (zero-mul c)) zero-le; at_least = omega arith }) in omega arith

-- a number D above zero, and a float w with the size x on its side of zero or y on the other: D in the middle between it and the rounding
one_side : (w : Float) → Number w → (D c x y : ℕ) → 0 < c → ((x ≡ mag w) × (y ≡ 0)) ⊎ ((x ≡ 0) × (y ≡ mag w)) → (rnd D c + x) * c ≡ y * c + 2 * D → ¬ (x ≡ rnd D c + y) → kept 24 D c % 2 ≡ 0
one_side w n D c x y C (inl (p, z)) t d =
    let (q, j, few, is) = mag_digits w n in
    let e : x ≡ q * 2 ^ j = p ∙ is in
    kept_even D c q j C (le_of_lt few) (rw (← e) (middle (rnd D c) t)) (λ h. d (e ∙ h ∙ none (rnd D c)))
  where
    middle : (r : ℕ) → (r + x) * c ≡ y * c + 2 * D → x * c + r * c ≡ 2 * D
    middle r h = let k : y * c ≡ 0 = rw z (zero-mul c) in omega arith

    none : (r : ℕ) → r ≡ r + y
    none r = omega arith
one_side w n D c x y C (inr (z, p)) t d =
    let k : y * c ≡ 0 = short (rnd D c) t (rnd_double D c C) in
    let o : y ≡ 0 = unit (y) k in
    kept_even D c 0 0 C zero-le (rest (rnd D c) k t) (λ h. d (z ∙ h' h o))
  where
    short : (r : ℕ) → (r + x) * c ≡ y * c + 2 * D → r * c ≤ 2 * D → y * c ≡ 0
    short r h l = let k : x * c ≡ 0 = rw z (zero-mul c) in omega arith

    unit : (y : ℕ) → y * c ≡ 0 → y ≡ 0
    unit y h = le_antisymm (le_of_mul-le-mul_right (le_trans (le_of_eq h) (le_of_eq (sym (zero-mul c)))) C) zero-le

    rest : (r : ℕ) → y * c ≡ 0 → (r + x) * c ≡ y * c + 2 * D → 0 * 2 ^ 0 * c + r * c ≡ 2 * D
    rest r h g = let k : x * c ≡ 0 = rw z (zero-mul c) in omega arith

    h' : {r : ℕ} → 0 * 2 ^ 0 ≡ r → y ≡ 0 → 0 ≡ r + y
    h' e o = omega arith

-- a finite result that is as near to the exact number as another float w ends in 0
pub rounds_even : (z w : Float) (a b c : ℕ) → 0 < c → Rounds z a b c → T (finite z) → Number w
    → (P z + P w) * c + 2 * b ≡ (N z + N w) * c + 2 * a → ¬ (P w + N z ≡ P z + N w) → to_bits binary32 z % 2 ≡ 0
rounds_even z w a b c C r f n t d = elim (le-or-lt b a) [
  | inl l ↦
      let p = rounds_plus z a b c r f in
      let o = rounds_nonnegative z a b c C r l in
      even_ends z is (a - b) c (sym (size-sum z) ∙ sum p o) (one_side w n (a - b) c (P w) (N w) C (sides w) (rw (← p) (plus (P z) (N z) (P w) (N w) o t l)) (λ h. d (turn (P z) (P w) (N w) (rw (← p) at h) o)))
  | inr l ↦
      let p = rounds_minus z a b c r f in
      let o = rounds_nonpositive z a b c C r (le_of_lt l) in
      even_ends z is (b - a) c (sym (size-sum z) ∙ add_comm (P z) (N z) ∙ sum p o) (one_side w n (b - a) c (N w) (P w) C (swap (sides w)) (rw (← p) (minus (P z) (N z) (P w) (N w) o t (le_of_lt l))) (λ h. d (back (P z) (N z) (P w) (N w) (rw (← p) at h) o)))
]
  where
    is : Number z
    is = record { fits32 = r.fits32; is_finite = f }

    sum : {x y v : ℕ} → x ≡ v → y ≡ 0 → x + y ≡ v
    sum e g = omega arith

    swap : ((P w ≡ mag w) × (N w ≡ 0)) ⊎ ((P w ≡ 0) × (N w ≡ mag w)) → ((N w ≡ mag w) × (P w ≡ 0)) ⊎ ((N w ≡ 0) × (P w ≡ mag w))
    swap (inl (x, y)) = inr (y, x)
    swap (inr (x, y)) = inl (y, x)

    plus : (p o x y : ℕ) → o ≡ 0 → (p + x) * c + 2 * b ≡ (o + y) * c + 2 * a → b ≤ a → (p + x) * c ≡ y * c + 2 * (a - b)
    plus p o x y z e l = let k : o * c ≡ 0 = rw z (zero-mul c) in omega arith

    minus : (o p x y : ℕ) → o ≡ 0 → (o + x) * c + 2 * b ≡ (p + y) * c + 2 * a → a ≤ b → (p + y) * c ≡ x * c + 2 * (b - a)
    minus o p x y z e l = let k : o * c ≡ 0 = rw z (zero-mul c) in omega arith

    turn : {o : ℕ} (p x y : ℕ) → x ≡ p + y → o ≡ 0 → x + o ≡ p + y
    turn p x y e g = omega arith

    back : (o p x y : ℕ) → y ≡ p + x → o ≡ 0 → x + p ≡ o + y
    back o p x y e g = omega arith
