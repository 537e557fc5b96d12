-- The digits that the program chooses are those of the nearest float: the first digits tell, or the comparison with the middle's power. Assumes nothing.
use Rattle.std.proofs.Common.{◌≡◌, ℕ, ◌+◌, ◌-◌, ◌*◌, ◌/◌, ◌%◌, ◌^◌, ◌<◌, ◌≤◌, Bool, true, false, cond, sym, refl, ap, ◌∙◌, subst, inl, inr, le_trans, le_of_eq, add-zero, mul-le-mul_right, mul_assoc, add-mul, mul-le-mul_left, mul-lt-mul_of_pos_right, mul-pos, arith, lit<, pow_pos, pow_mono, pow-add, ltb-false, ltb-true, le-ltb, lt-ltb}
use Rattle.units.proofs.Naturals.{le-or-lt}
use Rattle.exact.specs.Power.{LessThan, MoreThan}
use Rattle.exact.proofs.Exponents.{less_larger, more_smaller, less_mirrored, more_mirrored}
use Rattle.gaps.specs.Apart.{OffFloats}
use Rattle.fine.specs.Value.{fine_of}
use Rattle.fine.proofs.Method.{U}
use Rattle.fixed.proofs.Rounding.{Placed}
use Rattle.logs.specs.Value.{log_of_one, width_of, is_left_open, fraction_of, is_above, settled_digits, log2_digits}
use Rattle.logs.proofs.Middles.{Q}
use Rattle.logs.proofs.Told.{Known, Digits, width_most, shut_digits, few_zeros, middle_above, middle_below, open_below, open_above}
use Rattle.logs.proofs.Placed as placed
use Rattle.logs.proofs.Decided.{decided_above, decided_below}
use Rattle.logs.proofs.Kept.{half_of, kept_above, kept_below}

-- ---- over plain numbers

-- digits of z zeros: those of fewer than 53 digits have 11 at least, and of 31 or 32 digits few
module _ (A z : ℕ) (p : Placed A z) where
  short : 11 ≤ z → A < 2 ^ 53
  short h = omega (arith, p.high, mul-le-mul_left A (pow_mono {i = 11} {j = z} h))

  few : (k j : ℕ) → k + j ≡ 63 → 2 ^ j ≤ A → z ≤ k
  few k j e h = elim (le-or-lt z k) [
    | inl l ↦ l
    | inr l ↦
        let g : 2 ^ 64 ≤ A * 2 ^ z = le_trans (le_of_eq (ap (λ (i : ℕ). 2 ^ i) whole ∙ pow-add 2 j (k + 1))) (le_trans (mul-le-mul_right (2 ^ (k + 1)) h) (mul-le-mul_left A (pow_mono {i = k + 1} {j = z} (omega arith)))) in
        absurd (omega (arith, p.high))
  ]
    where
      whole : 64 ≡ j + (k + 1)
      whole = omega arith

-- the comparison of the digits is one of fractions
told_above : (f j : ℕ) → f / 2199023255552 < j → 2 ^ 64 + f < (j + 8388608) * 2 ^ 41
told_above f j h = omega arith

told_below : (f j : ℕ) → j ≤ f / 2199023255552 → (j + 8388608) * 2 ^ 41 ≤ 2 ^ 64 + f
told_below f j h = omega arith

-- M half steps, of which C are 1, as an exponent over the unit of the floats
exponent-above : (M G C Y K : ℕ) → G * C ≡ K → 127 * C + M ≡ Y → (M * G * C + (0 + 127 * C) * K ≤ Y * K + 0 * C) × (Y * K + 0 * C ≤ M * G * C + (0 + 127 * C) * K)
exponent-above M G C Y K e h =
    let k : 127 * C * K + M * K ≡ Y * K = sym (add-mul (127 * C) M K) ∙ ap (λ (i : ℕ). i * K) h in
    let l : M * G * C ≡ M * K = mul_assoc M G C ∙ ap (λ (i : ℕ). M * i) e in
    (omega arith, omega arith)

exponent-below : (M G C Y K : ℕ) → G * C ≡ K → 127 * C ≡ Y + M → ((0 + 127 * C) * K + 0 * C ≤ M * G * C + Y * K) × (M * G * C + Y * K ≤ (0 + 127 * C) * K + 0 * C)
exponent-below M G C Y K e h =
    let k : Y * K + M * K ≡ 127 * C * K = sym (add-mul Y M K) ∙ ap (λ (i : ℕ). i * K) (sym h) in
    let l : M * G * C ≡ M * K = mul_assoc M G C ∙ ap (λ (i : ℕ). M * i) e in
    (omega arith, omega arith)

-- ---- a float of X units with the pattern b, a logarithm w in fixed point at the distance A from log2 1, and z zeros before the digits of A
module _ (b w X A z : ℕ) (p : Placed A z) (is : X * 2 ≡ (b % 8388608 + 8388608) * 2 ^ (b / 8388608))
    (low : b / 8388608 * 2 ^ 54 ≤ w) (up : b / 8388608 * 2 ^ 54 < w → b / 8388608 * 2 ^ 54 + 2 ^ 31 ≤ w) (down : w + 2 ^ 30 ≤ (b / 8388608 + 1) * 2 ^ 54) where
  abbrev R : ℕ
  R = A * 2 ^ z

  abbrev u : ℕ
  u = R / 4294967296

  abbrev e : ℕ
  e = b / 8388608

  abbrev M : ℕ
  M = 2 * (u / 256) + 1

  abbrev c : ℕ
  c = half_of z

  abbrev G : ℕ
  G = 2 ^ (135 - z)

  -- a whole, in steps shifted up by z
  ones : 2 ^ 54 * 2 ^ z ≡ c * 2 ^ 40
  ones = sym (pow-add 2 54 z) ∙ ap (λ (i : ℕ). 2 ^ i) (let h : 54 + z ≡ 14 + z + 40 = omega arith in h) ∙ pow-add 2 (14 + z) 40

  -- e of them, and one more
  times : (k : ℕ) → k * 2 ^ 54 * 2 ^ z ≡ k * (c * 2 ^ 40)
  times k = mul_assoc k (2 ^ 54) (2 ^ z) ∙ ap (λ (i : ℕ). k * i) ones

  from_e : e * (c * 2 ^ 40) ≤ w * 2 ^ z
  from_e = le_trans (le_of_eq (sym (times e))) (mul-le-mul_right (2 ^ z) low)

  before_next : w * 2 ^ z < (e + 1) * (c * 2 ^ 40)
  before_next = subst (λ (i : ℕ). w * 2 ^ z < i) (times (e + 1)) (mul-lt-mul_of_pos_right (let h : w < (e + 1) * 2 ^ 54 = omega (arith, down) in h) (pow_pos z))

  unit : z ≤ 39 → G * (2 * c) ≡ Q
  unit h = turned G c (sym (pow-add 2 (135 - z) (14 + z)) ∙ ap (λ (i : ℕ). 2 ^ i) (let k : 135 - z + (14 + z) ≡ 149 = omega arith in k))
    where
      turned : (g k : ℕ) → g * k ≡ 2 ^ 149 → g * (2 * k) ≡ Q
      turned g k l = through g k (2 ^ 149) l
        where
          through : (g k K : ℕ) → g * k ≡ K → g * (2 * k) ≡ 2 * K
          through g k K l = omega arith

  pieces : z ≤ 39 → 2 * c * 2 ^ (49 - z) ≡ 2 ^ 64
  pieces h = turned c (2 ^ (49 - z)) (sym (pow-add 2 (14 + z) (49 - z)) ∙ ap (λ (i : ℕ). 2 ^ i) (let k : 14 + z + (49 - z) ≡ 63 = omega arith in k))
    where
      turned : (g k : ℕ) → g * k ≡ 2 ^ 63 → 2 * g * k ≡ 2 ^ 64
      turned g k l = omega arith

  -- the fraction t, v of 2 c
  module _ (v : ℕ) (less : v < 2 * c) (z-few : z ≤ 39) (off : OffFloats v (2 * c)) where
    abbrev t : ℕ
    t = v * 2 ^ (49 - z)

    small : t < U
    small = subst (λ (i : ℕ). t < i) (pieces z-few) (mul-lt-mul_of_pos_right less (pow_pos (49 - z)))

    same : t * (2 * c) ≡ v * U
    same = turned v (2 ^ (49 - z)) (2 * c) ∙ ap (λ (i : ℕ). v * i) (pieces z-few)
      where
        turned : (v a k : ℕ) → v * a * k ≡ v * (k * a)
        turned v a k = omega arith

    wide : 0 < 2 * c
    wide = mul-pos (lit< tt) (pow_pos (14 + z))

    high : is_above b t ≡ true → MoreThan X (2 ^ 149) (v + e * (2 * c)) (0 + 127 * (2 * c)) (2 * c)
    unfolding is_above
    high h = decided_above X (b % 8388608 + 8388608) e v (2 * c) t is (omega arith) wide small same off (told_above (fine_of t) (b % 8388608) (ltb-true (fine_of t / 2199023255552) (b % 8388608) h))

    deep : is_above b t ≡ false → LessThan X (2 ^ 149) (v + e * (2 * c)) (0 + 127 * (2 * c)) (2 * c)
    unfolding is_above
    deep h = decided_below X (b % 8388608 + 8388608) e v (2 * c) t is (omega arith) wide small same off (told_below (fine_of t) (b % 8388608) (ltb-false (fine_of t / 2199023255552) (b % 8388608) h))

  -- ---- above log2 1
  module _ (place : w ≡ log_of_one + A) (some : 0 < A) (known : Known X (2 ^ 149) A z (width_of z)) where
    whole_above : w * 2 ^ z ≡ 127 * (c * 2 ^ 40) + R
    whole_above = ap (λ (i : ℕ). i * 2 ^ z) place ∙ add-mul log_of_one A (2 ^ z) ∙ ap (λ (i : ℕ). i + R) (times 127)

    small_above : 11 ≤ z → (z ≤ 32) × (e ≡ 127)
    small_above h =
        let s = short A z p h in
        let k : e ≡ 127 = omega (arith, down) in
        (few A z p 32 31 refl (subst (λ (i : ℕ). 2 ^ 31 ≤ i) (let l : w - log_of_one ≡ A = omega arith in l) (let l = up (omega arith) in omega arith)), k)

    settled_above : is_left_open u (width_of z) ≡ true → Digits X (2 ^ 149) (settled_digits b w u z) z
    unfolding settled_digits fraction_of
    settled_above o =
        let zs = few_zeros A z (width_of z) (width_most z) o in
        let (v, h) = placed.placed_above c e (u / 256) R (w * 2 ^ z) from_e before_next (middle_above X (2 ^ 149) A z (width_of z) (width_most z) known p o) (middle_below X (2 ^ 149) A z (width_of z) (width_most z) known p o) whole_above in
        let f : M * 2 ^ (49 - z) % 2 ^ 64 ≡ v * 2 ^ (49 - z) = placed.fraction_above M c e v (2 ^ (49 - z)) (2 ^ 64) (pieces zs) (pow_pos (49 - z)) h (omega (arith, down)) in
        let off = kept_above z (u / 256) e v (omega (arith, p.low)) (omega (arith, p.high)) h small_above in
        rw (le-ltb w log_of_one (omega arith), f) (go v h.less zs off h.whole o (is_above b (v * 2 ^ (49 - z))) refl)
      where
        go : (v : ℕ) (less : v < 2 * c) (zs : z ≤ 39) (off : OffFloats v (2 * c)) → 127 * (2 * c) + M ≡ v + e * (2 * c) → is_left_open u (width_of z) ≡ true → (k : Bool) → is_above b (v * 2 ^ (49 - z)) ≡ k → Digits X (2 ^ 149) (u / 256 + cond k 1 0) z
        go v less zs off h o true k = open_above X (2 ^ 149) A z (width_of z) (width_most z) known p o (more_smaller (lit< tt) (exponent-above M G (2 * c) (v + e * (2 * c)) Q (unit zs) h).0 (high v less zs off k))
        go v less zs off h o false k =
            subst (λ (i : ℕ). Digits X (2 ^ 149) i z) (sym (add-zero (u / 256)))
            (open_below X (2 ^ 149) A z (width_of z) (width_most z) known p o (less_larger (lit< tt) (exponent-above M G (2 * c) (v + e * (2 * c)) Q (unit zs) h).1 (deep v less zs off k)))

    pub chosen_above : Digits X (2 ^ 149) (log2_digits b w u z) z
    unfolding log2_digits
    chosen_above = go (is_left_open u (width_of z)) refl
      where
        go : (o : Bool) → is_left_open u (width_of z) ≡ o → Digits X (2 ^ 149) (cond o (settled_digits b w u z) ((u / 128 + 1) / 2)) z
        go true o = settled_above o
        go false o = shut_digits X (2 ^ 149) A z (width_of z) (width_most z) known p o

  -- ---- below it
  module _ (place : w + A ≡ log_of_one) (some : 0 < A) (Xpos : 0 < X) (known : Known (2 ^ 149) X A z (width_of z)) where
    whole_below : w * 2 ^ z + R ≡ 127 * (c * 2 ^ 40)
    whole_below = sym (add-mul w A (2 ^ z)) ∙ ap (λ (i : ℕ). i * 2 ^ z) place ∙ times 127

    small_below : 11 ≤ z → (z ≤ 33) × (e ≡ 126)
    small_below h =
        let s = short A z p h in
        let k : e ≡ 126 = omega (arith, down, low) in
        (few A z p 33 30 refl (omega (arith, down)), k)

    settled_below : is_left_open u (width_of z) ≡ true → Digits (2 ^ 149) X (settled_digits b w u z) z
    unfolding settled_digits fraction_of
    settled_below o =
        let zs = few_zeros A z (width_of z) (width_most z) o in
        let (v, h) = placed.placed_below c e (u / 256) R (w * 2 ^ z) from_e before_next (middle_above (2 ^ 149) X A z (width_of z) (width_most z) known p o) (middle_below (2 ^ 149) X A z (width_of z) (width_most z) known p o) whole_below in
        let f : (2 ^ 64 - M * 2 ^ (49 - z) % 2 ^ 64) % 2 ^ 64 ≡ v * 2 ^ (49 - z) = placed.fraction_below M c e v (2 ^ (49 - z)) (2 ^ 64) (pieces zs) (pow_pos (49 - z)) h (omega (arith, low)) in
        let off = kept_below z (u / 256) e v (omega (arith, p.low)) (omega (arith, p.high)) h small_below in
        rw (lt-ltb w log_of_one (omega arith), f) (go v h.less zs off h.whole o (is_above b (v * 2 ^ (49 - z))) refl)
      where
        go : (v : ℕ) (less : v < 2 * c) (zs : z ≤ 39) (off : OffFloats v (2 * c)) → 127 * (2 * c) ≡ v + e * (2 * c) + M → is_left_open u (width_of z) ≡ true → (k : Bool) → is_above b (v * 2 ^ (49 - z)) ≡ k → Digits (2 ^ 149) X (u / 256 + cond k 0 1) z
        go v less zs off h o true k =
            subst (λ (i : ℕ). Digits (2 ^ 149) X i z) (sym (add-zero (u / 256)))
            (open_below (2 ^ 149) X A z (width_of z) (width_most z) known p o (less_larger (lit< tt) (exponent-below M G (2 * c) (v + e * (2 * c)) Q (unit zs) h).0 (less_mirrored (high v less zs off k))))
        go v less zs off h o false k =
            open_above (2 ^ 149) X A z (width_of z) (width_most z) known p o (more_smaller (lit< tt) (exponent-below M G (2 * c) (v + e * (2 * c)) Q (unit zs) h).1 (more_mirrored Xpos (deep v less zs off k)))

    pub chosen_below : Digits (2 ^ 149) X (log2_digits b w u z) z
    unfolding log2_digits
    chosen_below = go (is_left_open u (width_of z)) refl
      where
        go : (o : Bool) → is_left_open u (width_of z) ≡ o → Digits (2 ^ 149) X (cond o (settled_digits b w u z) ((u / 128 + 1) / 2)) z
        go true o = settled_below o
        go false o = shut_digits (2 ^ 149) X A z (width_of z) (width_most z) known p o
