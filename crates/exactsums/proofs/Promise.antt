-- The promise, for each way in which the program returns. Assumes nothing.
use mathlib.Core.Path.{◌≡◌, refl, sym, ap, ap₂, ◌∙◌}
use mathlib.Core.Logic.{◌⊎◌, inl, inr}
use mathlib.Core.List.{List}
use Prim.Native.Nat.{ℕ, ◌+◌, ◌-◌, ◌*◌, ◌%◌, ◌^◌, ◌≤◌, ◌<◌, zero-le}
use native.Mathlib.Nat.{le_trans, le_of_eq, le_of_lt, le_antisymm, add_comm, lt_of_lt_of_le, lt_of_le_of_lt, zero-add, add-zero, add-mul, add-le-add, mul-one, mul_assoc, mul_right_comm, mul-le-mul_right, le_of_mul-le-mul_right, lt_of_mul-lt-mul_right}
use native.Mathlib.Omega.{arith}
use lib.Dec.{ltb, lit≤, lit<}
use lib.Pow.{pow_pos}
use borrow.Author.Tests.{le-ltb, lt-ltb}
use lib.Ieee.{Float, binary32, of_bits}
use Rattle.units.specs.Units.{P, N, Number}
use Rattle.units.specs.Answers.{Ends, float_bits}
use Rattle.units.proofs.Naturals.{le-or-lt}
use Rattle.units.proofs.Answers.{written, untouched}
use Rattle.units.proofs.Result.{Rounds, rounds_of, rounds_bounded, rounds_whole}
use Rattle.units.proofs.Nearest.{rounds_nearest}
use Rattle.units.proofs.Ties.{rounds_even}
use Rattle.sums.specs.Sum.{apart}
use Rattle.sums.proofs.Apart.{near_apart, apart_least, apart-scaled}
use Rattle.exactsums.specs.Nearest.{Lengths, Elements, Accepts, NearestDot, positives, negatives, rounded, distance}
use Rattle.exactsums.specs.Work.{number, Gathered}
use Rattle.exactsums.proofs.Bins.{number_most}
use Rattle.exactsums.proofs.Rounding.{rounded_plus, rounded_minus, float_zero}

-- ---- p - n in units of 2 ^ -298, rounded
-- a factor goes into a distance
apart-times : (x y w : ℕ) → apart (x * w) (y * w) ≡ apart x y * w
unfolding apart
apart-times x y w = elim (le-or-lt x y) [ inl l ↦ go x y l | inr l ↦ swap (x * w) (y * w) ∙ go y x (le_of_lt l) ∙ ap (λ (n : ℕ). n * w) (swap y x) ]
  where
    swap : (u v : ℕ) → u - v + (v - u) ≡ v - u + (u - v)
    swap u v = omega arith

    go : (x y : ℕ) → x ≤ y → x * w - y * w + (y * w - x * w) ≡ (x - y + (y - x)) * w
    go x y l =
        let e : y ≡ x + (x - y + (y - x)) = omega arith in
        let f : y * w ≡ (x + (x - y + (y - x))) * w = ap (λ (n : ℕ). n * w) e in
        omega arith

-- the distance added to the smaller number gives the larger
plus : (p n : ℕ) → n ≤ p → p ≡ apart p n + n
unfolding apart
plus p n l = omega arith

minus : (p n : ℕ) → p < n → p + apart p n ≡ n
unfolding apart
minus p n l = omega arith

module _ (p n : ℕ) where
  abbrev z : Float
  z = rounded p n

  -- the sign and the size that are rounded, of (a - b) / c units, where a - b is p - n times v over the size
  rounds : (a b c v : ℕ) → 0 < c → apart p n * 2 ^ 149 * c ≡ v * 2 ^ 298 → (n ≤ p → a ≡ v + b) → (p < n → a + v ≡ b) → Rounds z a b c
  rounds a b c v C e plus minus = elim (le-or-lt n p) [
    | inl l ↦ rounds_of (ltb p n) (apart p n) (2 ^ 298) a b c v (pow_pos 298) C e (rw (le-ltb p n l) (add-zero a ∙ plus l))
    | inr l ↦ rounds_of (ltb p n) (apart p n) (2 ^ 298) a b c v (pow_pos 298) C e (rw (lt-ltb p n l) (minus l ∙ sym (zero-add b)))
  ]

  exact : Rounds z p n (2 ^ 149)
  exact = rounds p n (2 ^ 149) (apart p n) (pow_pos 149) (mul_assoc (apart p n) (2 ^ 149) (2 ^ 149)) (plus p n) (minus p n)

  -- sums of 2 ^ 400 at most are far from overflow
  module _ (pl : p ≤ 2 ^ 400) (nl : n ≤ 2 ^ 400) where
    is_number : Number z
    is_number = rounds_bounded z p n (2 ^ 149) exact 1 251 (pow_pos 149) (lit≤ tt) (lit< tt) (record { at_most = le_trans pl (far n); at_least = le_trans nl (far p) })
      where
        far : (m : ℕ) → 2 ^ 400 ≤ m + 2 ^ 400
        far m = le_trans (le_of_eq (sym (zero-add (2 ^ 400)))) (add-le-add zero-le (le_of_eq refl))

    -- no float is nearer
    is_nearest : (w : Float) → Number w → distance z p n ≤ distance w p n
    is_nearest w h = apart_least (rounds_nearest z w p n (2 ^ 149) (distance w p n) (pow_pos 149) exact is_number.is_finite h (near_apart (P w * 2 ^ 149 + n) (N w * 2 ^ 149 + p)))

    -- at a tie it is even
    is_even : (w : Float) → Number w → distance w p n ≡ distance z p n → ¬ (P w + N z ≡ P z + N w) → float_bits z % 2 ≡ 0
    unfolding apart
    is_even w h e d = elim (either (P w * 2 ^ 149) (N w * 2 ^ 149) (P z * 2 ^ 149) (N z * 2 ^ 149) e) [
      | inl s ↦ absurd (d (cancel (2 ^ 149) (pow_pos 149) (P w) (N z) (P z) (N w) s))
      | inr t ↦ rounds_even z w p n (2 ^ 149) (pow_pos 149) exact is_number.is_finite h (gather (2 ^ 149) (P z) (P w) (N z) (N w) t) d
    ]
      where
        either : (x y u v : ℕ) → x + n - (y + p) + (y + p - (x + n)) ≡ u + n - (v + p) + (v + p - (u + n)) → (x + v ≡ u + y) ⊎ (u + x + 2 * n ≡ v + y + 2 * p)
        either x y u v f = elim (le-or-lt (x + n) (y + p)) [
          | inl l ↦ elim (le-or-lt (u + n) (v + p)) [ inl m ↦ inl (omega arith) | inr m ↦ inr (omega arith) ]
          | inr l ↦ elim (le-or-lt (u + n) (v + p)) [ inl m ↦ inr (omega arith) | inr m ↦ inl (omega arith) ]
        ]

        cancel : (c : ℕ) → 0 < c → (x v u y : ℕ) → x * c + v * c ≡ u * c + y * c → x + v ≡ u + y
        cancel c C x v u y f = le_antisymm (le_of_mul-le-mul_right (le_of_eq (together f)) C) (le_of_mul-le-mul_right (le_of_eq (sym (together f))) C)
          where
            together : x * c + v * c ≡ u * c + y * c → (x + v) * c ≡ (u + y) * c
            together f = omega arith

        gather : (c u x v y : ℕ) → u * c + x * c + 2 * n ≡ v * c + y * c + 2 * p → (u + x) * c + 2 * n ≡ (v + y) * c + 2 * p
        gather c u x v y f = omega arith

    -- whole numbers of 2 ^ -126: within u of the sum
    is_near : (x y : ℕ) → x * 2 ^ 172 ≡ p → y * 2 ^ 172 ≡ n → distance z p n * 2 ^ 24 ≤ apart p n
    is_near x y e f =
        le_trans (le_of_eq (ap (λ (m : ℕ). m * 2 ^ 24) far ∙ mul_right_comm (apart (P z + b) (N z + a)) (2 ^ 149) (2 ^ 24))) (le_trans (mul-le-mul_right (2 ^ 149) bound) (le_of_eq (sym sum)))
      where
        -- p and n in units of 2 ^ -149
        a : ℕ
        a = x * 2 ^ 23

        b : ℕ
        b = y * 2 ^ 23

        p_is : p ≡ a * 2 ^ 149
        p_is = sym (mul_assoc x (2 ^ 23) (2 ^ 149) ∙ e)

        n_is : n ≡ b * 2 ^ 149
        n_is = sym (mul_assoc y (2 ^ 23) (2 ^ 149) ∙ f)

        sum : apart p n ≡ apart a b * 2 ^ 149
        sum = ap₂ apart p_is n_is ∙ apart-times a b (2 ^ 149)

        far : distance z p n ≡ apart (P z + b) (N z + a) * 2 ^ 149
        far = ap₂ (λ (u v : ℕ). apart (P z * 2 ^ 149 + u) (N z * 2 ^ 149 + v)) n_is p_is ∙ ap₂ apart (sym (add-mul (P z) b (2 ^ 149))) (sym (add-mul (N z) a (2 ^ 149))) ∙ apart-times (P z + b) (N z + a) (2 ^ 149)

        whole : Rounds z a b 1
        whole = rounds a b 1 (apart a b) (lit< tt) (mul-one (apart p n * 2 ^ 149) ∙ ap (λ (m : ℕ). m * 2 ^ 149) sum ∙ mul_assoc (apart a b) (2 ^ 149) (2 ^ 149)) (λ l. plus a b (le_of_mul-le-mul_right (le_trans (le_of_eq (sym n_is)) (le_trans l (le_of_eq p_is))) (pow_pos 149))) (λ l. minus a b (lt_of_mul-lt-mul_right (2 ^ 149) (lt_of_le_of_lt (le_of_eq (sym p_is)) (lt_of_lt_of_le l (le_of_eq n_is)))))

        bound : apart (P z + b) (N z + a) * 2 ^ 24 ≤ apart a b
        bound = apart-scaled (P z + b) (N z + a) (2 ^ 24) (apart a b) (rounds_whole z a b (apart a b) whole is_number.is_finite (near_apart a b))

-- +0 of 0
is_zero : (p n : ℕ) → p ≡ n → rounded p n ≡ of_bits binary32 0
is_zero p n e = rounded_plus p n 0 (e ∙ sym (zero-add n)) ∙ float_zero

-- equal differences round alike
pub same_difference : (p n q m : ℕ) → p + m ≡ q + n → rounded p n ≡ rounded q m
same_difference p n q m e = elim (le-or-lt n p) [
  | inl l ↦ rounded_plus p n (p - n) (omega arith) ∙ sym (rounded_plus q m (p - n) (omega arith))
  | inr l ↦ rounded_minus p n (n - p) (omega arith) (omega arith) ∙ sym (rounded_minus q m (n - p) (omega arith) (omega arith))
]

-- and are equally far from any float
same_distance : (x : Float) (p n q m : ℕ) → p + m ≡ q + n → distance x p n ≡ distance x q m
unfolding apart
same_distance x p n q m e = go (P x * 2 ^ 149) (N x * 2 ^ 149)
  where
    go : (u v : ℕ) → u + n - (v + p) + (v + p - (u + n)) ≡ u + m - (v + q) + (v + q - (u + m))
    go u v = omega arith

same_apart : (p n q m : ℕ) → p + m ≡ q + n → apart p n ≡ apart q m
unfolding apart
same_apart p n q m e = omega arith

-- ---- success: all products stand in the bins, x less y is the exact sum, in units of 2 ^ -126
module _ (a b : List Float) (l : Lengths a b) (bins : List ℕ) (g : Gathered a b bins) where
  abbrev x : ℕ
  x = number bins 0 41 * 2 ^ 172

  abbrev y : ℕ
  y = number bins 41 41 * 2 ^ 172

  abbrev p : ℕ
  p = positives a b

  abbrev n : ℕ
  n = negatives a b

  -- 41 bins of less than 2 ^ 64 hold less than 2 ^ 400
  bounded : (s : ℕ) → number bins s 41 * 2 ^ 172 ≤ 2 ^ 400
  bounded s = le_trans (mul-le-mul_right (2 ^ 172) (number_most bins s 41 (4097 * 2 ^ 51) g.small.each)) (lit≤ tt)

  balance : x + n ≡ p + y
  balance = g.sum ∙ add_comm y p

  far : (w : Float) → distance w x y ≡ distance w p n
  far w = same_distance w x y p n balance

  promised : NearestDot a b 0 (rounded x y)
  promised =
      let z = rounded x y in
      let u = bounded 0 in
      let v = bounded 41 in
      record {
        bad_length = λ h. absurd (h l);
        out_of_range = λ k h. absurd (h g.elements);
        success = λ h. refl;
        value = λ h. same_difference x y p n balance;
        finite = λ h. is_number x y u v;
        nearest = λ h w k. rw (far z, far w) at (is_nearest x y u v w k);
        even = λ h w k e. is_even x y u v w k (far w ∙ e ∙ sym (far z));
        near = λ h. le_trans (le_of_eq (ap (λ (m : ℕ). m * 2 ^ 24) (sym (far z)))) (le_trans (is_near x y u v (number bins 0 41) (number bins 41 41) refl refl) (le_of_eq (same_apart x y p n balance)));
        zero = λ h e. same_difference x y p n balance ∙ is_zero p n e;
      }

  pub success : {before r : ℕ} → r ≡ float_bits (rounded x y) → Ends float_bits (NearestDot a b) 0 before r
  success e = written (rounded x y) promised e

-- ---- refusals
module _ (a b : List Float) {before : ℕ} where
  refused : (code : ℕ) → ¬ (code ≡ 0) → ¬ Accepts a b → (¬ Lengths a b → code ≡ 2) → (Lengths a b → ¬ Elements a b → code ≡ 1) → Ends float_bits (NearestDot a b) code before before
  refused code z n c₂ c₁ = untouched code (of_bits binary32 0) z (record {
    bad_length = c₂;
    out_of_range = c₁;
    success = λ h. absurd (n h);
    value = λ h. absurd (n h);
    finite = λ h. absurd (n h);
    nearest = λ h. absurd (n h);
    even = λ h. absurd (n h);
    near = λ h. absurd (n h);
    zero = λ h. absurd (n h);
  })

  pub refused_lengths : ¬ Lengths a b → Ends float_bits (NearestDot a b) 2 before before
  refused_lengths n = refused 2 (λ z. omega arith) (λ h. n h.lengths) (λ m. refl) (λ l. absurd (n l))

  pub refused_element : Lengths a b → ¬ Elements a b → Ends float_bits (NearestDot a b) 1 before before
  refused_element l n = refused 1 (λ z. omega arith) (λ h. n h.elements) (λ m. absurd (m l)) (λ g m. refl)
