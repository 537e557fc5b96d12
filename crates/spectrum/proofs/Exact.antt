-- From the words of a block to the exact sums: what loading cuts off, what the stages lose, and what the table differs from the real cosines and sines. Assumes nothing.
use mathlib.Core.Path.{◌≡◌, refl, ap, ◌∙◌}
use mathlib.Core.Logic.{inl, inr, ◌⊎◌}
use mathlib.Core.Bool.{Bool, true, false, cond}
use mathlib.Core.List.{List}
use Prim.Native.Nat.{ℕ, zero, suc, ◌+◌, ◌-◌, ◌*◌, ◌/◌, ◌%◌, ◌^◌, ◌≤◌, ◌<◌, zero-le}
use native.Mathlib.Nat.{le_trans, mul-one, zero-mul, mul-le-mul_right, div-mul-le_self, lt-div-mul-add, le_of_mul-le-mul_left}
use native.Mathlib.Omega.{arith}
use lib.Pow.{pow_pos}
use lib.ListN.{get_or}
use lib.Ieee.{Float}
use Rattle.units.specs.Units.{mag, negative}
use Rattle.units.proofs.Naturals.{le-or-lt}
use Rattle.spectrum.specs.Difference.{Difference, whole, times, total, apart}
use Rattle.spectrum.specs.Table.{unit, entry, cosine_below, sine_below, cosine, sine}
use Rattle.spectrum.specs.Words.{value_of}
use Rattle.spectrum.specs.Transform.{units_of, turned_total, Turns}
use Rattle.spectrum.specs.Floats.{word_of}
use Rattle.spectrum.proofs.Differences.{Close, length, close_sym, close_trans, close_weaken, close_times, close_by, close_unscale, swapped, total_close, total-times, total-length}
use Rattle.spectrum.proofs.Turning.{cosine-length, sine-length}
use Rattle.spectrum.proofs.Halving.{plain}
use Rattle.spectrum.proofs.Loads.{quotient_small}
use Rattle.spectrum.proofs.Cosines.{table_cosine, table_sine}

-- ---- a float as a word: cut off by less than a unit
pub loaded_near : (x : Float) (e : ℕ) → mag x < 2 ^ e → Close (2 ^ e) (times (whole (2 ^ e)) (value_of (word_of e x))) (times (whole (2 ^ 53)) (units_of x))
unfolding word_of
loaded_near x e small = go (negative x) refl
  where
    q : ℕ
    q = mag x * 2 ^ 53 / 2 ^ e

    upper : (m E q : ℕ) → q * E ≤ m * 2 ^ 53 → m * 2 ^ 53 < q * E + E → q < 2 ^ 53 → Close E (times (whole E) (value_of (unit + q))) (times (whole (2 ^ 53)) (record { plus = m; minus = 0 }))
    upper m E q l h few = positive (unit + q - unit) (unit - (unit + q)) (same) (none)
      where
        same : unit + q - unit ≡ q
        same = omega arith

        none : unit - (unit + q) ≡ 0
        none = omega arith

        positive : (a b : ℕ) → a ≡ q → b ≡ 0 → Close E (times (whole E) (record { plus = a; minus = b })) (times (whole (2 ^ 53)) (record { plus = m; minus = 0 }))
        positive a b f g = rw (f, g) (record { most = omega arith; least = omega arith })

    lower : (m E q : ℕ) → q * E ≤ m * 2 ^ 53 → m * 2 ^ 53 < q * E + E → q < 2 ^ 53 → Close E (times (whole E) (value_of (unit - q))) (times (whole (2 ^ 53)) (record { plus = 0; minus = m }))
    lower m E q l h few = negated (unit - q - unit) (unit - (unit - q)) (none) (same)
      where
        none : unit - q - unit ≡ 0
        none = omega arith

        same : unit - (unit - q) ≡ q
        same = omega arith

        negated : (a b : ℕ) → a ≡ 0 → b ≡ q → Close E (times (whole E) (record { plus = a; minus = b })) (times (whole (2 ^ 53)) (record { plus = 0; minus = m }))
        negated a b f g = rw (f, g) (record { most = omega arith; least = omega arith })

    go : (s : Bool) → negative x ≡ s → Close (2 ^ e) (times (whole (2 ^ e)) (value_of (cond (negative x) (unit - mag x * 2 ^ 53 / 2 ^ e) (unit + mag x * 2 ^ 53 / 2 ^ e)))) (times (whole (2 ^ 53)) (record { plus = cond (negative x) 0 (mag x); minus = cond (negative x) (mag x) 0 }))
    go true h = rw h (lower (mag x) (2 ^ e) (mag x * 2 ^ 53 / 2 ^ e) (div-mul-le_self (mag x * 2 ^ 53) (2 ^ e)) (lt-div-mul-add (pow_pos e)) (quotient_small (mag x) e small))
    go false h = rw h (upper (mag x) (2 ^ e) (mag x * 2 ^ 53 / 2 ^ e) (div-mul-le_self (mag x * 2 ^ 53) (2 ^ e)) (lt-div-mul-add (pow_pos e)) (quotient_small (mag x) e small))

-- ---- three steps, over any numbers
chain : (E u U B a b c x : ℕ) (v D S X : Difference) → 0 < U → E * (u * a) + u * b + B * c ≤ U * x → Close a (times (whole U) v) D → Close b (times (whole E) D) (times (whole B) S)
    → Close c (times (whole u) S) (times (whole U) X) → Close x (times (whole E) (times (whole u) v)) (times (whole B) X)
chain E u U B a b c x v D S X pos room h g k =
    close_unscale U pos
    (close_weaken (sums E u U B a b c x room)
    (close_trans (outward v)
    (close_trans (close_times (whole E) (close_times (whole u) h))
    (close_trans (swapped (whole E) (whole u) D)
    (close_trans (close_times (whole u) g)
    (close_trans (swapped (whole u) (whole B) S)
    (close_trans (close_times (whole B) k) (swapped (whole B) (whole U) X))))))))
  where
    outward : (v : Difference) → Close 0 (times (whole U) (times (whole E) (times (whole u) v))) (times (whole E) (times (whole u) (times (whole U) v)))
    outward v = close_weaken (omega arith) (close_trans (swapped (whole U) (whole E) (times (whole u) v)) (close_times (whole E) (swapped (whole U) (whole u) v)))

    sums : (E u U B a b c x : ℕ) → E * (u * a) + u * b + B * c ≤ U * x → 0 + ((E + 0) * ((u + 0) * a) + (0 + ((u + 0) * b + (0 + ((B + 0) * c + 0))))) ≤ U * x
    sums E u U B a b c x h = omega arith

-- ---- the sums of values vs, of which the words are E-ths within a unit
module _ (vs : ℕ → Difference) (ys : List ℕ) (E : ℕ) (word : (n : ℕ) → n < 128 → Close E (times (whole E) (value_of (get_or ys n unit))) (times (whole (2 ^ 53)) (vs n))) where
  abbrev Y : ℕ → Difference
  Y i = value_of (get_or ys i unit)

  -- the plain sum of the words over the table, against that of the values
  plain_near : (w : ℕ → Difference) → ((j : ℕ) → length (w j) ≤ unit) → (k : ℕ) → Close (128 * (unit * E)) (times (whole E) (plain Y w 0 1 k 128)) (times (whole (2 ^ 53)) (total (λ n. times (vs n) (w (k * n))) 128))
  plain_near w short k =
      close_weaken (omega arith)
      (close_trans (total-times (whole E) (λ m. times (Y (0 + m * 1)) (w (k * (m * 1)))) 128)
      (close_trans (total_close (unit * E) (λ m. times (whole E) (times (Y (0 + m * 1)) (w (k * (m * 1))))) (λ m. times (whole (2 ^ 53)) (times (vs m) (w (k * m)))) 128 term)
      (close_sym (total-times (whole (2 ^ 53)) (λ n. times (vs n) (w (k * n))) 128))))
    where
      place : (m : ℕ) → 0 + m * 1 ≡ m
      place m = omega arith

      regroup : (E : ℕ) (a y : Difference) → Close 0 (times (whole E) (times a y)) (times (times (whole E) a) y)
      regroup E a y = record { most = omega arith; least = omega arith }

      term : (m : ℕ) → m < 128 → Close (unit * E) (times (whole E) (times (Y (0 + m * 1)) (w (k * (m * 1))))) (times (whole (2 ^ 53)) (times (vs m) (w (k * m))))
      term m l =
          rw (place m, mul-one m)
          (close_weaken (small_term (length (w (k * m))) unit E (short (k * m)))
          (close_trans (regroup E (Y m) (w (k * m))) (close_trans (close_by (w (k * m)) (word m l)) (close_sym (regroup (2 ^ 53) (vs m) (w (k * m)))))))
        where
          small_term : (a b E : ℕ) → a ≤ b → 0 + (a * E + 0) ≤ b * E
          small_term a b E h = omega (arith, mul-le-mul_right E h)

  -- the table against cosines or sines
  module _ (u l : ℕ) (covers : (n : ℕ) → n < 128 → length (vs n) ≤ l) (w : ℕ → Difference) (t : ℕ → Difference) (near : (j : ℕ) → j < 128 → Close (8 * u) (times (whole u) (w j)) (times (whole unit) (t j))) where
    pub table_near : (k : ℕ) → Close (128 * (l * (8 * u))) (times (whole u) (total (λ n. times (vs n) (w (k * n % 128))) 128)) (times (whole unit) (turned_total vs t k))
    unfolding turned_total
    table_near k =
        close_weaken (omega arith)
        (close_trans (total-times (whole u) (λ n. times (vs n) (w (k * n % 128))) 128)
        (close_trans (total_close (l * (8 * u)) (λ n. times (whole u) (times (vs n) (w (k * n % 128)))) (λ n. times (whole unit) (times (vs n) (t (k * n % 128)))) 128 term)
        (close_sym (total-times (whole unit) (λ n. times (vs n) (t (k * n % 128))) 128))))
      where
        term : (n : ℕ) → n < 128 → Close (l * (8 * u)) (times (whole u) (times (vs n) (w (k * n % 128)))) (times (whole unit) (times (vs n) (t (k * n % 128))))
        term n h =
            close_weaken (few (length (vs n)) (8 * u) (covers n h))
            (close_trans (swapped (whole u) (vs n) (w (k * n % 128)))
            (close_trans (close_times (vs n) (near (k * n % 128) (omega arith))) (swapped (vs n) (whole unit) (t (k * n % 128)))))
          where
            few : (a b : ℕ) → a ≤ l → 0 + (a * b + 0) ≤ l * b
            few a b g = omega (arith, mul-le-mul_right b g)

  -- all together: the value v of a word against an exact sum X, in units of 2 ^ -53 of E
  module _ (c s : ℕ → Difference) (u l : ℕ) (turns : Turns c s u) (covers : (n : ℕ) → n < 128 → length (vs n) ≤ l) where
    room : (E u l : ℕ) → E * (u * (462 * 2 ^ 61)) + u * (128 * (2 ^ 61 * E)) + 2 ^ 53 * (128 * (l * (8 * u))) ≤ 2 ^ 61 * (590 * (E * u) + 4 * (l * u))
    room E u l = omega arith

    pub real_sum : (k : ℕ) (v : Difference) → Close (462 * unit) (times (whole unit) v) (plain Y cosine 0 1 k 128) → Close (590 * (E * u) + 4 * (l * u)) (times (whole E) (times (whole u) v)) (times (whole (2 ^ 53)) (turned_total vs c k))
    real_sum k v h = chain E u unit (2 ^ 53) (462 * unit) (128 * (unit * E)) (128 * (l * (8 * u))) (590 * (E * u) + 4 * (l * u)) v (plain Y cosine 0 1 k 128) (total (λ n. times (vs n) (cosine (k * n))) 128) (turned_total vs c k) (pow_pos 61) (room E u l) h (plain_near cosine cosine-length k) (table_near u l covers cosine_below c (table_cosine c s u turns) k)

    pub imaginary_sum : (k : ℕ) (v : Difference) → Close (462 * unit) (times (whole unit) v) (plain Y sine 0 1 k 128) → Close (590 * (E * u) + 4 * (l * u)) (times (whole E) (times (whole u) v)) (times (whole (2 ^ 53)) (turned_total vs s k))
    imaginary_sum k v h = chain E u unit (2 ^ 53) (462 * unit) (128 * (unit * E)) (128 * (l * (8 * u))) (590 * (E * u) + 4 * (l * u)) v (plain Y sine 0 1 k 128) (total (λ n. times (vs n) (sine (k * n))) 128) (turned_total vs s k) (pow_pos 61) (room E u l) h (plain_near sine sine-length k) (table_near u l covers sine_below s (table_sine c s u turns) k)

-- ---- the imaginary parts that are written as zero: their sums are
module _ (Y : ℕ → Difference) (k : ℕ) (ends : (k ≡ 0) ⊎ (k ≡ 64)) where
  sine-zero : (j : ℕ) → (j % 128 ≡ 0) ⊎ (j % 128 ≡ 64) → length (sine j) ≤ 0
  unfolding sine_below entry
  sine-zero j (inl h) = rw h zero-le
  sine-zero j (inr h) = rw h zero-le

  place : (k m : ℕ) → (k ≡ 0) ⊎ (k ≡ 64) → (k * m % 128 ≡ 0) ⊎ (k * m % 128 ≡ 64)
  place k m (inl h) = inl (rw h (ap (λ (z : ℕ). z % 128) (zero-mul m)))
  place k m (inr h) = rw h (elim (even m) [ inl e ↦ inl e | inr e ↦ inr e ])
    where
      even : (m : ℕ) → (64 * m % 128 ≡ 0) ⊎ (64 * m % 128 ≡ 64)
      even zero = inl refl
      even (suc m) = elim (even m) [ inl e ↦ inr (next e) | inr e ↦ inl (back e) ]
        where
          step : 64 * suc m ≡ 64 * m + 64
          step = omega arith

          more : (x : ℕ) → x % 128 ≡ 0 → (x + 64) % 128 ≡ 64
          more x e = omega arith

          less : (x : ℕ) → x % 128 ≡ 64 → (x + 64) % 128 ≡ 0
          less x e = omega arith

          next : 64 * m % 128 ≡ 0 → 64 * suc m % 128 ≡ 64
          next e = ap (λ (z : ℕ). z % 128) step ∙ more (64 * m) e

          back : 64 * m % 128 ≡ 64 → 64 * suc m % 128 ≡ 0
          back e = ap (λ (z : ℕ). z % 128) step ∙ less (64 * m) e

  pub end_sum : Close (462 * unit) (times (whole unit) (whole 0)) (plain Y sine 0 1 k 128)
  end_sum = nothing (plain Y sine 0 1 k 128) (total-length 0 (λ m. times (Y (0 + m * 1)) (sine (k * (m * 1)))) 128 (λ m l. term (Y (0 + m * 1)) (sine (k * (m * 1))) (sine-zero (k * (m * 1)) (place k (m * 1) ends))))
    where
      term : (a b : Difference) → length b ≤ 0 → length (times a b) ≤ 0
      term a b h = let p : b.plus ≡ 0 = omega arith in let m : b.minus ≡ 0 = omega arith in rw (p, m) (omega arith)

      nothing : (D : Difference) → length D ≤ 128 * 0 → Close (462 * unit) (times (whole unit) (whole 0)) D
      nothing D h = record { most = omega arith; least = omega arith }

-- ---- and to the float
-- a float R of a word's value v, scaled by E, against the exact sum X over u
pub near_output : (E u l : ℕ) (W R X : Difference) → (W.plus ≡ 0) ⊎ (W.minus ≡ 0) → (K : ℕ) → K ≤ 1184 * (l * u) → Close K (times (whole E) (times (whole u) W)) (times (whole (2 ^ 53)) X)
    → Close (E * length W + 2 ^ 76) (times (whole (2 ^ 77)) R) (times (whole (2 ^ 24)) (times (whole E) W))
    → 2 ^ 42 * apart (R.plus * u + X.minus) (R.minus * u + X.plus) ≤ 2 ^ 18 * apart X.plus X.minus + (l + 2 ^ 41) * u
near_output E u l W R X side K few h g =
    finish (apart (R.plus * u + X.minus) (R.minus * u + X.plus)) (apart X.plus X.minus) (l * u)
    (apart_most (2 ^ 77) (R.plus * u + X.minus) (R.minus * u + X.plus) ((E * length W + 2 ^ 76) * u + 2 ^ 24 * K) over.0 over.1) (wide side) few refl
  where
    -- the rounding, times u, and the value
    joined : (t B : ℕ) → Close (E * length W + 2 ^ 76) (times (whole (t * B)) R) (times (whole t) (times (whole E) W)) → Close K (times (whole E) (times (whole u) W)) (times (whole B) X)
        → Close ((E * length W + 2 ^ 76) * u + t * K) (times (whole (t * B)) (times (whole u) R)) (times (whole (t * B)) X)
    joined t B g h =
        close_weaken (sums (E * length W + 2 ^ 76) u t K)
        (close_trans (swapped (whole (t * B)) (whole u) R)
        (close_trans (close_times (whole u) g)
        (close_trans (inward t)
        (close_trans (close_times (whole t) h) (folded t B)))))
      where
        inward : (t : ℕ) → Close 0 (times (whole u) (times (whole t) (times (whole E) W))) (times (whole t) (times (whole E) (times (whole u) W)))
        inward t = close_weaken (omega arith) (close_trans (swapped (whole u) (whole t) (times (whole E) W)) (close_times (whole t) (swapped (whole u) (whole E) W)))

        folded : (t B : ℕ) → Close 0 (times (whole t) (times (whole B) X)) (times (whole (t * B)) X)
        folded t B = record { most = omega arith; least = omega arith }

        sums : (a u t K : ℕ) → 0 + ((u + 0) * a + (0 + ((t + 0) * K + 0))) ≤ a * u + t * K
        sums a u t K = omega arith

    over : (2 ^ 77 * (R.plus * u + X.minus) ≤ 2 ^ 77 * (R.minus * u + X.plus) + ((E * length W + 2 ^ 76) * u + 2 ^ 24 * K)) × (2 ^ 77 * (R.minus * u + X.plus) ≤ 2 ^ 77 * (R.plus * u + X.minus) + ((E * length W + 2 ^ 76) * u + 2 ^ 24 * K))
    over = let j = joined (2 ^ 24) (2 ^ 53) g h in ((flat (2 ^ 77) R X _ j).0, (flat (2 ^ 77) R X _ j).1)
      where
        flat : (T : ℕ) (R X : Difference) (k : ℕ) → Close k (times (whole T) (times (whole u) R)) (times (whole T) X) → (T * (R.plus * u + X.minus) ≤ T * (R.minus * u + X.plus) + k) × (T * (R.minus * u + X.plus) ≤ T * (R.plus * u + X.minus) + k)
        flat T R X k j = (omega (arith, j.most), omega (arith, j.least))

    apart_most : (T a b k : ℕ) → T * a ≤ T * b + k → T * b ≤ T * a + k → T * ((a - b) + (b - a)) ≤ k
    apart_most T a b k l m = elim (le-or-lt a b) [ inl o ↦ down o | inr o ↦ up o ]
      where
        down : a ≤ b → T * ((a - b) + (b - a)) ≤ k
        down o = let e : b ≡ a + ((a - b) + (b - a)) = omega arith in omega (arith, m, ap (λ (z : ℕ). T * z) e)

        up : b < a → T * ((a - b) + (b - a)) ≤ k
        up o = let e : a ≡ b + ((a - b) + (b - a)) = omega arith in omega (arith, l, ap (λ (z : ℕ). T * z) e)

    -- the value's size by the sum's
    wide : (W.plus ≡ 0) ⊎ (W.minus ≡ 0) → E * length W * u ≤ 2 ^ 53 * apart X.plus X.minus + K
    wide (inl z) = below E u W.plus W.minus X.minus X.plus z (omega arith) (swap h.least)
      where
        swap : 2 ^ 53 * X.plus + 0 * X.minus + (E * (u * W.minus + 0 * W.plus) + 0 * (u * W.plus + 0 * W.minus)) ≤ E * (u * W.plus + 0 * W.minus) + 0 * (u * W.minus + 0 * W.plus) + (2 ^ 53 * X.minus + 0 * X.plus) + K
            → E * (u * W.minus) + 2 ^ 53 * X.plus ≤ E * (u * W.plus) + 2 ^ 53 * X.minus + K
        swap l = omega (arith, l)

        below : (E u p m a b : ℕ) → p ≡ 0 → a ≤ b + apart X.plus X.minus → E * (u * m) + 2 ^ 53 * b ≤ E * (u * p) + 2 ^ 53 * a + K → E * (p + m) * u ≤ 2 ^ 53 * apart X.plus X.minus + K
        below E u p m a b z s l = rw z (omega (arith, rw z at l))
    wide (inr z) = below E u W.plus W.minus X.plus X.minus z (omega arith) (swap h.most)
      where
        swap : E * (u * W.plus + 0 * W.minus) + 0 * (u * W.minus + 0 * W.plus) + (2 ^ 53 * X.minus + 0 * X.plus) ≤ 2 ^ 53 * X.plus + 0 * X.minus + (E * (u * W.minus + 0 * W.plus) + 0 * (u * W.plus + 0 * W.minus)) + K
            → E * (u * W.plus) + 2 ^ 53 * X.minus ≤ E * (u * W.minus) + 2 ^ 53 * X.plus + K
        swap l = omega (arith, l)

        below : (E u p m a b : ℕ) → m ≡ 0 → a ≤ b + apart X.plus X.minus → E * (u * p) + 2 ^ 53 * b ≤ E * (u * m) + 2 ^ 53 * a + K → E * (p + m) * u ≤ 2 ^ 53 * apart X.plus X.minus + K
        below E u p m a b z s l = rw z (omega (arith, rw z at l))

    finish : (d x w : ℕ) → 2 ^ 77 * d ≤ (E * length W + 2 ^ 76) * u + 2 ^ 24 * K → E * length W * u ≤ 2 ^ 53 * x + K → K ≤ 1184 * w → w ≡ l * u → 2 ^ 42 * d ≤ 2 ^ 18 * x + (l + 2 ^ 41) * u
    finish d x w a b k e = le_of_mul-le-mul_left (last d x w (E * length W * u) K (le_trans a (spread (E * length W) (2 ^ 76) u (2 ^ 24 * K))) b k e) (pow_pos 35)
      where
        spread : (a b u k : ℕ) → (a + b) * u + k ≤ a * u + b * u + k
        spread a b u k = omega arith

        last : (d x w z K : ℕ) → 2 ^ 77 * d ≤ z + 2 ^ 76 * u + 2 ^ 24 * K → z ≤ 2 ^ 53 * x + K → K ≤ 1184 * w → w ≡ l * u → 2 ^ 35 * (2 ^ 42 * d) ≤ 2 ^ 35 * (2 ^ 18 * x + (l + 2 ^ 41) * u)
        last d x w z K a b k e = omega arith
