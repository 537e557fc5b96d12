-- The plain sum over a block is the sums over its even and its odd values; the odd ones are a turned sum, by the addition theorem of the table.
use mathlib.Core.Path.{◌≡◌, ap, subst}
use Prim.Native.Nat.{ℕ, zero, suc, ◌+◌, ◌-◌, ◌*◌, ◌%◌, ◌≤◌}
use native.Mathlib.Nat.{mul-le-mul_right}
use native.Mathlib.Omega.{arith}
use Rattle.spectrum.specs.Difference.{Difference, whole, opposite, add, times, total}
use Rattle.spectrum.specs.Table.{unit, entry, cosine, sine}
use Rattle.spectrum.proofs.Differences.{Close, length, close_trans, close_weaken, close_add, close_times, swapped, distributed, total_same, total_close, total-times, total_split}
use Rattle.spectrum.proofs.Turning.{addition_cosine, addition_sine, whole-cosine, whole-sine, half_cosine, half_sine}

-- the sum over n values, st apart from off on, each turned by k times its place
abbrev pub plain : (ℕ → Difference) → (ℕ → Difference) → ℕ → ℕ → ℕ → ℕ → Difference
plain y w off st k n = total (λ m. times (y (off + m * st)) (w (k * (m * st)))) n

-- over the odd ones among 2 n
abbrev pub odd : (ℕ → Difference) → (ℕ → Difference) → ℕ → ℕ → ℕ → ℕ → Difference
odd y w off st k n = total (λ m. times (y (off + (2 * m + 1) * st)) (w (k * ((2 * m + 1) * st)))) n

-- terms that are the same give sums that are the same
totals : (f g : ℕ → Difference) (n : ℕ) → ((i : ℕ) → Close 0 (f i) (g i)) → Close 0 (total f n) (total g n)
totals f g n h = close_weaken (omega arith) (total_close 0 f g n (λ i l. h i))

-- a factor may be given by one that is the same
by : (y : Difference) {a b : Difference} → Close 0 a b → Close 0 (times y a) (times y b)
by y h = close_weaken (omega arith) (close_times y h)

opposites : (y : ℕ → Difference) (w : ℕ → Difference) (n : ℕ) → Close 0 (total (λ m. times (y m) (opposite (w m))) n) (opposite (total (λ m. times (y m) (w m)) n))
unfolding total
opposites y w zero = record { most = omega arith; least = omega arith }
opposites y w (suc n) = let h = opposites y w n in record { most = omega (arith, h.most); least = omega (arith, h.least) }

-- a sum of two multiples
multiples : (c s : Difference) (f g : ℕ → Difference) (n : ℕ) → Close 0 (total (λ m. add (times c (f m)) (times s (g m))) n) (add (times c (total f n)) (times s (total g n)))
unfolding total
multiples c s f g zero = record { most = omega arith; least = omega arith }
multiples c s f g (suc n) = let h = multiples c s f g n in record { most = omega (arith, h.most); least = omega (arith, h.least) }

-- a value times both sides of the addition theorem
valued : (y q a b c s : Difference) (u e m : ℕ) → length y ≤ m → Close e (times (whole u) q) (add (times c a) (times s b)) → Close (m * e) (times (whole u) (times y q)) (add (times c (times y a)) (times s (times y b)))
valued y q a b c s u e m l h =
    close_weaken (omega (arith, mul-le-mul_right e l))
    (close_trans (swapped (whole u) y q) (close_trans (close_times y h) (close_trans (distributed y (times c a) (times s b)) (close_add (swapped y c a) (swapped y s b)))))

module _ (y : ℕ → Difference) (off st k n : ℕ) where
  -- even and odd terms
  pub split : (w : ℕ → Difference) → Close 0 (plain y w off st k (2 * n)) (add (plain y w off (2 * st) k n) (odd y w off st k n))
  split w =
      subst (λ (d : Difference). Close 0 (plain y w off st k (2 * n)) (add d (odd y w off st k n)))
      (total_same (λ m. times (y (off + 2 * m * st)) (w (k * (2 * m * st)))) (λ m. times (y (off + m * (2 * st))) (w (k * (m * (2 * st))))) n (λ m. ap (λ (i : ℕ). times (y (off + i)) (w (k * i))) (swap m)))
      (total_split (λ m. times (y (off + m * st)) (w (k * (m * st)))) n)
    where
      swap : (m : ℕ) → 2 * m * st ≡ m * (2 * st)
      swap m = omega arith

  -- the odd terms of k' and of k where both together are half a turn a step
  module _ (k' h : ℕ) (both : k' + k ≡ h) (half : h * st ≡ 64) where
    even_place : (m : ℕ) → (k' * (m * (2 * st)) + k * (m * (2 * st))) % 128 ≡ 0
    even_place m = remainder (turns (ap (λ (z : ℕ). z * (m * (2 * st))) both) (ap (λ (z : ℕ). z * (2 * m)) half))
      where
        turns : (k' + k) * (m * (2 * st)) ≡ h * (m * (2 * st)) → h * st * (2 * m) ≡ 64 * (2 * m) → k' * (m * (2 * st)) + k * (m * (2 * st)) ≡ 128 * m
        turns e f = omega arith

        remainder : {a : ℕ} → a ≡ 128 * m → a % 128 ≡ 0
        remainder e = omega arith

    odd_place : (m : ℕ) → (k' * ((2 * m + 1) * st) + k * ((2 * m + 1) * st)) % 128 ≡ 64
    odd_place m = remainder (turns (ap (λ (z : ℕ). z * ((2 * m + 1) * st)) both) (ap (λ (z : ℕ). z * (2 * m + 1)) half))
      where
        turns : (k' + k) * ((2 * m + 1) * st) ≡ h * ((2 * m + 1) * st) → h * st * (2 * m + 1) ≡ 64 * (2 * m + 1) → k' * ((2 * m + 1) * st) + k * ((2 * m + 1) * st) ≡ 128 * m + 64
        turns e f = omega arith

        remainder : {a : ℕ} → a ≡ 128 * m + 64 → a % 128 ≡ 64
        remainder e = omega arith

    pub even_cosine : Close 0 (plain y cosine off (2 * st) k' n) (plain y cosine off (2 * st) k n)
    even_cosine = totals _ _ n (λ m. by (y (off + m * (2 * st))) (whole-cosine (k' * (m * (2 * st))) (k * (m * (2 * st))) (even_place m)))

    pub even_sine : Close 0 (plain y sine off (2 * st) k' n) (opposite (plain y sine off (2 * st) k n))
    even_sine = close_trans (totals _ _ n (λ m. by (y (off + m * (2 * st))) (whole-sine (k' * (m * (2 * st))) (k * (m * (2 * st))) (even_place m)))) (opposites _ _ n)

    pub odd_cosine : Close 0 (odd y cosine off st k' n) (opposite (odd y cosine off st k n))
    odd_cosine = close_trans (totals _ _ n (λ m. by (y (off + (2 * m + 1) * st)) (half_cosine (k' * ((2 * m + 1) * st)) (k * ((2 * m + 1) * st)) (odd_place m)))) (opposites _ _ n)

    pub odd_sine : Close 0 (odd y sine off st k' n) (odd y sine off st k n)
    odd_sine = totals _ _ n (λ m. by (y (off + (2 * m + 1) * st)) (half_sine (k' * ((2 * m + 1) * st)) (k * ((2 * m + 1) * st)) (odd_place m)))

  -- the odd terms are the other half's sums, turned
  module _ (most : ℕ) (small : (i : ℕ) → length (y i) ≤ most) (few : k * st ≤ 32) where
    i : ℕ
    i = k * st

    place : (m : ℕ) → k * st + k * (m * (2 * st)) ≡ k * ((2 * m + 1) * st)
    place m = omega arith

    start : (m : ℕ) → off + st + m * (2 * st) ≡ off + (2 * m + 1) * st
    start m = omega arith

    turned : (w a b : ℕ → Difference) (c s : Difference) → ((j : ℕ) → Close (2 * unit) (times (whole unit) (w (k * st + j))) (add (times c (a j)) (times s (b j))))
        → Close (n * (most * (2 * unit))) (times (whole unit) (odd y w off st k n)) (add (times c (plain y a (off + st) (2 * st) k n)) (times s (plain y b (off + st) (2 * st) k n)))
    turned w a b c s h =
        close_weaken (omega arith)
        (close_trans (total-times (whole unit) (λ m. times (y (off + (2 * m + 1) * st)) (w (k * ((2 * m + 1) * st)))) n)
        (close_trans (total_close (most * (2 * unit)) _ (λ m. add (times c (times (y (off + st + m * (2 * st))) (a (k * (m * (2 * st)))))) (times s (times (y (off + st + m * (2 * st))) (b (k * (m * (2 * st))))))) n (λ m l. term m))
        (multiples c s (λ m. times (y (off + st + m * (2 * st))) (a (k * (m * (2 * st))))) (λ m. times (y (off + st + m * (2 * st))) (b (k * (m * (2 * st))))) n)))
      where
        term : (m : ℕ) → Close (most * (2 * unit)) (times (whole unit) (times (y (off + (2 * m + 1) * st)) (w (k * ((2 * m + 1) * st)))))
            (add (times c (times (y (off + st + m * (2 * st))) (a (k * (m * (2 * st)))))) (times s (times (y (off + st + m * (2 * st))) (b (k * (m * (2 * st)))))))
        term m =
            subst (λ (i : ℕ). Close (most * (2 * unit)) (times (whole unit) (times (y i) (w (k * ((2 * m + 1) * st))))) (add (times c (times (y (off + st + m * (2 * st))) (a (k * (m * (2 * st)))))) (times s (times (y (off + st + m * (2 * st))) (b (k * (m * (2 * st)))))))) (start m)
            (subst (λ (i : ℕ). Close (most * (2 * unit)) (times (whole unit) (times (y (off + st + m * (2 * st))) (w i))) (add (times c (times (y (off + st + m * (2 * st))) (a (k * (m * (2 * st)))))) (times s (times (y (off + st + m * (2 * st))) (b (k * (m * (2 * st)))))))) (place m)
            (valued (y (off + st + m * (2 * st))) _ (a (k * (m * (2 * st)))) (b (k * (m * (2 * st)))) c s unit (2 * unit) most (small _) (h (k * (m * (2 * st))))))

    -- (c - i s) times the other half's sum, for the cosine c and the sine s of k st / 128 turns
    pub turned-cosine : Close (n * (most * (2 * unit))) (times (whole unit) (odd y cosine off st k n))
        (add (times (whole (entry (k * st))) (plain y cosine (off + st) (2 * st) k n)) (times (opposite (whole (entry (32 - k * st)))) (plain y sine (off + st) (2 * st) k n)))
    turned-cosine = turned cosine cosine sine (whole (entry (k * st))) (opposite (whole (entry (32 - k * st)))) (λ j. signs (cosine j) (sine j) (whole (entry (k * st))) (whole (entry (32 - k * st))) (addition_cosine (k * st) j few))
      where
        signs : {e : ℕ} {q : Difference} (a b c s : Difference) → Close e q (add (times c a) (opposite (times s b))) → Close e q (add (times c a) (times (opposite s) b))
        signs a b c s h = record { most = omega (arith, h.most); least = omega (arith, h.least) }

    pub turned-sine : Close (n * (most * (2 * unit))) (times (whole unit) (odd y sine off st k n))
        (add (times (whole (entry (32 - k * st))) (plain y cosine (off + st) (2 * st) k n)) (times (whole (entry (k * st))) (plain y sine (off + st) (2 * st) k n)))
    turned-sine = turned sine cosine sine (whole (entry (32 - k * st))) (whole (entry (k * st))) (λ j. addition_sine (k * st) j few)
