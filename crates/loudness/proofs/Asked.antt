-- A smaller constant gives a larger one: what is asked, 0.55 of a step and 0.6, follows from what is proved. Assumes nothing.
use Rattle.std.proofs.Common.{◌≡◌, ℕ, ◌+◌, ◌-◌, ◌*◌, ◌^◌, ◌<◌, ◌≤◌, Bool, true, false, cond, leb, sym, subst, subst₂, le_trans, le_of_eq, lt_of_lt_of_le, mul_assoc, mul-le-mul, mul-le-mul_left, le_of_mul-le-mul_right, arith, pow_pos, pow-add}
use native.Mathlib.Nat.{one-le-pow, pow-le-pow_left}
use lib.Ieee.{Float}
use Rattle.units.specs.Units.{P}
use Rattle.units.proofs.Naturals.{sub-mul}
use Rattle.exact.proofs.Power.{mul-pow, pow-mul, le_of_pow-le}
use Rattle.loudness.specs.Map.{Levels, RatioAtMost, RatioAtLeast, NearMap, map_error_num, map_error_den}

-- an order of products of powers, raised and rooted
raised : (a b c d k j n : ℕ) → a ^ k * b ^ j ≤ c ^ k * d ^ j → a ^ (k * n) * b ^ (j * n) ≤ c ^ (k * n) * d ^ (j * n)
raised a b c d k j n h =
    rw (pow-mul a k n, pow-mul b j n, pow-mul c k n, pow-mul d j n, ← mul-pow (a ^ k) (b ^ j) n, ← mul-pow (c ^ k) (d ^ j) n) (pow-le-pow_left h n)

rooted : (a b c d k j n : ℕ) → 0 < n → a ^ (k * n) * b ^ (j * n) ≤ c ^ (k * n) * d ^ (j * n) → a ^ k * b ^ j ≤ c ^ k * d ^ j
rooted a b c d k j n p h =
    le_of_pow-le n p (rw (mul-pow (a ^ k) (b ^ j) n, mul-pow (c ^ k) (d ^ j) n, ← pow-mul a k n, ← pow-mul b j n, ← pow-mul c k n, ← pow-mul d j n) h)

-- the ratio is at most any larger fraction, and at least any smaller one
module _ (a b m k j r : ℕ) (bm : b ≤ m) where
  more : RatioAtMost a b m k j → RatioAtMost a b m k (j + r)
  more h = rw (pow-add b j r, pow-add m j r) (four (a ^ k) (b ^ j) (b ^ r) (b ^ k) (m ^ j) (m ^ r) h (pow-le-pow_left bm r))
    where
      four : (A B R C M S : ℕ) → A * B ≤ C * M → R ≤ S → A * (B * R) ≤ C * (M * S)
      four A B R C M S h l = le_trans (le_of_eq (sym (mul_assoc A B R))) (le_trans (mul-le-mul h l) (le_of_eq (mul_assoc C M S)))

  less : 0 < m → RatioAtLeast a b m k (j + r) → RatioAtLeast a b m k j
  less pm h =
      le_of_mul-le-mul_right
      (le_trans (three (b ^ k) (m ^ j) (m ^ r) (a ^ k) (b ^ j) (b ^ r) (rw (← pow-add m j r, ← pow-add b j r) h)) (mul-le-mul_left (a ^ k * b ^ j) (pow-le-pow_left bm r)))
      (one-le-pow r m pm)
    where
      three : (B M S A C R : ℕ) → B * (M * S) ≤ A * (C * R) → B * M * S ≤ A * C * R
      three B M S A C R h = le_trans (le_of_eq (mul_assoc B M S)) (le_trans h (le_of_eq (sym (mul_assoc A C R))))

-- the constant num / den as a larger one, num' / den': both sides raised to den', the exponent moved, and the root of den taken
module _ (a b m k s num den num' den' : ℕ) (bm : b ≤ m) (pd : 0 < den) (le : num * den' ≤ num' * den) where
  same_steps : den * k * den' ≡ den' * k * den
  same_steps = omega arith

  below : RatioAtMost a b m (den * k) (den * s + num) → RatioAtMost a b m (den' * k) (den' * s + num')
  below h =
      let J = (den * s + num) * den' in
      let J' = (den' * s + num') * den in
      let more_of : J + (J' - J) ≡ J' = omega arith in
      rooted a b b m (den' * k) (den' * s + num') den pd
      (subst₂ (λ (x y : ℕ). a ^ x * b ^ y ≤ b ^ x * m ^ y) same_steps more_of (more a b m (den * k * den') J (J' - J) bm (raised a b b m (den * k) (den * s + num) den' h)))

  above : 0 < m → RatioAtLeast a b m (den * k) (den * s - num) → RatioAtLeast a b m (den' * k) (den' * s - num')
  above pm h =
      let J = (den * s - num) * den' in
      let J' = (den' * s - num') * den in
      let fewer : J' ≤ J = rw (sub-mul (den' * s) num' den, sub-mul (den * s) num den') (omega arith) in
      let rest : J ≡ J' + (J - J') = omega arith in
      rooted b m a b (den' * k) (den' * s - num') den pd
      (subst (λ (x : ℕ). b ^ x * m ^ J' ≤ a ^ x * b ^ J') same_steps
      (less a b m (den * k * den') J' (J - J') bm pm (subst (λ (y : ℕ). RatioAtLeast a b m (den * k * den') y) rest (raised b m a b (den * k) (den * s - num) den' h))))

-- so a promise with one constant gives that with a larger one
weaker : {num den num' den' : ℕ} {b m : Float} {t c : ℕ} {a : Float} {i : ℕ} → 0 < den → num * den' ≤ num' * den → Levels b m → NearMap num den b m t c a i → NearMap num' den' b m t c a i
weaker {num} {den} {num'} {den'} {b} {m} {t} {c} {a} {i} pd le h w =
    let o = h.octave in
    let bm : P b ≤ P m = omega arith in
    let pm : 0 < P m = lt_of_lt_of_le (lt_of_lt_of_le (pow_pos 125) h.quietest) bm in
    record {
      not_below = below (P a) (P b) (P m) (c - t) (i - t) num den num' den' bm pd le w.not_below;
      not_above = above (P a) (P b) (P m) (c - t) (i - t) num den num' den' bm pd le pm w.not_above;
    }

-- the constant of every top is at most that of 1,023
largest : (top : ℕ) → map_error_num top ≤ 500004
largest top = go (leb top 255)
  where
    go : (t : Bool) → cond t 500001 500004 ≤ 500004
    go true = omega arith
    go false = omega arith

-- document 01's bound, 0.55 of a step, follows from the promise, and that of change request Q6, 0.6
module _ (top : ℕ) {b m : Float} {t c : ℕ} {a : Float} {i : ℕ} (h : Levels b m) (w : NearMap (map_error_num top) map_error_den b m t c a i) where
  pub as_asked : NearMap 11 20 b m t c a i
  as_asked = let l = largest top in weaker (omega arith) (omega arith) h w

  pub as_asked_longer : NearMap 3 5 b m t c a i
  as_asked_longer = let l = largest top in weaker (omega arith) (omega arith) h w
