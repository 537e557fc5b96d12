-- No 2 ^ t, for t the fraction of a float, comes nearer than 2 ^ -58 to the middle of two neighbouring floats. Assumes nothing.
use mathlib.Core.Path.{◌≡◌}
use Prim.Native.Nat.{ℕ, zero, suc, ◌+◌, ◌-◌, ◌*◌, ◌^◌, ◌<◌}
use native.Mathlib.Nat.{le_dest, one-mul, mul_assoc}
use native.Mathlib.Omega.{arith}
use lib.Pow.{pow_pos, pow-add}
use Rattle.gaps.specs.Apart.{OffMiddles, Rising, Falling}
use Rattle.gaps.proofs.Stretch.{Away}
use Rattle.gaps.proofs.Distance.{apart}
use Rattle.gaps.proofs.Rising.{rising_clear}
use Rattle.gaps.proofs.FallingClear.{falling_clear}

-- the middles, in units of 2 ^ -128
off : (p Q : ℕ) → ((z : ℕ) → Away (2 ^ 104 + 2 ^ 105 * z) (2 ^ 70) (2 ^ 128) p Q) → OffMiddles p Q
off p Q away z = apart ((2 * z + 1) * 2 ^ 34) (2 ^ 70) (2 ^ 58) (pow_pos 58) (rw (mul_assoc (2 * z + 1) (2 ^ 34) (2 ^ 70), middle (2 ^ 104)) (away z))
  where
    middle : (X : ℕ) → (2 * z + 1) * X ≡ X + 2 * X * z
    middle X = omega arith

pub rising : Rising
rising k m pos low from to =
    let (j, e) = le_dest from in
    off m (2 ^ (k + 23)) (rw (← e, ← one-mul j) (rising_clear k pos low j (omega arith)))

pub falling : Falling
falling zero m pos low from to = absurd (omega arith)
falling (suc k) m pos low from to =
    let (j, e) = le_dest to in
    let sum : suc k + 23 ≡ k + 24 = omega arith in
    rw sum (off (2 ^ (k + 24) - m) (2 ^ (k + 24)) (rw (place j e) (falling_clear k (omega arith) (omega arith) j (omega arith))))
  where
    place : (j : ℕ) → suc m + j ≡ 2 ^ 24 → 2 ^ (k + 24) - m ≡ (2 ^ k - 1) * 2 ^ 24 + 1 + 1 * j
    place j e = rw (pow-add 2 k 24) (through (2 ^ k) (pow_pos k))
      where
        through : (x : ℕ) → 0 < x → x * 2 ^ 24 - m ≡ (x - 1) * 2 ^ 24 + 1 + 1 * j
        through x h = omega arith
