-- No 2 ^ t, for t the fraction of a middle of two neighbouring results of log2, comes nearer than 2 ^ -53 to a float. Assumes nothing.
use mathlib.Core.Path.{◌≡◌, refl}
use Prim.Native.Nat.{ℕ, zero, suc, ◌+◌, ◌-◌, ◌*◌, ◌^◌, ◌≤◌, ◌<◌}
use native.Mathlib.Nat.{le_dest, one-mul, mul_assoc, mul_comm, zero-add, pow-suc, lt_of_not-le}
use native.Mathlib.Decide.{dec_le}
use native.Mathlib.Omega.{arith}
use lib.Pow.{pow_pos, pow-add}
use Rattle.gaps.specs.Apart.{OffFloats, CoarseMiddles, RisingMiddles, FallingMiddles}
use Rattle.gaps.proofs.Stretch.{Away}
use Rattle.gaps.proofs.Distance.{apart}
use Rattle.gaps.proofs.RisingMiddles.{rising_middles}
use Rattle.gaps.proofs.FallingMiddles.{falling_middles}
use Rattle.gaps.proofs.CoarseMiddles.{coarse_middles}

-- the floats, in units of 2 ^ -128
off : (p Q : ℕ) → ((z : ℕ) → Away (0 + 2 ^ 105 * z) (2 ^ 75) (2 ^ 128) p Q) → OffFloats p Q
off p Q away m = apart (m * 2 ^ 30) (2 ^ 75) (2 ^ 53) (pow_pos 53) (rw (mul_assoc m (2 ^ 30) (2 ^ 75), mul_comm m (2 ^ 105), ← zero-add (2 ^ 105 * m)) (away m))

pub rising : RisingMiddles
rising k i two low from to =
    let (j, e) = le_dest from in
    let place : 2 * i + 1 ≡ 2 ^ 24 + 1 + 2 * j = omega arith in
    rw place (off (2 ^ 24 + 1 + 2 * j) (2 ^ (k + 24)) (rising_middles k two low j (omega arith)))

pub falling : FallingMiddles
falling zero i two low from to = absurd (omega arith)
falling (suc k) i two low from to =
    let (j, e) = le_dest to in
    let sum : suc k + 24 ≡ k + 25 = omega arith in
    rw sum (off (2 ^ (k + 25) - (2 * i + 1)) (2 ^ (k + 25)) (rw (place j e) (falling_middles k (omega arith) (omega arith) j (omega arith))))
  where
    place : (j : ℕ) → suc i + j ≡ 2 ^ 24 → 2 ^ (k + 25) - (2 * i + 1) ≡ (2 ^ k - 1) * 2 ^ 25 + 1 + 2 * j
    place j e = rw (pow-add 2 k 25) (through (2 ^ k) (pow_pos k))
      where
        through : (x : ℕ) → 0 < x → x * 2 ^ 25 - (2 * i + 1) ≡ (x - 1) * 2 ^ 25 + 1 + 2 * j
        through x h = omega arith

-- the powers of two below a number that is not 0
module _ (q : ℕ) (is : q ≡ 25) where
  from_powers : (n : ℕ) → n ≤ 25 → (p : ℕ) → 0 < p → p < 2 ^ n → OffFloats p (2 ^ q)
  from_powers zero fits p pos less = absurd (omega arith)
  from_powers (suc n) fits p pos less = elim (dec_le (2 ^ n) p) [ yes h ↦ here (le_dest h) | no h ↦ from_powers n (omega arith) p pos (lt_of_not-le h) ]
    where
      here : (j : ℕ) × (2 ^ n + j ≡ p) → OffFloats p (2 ^ q)
      here (j, e) = off p (2 ^ q) (rw (← e, ← one-mul j) (coarse_middles q is n (omega arith) j (omega (arith, pow-suc 2 n))))

pub coarse : CoarseMiddles
coarse = from_powers 25 refl 25 (omega arith)
