-- Over every denominator d the power 2 ^ ((p - m) / q) lies between two neighbours, l / d and (l + 1) / d. Assumes nothing.
use Prim.Native.Nat.{ℕ, zero, suc, ◌+◌, ◌*◌, ◌^◌, ◌≤◌, ◌<◌}
use native.Mathlib.Nat.{le_trans, le_of_eq, le_of_lt, lt_of_not-le, mul-le-mul_right, le-mul_of_pos_right}
use native.Mathlib.Decide.{dec_le}
use native.Mathlib.Numerals.{add-one}
use native.Mathlib.Omega.{arith}
use lib.Pow.{pow_pos, pow_mono}
use Rattle.exact.specs.Power.{AtMost, AtLeast}
use Rattle.exact.proofs.Power.{mul-pow, pow-mul, least_pos}

module _ (d p m q : ℕ) (per : 0 < d) (root : 0 < q) where
  -- from a fraction that is not below it down to the last such
  search_down : (n : ℕ) → AtLeast n d p m q → (l : ℕ) × AtMost l d p m q × AtLeast (l + 1) d p m q
  search_down zero a = absurd (omega (arith, least_pos a))
  search_down (suc n) a = elim (dec_le (2 ^ p * d ^ q) (n ^ q * 2 ^ m)) [
    | yes h ↦ search_down n (record { per = per; root = root; holds = h })
    | no h ↦ (n, record { per = per; root = root; holds = le_of_lt (lt_of_not-le h) }, rw (add-one n) a)
  ]

  -- 2 ^ p is not below it
  whole : AtLeast (2 ^ p * d) d p m q
  whole = record { per = per; root = root; holds = rw (mul-pow (2 ^ p) d q) (le_trans (mul-le-mul_right (d ^ q) larger) (le-mul_of_pos_right _ (pow_pos m))) }
    where
      larger : 2 ^ p ≤ (2 ^ p) ^ q
      larger = le_trans (pow_mono (le-mul_of_pos_right p root)) (le_of_eq (pow-mul 2 p q))

  pub neighbours : (l : ℕ) × AtMost l d p m q × AtLeast (l + 1) d p m q
  neighbours = search_down (2 ^ p * d) whole
