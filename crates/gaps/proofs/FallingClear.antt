-- The powers 2 ^ (1 - t) for the floats t from 2 ^ -25 to 1 / 2, against the middles of floats: what the computed tests say together. Assumes nothing.
use mathlib.Core.Bool.{Bool}
use Prim.Native.Nat.{ℕ, ◌+◌, ◌-◌, ◌*◌, ◌^◌, ◌≤◌}
use native.Mathlib.Nat.{one-mul}
use native.Mathlib.Omega.{arith}
use lib.Dec.{T}
use lib.Pow.{pow_pos, pow_mono}
use Rattle.gaps.proofs.Roots.{unit, good}
use Rattle.gaps.proofs.Check.{Clear}
use Rattle.gaps.proofs.Starts.{after_beneath, after_beneath_near, beneath_within}
use Rattle.gaps.proofs.Binades.{spacing, binade_clear, Every, each, every, and-every}
use Rattle.gaps.proofs.Falling.{firsts, seconds, firsts_1, seconds_1, firsts_2, seconds_2}

-- together all from 1 to 24
all : (test : ℕ → Bool) → T (each test 1 1) → T (each test 23 2) → Every test 24 1
all test one two = and-every test 1 23 1 (every test 1 1 one) (every test 23 2 two)

pub falling_clear : (k : ℕ) → 1 ≤ k → k ≤ 24 → Clear unit spacing (2 ^ 104) (2 ^ 70) (2 ^ (k + 24)) 1 ((2 ^ k - 1) * 2 ^ 24 + 1) 23
unfolding firsts seconds
falling_clear k pos low =
    binade_clear (2 ^ 104) (2 ^ 70) (2 ^ (k + 24)) 1 (k + 24) (pow_pos (k + 24)) (one-mul (2 ^ (k + 24))) (omega arith) (omega arith)
    (after_beneath unit k 24) (2 * (5 * (2 ^ k - 1)) + 5) ((2 ^ k - 1) * 2 ^ 24 + 1) (after_beneath_near unit (pow_pos 128) 48 good k 24 pos (omega arith))
    (omega (arith, pow_mono low)) (omega (arith, beneath_within k 24 (1 + 2 ^ 23) (omega arith)))
    (all firsts firsts_1 firsts_2 k pos (omega arith)) (all seconds seconds_1 seconds_2 k pos (omega arith))
