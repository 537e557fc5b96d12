-- The powers 2 ^ (1 - t) for the middles t of floats from 2 ^ -24 to 1 / 2, against floats: computed, in a few declarations of seconds each. Assumes nothing.
use mathlib.Core.Bool.{Bool}
use Prim.Native.Nat.{ℕ, ◌+◌, ◌-◌, ◌*◌, ◌^◌, ◌≤◌}
use native.Mathlib.Omega.{arith}
use lib.Dec.{T}
use lib.Pow.{pow_pos, pow_mono}
use Rattle.gaps.proofs.Roots.{unit, good}
use Rattle.gaps.proofs.Check.{Clear}
use Rattle.gaps.proofs.Starts.{after_beneath, after_beneath_near, beneath_within}
use Rattle.gaps.proofs.Binades.{spacing, first, second, binade_clear, twice, Every, each, every, and-every}

-- the two halves of the middles from 1 - 2 ^ -k on
unfoldable firsts : ℕ → Bool
unfolding first after_beneath
firsts k = first 0 (2 ^ 75) (k + 24) (after_beneath unit k 25)

unfoldable seconds : ℕ → Bool
unfolding second after_beneath
seconds k = second 0 (2 ^ 75) (k + 24) (after_beneath unit k 25)

firsts_1 : T (each firsts 1 1)
unfolding each firsts
firsts_1 = tt

seconds_1 : T (each seconds 1 1)
unfolding each seconds
seconds_1 = tt

firsts_2 : T (each firsts 22 2)
unfolding each firsts
firsts_2 = tt

seconds_2 : T (each seconds 22 2)
unfolding each seconds
seconds_2 = tt

-- together all from 1 to 23
all : (test : ℕ → Bool) → T (each test 1 1) → T (each test 22 2) → Every test 23 1
all test one two = and-every test 1 22 1 (every test 1 1 one) (every test 22 2 two)

pub falling_middles : (k : ℕ) → 1 ≤ k → k ≤ 23 → Clear unit spacing 0 (2 ^ 75) (2 ^ (k + 25)) 2 ((2 ^ k - 1) * 2 ^ 25 + 1) 23
unfolding firsts seconds
falling_middles k pos low =
    binade_clear 0 (2 ^ 75) (2 ^ (k + 25)) 2 (k + 24) (pow_pos (k + 25)) (twice k 24) (omega arith) (omega arith)
    (after_beneath unit k 25) (2 * (5 * (2 ^ k - 1)) + 5) ((2 ^ k - 1) * 2 ^ 25 + 1) (after_beneath_near unit (pow_pos 128) 48 good k 25 pos (omega arith))
    (omega (arith, pow_mono low)) (omega (arith, beneath_within k 25 (1 + 2 * 2 ^ 23) (omega arith)))
    (all firsts firsts_1 firsts_2 k pos (omega arith)) (all seconds seconds_1 seconds_2 k pos (omega arith))
