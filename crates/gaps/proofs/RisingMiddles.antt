-- The powers 2 ^ t for the middles t of floats from 2 ^ -23 to 1 / 2, against floats: computed, in a few declarations of seconds each. Assumes nothing.
use mathlib.Core.Bool.{Bool}
use Prim.Native.Nat.{ℕ, ◌+◌, ◌^◌, ◌≤◌}
use native.Mathlib.Omega.{arith}
use lib.Dec.{T, lit≤}
use lib.Pow.{pow_pos, pow_mono}
use Rattle.gaps.proofs.Roots.{unit, good}
use Rattle.gaps.proofs.Check.{Clear}
use Rattle.gaps.proofs.Starts.{after_root, after_root_near}
use Rattle.gaps.proofs.Binades.{spacing, first, second, binade_clear, twice, Every, each, every, and-every}

-- the two halves of the middles from 2 ^ -k on
unfoldable firsts : ℕ → Bool
unfolding first after_root
firsts k = first 0 (2 ^ 75) (k + 23) (after_root unit k 24)

unfoldable seconds : ℕ → Bool
unfolding second after_root
seconds k = second 0 (2 ^ 75) (k + 23) (after_root unit k 24)

firsts_2 : T (each firsts 1 2)
unfolding each firsts
firsts_2 = tt

seconds_2 : T (each seconds 1 2)
unfolding each seconds
seconds_2 = tt

firsts_3 : T (each firsts 21 3)
unfolding each firsts
firsts_3 = tt

seconds_3 : T (each seconds 21 3)
unfolding each seconds
seconds_3 = tt

-- together all from 2 to 23
all : (test : ℕ → Bool) → T (each test 1 2) → T (each test 21 3) → Every test 22 2
all test two three = and-every test 1 21 2 (every test 1 2 two) (every test 21 3 three)

pub rising_middles : (k : ℕ) → 2 ≤ k → k ≤ 23 → Clear unit spacing 0 (2 ^ 75) (2 ^ (k + 24)) 2 (2 ^ 24 + 1) 23
unfolding firsts seconds
rising_middles k pos low =
    binade_clear 0 (2 ^ 75) (2 ^ (k + 24)) 2 (k + 23) (pow_pos (k + 24)) (twice k 23) (omega arith) (omega arith)
    (after_root unit k 24) 9 (2 ^ 24 + 1) (after_root_near unit (pow_pos 128) 48 good k 24 (omega arith) (omega arith))
    (lit≤ tt) (omega (arith, pow_mono {i = 26} {j = k + 24} (omega arith)))
    (all firsts firsts_2 firsts_3 k pos (omega arith)) (all seconds seconds_2 seconds_3 k pos (omega arith))
