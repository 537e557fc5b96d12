-- The powers 2 ^ t for the floats t from 2 ^ -24 to 1, against the middles of floats: computed, in a few declarations of seconds each. Assumes nothing.
use mathlib.Core.Bool.{Bool}
use Prim.Native.Nat.{ℕ, ◌+◌, ◌^◌, ◌≤◌}
use native.Mathlib.Nat.{one-mul}
use native.Mathlib.Omega.{arith}
use lib.Dec.{T, lit≤}
use lib.Pow.{pow_pos, pow_mono}
use Rattle.gaps.proofs.Roots.{unit, root, good}
use Rattle.gaps.proofs.Check.{Clear}
use Rattle.gaps.proofs.Starts.{root_over}
use Rattle.gaps.proofs.Binades.{spacing, first, second, binade_clear, Every, each, every, and-every}

-- the two halves of the floats from 2 ^ -k on
unfoldable firsts : ℕ → Bool
unfolding first root
firsts k = first (2 ^ 104) (2 ^ 70) (k + 23) (root unit k)

unfoldable seconds : ℕ → Bool
unfolding second root
seconds k = second (2 ^ 104) (2 ^ 70) (k + 23) (root unit k)

firsts_1 : T (each firsts 1 1)
unfolding each firsts
firsts_1 = tt

seconds_1 : T (each seconds 1 1)
unfolding each seconds
seconds_1 = tt

firsts_2 : T (each firsts 2 2)
unfolding each firsts
firsts_2 = tt

seconds_2 : T (each seconds 2 2)
unfolding each seconds
seconds_2 = tt

firsts_4 : T (each firsts 21 4)
unfolding each firsts
firsts_4 = tt

seconds_4 : T (each seconds 21 4)
unfolding each seconds
seconds_4 = tt

-- together all from 1 to 24
all : (test : ℕ → Bool) → T (each test 1 1) → T (each test 2 2) → T (each test 21 4) → Every test 24 1
all test one two four = and-every test 1 23 1 (every test 1 1 one) (and-every test 2 21 2 (every test 2 2 two) (every test 21 4 four))

pub rising_clear : (k : ℕ) → 1 ≤ k → k ≤ 24 → Clear unit spacing (2 ^ 104) (2 ^ 70) (2 ^ (k + 23)) 1 (2 ^ 23) 23
unfolding firsts seconds
rising_clear k pos low =
    binade_clear (2 ^ 104) (2 ^ 70) (2 ^ (k + 23)) 1 (k + 23) (pow_pos (k + 23)) (one-mul (2 ^ (k + 23))) (omega arith) (omega arith) (root unit k) 2 (2 ^ 23)
    (root_over unit (pow_pos 128) 48 good k 23 (omega arith)) (lit≤ tt) (pow_mono {i = 24} (omega arith))
    (all firsts firsts_1 firsts_2 firsts_4 k pos (omega arith)) (all seconds seconds_1 seconds_2 seconds_4 k pos (omega arith))
