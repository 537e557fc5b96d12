-- The powers 2 ^ (1 - t) for the floats t from 2 ^ -25 to 1 / 2, against the middles of floats: computed, in a few declarations of seconds each. Assumes nothing.
use mathlib.Core.Bool.{Bool}
use Prim.Native.Nat.{ℕ, ◌+◌, ◌^◌}
use lib.Dec.{T}
use Rattle.gaps.proofs.Roots.{unit}
use Rattle.gaps.proofs.Starts.{after_beneath}
use Rattle.gaps.proofs.Binades.{first, second, each}

-- the two halves of the powers from 1 - 2 ^ -k on
unfoldable pub firsts : ℕ → Bool
unfolding first after_beneath
firsts k = first (2 ^ 104) (2 ^ 70) (k + 24) (after_beneath unit k 24)

unfoldable pub seconds : ℕ → Bool
unfolding second after_beneath
seconds k = second (2 ^ 104) (2 ^ 70) (k + 24) (after_beneath unit k 24)

pub firsts_1 : T (each firsts 1 1)
unfolding each firsts
firsts_1 = tt

pub seconds_1 : T (each seconds 1 1)
unfolding each seconds
seconds_1 = tt

pub firsts_2 : T (each firsts 23 2)
unfolding each firsts
firsts_2 = tt

pub seconds_2 : T (each seconds 23 2)
unfolding each seconds
seconds_2 = tt
