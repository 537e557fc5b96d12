-- The powers 2 ^ t for the numbers t of 2 ^ -25 between 0 and 1, against floats: computed, in a few declarations of seconds each.
-- The 25 is a variable q in all but the tests, so that no power of 2 ^ 25 is computed. Assumes nothing.
use mathlib.Core.Path.{◌≡◌}
use mathlib.Core.Bool.{Bool}
use Prim.Native.Nat.{ℕ, suc, ◌+◌, ◌-◌, ◌^◌, ◌≤◌}
use native.Mathlib.Nat.{one-mul, pow-suc}
use native.Mathlib.Decide.{dec_le}
use native.Mathlib.Omega.{arith}
use lib.Dec.{T, lit≤}
use lib.Pow.{pow_pos, pow_mono}
use Rattle.gaps.proofs.Stretch.{Near}
use Rattle.gaps.proofs.Roots.{unit, root, good}
use Rattle.gaps.proofs.Check.{Clear}
use Rattle.gaps.proofs.Jobs.{passes, passes_later, job_clear, jobs_clear}
use Rattle.gaps.proofs.Starts.{root_over}
use Rattle.gaps.proofs.Binades.{spacing, doubt, rounds, Every, each, every, and-every}

-- the numbers from 2 ^ j up to twice that, over 2 ^ q
unfoldable powers : ℕ → ℕ → Bool
unfolding passes root
powers q j = passes unit spacing 0 (2 ^ 75) doubt rounds q j (root unit (q - j))

-- the two halves of the numbers from 2 ^ 24 on, over 2 ^ q
unfoldable earlier : ℕ → Bool
unfolding passes root
earlier q = passes unit spacing 0 (2 ^ 75) doubt rounds q 23 (root unit (q - 24))

unfoldable later : ℕ → Bool
unfolding passes_later root
later q = passes_later unit spacing 0 (2 ^ 75) doubt rounds q 23 (root unit (q - 24))

powers_0 : T (each (powers 25) 23 0)
unfolding each powers
powers_0 = tt

powers_23 : T (each (powers 25) 1 23)
unfolding each powers
powers_23 = tt

earlier_24 : T (earlier 25)
unfolding earlier
earlier_24 = tt

later_24 : T (later 25)
unfolding later
later_24 = tt

module _ (q : ℕ) (is : q ≡ 25) where
  all : Every (powers q) 24 0
  all = rw is (and-every (powers 25) 23 1 0 (every (powers 25) 23 0 powers_0) (every (powers 25) 1 23 powers_23))

  -- 2 ^ (2 ^ j / 2 ^ q) is a root
  start : (j : ℕ) → j ≤ 24 → Near (root unit (q - j)) 2 unit (2 ^ j) (2 ^ q)
  start j low = let e : q - j + j ≡ q = omega arith in rw e at (root_over unit (pow_pos 128) 48 good (q - j) j (omega arith))

  lower : (j : ℕ) → j ≤ 23 → Clear unit spacing 0 (2 ^ 75) (2 ^ q) 1 (2 ^ j) j
  unfolding powers
  lower j low =
      job_clear unit spacing 0 (2 ^ 75) doubt rounds (pow_pos 128) (pow_pos 105) (lit≤ tt) 48 good (2 ^ q) 1 q j (pow_pos q) (one-mul (2 ^ q)) (omega arith) (omega arith)
      (root unit (q - j)) 2 (2 ^ j) (start j (omega arith)) (omega (arith, pow_mono {i = j} {j = 23} low)) (omega (arith, pow-suc 2 j, pow_mono {i = suc j} {j = q} (omega arith)))
      (all j (omega arith) (omega arith))

  upper : Clear unit spacing 0 (2 ^ 75) (2 ^ q) 1 (2 ^ 24) 24
  unfolding earlier later
  upper =
      jobs_clear unit spacing 0 (2 ^ 75) doubt rounds (pow_pos 128) (pow_pos 105) (lit≤ tt) 48 good (2 ^ q) 1 q 23 (pow_pos q) (one-mul (2 ^ q)) (omega arith) (omega arith)
      (root unit (q - 24)) 2 (2 ^ 24) (start 24 (omega arith)) (lit≤ tt) (omega (arith, pow_mono {i = 25} {j = q} (omega arith))) (omega arith) (rw is earlier_24) (rw is later_24)

  pub coarse_middles : (j : ℕ) → j ≤ 24 → Clear unit spacing 0 (2 ^ 75) (2 ^ q) 1 (2 ^ j) j
  coarse_middles j low = elim (dec_le j 23) [ yes l ↦ lower j l | no n ↦ top (omega arith) ]
    where
      top : j ≡ 24 → Clear unit spacing 0 (2 ^ 75) (2 ^ q) 1 (2 ^ j) j
      top e = rw e upper
