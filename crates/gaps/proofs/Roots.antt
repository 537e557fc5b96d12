-- The roots 2 ^ (1 / 2 ^ i) in units of 2 ^ -128, each the square root of the one before it: one test of 48 squarings is computed. Assumes nothing.
use mathlib.Core.Path.{◌≡◌, refl}
use mathlib.Core.Bool.{Bool, true, false, ◌&&◌}
use Prim.Native.Nat.{ℕ, zero, suc, ◌+◌, ◌*◌, ◌/◌, ◌^◌, ◌≤◌, ◌<◌}
use native.Mathlib.Nat.{le_of_eq, mul_comm, add-zero, add-suc, suc-add, zero-add, pow-suc}
use native.Mathlib.Omega.{arith}
use lib.Dec.{T, leb, ltb, leb→le, ltb→lt}
use lib.Pow.{pow_pos}
use lib.Ieee.Fits.{and_l, and_r}
use Rattle.exact.specs.Power.{AtMost, AtLeast}
use Rattle.exact.proofs.Power.{pow-one}
use Rattle.gaps.proofs.Stretch.{Near}
use Rattle.gaps.proofs.Values.{RootOf, root_near}

-- Newton's rule from x on towards the root of y, as long as it falls
unfoldable newton : ℕ → ℕ → ℕ → ℕ
newton zero y x = x
newton (suc f) y x = let x' = (x + y / x) / 2 in elim (ltb x' x) [ true ↦ newton f y x' | false ↦ x ]

-- the square root of h / O
unfoldable pub next_root : ℕ → ℕ → ℕ
unfolding newton
next_root O h = newton 20 (h * O) ((h + O) / 2 + 1)

-- from 2 on
unfoldable pub root : ℕ → ℕ → ℕ
unfolding next_root
root O zero = 2 * O
root O (suc i) = next_root O (root O i)

module _ (O : ℕ) where
  -- x is such a root of h, and stays below 2
  unfoldable is_root : ℕ → ℕ → Bool
  is_root h x = leb (x * x) (h * O) && ltb (h * O) (suc x * suc x) && leb O x && leb (x + 2) (2 * O)

  -- so are the k roots from h on
  unfoldable are_roots : ℕ → ℕ → Bool
  unfolding is_root next_root
  are_roots zero h = true
  are_roots (suc k) h = let x = next_root O h in is_root h x && are_roots k x

  -- what is known of each
  pub record Good (i : ℕ) : Type 0 where
    pub near : Near (root O i) 2 O 1 (2 ^ i)
    pub least : O ≤ root O i
    pub fits : 0 < i → root O i + 2 ≤ 2 * O

  pub root_suc : (i : ℕ) → next_root O (root O i) ≡ root O (suc i)
  unfolding root
  root_suc i = refl

  module _ (pos : 0 < O) where
    -- a root of what is near is near
    near_suc : (i h x : ℕ) → T (is_root h x) → Near h 2 O 1 (2 ^ i) → Near x 2 O 1 (2 ^ suc i) × (O ≤ x) × (x + 2 ≤ 2 * O)
    unfolding is_root
    near_suc i h x t near = (rw (pow-suc 2 i, mul_comm (2 ^ i) 2) (root_near pos is_root_lem near), is_root_lem.least, leb→le _ _ (search (and_l, and_r)))
      where
        is_root_lem : RootOf O h x
        is_root_lem = record { from = leb→le _ _ (search (and_l, and_r)); to = ltb→lt _ _ (search (and_l, and_r)); least = leb→le _ _ (search (and_l, and_r)) }

    good_suc : (i : ℕ) → T (is_root (root O i) (root O (suc i))) → Good i → Good (suc i)
    good_suc i t good =
        let (near, least, fits) = near_suc i (root O i) (root O (suc i)) t good.near in
        record { near = near; least = least; fits = λ p. fits }

    -- the first of them, and the others
    taken : (k i : ℕ) → T (are_roots (suc k) (root O i)) → T (is_root (root O i) (root O (suc i))) × T (are_roots k (root O (suc i)))
    unfolding are_roots root
    taken k i t = let x = is_root (root O i) (root O (suc i)) in let y = are_roots k (root O (suc i)) in (and_l x y t, and_r x y t)

    -- from one good root the tested ones after it
    all_good : (k i : ℕ) → T (are_roots k (root O i)) → Good i → (j : ℕ) → j ≤ k → Good (i + j)
    all_good k i t good zero less = rw (add-zero i) good
    all_good zero i t good (suc j) less = absurd (omega arith)
    all_good (suc k) i t good (suc j) less =
        let (here, on) = taken k i t in
        rw (add-suc i j, ← suc-add i j) (all_good k (suc i) on (good_suc i here good) j (omega arith))

    good_zero : Good 0
    unfolding root
    good_zero = record { near = record { most = most; least = least }; least = omega arith; fits = λ p. absurd (omega arith) }
      where
        most : AtMost (2 * O) O 1 0 1
        most = record { per = pos; root = omega arith; holds = le_of_eq (rw (pow-one (2 * O), pow-one O, pow-one 2) (omega arith)) }

        least : AtLeast (2 * O + 2) O 1 0 1
        least = record { per = pos; root = omega arith; holds = rw (pow-one (2 * O + 2), pow-one O, pow-one 2) (omega arith) }

-- ---- in units of 2 ^ -128

abbrev pub unit : ℕ
unit = 2 ^ 128

tested : T (are_roots unit 48 (root unit 0))
unfolding are_roots root
tested = tt

pub good : (i : ℕ) → i ≤ 48 → Good unit i
good i less = rw (zero-add i) at (all_good unit (pow_pos 128) 48 0 tested (good_zero unit (pow_pos 128)) i less)
