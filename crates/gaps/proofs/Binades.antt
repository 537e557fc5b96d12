-- A job of 2 ^ 23 powers, in units of 2 ^ -128 and with floats from 1 to 2 as targets, whose distance is 2 ^ 105 units. It is computed in two halves. Assumes nothing.
use mathlib.Core.Path.{◌≡◌}
use mathlib.Core.Bool.{Bool, true, false}
use mathlib.Core.Logic.{inl, inr}
use Prim.Native.Nat.{ℕ, zero, suc, ◌+◌, ◌*◌, ◌^◌, ◌≤◌, ◌<◌}
use native.Mathlib.Nat.{eq-or-lt_of_le, lt_of_not-le, add-suc, pow-suc}
use native.Mathlib.Decide.{dec_le}
use native.Mathlib.Omega.{arith}
use lib.Dec.{T, lit≤}
use lib.Pow.{pow_pos}
use Rattle.gaps.proofs.Stretch.{Near, then_both}
use Rattle.gaps.proofs.Roots.{unit, good}
use Rattle.gaps.proofs.Check.{Clear}
use Rattle.gaps.proofs.Jobs.{passes, passes_later, jobs_clear}

-- from float to float; the doubt that a start may have; more floats than there are up to 2
abbrev pub spacing : ℕ
spacing = 2 ^ 105

abbrev pub doubt : ℕ
doubt = 2 ^ 60

abbrev pub rounds : ℕ
rounds = 2 ^ 25

-- the halves of a job from A on, in steps of 1 / 2 ^ r
unfoldable pub first : (τ g r A : ℕ) → Bool
unfolding passes
first τ g r A = passes unit spacing τ g doubt rounds r 22 A

unfoldable pub second : (τ g r A : ℕ) → Bool
unfolding passes_later
second τ g r A = passes_later unit spacing τ g doubt rounds r 22 A

pub binade_clear : (τ g Q st r : ℕ) → 0 < Q → st * 2 ^ r ≡ Q → 23 ≤ r → r ≤ 48 → (A e p : ℕ) → Near A e unit p Q → e ≤ 2 ^ 30 → p + st * 2 ^ 23 ≤ Q →
    T (first τ g r A) → T (second τ g r A) → Clear unit spacing τ g Q st p 23
unfolding first second
binade_clear τ g Q st r qpos whole long known A e p near few within t t' =
    jobs_clear unit spacing τ g doubt rounds (pow_pos 128) (pow_pos 105) (lit≤ tt) 48 good Q st r 22 qpos whole (omega arith) known A e p near (omega arith) (omega arith) (omega arith) t t'

-- steps of 2
pub twice : (k d : ℕ) → 2 * 2 ^ (k + d) ≡ 2 ^ (k + suc d)
twice k d = rw (add-suc k d, pow-suc 2 (k + d)) (omega arith)

-- ---- a test of several numbers

-- the n numbers from a on pass
abbrev pub Every : (ℕ → Bool) → ℕ → ℕ → Type 0
Every test n a = (k : ℕ) → a ≤ k → k < a + n → T (test k)

-- computed
unfoldable pub each : (ℕ → Bool) → ℕ → ℕ → Bool
each test zero a = true
each test (suc n) a = elim (test a) [ true ↦ each test n (suc a) | false ↦ false ]

pub every : (test : ℕ → Bool) (n a : ℕ) → T (each test n a) → Every test n a
unfolding each
every test zero a t k more less = absurd (omega arith)
every test (suc n) a t k more less = let (here, on) = then_both (test a) (each test n (suc a)) t in elim (eq-or-lt_of_le more) [
  | inl e ↦ rw e at here
  | inr l ↦ every test n (suc a) on k l (omega arith)
]

-- those and the m after them
pub and-every : (test : ℕ → Bool) (n m a : ℕ) → Every test n a → Every test m (a + n) → Every test (n + m) a
and-every test n m a these those k more less = elim (dec_le (a + n) k) [ yes l ↦ those k l (omega arith) | no l ↦ these k more (lt_of_not-le l) ]
