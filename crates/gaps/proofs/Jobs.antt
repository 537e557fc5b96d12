-- A job: 2 ^ top powers from a start on in steps of 1 / 2 ^ r, planned by the roots of two, and what it says when it passes. Assumes nothing.
use mathlib.Core.Path.{◌≡◌}
use mathlib.Core.Bool.{Bool}
use Prim.Native.Nat.{ℕ, suc, ◌+◌, ◌-◌, ◌*◌, ◌/◌, ◌^◌, ◌≤◌, ◌<◌}
use native.Mathlib.Nat.{le_trans, mul-le-mul_right, mul-one, add_assoc, pow-zero}
use native.Mathlib.Omega.{arith}
use lib.Dec.{T}
use lib.Pow.{pow-add}
use Rattle.exact.specs.Power.{AtLeast}
use Rattle.gaps.proofs.Stretch.{Near}
use Rattle.gaps.proofs.Values.{rewritten, at_most_two, product}
use Rattle.gaps.proofs.Roots.{root, root_suc, next_root, Good}
use Rattle.gaps.proofs.Check.{Clear, join, check, plan, check_clear}

module _ (O M τ g E C : ℕ) where
  -- the powers from A on keep g units away from every number τ + M z
  unfoldable pub passes : (r top A : ℕ) → Bool
  unfolding check plan root
  passes r top A = check O M τ g E C (plan O M τ g E C (root O r - O) top (root O (suc r - top))) A

  -- the same from where 2 ^ top powers end
  unfoldable pub passes_later : (r top A : ℕ) → Bool
  unfolding passes root
  passes_later r top A = passes r top (A * root O (r - top) / O)

  module _ (opos : 0 < O) (mpos : 0 < M) (small : E ≤ O) (known : ℕ) (good : (i : ℕ) → i ≤ known → Good O i)
      (Q st r top : ℕ) (qpos : 0 < Q) (whole : st * 2 ^ r ≡ Q) (fits : top ≤ r) (reach : r ≤ known) where
    -- 2 ^ s steps are a root
    root_steps : (s i : ℕ) → i + s ≡ r → Near (root O i) 2 O (st * 2 ^ s) Q
    root_steps s i e = rewritten qpos (through (2 ^ s) (2 ^ i) (rw (← e, pow-add 2 i s) at whole)) (good i (omega arith)).near
      where
        through : (a b : ℕ) → st * (b * a) ≡ Q → 1 * Q ≡ st * a * b
        through a b h = omega arith

    one_step : Near (O + (root O r - O)) 2 O st Q
    one_step = through (root O r) (good r reach).least (rw (pow-zero 2, mul-one st) at (root_steps 0 r (omega arith)))
      where
        through : (R : ℕ) → O ≤ R → Near R 2 O st Q → Near (O + (R - O)) 2 O st Q
        through R l near = let e : O + (R - O) ≡ R = omega arith in rw e near

    pub job_clear : (A e p : ℕ) → Near A e O p Q → (e + 5) * 2 ^ top ≤ E → p + st * 2 ^ top ≤ Q → T (passes r top A) → Clear O M τ g Q st p top
    unfolding passes
    job_clear A e p near few within t =
        check_clear O M τ g E C Q st (root O r - O) opos mpos small one_step.most (next_step one_step.least) top (λ s. root O (suc r - s)) next half top (omega arith) A e p near few within t
      where
        next_step : AtLeast (O + (root O r - O) + 2) O st 0 Q → AtLeast (O + (root O r - O + 2)) O st 0 Q
        next_step h = rw (← add_assoc) h

        next : (s : ℕ) → s < top → next_root O (root O (suc r - suc s)) ≡ root O (suc r - s)
        next s less = let e : suc r - s ≡ suc (suc r - suc s) = omega arith in rw e (root_suc O (suc r - suc s))

        half : (s : ℕ) → s < top → Near (root O (suc r - suc s)) 2 O (st * 2 ^ s) Q × (root O (suc r - suc s) + 2 ≤ 2 * O)
        half s less = (root_steps s (suc r - suc s) (omega arith), (good (suc r - suc s) (omega arith)).fits (omega arith))

    -- two such after one another
    pub jobs_clear : (A e p : ℕ) → Near A e O p Q → (2 * e + 5 + 5) * 2 ^ top ≤ E → p + st * 2 ^ top + st * 2 ^ top ≤ Q → top < r →
        T (passes r top A) → T (passes_later r top A) → Clear O M τ g Q st p (suc top)
    unfolding passes_later
    jobs_clear A e p near few within more t t' =
        join O M τ g Q st p top (job_clear A e p near (le_trans (mul-le-mul_right (2 ^ top) (omega arith)) few) (omega arith) t)
        (job_clear (A * root O (r - top) / O) (2 * e + 5) (p + st * 2 ^ top) later few within t')
      where
        later : Near (A * root O (r - top) / O) (2 * e + 5) O (p + st * 2 ^ top) Q
        later =
            product opos (root O (r - top)) near (at_most_two opos (omega arith) near.most) (root_steps top (r - top) (omega arith))
            ((good (r - top) (omega arith)).fits (omega arith))
