-- One stretch: n powers 2 ^ t in equal steps of t, none of which comes near a number τ + M z. The numbers of a stretch's line are made from c, and tested.
-- A number v stands for v / O. Assumes nothing.
use mathlib.Core.Path.{◌≡◌, refl}
use mathlib.Core.Bool.{Bool, true, false}
use Prim.Native.Nat.{ℕ, suc, ◌+◌, ◌-◌, ◌*◌, ◌/◌, ◌%◌, ◌≤◌, ◌<◌}
use native.Mathlib.Nat.{le_dest, le_of_lt, lt_of_not-le, mul-le-mul_left, mul-le-mul_right, mul-add, div-add-mod, div-mul-le_self, lt-div-mul-add}
use native.Mathlib.Decide.{dec_le}
use native.Mathlib.Omega.{arith}
use lib.Dec.{T, leb, leb→le}
use Rattle.exact.specs.Power.{AtMost, AtLeast}
use Rattle.exact.proofs.Power.{least_of_more}
use Rattle.gaps.proofs.Steps.{free, free_sound}
use Rattle.gaps.proofs.Line.{LineBelow, LineAbove, line_below, line_above}

-- 2 ^ (p / Q) is no nearer to v / O than g / O
pub data Away (v g O p Q : ℕ) : Type 0 where
  over : AtMost (v + g) O p 0 Q → Away v g O p Q
  under : (u : ℕ) → u + g ≤ v → AtLeast u O p 0 Q → Away v g O p Q

-- A / O is at most 2 ^ (p / Q), and e more at least
pub record Near (A e O p Q : ℕ) : Type 0 where
  pub most : AtMost A O p 0 Q
  pub least : AtLeast (A + e) O p 0 Q

-- two tests, the second only where the first passes
pub then_both : (x y : Bool) → T (elim x [ true ↦ y | false ↦ false ]) → T x × T y
then_both true y t = (tt, t)
then_both false y t = absurd t

-- what is looked for and how: units O, targets τ + M z, at a distance g; E the doubt that a start may have, C rounds of M that no start reaches
module _ (O M τ g E C : ℕ) where
  -- the test of a stretch of N + 1 powers from A on, by its numbers
  unfoldable pub ok : ℕ → ℕ → ℕ → ℕ → ℕ → Bool
  unfolding free
  ok N d k w A = let l = (k - A) % M in elim (leb (l + w) M) [ true ↦ free 40 N (A * d / O) M l w | false ↦ false ]

  -- the numbers of a stretch
  pub record Numbers (c N d lo u hi k w : ℕ) : Type 0 where
    pub below : LineBelow O c (suc N) d lo
    pub above : LineAbove O (c + 2) (suc N) d u E hi
    pub target : k + (g + hi) ≡ τ + M * C
    pub beyond : 2 * O ≤ k
    pub width : 2 * g + lo + hi ≤ w

  module _ (c N d lo u hi k w : ℕ) (numbers : Numbers c N d lo u hi k w) (opos : 0 < O) (mpos : 0 < M) (small : E ≤ O) where
    -- a power near a target is a step in the arc: a is how far the line has risen
    hit : (A a l y z : ℕ) → A ≤ 2 * O → M * y + l ≡ k - A → l + w ≤ M → A + a < τ + M * z + g + lo → τ + M * z < A + a + hi + g →
        (x : ℕ) × (M * x + l ≤ a) × (a ≤ M * x + l + w)
    hit A a l y z low split room above below = elim (dec_le C (y + z)) [ yes h ↦ inside (le_dest h) | no h ↦ absurd (outside (mul-le-mul_left M (lt_of_not-le h))) ]
      where
        from : M * y + l + M * z < a + M * C
        from = omega (arith, numbers.target, numbers.beyond)

        to : a + M * C < M * y + l + M * z + w
        to = omega (arith, numbers.target, numbers.beyond, numbers.width)

        inside : (x : ℕ) × (C + x ≡ y + z) → (x : ℕ) × (M * x + l ≤ a) × (a ≤ M * x + l + w)
        inside (x, e) = (x, omega (arith, rounds), omega (arith, rounds))
          where
            rounds : M * C + M * x ≡ M * y + M * z
            rounds = rw (← mul-add M C x, ← mul-add M y z, e) refl

        outside : M * suc (y + z) ≤ M * C → ⊥
        outside h = omega arith

    -- every power of an accepted stretch is away from every target
    pub stretch_away : {A e p st Q : ℕ} → Near A e O p Q → e ≤ E → A ≤ 2 * O → AtMost (O + c) O st 0 Q → AtLeast (O + (c + 2)) O st 0 Q → T (ok N d k w A) →
        (j : ℕ) → j ≤ N → (z : ℕ) → Away (τ + M * z) g O (p + st * j) Q
    unfolding ok
    stretch_away {A} {e} {p} {st} {Q} near few low step step' t j less z =
        elim (dec_le (τ + M * z + g + lo) (A + j * b)) [
          | yes h ↦ over (line_below c (suc N) d lo opos numbers.below low near.most step b j (τ + M * z + g) (div-mul-le_self (A * d) O) (omega arith) h)
          | no n ↦ elim (dec_le (A + j * b + hi + g) (τ + M * z)) [
            | yes h ↦ under (τ + M * z - g) (omega arith)
                (line_above A c' N d u E hi opos numbers.above (omega arith) wider step' b j (τ + M * z - g) (le_of_lt (lt-div-mul-add opos)) less (omega arith))
            | no m ↦ absurd (missed (lt_of_not-le n) (lt_of_not-le m))
          ]
        ]
      where
        b : ℕ
        b = A * d / O

        c' : ℕ
        c' = c + 2

        wider : AtLeast (A + E) O p 0 Q
        wider = least_of_more opos (mul-le-mul_right O (omega arith)) near.least

        missed : A + j * b < τ + M * z + g + lo → τ + M * z < A + j * b + hi + g → ⊥
        missed above below =
            let (room, clear) = then_both (leb ((k - A) % M + w) M) (free 40 N b M ((k - A) % M) w) t in
            let (x, from, to) = hit A (j * b) ((k - A) % M) ((k - A) / M) z low (div-add-mod (k - A) M) (leb→le ((k - A) % M + w) M room) above below in
            free_sound 40 N b M ((k - A) % M) w clear mpos j x less (record { from = omega arith; to = omega arith })
