-- A whole job in one test: 2 ^ s powers in equal steps, halved until each part is a stretch that passes. Assumes nothing.
use mathlib.Core.Path.{◌≡◌}
use mathlib.Core.Bool.{Bool, true, false}
use Prim.Native.Nat.{ℕ, zero, suc, ◌+◌, ◌-◌, ◌*◌, ◌/◌, ◌^◌, ◌≤◌, ◌<◌}
use native.Mathlib.Nat.{le_trans, le_dest, le_of_lt, lt_of_not-le, mul-add, add_assoc, pow-suc, le-mul_of_pos_right}
use native.Mathlib.Decide.{dec_le}
use native.Mathlib.Omega.{arith}
use lib.Dec.{T}
use lib.Pow.{pow_pos, suc_ones}
use Rattle.exact.specs.Power.{AtMost, AtLeast}
use Rattle.gaps.proofs.Stretch.{Away, Near, ok, then_both, stretch_away}
use Rattle.gaps.proofs.Numbers.{slope_of, first_of, width_of, will_do, numbers_of}
use Rattle.gaps.proofs.Values.{at_most_two, product}
use Rattle.gaps.proofs.Roots.{next_root}

-- 2 ^ s powers from p / Q on in steps of st / Q are all g units away from all targets τ + M z
abbrev pub Clear : (O M τ g Q st p s : ℕ) → Type 0
Clear O M τ g Q st p s = (j : ℕ) → j < 2 ^ s → (z : ℕ) → Away (τ + M * z) g O (p + st * j) Q

-- a half after the other
pub join : (O M τ g Q st p s : ℕ) → Clear O M τ g Q st p s → Clear O M τ g Q st (p + st * 2 ^ s) s → Clear O M τ g Q st p (suc s)
join O M τ g Q st p s first second j less z = elim (dec_le (2 ^ s) j) [ yes h ↦ later (le_dest h) | no h ↦ first j (lt_of_not-le h) z ]
  where
    later : (i : ℕ) × (2 ^ s + i ≡ j) → Away (τ + M * z) g O (p + st * j) Q
    later (i, e) = rw (← e, mul-add st (2 ^ s) i, ← add_assoc p (st * 2 ^ s) (st * i)) (second i (omega arith) z)

-- what to do with a part: halve it, with 2 ^ of half its length; or try it as one stretch of N + 1 powers and halve it only where that fails
pub data Plan : Type 0 where
  stop : Plan
  halve : ℕ → Plan → Plan
  try : (N d k w h : ℕ) → Plan → Plan

module _ (O M τ g E C : ℕ) where
  -- the test of a part from A on
  unfoldable pub check : Plan → ℕ → Bool
  unfolding ok
  check stop A = false
  check (halve h P) A = elim (check P A) [ true ↦ check P (A * h / O) | false ↦ false ]
  check (try N d k w h P) A = elim (ok O M τ g E C N d k w A) [ true ↦ true | false ↦ elim (check P A) [ true ↦ check P (A * h / O) | false ↦ false ] ]

  module _ (c : ℕ) where
    -- a part of n powers is tried where numbers for it will do
    unfoldable layer : ℕ → ℕ → Plan → Plan
    unfolding will_do slope_of first_of width_of
    layer n h P = elim (will_do O M τ g E C c n) [ true ↦ try (n - 1) (slope_of O M τ g E C c n) (first_of O M τ g E C c n) (width_of O M τ g E C c n) h P | false ↦ halve h P ]

    -- the plan of 2 ^ s powers, h being 2 ^ of half their length
    unfoldable pub plan : ℕ → ℕ → Plan
    unfolding layer next_root
    plan zero h = layer 1 h stop
    plan (suc s) h = layer (2 ^ suc s) h (plan s (next_root O h))

  -- ---- why it is right

  module _ (Q st c : ℕ) (opos : 0 < O) (mpos : 0 < M) (small : E ≤ O) (step : AtMost (O + c) O st 0 Q) (step' : AtLeast (O + (c + 2)) O st 0 Q) where
    -- a layer of the plan: either the stretch passes, or both halves do
    module _ (s h : ℕ) (P : Plan) (A e p : ℕ) (near : Near A e O p Q) (few : e ≤ E) (within : p ≤ Q) (halves : T (check P A) → T (check P (A * h / O)) → Clear O M τ g Q st p s) where
      tried : T (will_do O M τ g E C c (2 ^ s)) →
          T (ok O M τ g E C (2 ^ s - 1) (slope_of O M τ g E C c (2 ^ s)) (first_of O M τ g E C c (2 ^ s)) (width_of O M τ g E C c (2 ^ s)) A) → Clear O M τ g Q st p s
      tried will t j less z =
          stretch_away O M τ g E C c (2 ^ s - 1) _ _ _ _ _ _ (rw (suc_ones s) at (numbers_of O M τ g E C c (2 ^ s - 1) (rw (suc_ones s) will))) opos mpos small
          near few (at_most_two opos within near.most) step step' t j (omega arith) z

      either : (x : Bool) → (T x → Clear O M τ g Q st p s) → T (elim x [ true ↦ true | false ↦ elim (check P A) [ true ↦ check P (A * h / O) | false ↦ false ] ]) → Clear O M τ g Q st p s
      either true stretch t = stretch tt
      either false stretch t = let (a, b) = then_both (check P A) (check P (A * h / O)) t in halves a b

      layer_clear : (x : Bool) → (T x → T (will_do O M τ g E C c (2 ^ s))) →
          T (check (elim x [
            | true ↦ try (2 ^ s - 1) (slope_of O M τ g E C c (2 ^ s)) (first_of O M τ g E C c (2 ^ s)) (width_of O M τ g E C c (2 ^ s)) h P
            | false ↦ halve h P
          ]) A) → Clear O M τ g Q st p s
      unfolding check
      layer_clear true will t = either (ok O M τ g E C (2 ^ s - 1) (slope_of O M τ g E C c (2 ^ s)) (first_of O M τ g E C c (2 ^ s)) (width_of O M τ g E C c (2 ^ s)) A) (tried (will tt)) t
      layer_clear false will t = let (a, b) = then_both (check P A) (check P (A * h / O)) t in halves a b

    same : (s : ℕ) {x y : ℕ} → x ≡ y → (A : ℕ) → T (check (plan c s x) A) → T (check (plan c s y) A)
    same s e A t = rw e at t

    -- the halves' lengths: one is the root of that before it
    module _ (top : ℕ) (hs : ℕ → ℕ) (next : (s : ℕ) → s < top → next_root O (hs (suc s)) ≡ hs s)
        (half : (s : ℕ) → s < top → Near (hs (suc s)) 2 O (st * 2 ^ s) Q × (hs (suc s) + 2 ≤ 2 * O)) where
      -- what passes is clear of targets
      pub check_clear : (s : ℕ) → s ≤ top → (A e p : ℕ) → Near A e O p Q → (e + 5) * 2 ^ s ≤ E → p + st * 2 ^ s ≤ Q → T (check (plan c s (hs s)) A) → Clear O M τ g Q st p s
      unfolding plan layer
      check_clear zero fits A e p near few within t =
          layer_clear zero (hs zero) stop A e p near (omega arith) (omega arith) (λ a b. absurd (unfold check in a)) (will_do O M τ g E C c 1) (λ x. x) t
      check_clear (suc s) fits A e p near few within t =
          let (enough, second, less, inside) = halved (2 ^ s) (rw (pow-suc 2 s) at few) (rw (pow-suc 2 s) at within) in
          let low : p ≤ Q = omega arith in
          layer_clear (suc s) (hs (suc s)) (plan c s (next_root O (hs (suc s)))) A e p near (le_trans (omega arith) (le_trans (le-mul_of_pos_right (e + 5) (pow_pos (suc s))) few)) low
          (λ a b. join O M τ g Q st p s (check_clear s (le_of_lt fits) A e p near enough less (same s (next s fits) A a))
          (check_clear s (le_of_lt fits) (A * hs (suc s) / O) (2 * e + 5) (p + st * 2 ^ s)
          (product opos (hs (suc s)) near (at_most_two opos low near.most) (half s fits).0 (half s fits).1) second inside (same s (next s fits) (A * hs (suc s) / O) b)))
          (will_do O M τ g E C c (2 ^ suc s)) (λ x. x) t
        where
          halved : (m : ℕ) → (e + 5) * (m * 2) ≤ E → p + st * (m * 2) ≤ Q → ((e + 5) * m ≤ E) × ((2 * e + 5 + 5) * m ≤ E) × (p + st * m ≤ Q) × (p + st * m + st * m ≤ Q)
          halved m x y = omega arith
