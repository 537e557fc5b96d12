-- What follows from the promise: the result depends on the exact sum alone, so that any order of adding gives the same float. Assumes nothing.
use mathlib.Core.Path.{◌≡◌, refl, sym, ap, ap₂, ◌∙◌}
use mathlib.Core.List.{List, ◌∷◌}
use Prim.Native.Nat.{ℕ, zero, suc, ◌+◌, ◌<◌}
use native.Mathlib.Nat.{le_trans, le_of_eq}
use native.Mathlib.Omega.{arith}
use lib.ListN.{length, get_or}
use lib.Ieee.{Float, nan}
use Rattle.sums.specs.Sum.{above, below}
use Rattle.sums.specs.Dot.{sum_over}
use Rattle.exactsums.specs.Nearest.{Element, Accepts, NearestDot, positives, negatives}
use Rattle.exactsums.proofs.Promise.{same_difference}

-- two pairs of accepted lists with one exact sum have one result
pub same_sum : (a b c d : List Float) {i j : ℕ} {r s : Float} → Accepts a b → Accepts c d → NearestDot a b i r → NearestDot c d j s → positives a b + negatives c d ≡ positives c d + negatives a b → r ≡ s
same_sum a b c d h k x y e = x.value h ∙ same_difference (positives a b) (negatives a b) (positives c d) (negatives c d) e ∙ sym (y.value k)

-- the pairs of elements in another order
pub data Reordered : List Float → List Float → List Float → List Float → Type 0 where
  as_it_is : {a b : List Float} → Reordered a b a b
  swapped : {x y u w : Float} {a b : List Float} → Reordered (x ∷ u ∷ a) (y ∷ w ∷ b) (u ∷ x ∷ a) (w ∷ y ∷ b)
  after : {x y : Float} {a b c d : List Float} → Reordered a b c d → Reordered (x ∷ a) (y ∷ b) (x ∷ c) (y ∷ d)
  then : {a b c d e f : List Float} → Reordered a b c d → Reordered c d e f → Reordered a b e f

-- have the same exact sum
reordered_sum : (f : Float → Float → ℕ) {a b c d : List Float} → Reordered a b c d → sum_over f a b ≡ sum_over f c d
unfolding sum_over
reordered_sum f as_it_is = refl
reordered_sum f (swapped {x = x} {y = y} {u = u} {w = w} {a = a} {b = b}) = turn (f x y) (f u w) (sum_over f a b)
  where
    turn : (i j k : ℕ) → i + (j + k) ≡ j + (i + k)
    turn i j k = omega arith
reordered_sum f (after {x = x} {y = y} h) = ap (λ (n : ℕ). f x y + n) (reordered_sum f h)
reordered_sum f (then h k) = reordered_sum f h ∙ reordered_sum f k

-- and are accepted
reordered_lengths : {a b c d : List Float} → Reordered a b c d → (length a ≡ length c) × (length b ≡ length d)
reordered_lengths as_it_is = (refl, refl)
reordered_lengths swapped = (refl, refl)
reordered_lengths (after h) = let (e, f) = reordered_lengths h in (ap suc e, ap suc f)
reordered_lengths (then h k) = let (e, f) = reordered_lengths h in let (g, i) = reordered_lengths k in (e ∙ g, f ∙ i)

-- all elements of a list are
pub record All (l : List Float) : Type 0 where
  pub each : (i : ℕ) → i < length l → Element (get_or l i nan)

swap_all : {x u : Float} {a : List Float} → All (x ∷ u ∷ a) → All (u ∷ x ∷ a)
swap_all {x} {u} {a} h = record { each = go }
  where
    go : (i : ℕ) → i < length (u ∷ x ∷ a) → Element (get_or (u ∷ x ∷ a) i nan)
    go zero l = h.each 1 (omega arith)
    go (suc zero) l = h.each 0 (omega arith)
    go (suc (suc i)) l = h.each (suc (suc i)) l

after_all : {x : Float} {a c : List Float} → (All a → All c) → All (x ∷ a) → All (x ∷ c)
after_all {x} {a} {c} f h = record { each = go }
  where
    go : (i : ℕ) → i < length (x ∷ c) → Element (get_or (x ∷ c) i nan)
    go zero l = h.each 0 (omega arith)
    go (suc i) l = (f (record { each = λ k m. h.each (suc k) (omega arith) })).each i (omega arith)

reordered_all : {a b c d : List Float} → Reordered a b c d → (All a → All c) × (All b → All d)
reordered_all as_it_is = (λ h. h, λ h. h)
reordered_all swapped = (swap_all, swap_all)
reordered_all (after h) = let (f, g) = reordered_all h in (after_all f, after_all g)
reordered_all (then h k) = let (f, g) = reordered_all h in let (i, j) = reordered_all k in (λ m. i (f m), λ m. j (g m))

pub reordered_accepted : {a b c d : List Float} → Reordered a b c d → Accepts a b → Accepts c d
reordered_accepted o h =
    let (e, f) = reordered_lengths o in
    let (p, q) = reordered_all o in
    record {
      lengths = record { same = sym e ∙ h.lengths.same ∙ f; most = le_trans (le_of_eq (sym e)) h.lengths.most };
      elements = record { first = (p (record { each = h.elements.first })).each; second = (q (record { each = h.elements.second })).each };
    }

-- so in whatever order the products are added, the answer is code 0 and the same float
pub any_order : (a b c d : List Float) {i j : ℕ} {r s : Float} → Reordered a b c d → Accepts a b → NearestDot a b i r → NearestDot c d j s → (i ≡ 0) × (j ≡ 0) × (r ≡ s)
any_order a b c d o h x y =
    let k = reordered_accepted o h in
    (x.success h, y.success k, same_sum a b c d h k x y (ap₂ (λ (u v : ℕ). u + v) (reordered_sum above o) (sym (reordered_sum below o))))
