-- Lists by their elements, and sums of families of whole numbers. Assumes nothing.
use mathlib.Core.Path.{◌≡◌, refl, sym, ap₂, ◌∙◌}
use mathlib.Core.Logic.{inl, inr}
use mathlib.Core.List.{List, map}
use Prim.Native.Nat.{ℕ, zero, suc, ◌+◌, ◌*◌, ◌≤◌, ◌<◌}
use native.Mathlib.Nat.{le_trans}
use native.Mathlib.Omega.{arith}
use Rattle.units.proofs.Naturals.{le-or-lt}
use lib.ListN.{length, get_or, length-map}
use lib.Seq.{ext_get_or}
use Rattle.std.proofs.lemmas.List.{get_or-map}
use Rattle.weights.specs.Lists.{sum}

-- ---- lists
-- a list with the same elements is the list of images
pub is_map : {A B : Type 0} (f : A → B) (a : A) (b : B) (l : List A) (m : List B) → length m ≡ length l → ((i : ℕ) → i < length l → get_or m i b ≡ f (get_or l i a)) → m ≡ map f l
is_map f a b l m e h = ext_get_or b m (map f l) (e ∙ sym (length-map l f)) (λ i k. let k' : i < length l = omega arith in h i k' ∙ sym (get_or-map f l i a b k'))

-- ---- families

-- what is in one proportion member by member, but for k each, is so in sum
pub sum_within : (f g : ℕ → ℕ) (a b k n : ℕ) → ((j : ℕ) → j < n → f j * a ≤ (g j + k) * b) → sum f n * a ≤ (sum g n + k * n) * b
unfolding sum
sum_within f g a b k zero h = omega arith
sum_within f g a b k (suc n) h = added (sum f n) (sum g n) (f n) (g n) (sum_within f g a b k n (λ j l. h j (omega arith))) (h n (omega arith))
  where
    added : (F G u v : ℕ) → F * a ≤ (G + k * n) * b → u * a ≤ (v + k) * b → (F + u) * a ≤ (G + v + k * suc n) * b
    added F G u v p q = omega arith

-- what is in one proportion member by member is so in sum
pub sum-le : (f g : ℕ → ℕ) (a b n : ℕ) → ((j : ℕ) → j < n → f j * a ≤ g j * b) → sum f n * a ≤ sum g n * b
sum-le f g a b n h = let w = sum_within f g a b 0 n (λ j l. let m = h j l in omega arith) in omega arith

-- a member is at most the sum
pub member : (f : ℕ → ℕ) (n j : ℕ) → j < n → f j ≤ sum f n
unfolding sum
member f zero j h = absurd (omega arith)
member f (suc n) j h = elim (le-or-lt n j) [
  | inl l ↦ let e : j ≡ n = omega arith in rw e (omega arith)
  | inr l ↦ le_trans (member f n j l) (omega arith)
]

-- and members of at most k sum to at most n k
pub sum_few : (f : ℕ → ℕ) (n k : ℕ) → ((j : ℕ) → j < n → f j ≤ k) → sum f n ≤ n * k
unfolding sum
sum_few f zero k h = omega arith
sum_few f (suc n) k h = added (sum f n) (f n) (sum_few f n k (λ j l. h j (omega arith))) (h n (omega arith))
  where
    added : (F u : ℕ) → F ≤ n * k → u ≤ k → F + u ≤ suc n * k
    added F u p q = omega arith

-- families with the same members have the same sum
pub sum_same : (f g : ℕ → ℕ) (n : ℕ) → ((j : ℕ) → j < n → f j ≡ g j) → sum f n ≡ sum g n
unfolding sum
sum_same f g zero h = refl
sum_same f g (suc n) h = ap₂ (λ (a b : ℕ). a + b) (sum_same f g n (λ j l. h j (omega arith))) (h n (omega arith))
