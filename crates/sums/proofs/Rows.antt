-- Rows of sums whose neighbours are added in pairs: how long they are, what they add up to, how often they round, and where a row can be cut. Assumes nothing.
use mathlib.Core.Path.{◌≡◌, refl, ap, ◌∙◌}
use mathlib.Core.List.{List, [], ◌∷◌, ◌++◌}
use Prim.Native.Nat.{ℕ, zero, suc, ◌+◌, ◌-◌, ◌*◌, ◌^◌, ◌≤◌, ◌<◌}
use native.Mathlib.Omega.{arith}
use lib.ListN.{length, drop}
use lib.Pow.{pow-add}
use lib.Ieee.{Float}
use Rattle.sums.specs.Sum.{Sum, plus}
use Rattle.sums.specs.Dot.{products, next_row, in_pairs, sum_over}
use Rattle.sums.proofs.Count.{added, joined, roundings}

-- ---- lengths
pub length_next : (r : List Sum) → (length r ≤ 2 * length (next_row r)) × (2 * length (next_row r) ≤ length r + 1)
unfolding next_row
length_next [] = (omega arith, omega arith)
length_next (s ∷ []) = (omega arith, omega arith)
length_next (s ∷ t ∷ r) = let (h, g) = length_next r in (omega arith, omega arith)

pub twice : (h : ℕ) → 2 ^ suc h ≡ 2 ^ h + 2 ^ h
twice h = ap (λ (n : ℕ). 2 ^ n) one_more ∙ pow-add 2 1 h ∙ doubled (2 ^ h)
  where
    one_more : suc h ≡ 1 + h
    one_more = omega arith

    doubled : (n : ℕ) → 2 * n ≡ n + n
    doubled n = omega arith

-- a row of at most 2 ^ (h + 1) is followed by one of at most 2 ^ h
half : (h : ℕ) (r : List Sum) → length r ≤ 2 ^ suc h → length (next_row r) ≤ 2 ^ h
half h r l = let e = twice h in let (f, g) = length_next r in omega arith

-- ---- exact sums
-- f of every pair of factors in a row, added up exactly
unfoldable pub added_all : (Float → Float → ℕ) → List Sum → ℕ
added_all f [] = 0
added_all f (s ∷ r) = added f s + added_all f r

added_next : (f : Float → Float → ℕ) (r : List Sum) → added_all f (next_row r) ≡ added_all f r
unfolding next_row added_all added
added_next f [] = refl
added_next f (s ∷ []) = refl
added_next f (s ∷ t ∷ r) = let h = added_next f r in omega arith

-- nothing is lost of a row of at most 2 ^ h, and nothing counted twice
pub added_pairs : (f : Float → Float → ℕ) (h : ℕ) (r : List Sum) → length r ≤ 2 ^ h → added f (in_pairs h r) ≡ added_all f r
unfolding in_pairs added_all added
added_pairs f zero [] l = refl
added_pairs f zero (s ∷ []) l = omega arith
added_pairs f zero (s ∷ t ∷ r) l = absurd (omega arith)
added_pairs f (suc h) r l = added_pairs f h (next_row r) (half h r l) ∙ added_next f r

pub added_products : (f : Float → Float → ℕ) (a b : List Float) → added_all f (products a b) ≡ sum_over f a b
unfolding products sum_over added_all added
added_products f [] b = refl
added_products f (x ∷ a) [] = refl
added_products f (x ∷ a) (y ∷ b) = let h = added_products f a b in omega arith

-- ---- roundings
-- every sum of a row has gone through k at most
unfoldable pub Rounded : ℕ → List Sum → Type 0
Rounded k [] = Unit
Rounded k (s ∷ r) = (roundings s ≤ k) × Rounded k r

joined_most : (j k m : ℕ) → j ≤ m → k ≤ m → joined j k ≤ m + 1
unfolding joined
joined_most zero k m h g = omega arith
joined_most (suc j) zero m h g = omega arith
joined_most (suc j) (suc k) m h g = omega arith

rounded_next : (k : ℕ) (r : List Sum) → Rounded k r → Rounded (k + 1) (next_row r)
unfolding Rounded next_row roundings
rounded_next k [] p = tt
rounded_next k (s ∷ []) (p, q) = (omega arith, tt)
rounded_next k (s ∷ t ∷ r) (p, (q, u)) = (joined_most (roundings s) (roundings t) k p q, rounded_next k r u)

-- one more with each row
pub rounded_pairs : (h k : ℕ) (r : List Sum) → Rounded k r → roundings (in_pairs h r) ≤ h + k
unfolding in_pairs Rounded roundings
rounded_pairs zero k [] p = omega arith
rounded_pairs zero k (s ∷ r) (p, q) = omega arith
rounded_pairs (suc h) k r p = let g = rounded_pairs h (k + 1) (next_row r) (rounded_next k r p) in omega arith

pub rounded-products : (a b : List Float) → Rounded 1 (products a b)
unfolding products Rounded roundings
rounded-products [] b = tt
rounded-products (x ∷ a) [] = tt
rounded-products (x ∷ a) (y ∷ b) = (omega arith, rounded-products a b)

-- ---- more rows than it takes change nothing
pub steady : (h k : ℕ) (r : List Sum) → k ≤ h → length r ≤ 2 ^ k → in_pairs h r ≡ in_pairs k r
unfolding in_pairs next_row
steady zero zero r g l = refl
steady zero (suc k) r g l = absurd (omega arith)
steady (suc h) zero [] g l = steady h zero [] (omega arith) l
steady (suc h) zero (s ∷ []) g l = steady h zero (s ∷ []) (omega arith) l
steady (suc h) zero (s ∷ t ∷ r) g l = absurd (omega arith)
steady (suc h) (suc k) r g l = steady h k (next_row r) (omega arith) (half k r l)

-- ---- a row is cut behind its first 2 ^ k
next_append : (m : ℕ) (r s : List Sum) → length r ≡ 2 * m → next_row (r ++ s) ≡ next_row r ++ next_row s
unfolding next_row
next_append m [] s e = refl
next_append m (t ∷ []) s e = absurd (omega arith)
next_append m (t ∷ u ∷ r) s e = ap (λ (l : List Sum). plus t u ∷ l) (next_append (m - 1) r s (omega arith))

pub cut : (k : ℕ) (r s : List Sum) → length r ≡ 2 ^ k → 0 < length s → length s ≤ 2 ^ k → in_pairs (suc k) (r ++ s) ≡ plus (in_pairs k r) (in_pairs k s)
unfolding in_pairs next_row
cut zero [] s e p l = absurd (omega arith)
cut zero (t ∷ []) [] e p l = absurd (omega arith)
cut zero (t ∷ []) (u ∷ []) e p l = refl
cut zero (t ∷ []) (u ∷ v ∷ s) e p l = absurd (omega arith)
cut zero (t ∷ t' ∷ r) s e p l = absurd (omega arith)
cut (suc k) r s e p l =
    let d = twice k in
    let (f, g) = length_next r in
    let (h, i) = length_next s in
    ap (in_pairs (suc k)) (next_append (2 ^ k) r s (omega arith)) ∙ cut k (next_row r) (next_row s) (omega arith) (omega arith) (half k s l)

-- ---- the row of products
pub length-products : (a b : List Float) → length a ≡ length b → length (products a b) ≡ length a
unfolding products
length-products [] b e = refl
length-products (x ∷ a) [] e = absurd (omega arith)
length-products (x ∷ a) (y ∷ b) e = let h = length-products a b (omega arith) in omega arith

pub drop-products : (i : ℕ) (a b : List Float) → length a ≡ length b → drop i (products a b) ≡ products (drop i a) (drop i b)
unfolding products
drop-products zero a b e = refl
drop-products (suc i) [] b e = refl
drop-products (suc i) (x ∷ a) [] e = absurd (omega arith)
drop-products (suc i) (x ∷ a) (y ∷ b) e = drop-products i a b (omega arith)
