-- Lists cut into pieces of powers of two: the sum of a whole is that of its first piece and of what is left. Assumes nothing.
use mathlib.Core.Path.{◌≡◌, refl, sym, ap, ap₂, ◌∙◌}
use mathlib.Core.Logic.{inl, inr}
use mathlib.Core.List.{List, [], ◌∷◌, ◌++◌}
use Prim.Native.Nat.{ℕ, zero, suc, ◌+◌, ◌*◌, ◌/◌, ◌%◌, ◌^◌, ◌≤◌, ◌<◌}
use native.Mathlib.Nat.{le_trans, add-zero, mod-lt, div-add-mod', div-div-eq-div-mul}
use native.Mathlib.Omega.{arith}
use lib.Dec.{T}
use lib.Pow.{pow_pos}
use lib.ListN.{length, get_or, take, drop, take-append-drop, length-drop}
use lib.Seq.{length-take-le, take_all, take-add, drop-drop, get_or-drop}
use lib.Ieee.{Float, nan, binary32, fits, of_bits, add, mul}
use lib.Ieee.Fits.{add-fits, mul-fits}
use Rattle.units.proofs.Naturals.{le-or-lt, pow_back, pow_back_lt}
use Rattle.sums.specs.Sum.{Sum, total}
use Rattle.sums.specs.Dot.{Lengths, products, next_row, in_pairs, dot_of}
use Rattle.sums.specs.Value.{Behind, block_of, minus_zero, sum_of, behind_last}
use Rattle.sums.proofs.Rows.{twice, steady, cut, length-products, drop-products}
use Rattle.sums.proofs.Neutral.{add_minus_zero}

-- ---- a block
-- from its two halves
pub halves : (k : ℕ) {a b x y : List Float} {r s : Float} → r ≡ block_of k a b → Behind (2 ^ k) a x → Behind (2 ^ k) b y → s ≡ block_of k x y → add binary32 r s ≡ block_of (suc k) a b
unfolding block_of
halves k e f g h = ap₂ (add binary32) e (h ∙ ap₂ (block_of k) f.rest g.rest)

block_fits : (k : ℕ) (a b : List Float) → T (fits binary32 (block_of k a b))
unfolding block_of
block_fits zero a b = mul-fits binary32 (get_or a 0 _) (get_or b 0 _)
block_fits (suc k) a b = add-fits binary32 (block_of k a b) (block_of k (drop (2 ^ k) a) (drop (2 ^ k) b))

-- it is the sum of the row's first 2 ^ k
block_row : (k : ℕ) (a b : List Float) → length a ≡ length b → 2 ^ k ≤ length a → total (in_pairs k (take (2 ^ k) (products a b))) ≡ block_of k a b
unfolding block_of in_pairs products total
block_row zero [] b e l = absurd (omega arith)
block_row zero (x ∷ a) [] e l = absurd (omega arith)
block_row zero (x ∷ a) (y ∷ b) e l = refl
block_row (suc k) a b e l =
    let d = twice k in
    let n = length-products a b e in
    let m = length-products (drop (2 ^ k) a) (drop (2 ^ k) b) (simp length-drop (omega arith)) in
    let i = length-drop (2 ^ k) a in
    let p = pow_pos k in
    let f = length-take-le (2 ^ k) (products a b) (omega arith) in
    let g = length-take-le (2 ^ k) (products (drop (2 ^ k) a) (drop (2 ^ k) b)) (omega arith) in
    ap (λ (r : List Sum). total (in_pairs (suc k) r)) (in_two d)
    ∙ ap total (cut k (take (2 ^ k) (products a b)) (take (2 ^ k) (products (drop (2 ^ k) a) (drop (2 ^ k) b))) f (omega arith) (omega arith))
    ∙ ap₂ (add binary32) (block_row k a b e (omega arith)) (block_row k (drop (2 ^ k) a) (drop (2 ^ k) b) (simp length-drop (omega arith)) (omega arith))
  where
    in_two : 2 ^ suc k ≡ 2 ^ k + 2 ^ k → take (2 ^ suc k) (products a b) ≡ take (2 ^ k) (products a b) ++ take (2 ^ k) (products (drop (2 ^ k) a) (drop (2 ^ k) b))
    in_two d = rw d (take-add (2 ^ k) (2 ^ k) (products a b) ∙ ap (λ (r : List Sum). take (2 ^ k) (products a b) ++ take (2 ^ k) r) (drop-products (2 ^ k) a b e))

-- ---- the sum of all products
pub dot_empty : (a b : List Float) → length a ≡ 0 → dot_of a b ≡ of_bits binary32 0
unfolding products next_row in_pairs total
dot_empty [] b e = refl
dot_empty (x ∷ a) b e = absurd (omega arith)

pub sum_some : (a b : List Float) → 0 < length a → sum_of a b ≡ dot_of a b
unfolding sum_of
sum_some [] b p = absurd (omega arith)
sum_some (x ∷ a) b p = refl

sum_none : (a b : List Float) → length a ≡ 0 → sum_of a b ≡ minus_zero
unfolding sum_of
sum_none [] b e = refl
sum_none (x ∷ a) b e = absurd (omega arith)

module _ (k : ℕ) (a b : List Float) (same : length a ≡ length b) (most : length a ≤ 2 ^ 16) (least : 2 ^ k ≤ length a) where
  abbrev W : ℕ
  W = 2 ^ k

  whole : sum_of a b ≡ dot_of a b
  whole = let p = pow_pos k in sum_some a b (omega arith)

  -- a row of no more than the block
  alone : length a ≡ W → dot_of a b ≡ block_of k a b
  alone f =
      let n = length-products a b same in
      ap total (steady 16 k (products a b) (pow_back k 16 (le_trans least most)) (omega arith))
      ∙ ap (λ (r : List Sum). total (in_pairs k r)) (sym (take_all W (products a b) (omega arith)))
      ∙ block_row k a b same least

  -- a row of more
  followed : W < length a → length a ≤ W + W → dot_of a b ≡ add binary32 (block_of k a b) (dot_of (drop W a) (drop W b))
  unfolding total
  followed g l =
      let d = twice k in
      let n = length-products a b same in
      let m = length-products (drop W a) (drop W b) (simp length-drop (omega arith)) in
      let i = length-drop W a in
      let f = length-take-le W (products a b) (omega arith) in
      let k' : k < 16 = pow_back_lt k 16 (omega arith) in
      ap total (steady 16 (suc k) (products a b) k' (omega arith))
      ∙ ap (λ (r : List Sum). total (in_pairs (suc k) r)) (sym (take-append-drop W (products a b)) ∙ ap (λ (r : List Sum). take W (products a b) ++ r) (drop-products W a b same))
      ∙ ap total (cut k (take W (products a b)) (products (drop W a) (drop W b)) f (omega arith) (omega arith))
      ∙ ap₂ (add binary32) (block_row k a b same least) (ap total (sym (steady 16 k (products (drop W a) (drop W b)) (omega arith) (omega arith))))

  -- either way: the first 2 ^ k, and what is left
  first_piece : length a ≤ W + W → sum_of a b ≡ add binary32 (block_of k a b) (sum_of (drop W a) (drop W b))
  first_piece l =
      let i = length-drop W a in
      elim (le-or-lt (length a) W) [
        | inl g ↦
            whole ∙ alone (omega arith) ∙ sym (add_minus_zero (block_of k a b) (block_fits k a b))
            ∙ ap (add binary32 (block_of k a b)) (sym (sum_none (drop W a) (drop W b) (omega arith)))
        | inr g ↦ whole ∙ followed g l ∙ ap (add binary32 (block_of k a b)) (sym (sum_some (drop W a) (drop W b) (omega arith)))
      ]

-- ---- pieces within two lists of the same length
module _ (a b : List Float) (l : Lengths a b) where
  same_behind : (i : ℕ) → length (drop i a) ≡ length (drop i b)
  same_behind i = let e = l.same in simp length-drop (omega arith)

  few_behind : (i : ℕ) → length (drop i a) ≤ 2 ^ 16
  few_behind i = let m = l.most in simp length-drop (omega arith)

  -- a block of 2 ^ k behind i, and what follows it
  pub piece : (k i : ℕ) {r s : Float} → i + 2 ^ k ≤ length a → length a ≤ i + 2 ^ k + 2 ^ k
      → r ≡ block_of k (drop i a) (drop i b) → s ≡ sum_of (drop (i + 2 ^ k) a) (drop (i + 2 ^ k) b) → add binary32 r s ≡ sum_of (drop i a) (drop i b)
  piece k i least most f g =
      let d = length-drop i a in
      ap₂ (add binary32) f (g ∙ sym (ap₂ sum_of (drop-drop (2 ^ k) i a) (drop-drop (2 ^ k) i b)))
      ∙ sym (first_piece k (drop i a) (drop i b) (same_behind i) (few_behind i) (omega arith) (omega arith))

  -- a digit of the length that is 1 is a block
  odd_digit : (k : ℕ) → length a / 2 ^ k % 2 ≡ 1 → length a / 2 ^ k * 2 ^ k ≡ length a / (2 ^ k * 2) * (2 ^ k * 2) + 2 ^ k
  odd_digit k = doubled (length a / 2 ^ k) (2 ^ k) (length a / (2 ^ k * 2)) (sym (div-div-eq-div-mul (length a) (2 ^ k) 2))
    where
      doubled : (q w p : ℕ) → p ≡ q / 2 → q % 2 ≡ 1 → q * w ≡ p * (w * 2) + w
      doubled q w p e o = let t : q ≡ 2 * p + 1 = omega arith in rw t (omega arith)

  -- for which there is room behind the higher digits
  pub digit_room : (k : ℕ) {x : List Float} → length a / 2 ^ k % 2 ≡ 1 → Behind (length a / (2 ^ k * 2) * (2 ^ k * 2)) a x → 2 ^ k ≤ length x
  digit_room k odd p =
      let h = div-add-mod' (length a) (2 ^ k) in
      let d = odd_digit k odd in
      let m = p.many in
      omega arith

  -- and which stands in front of what lies behind it
  pub digit_on : (k : ℕ) {x y : List Float} {r s : Float} → length a / 2 ^ k % 2 ≡ 1 → s ≡ behind_last (2 ^ k) a b
      → Behind (length a / (2 ^ k * 2) * (2 ^ k * 2)) a x → Behind (length a / (2 ^ k * 2) * (2 ^ k * 2)) b y → r ≡ block_of k x y
      → add binary32 r s ≡ behind_last (2 ^ k * 2) a b
  digit_on k odd f p q g =
      let W = 2 ^ k in
      let h = div-add-mod' (length a) W in
      let m = mod-lt (length a) (pow_pos k) in
      let d = odd_digit k odd in
      piece k (length a / (W * 2) * (W * 2)) (omega arith) (omega arith) (g ∙ ap₂ (block_of k) p.rest q.rest)
      (f ∙ ap (λ (n : ℕ). sum_of (drop n a) (drop n b)) d)

  -- and one that is 0 changes nothing
  pub digit_off : (k : ℕ) {s : Float} → (length a / 2 ^ k % 2 ≡ 1 → ⊥) → s ≡ behind_last (2 ^ k) a b → s ≡ behind_last (2 ^ k * 2) a b
  digit_off k even f = f ∙ ap (λ (n : ℕ). sum_of (drop n a) (drop n b)) (doubled (length a / 2 ^ k) (2 ^ k) (length a / (2 ^ k * 2)) (sym (div-div-eq-div-mul (length a) (2 ^ k) 2)) even)
    where
      doubled : (q w p : ℕ) → p ≡ q / 2 → (q % 2 ≡ 1 → ⊥) → q * w ≡ p * (w * 2)
      doubled q w p e o = let t : q ≡ 2 * p = omega arith in rw t (omega arith)

  -- the last product
  pub last_one : (i : ℕ) → i + 1 ≡ length a → mul binary32 (get_or a i nan) (get_or b i nan) ≡ sum_of (drop i a) (drop i b)
  unfolding block_of
  last_one i e =
      let d = length-drop i a in
      ap₂ (mul binary32) (first a) (first b)
      ∙ sym (sum_some (drop i a) (drop i b) (omega arith) ∙ alone 0 (drop i a) (drop i b) (same_behind i) (few_behind i) (omega arith) (omega arith))
    where
      first : (l : List Float) → get_or l i nan ≡ get_or (drop i l) 0 nan
      first l = sym (get_or-drop i l 0 nan ∙ ap (λ (n : ℕ). get_or l n nan) (add-zero i))

  -- none
  pub none_left : (i : ℕ) → length a ≤ i → minus_zero ≡ sum_of (drop i a) (drop i b)
  none_left i m = let d = length-drop i a in sym (sum_none (drop i a) (drop i b) (omega arith))
