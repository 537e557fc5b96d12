-- Gathering: one product more in the bins is one product less among those to come. Assumes nothing.
use mathlib.Core.Path.{◌≡◌, sym}
use mathlib.Core.Logic.{inl, inr}
use mathlib.Core.List.{List}
use Prim.Native.Nat.{ℕ, ◌+◌, ◌*◌, ◌^◌, ◌≤◌, ◌<◌, zero-le}
use native.Mathlib.Nat.{le_of_eq, le_trans, lt_of_lt_of_le, mul-le-mul_right}
use native.Mathlib.Numerals.{add-one}
use native.Mathlib.Omega.{arith}
use lib.ListN.{length, get_or, set, drop, drop_of_length-le}
use lib.Seq.{drop-cons}
use lib.Ieee.{Float, nan}
use Rattle.units.specs.Answers.{float_bits}
use Rattle.units.proofs.Naturals.{le-or-lt}
use Rattle.sums.specs.Sum.{above, below}
use Rattle.sums.specs.Dot.{sum_over}
use Rattle.exactsums.specs.Nearest.{Element, positives, negatives}
use Rattle.exactsums.specs.Work.{Sized, IsProduct, row_of, number, Small, Level, Added, Gathered}
use Rattle.exactsums.proofs.Bins.{small_more, small_set}
use Rattle.exactsums.proofs.Patterns.{none_of, none_or_sized, adds_nothing, adds_one}

-- ---- what `add` does
-- nothing where one is not from 2 ^ -40 to 2 ^ 40 in size, since it is 0 then
pub added_none : (x y : ℕ) (bins : List ℕ) → ¬ (Sized x × Sized y) → Added x y bins bins
added_none x y bins n = record {
  plus = λ u w r q is js. stays (nothing u w r q is js).0;
  minus = λ u w r q is js. stays (nothing u w r q is js).1;
  small = λ t h. small_more t bins h;
}
  where
    nothing : (u w : Float) → Element u → Element w → x ≡ float_bits u → y ≡ float_bits w → (above u w ≡ 0) × (below u w ≡ 0)
    nothing u w r q is js = adds_nothing u w r q x y is js (elim (none_or_sized u r x is) [
      | inl e ↦ inl (none_of u r x is e)
      | inr s ↦ elim (none_or_sized w q y js) [ inl e ↦ inr (none_of w q y js e) | inr t ↦ absurd (n (s, t)) ]
    ])

    stays : {n m : ℕ} → m ≡ 0 → n ≡ n + m
    stays e = omega arith

-- else the product goes to its bin
pub added_one : (x y : ℕ) (bins : List ℕ) (d k i : ℕ) → length bins ≡ 82 → IsProduct x y d k → Sized x → Sized y → i ≡ row_of x y + k → Added x y bins (set bins i (get_or bins i 0 + d))
added_one x y bins d k i long p z w at = record {
  plus = λ u v r q is js. (adds_one u v r q x y is js bins long d k p z w i at).0;
  minus = λ u v r q is js. (adds_one u v r q x y is js bins long d k p z w i at).1;
  small = λ t h. small_set t bins i d h (room p.room at) p.small;
}
  where
    room : k ≤ 40 → i ≡ row_of x y + k → i < 82
    room l e = omega arith

-- ---- the products to come
module _ (f : Float → Float → ℕ) (a b : List Float) where
  pub next_product : (i : ℕ) → i < length a → i < length b → sum_over f (drop i a) (drop i b) ≡ f (get_or a i nan) (get_or b i nan) + sum_over f (drop (i + 1) a) (drop (i + 1) b)
  unfolding sum_over
  next_product i l m = rw (add-one i, drop-cons a i nan l, drop-cons b i nan m)

  pub no_product : (i : ℕ) → length a ≤ i → sum_over f (drop i a) (drop i b) ≡ 0
  unfolding sum_over
  no_product i l = rw (drop_of_length-le a l)

-- ---- on the way: the elements before the place i are accepted, and what is in the bins and what is to come are the whole sum
pub record Underway (a b : List Float) (bins : List ℕ) (i : ℕ) : Type 0 where
  pub upto : i ≤ length a
  pub small : Small (i + 1) bins
  pub first : (k : ℕ) → k < i → Element (get_or a k nan)
  pub second : (k : ℕ) → k < i → Element (get_or b k nan)
  pub sum : number bins 0 41 * 2 ^ 172 + sum_over above (drop i a) (drop i b) + negatives a b ≡ number bins 41 41 * 2 ^ 172 + sum_over below (drop i a) (drop i b) + positives a b

pub small_most : (t u : ℕ) (bins : List ℕ) → t ≤ u → Small t bins → Small u bins
small_most t u bins l h = record { long = h.long; each = λ k. le_trans (h.each k) (mul-le-mul_right (2 ^ 51) l) }

-- the beginning
pub begun : (a b : List Float) (bins : List ℕ) → Level bins → Underway a b bins 0
begun a b bins h = record {
  upto = zero-le;
  small = h.small;
  first = λ k l. absurd (omega arith);
  second = λ k l. absurd (omega arith);
  sum = rw h.same (turn (number bins 41 41 * 2 ^ 172) (positives a b) (negatives a b));
}
  where
    turn : (x p n : ℕ) → x + p + n ≡ x + n + p
    turn x p n = omega arith

-- one pair of elements more
pub further : (a b : List Float) (bins after : List ℕ) (i x y : ℕ) → Underway a b bins i → i < length a → i < length b → Element (get_or a i nan) → Element (get_or b i nan)
    → x ≡ float_bits (get_or a i nan) → y ≡ float_bits (get_or b i nan) → Added x y bins after → Underway a b after (i + 1)
further a b bins after i x y h l m r q is js d = record {
  upto = omega arith;
  small = rw (add-one (i + 1)) (d.small (i + 1) h.small);
  first = passed a h.first r;
  second = passed b h.second q;
  sum = rw (d.plus u w r q is js, d.minus u w r q is js)
      (moved (number bins 0 41 * 2 ^ 172) (number bins 41 41 * 2 ^ 172) (next above) (next below) (above u w) (below u w) (negatives a b) (positives a b) (next_product above a b i l m) (next_product below a b i l m) h.sum);
}
  where
    u : Float
    u = get_or a i nan

    w : Float
    w = get_or b i nan

    next : (Float → Float → ℕ) → ℕ
    next f = sum_over f (drop (i + 1) a) (drop (i + 1) b)

    passed : (c : List Float) → ((k : ℕ) → k < i → Element (get_or c k nan)) → Element (get_or c i nan) → (k : ℕ) → k < i + 1 → Element (get_or c k nan)
    passed c before e k f = elim (le-or-lt i k) [ inl g ↦ let s : k ≡ i = omega arith in rw s e | inr g ↦ before k g ]

    moved : (s t x y f g n p : ℕ) {v z : ℕ} → v ≡ f + x → z ≡ g + y → s + v + n ≡ t + z + p → s + f + x + n ≡ t + g + y + p
    moved s t x y f g n p k l e = omega arith

-- the end
pub ended : (a b : List Float) (bins : List ℕ) (i : ℕ) → length a ≡ length b → length a ≤ 4096 → Underway a b bins i → length a ≤ i → Gathered a b bins
ended a b bins i e m h l = record {
  elements = record { first = λ k f. h.first k (lt_of_lt_of_le f l); second = λ k f. h.second k (lt_of_lt_of_le f (le_trans (le_of_eq (sym e)) l)) };
  sum = whole (number bins 0 41 * 2 ^ 172) (number bins 41 41 * 2 ^ 172) (negatives a b) (positives a b) (no_product above a b i l) (no_product below a b i l) h.sum;
  small = small_most (i + 1) 4097 bins (most h.upto) h.small;
}
  where
    whole : (s t n p : ℕ) {v z : ℕ} → v ≡ 0 → z ≡ 0 → s + v + n ≡ t + z + p → s + n ≡ t + p
    whole s t n p v z f = omega arith

    most : i ≤ length a → i + 1 ≤ 4097
    most u = omega arith
