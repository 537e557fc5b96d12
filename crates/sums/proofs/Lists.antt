-- What counts over the products of two lists say of their elements. Assumes nothing.
use mathlib.Core.Path.{◌≡◌, refl, sym, ap, ◌∙◌, subst}
use mathlib.Core.List.{List, [], ◌∷◌}
use mathlib.Core.Bool.{Bool, ◌&&◌, cond}
use Prim.Native.Nat.{ℕ, zero, suc, ◌<◌}
use native.Mathlib.Omega.{arith}
use lib.Dec.{T}
use lib.ListN.{length, get_or}
use lib.Ieee.{Float, nan, inf, fin, binary32, fits}
use lib.Ieee.Bits.{is_true}
use lib.Ieee.Fits.{and_i, and_l, and_r}
use lib.Ieee.Scale.{finite}
use Rattle.std.specs.Prelude.{IsTrue}
use Rattle.std.specs.Float.{float_is_finite}
use Rattle.sums.specs.Dot.{Elements, all_finite, sum_over}
use Rattle.sums.proofs.Count.{one, failing}
use Rattle.sums.proofs.Trees.{counted, is_number}

-- every element is an f32
abbrev pub Fits : List Float → Type 0
Fits xs = (i : ℕ) → T (fits binary32 (get_or xs i nan))

-- the products are as many as the elements
pub as_many : (a b : List Float) → length a ≡ length b → sum_over one a b ≡ length a
unfolding sum_over
as_many [] b e = refl
as_many (x ∷ a) [] e = absurd (omega arith)
as_many (x ∷ a) (y ∷ b) e = let h = as_many a b (omega arith) in omega arith

-- no factor is infinite or a NaN: every element is finite
pub finite_elements : (a b : List Float) → length a ≡ length b → sum_over (failing finite) a b ≡ 0 → Elements a b
unfolding sum_over all_finite
finite_elements [] [] e z = record { first = tt; second = tt }
finite_elements [] (y ∷ b) e z = absurd (omega arith)
finite_elements (x ∷ a) [] e z = absurd (omega arith)
finite_elements (x ∷ a) (y ∷ b) e z =
    let t = counted (finite x && finite y) (omega arith) in
    let r = finite_elements a b (omega arith) (omega arith) in
    record { first = and_i (finite x) (all_finite a) (and_l (finite x) (finite y) t) r.first; second = and_i (finite y) (all_finite b) (and_r (finite x) (finite y) t) r.second }

-- every element is finite: all factors are finite f32
pub number_elements : (a b : List Float) → Fits a → Fits b → Elements a b → sum_over (failing is_number) a b ≡ 0
unfolding sum_over all_finite is_number
number_elements [] b p q e = refl
number_elements (x ∷ a) [] p q e = refl
number_elements (x ∷ a) (y ∷ b) p q e =
    let u = and_i (fits binary32 x) (finite x) (p 0) (and_l (finite x) (all_finite a) e.first) in
    let v = and_i (fits binary32 y) (finite y) (q 0) (and_l (finite y) (all_finite b) e.second) in
    let t : failing is_number x y ≡ 0 = ap (λ (b : Bool). cond b 0 1) (is_true (is_number x && is_number y) (and_i (is_number x) (is_number y) u v)) in
    let r = number_elements a b (λ i. p (suc i)) (λ i. q (suc i)) (record { first = and_r (finite x) (all_finite a) e.first; second = and_r (finite y) (all_finite b) e.second }) in
    omega arith

-- ---- the program's test of a float, and of all elements
pub same_finite : (x : Float) → float_is_finite x ≡ finite x
unfolding float_is_finite
same_finite nan = refl
same_finite (inf s) = refl
same_finite (fin s m e) = refl

pub finite_of : (x : Float) → IsTrue (float_is_finite x) → T (finite x)
finite_of x e = subst T (sym e ∙ same_finite x) tt

pub finite_back : (x : Float) → T (finite x) → IsTrue (float_is_finite x)
finite_back x t = same_finite x ∙ is_true (finite x) t

pub all_finite_of : (a : List Float) → ((k : ℕ) → k < length a → IsTrue (float_is_finite (get_or a k nan))) → T (all_finite a)
unfolding all_finite
all_finite_of [] h = tt
all_finite_of (x ∷ a) h = and_i (finite x) (all_finite a) (finite_of x (h 0 (omega arith))) (all_finite_of a (λ k l. h (suc k) (omega arith)))

pub each_finite : (a : List Float) → T (all_finite a) → (k : ℕ) → k < length a → IsTrue (float_is_finite (get_or a k nan))
unfolding all_finite
each_finite [] t k l = absurd (omega arith)
each_finite (x ∷ a) t zero l = finite_back x (and_l (finite x) (all_finite a) t)
each_finite (x ∷ a) t (suc k) l = each_finite a (and_r (finite x) (all_finite a) t) k (omega arith)
