-- The law of sums of rounded products: whatever the order of adding, the error is at most k u / (1 - k u) of the products' sizes for k roundings, and
-- 2 ^ -149 for each product. Assumes nothing.
use mathlib.Core.Path.{◌≡◌, refl, ap, ◌∙◌}
use mathlib.Core.Logic.{inl, inr}
use mathlib.Core.Bool.{Bool, true, false, ◌&&◌, cond}
use Prim.Native.Nat.{ℕ, zero, suc, ◌+◌, ◌-◌, ◌*◌, ◌^◌, ◌≤◌, ◌<◌, max}
use native.Mathlib.Nat.{mul-le-mul_left, mul-le-mul_right}
use native.Mathlib.Numerals.{add-one}
use native.Mathlib.Omega.{arith}
use lib.Dec.{T}
use lib.Ieee.{Float, binary32, fits}
use lib.Ieee.Bits.{is_true}
use lib.Ieee.Fits.{and_i, and_l, and_r}
use lib.Ieee.Scale.{finite}
use Rattle.units.specs.Units.{P, N, Number}
use Rattle.units.proofs.Ranges.{zero_is, zero_units}
use Rattle.units.proofs.Sums.{add_rounds, add_operands}
use Rattle.units.proofs.Naturals.{le-or-lt, sub-mul}
use Rattle.units.proofs.Products.{mul_rounds, mul_operands}
use Rattle.sums.specs.Sum.{Sum, nothing, product, plus, total, Intermediates, above, below, size, apart, NearSum}
use Rattle.sums.proofs.Count.{Factors, added, one, failing, joined, roundings}
use Rattle.sums.proofs.Steps.{Off, size_is, off_product, off_more, off_plus, off_nothing, add-zero_left, add-zero_right}

-- ---- an infinity or a NaN never becomes finite again: where the result is finite, every intermediate result is
pub intermediates : (t : Sum) → T (finite (total t)) → Intermediates t
unfolding total Intermediates
intermediates nothing f = tt
intermediates (product x y) f = f
intermediates (plus s t) f =
    let (g, h) = add_operands (total s) (total t) f in
    (intermediates s g, intermediates t h, f)

-- and the result is one of them
pub last_finite : (t : Sum) → Intermediates t → T (finite (total t))
unfolding total Intermediates
last_finite nothing i = zero_is.number.is_finite
last_finite (product x y) i = i
last_finite (plus s t) i = i.2

-- the result of finite factors and intermediates is a finite f32
pub total-number : (t : Sum) → Factors t → Intermediates t → Number (total t)
unfolding total Factors Intermediates
total-number nothing f i = zero_is.number
total-number (product x y) f i = record { fits32 = (mul_rounds x y f.0 f.1).fits32; is_finite = i }
total-number (plus s t) f i =
    record { fits32 = (add_rounds (total s) (total t) (total-number s f.0 i.0) (total-number t f.1 i.1)).fits32; is_finite = i.2 }

-- ---- which factors a tree has is counted, so that it is known for any tree with the same products
pub counted : (b : Bool) → ◌≡◌ {A = ℕ} (cond b 0 1) 0 → T b
counted true e = tt
counted false e = absurd (omega arith)

-- a finite result has finite factors only
pub finite_factors : (t : Sum) → T (finite (total t)) → added (failing finite) t ≡ 0
unfolding total added
finite_factors nothing f = refl
finite_factors (product x y) f = let (g, h) = mul_operands x y f in ap (λ (b : Bool). cond b 0 1) (is_true (finite x && finite y) (and_i (finite x) (finite y) g h))
finite_factors (plus s t) f =
    let (g, h) = add_operands (total s) (total t) f in
    let p = finite_factors s g in
    let q = finite_factors t h in
    omega arith

-- a float is a finite f32
unfoldable pub is_number : Float → Bool
is_number x = fits binary32 x && finite x

pub number_of : (x : Float) → T (is_number x) → Number x
unfolding is_number
number_of x t = record { fits32 = and_l (fits binary32 x) (finite x) t; is_finite = and_r (fits binary32 x) (finite x) t }

pub factors : (t : Sum) → added (failing is_number) t ≡ 0 → Factors t
unfolding added Factors
factors nothing e = tt
factors (product x y) e =
    let b = counted (is_number x && is_number y) e in
    (number_of x (and_l (is_number x) (is_number y) b), number_of y (and_r (is_number x) (is_number y) b))
factors (plus s t) e = (factors s (omega arith), factors t (omega arith))

-- ---- a part without products is zero, and adding it is exact
none_left : (j k : ℕ) → joined j k ≡ 0 → (j ≡ 0) × (k ≡ 0)
unfolding joined
none_left zero k e = (refl, e)
none_left (suc j) zero e = absurd (omega arith)
none_left (suc j) (suc k) e = absurd (omega arith)

added_none : (f : Float → Float → ℕ) (t : Sum) → roundings t ≡ 0 → added f t ≡ 0
unfolding added roundings
added_none f nothing e = refl
added_none f (product x y) e = absurd (omega arith)
added_none f (plus s t) e =
    let (j, k) = none_left (roundings s) (roundings t) e in
    let p = added_none f s j in
    let q = added_none f t k in
    omega arith

zero_none : (t : Sum) → Factors t → Intermediates t → roundings t ≡ 0 → (P (total t) ≡ 0) × (N (total t) ≡ 0)
unfolding total Factors Intermediates roundings
zero_none nothing f i e = zero_units
zero_none (product x y) f i e = absurd (omega arith)
zero_none (plus s t) f i e =
    let (j, k) = none_left (roundings s) (roundings t) e in
    let (p, n) = add-zero_left (total s) (total t) (total-number s f.0 i.0) (total-number t f.1 i.1) (zero_none s f.0 i.0 j) in
    let (q, m) = zero_none t f.1 i.1 k in
    (p ∙ q, n ∙ m)

-- the products' sizes are what they have above zero and what they have below
sizes : (t : Sum) → added size t ≡ added above t + added below t
unfolding added
sizes nothing = refl
sizes (product x y) = size_is x y
sizes (plus s t) = let p = sizes s in let q = sizes t in omega arith

-- ---- the error of a tree by its roundings
-- what is known of a tree after k roundings
abbrev Known : ℕ → Sum → Type 0
Known k t = Off k (added one t) (total t) (added above t) (added below t) (added size t)

-- the same number in every respect is known as well
known_same : (t u : Sum) (k : ℕ) → (P (total u) ≡ P (total t)) × (N (total u) ≡ N (total t)) → ((g : Float → Float → ℕ) → added g u ≡ added g t) → Known k t → Known k u
known_same t u k (p, n) e h = rw (p, n, e one, e above, e below, e size) h

module _ (s t : Sum) (fs : Factors s) (ft : Factors t) (is : Intermediates s) (it : Intermediates t) (f : T (finite (total (plus s t)))) where
  known_left : (k : ℕ) → roundings s ≡ 0 → Known k t → Known k (plus s t)
  unfolding total added
  known_left k e =
      known_same t (plus s t) k (add-zero_left (total s) (total t) (total-number s fs is) (total-number t ft it) (zero_none s fs is e))
      (λ g. let z = added_none g s e in omega arith)

  known_right : (k : ℕ) → roundings t ≡ 0 → Known k s → Known k (plus s t)
  unfolding total added
  known_right k e =
      known_same s (plus s t) k (add-zero_right (total s) (total t) (total-number s fs is) (total-number t ft it) (zero_none t ft it e))
      (λ g. let z = added_none g t e in omega arith)

  known_both : (j k m : ℕ) → j ≤ m → k ≤ m → m < 2 ^ 24 → Known j s → Known k t → Known (m + 1) (plus s t)
  unfolding total added
  known_both j k m u v l h g =
      let h' = rw (sizes s) at (off_more j m (added one s) (total s) (added above s) (added below s) (added size s) u h) in
      let g' = rw (sizes t) at (off_more k m (added one t) (total t) (added above t) (added below t) (added size t) v g) in
      rw (sizes s, sizes t)
      (off_plus m (added one s) (added one t) (total s) (total t) (added above s) (added below s) (added above t) (added below t) l (total-number s fs is) (total-number t ft it) f h' g')

  known_plus : (j k : ℕ) → roundings s ≡ j → roundings t ≡ k → joined j k ≤ 2 ^ 24 → Known j s → Known k t → Known (joined j k) (plus s t)
  unfolding joined
  known_plus zero k a b l h g = known_left k a g
  known_plus (suc j) zero a b l h g = known_right (suc j) b h
  known_plus (suc j) (suc k) a b l h g =
      let m = max (suc j) (suc k) in
      rw (← add-one m) (known_both (suc j) (suc k) m (omega arith) (omega arith) l h g)

joined_parts : (j k : ℕ) → (j ≤ joined j k) × (k ≤ joined j k)
unfolding joined
joined_parts zero k = (omega arith, omega arith)
joined_parts (suc j) zero = (omega arith, omega arith)
joined_parts (suc j) (suc k) = (omega arith, omega arith)

known : (t : Sum) → Factors t → Intermediates t → roundings t ≤ 2 ^ 24 → Known (roundings t) t
unfolding total Factors Intermediates added roundings
known nothing f i l = off_nothing
known (product x y) f i l = off_product x y f.0 f.1 i
known (plus s t) f i l =
    let (j, k) = joined_parts (roundings s) (roundings t) in
    known_plus s t f.0 f.1 i.0 i.1 i.2 (roundings s) (roundings t) refl refl l (known s f.0 i.0 (omega arith)) (known t f.1 i.1 (omega arith))

-- the law: a sum of n products in any order, none of which goes through more than k roundings, is within k u / (1 - k u) of the products' sizes and n 2 ^ -149
pub tree_near : (t : Sum) (k : ℕ) → Factors t → Intermediates t → roundings t ≤ k → k ≤ 2 ^ 23 → NearSum k (added one t) (total t) (added above t) (added below t) (added size t)
tree_near t k f i l h =
    whole_units (2 ^ 149) (apart (P (total t) * 2 ^ 149 + added below t) (N (total t) * 2 ^ 149 + added above t)) (k * added size t) (added one t)
    (off_more (roundings t) k (added one t) (total t) (added above t) (added below t) (added size t) l (known t f i (omega arith)))
  where
    whole_units : (U e s n : ℕ) → e * (2 ^ 24 - k) ≤ s + n * (U * 2 ^ 23) → e * (2 ^ 24 - k) ≤ s + n * U * (2 ^ 24 - k)
    whole_units U e s n g =
        let m : n * U * 2 ^ 23 ≤ n * U * (2 ^ 24 - k) = mul-le-mul_left (n * U) (omega arith) in
        omega arith

-- more roundings, a larger bound
pub near_more : (j k n : ℕ) (r : Float) (p m s : ℕ) → j ≤ k → NearSum j n r p m s → NearSum k n r p m s
near_more j k n r p m s l h = more (2 ^ 24) (apart (P r * 2 ^ 149 + m) (N r * 2 ^ 149 + p)) (n * 2 ^ 149) h
  where
    more : (w e B : ℕ) → e * (w - j) ≤ j * s + B * (w - j) → e * (w - k) ≤ k * s + B * (w - k)
    more w e B g = elim (le-or-lt e B) [
      | inl u ↦ let c = mul-le-mul_right (w - k) u in omega arith
      | inr u ↦
          let d = mul-le-mul_right s l in
          let c : (e - B) * (w - k) ≤ (e - B) * (w - j) = mul-le-mul_left (e - B) (omega arith) in
          let f = sub-mul e B (w - j) in
          let i = sub-mul e B (w - k) in
          omega arith
    ]
