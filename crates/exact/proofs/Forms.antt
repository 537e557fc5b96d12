-- Coefficient lists computed with: sum, multiple, product and composition, and the test that one is nowhere above another.
-- A list is also a form in u and v, the polynomial at u / v times a power of v: so a fraction of two forms can be put for the variable, and all stays whole and positive.
use mathlib.Core.Path.{◌≡◌, refl, sym, ap}
use mathlib.Core.Bool.{Bool, true, ◌&&◌}
use mathlib.Core.List.{List, [], ◌∷◌}
use Prim.Native.Nat.{ℕ, zero, suc, pred, ◌+◌, ◌-◌, ◌*◌, ◌^◌, ◌≤◌, suc-le-suc}
use native.Mathlib.Nat.{add-le-add, sub-add_cancel, add-suc, suc-add, zero-mul, pow-zero, pow-succ', le_of_suc-le-suc, mul-le-mul_left, mul-le-mul_right}
use native.Mathlib.Omega.{arith}
use lib.Dec.{T, leb, leb→le}
use lib.ListN.{length}
use lib.Ieee.Fits.{and_l, and_r}
use lib.Pow.{pow-add}
use Rattle.exact.specs.Polynomial.{value}

-- ---- sums and multiples

-- the sum, of lists of any lengths
unfoldable pub add : List ℕ → List ℕ → List ℕ
add [] bs = bs
add (a ∷ cs) [] = a ∷ cs
add (a ∷ cs) (b ∷ bs) = (a + b) ∷ add cs bs

-- its value
pub value-add : (n : ℕ) (cs bs : List ℕ) (x d : ℕ) → value n (add cs bs) x d ≡ value n cs x d + value n bs x d
unfolding value add
value-add n [] bs x d = omega arith
value-add n (a ∷ cs) [] x d = omega arith
value-add n (a ∷ cs) (b ∷ bs) x d = rw (value-add (pred n) cs bs x d) (omega arith)

-- its length
pub length-add : (n : ℕ) (cs bs : List ℕ) → length cs ≤ n → length bs ≤ n → length (add cs bs) ≤ n
unfolding add
length-add n [] bs h l = l
length-add n (a ∷ cs) [] h l = h
length-add zero (a ∷ cs) (b ∷ bs) h l = absurd (omega arith)
length-add (suc n) (a ∷ cs) (b ∷ bs) h l = suc-le-suc (length-add n cs bs (le_of_suc-le-suc h) (le_of_suc-le-suc l))

-- the multiple by k
unfoldable pub scale : ℕ → List ℕ → List ℕ
scale k [] = []
scale k (a ∷ cs) = (k * a) ∷ scale k cs

-- its value
pub value_scale_by : (n k : ℕ) (cs : List ℕ) (x d : ℕ) → value n (scale k cs) x d ≡ k * value n cs x d
unfolding value scale
value_scale_by n k [] x d = omega arith
value_scale_by n k (a ∷ cs) x d = rw (value_scale_by (pred n) k cs x d) (omega arith)

-- its length
pub length_scale : (k : ℕ) (cs : List ℕ) → length (scale k cs) ≡ length cs
unfolding scale
length_scale k [] = refl
length_scale k (a ∷ cs) = ap suc (length_scale k cs)

-- ---- order

-- no coefficient is above the other list's
unfoldable pub dominated : List ℕ → List ℕ → Bool
dominated [] bs = true
dominated (c ∷ cs) [] = leb c 0 && dominated cs []
dominated (c ∷ cs) (b ∷ bs) = leb c b && dominated cs bs

-- then no value is
pub value_dominated : (n : ℕ) (cs bs : List ℕ) (x d : ℕ) → T (dominated cs bs) → value n cs x d ≤ value n bs x d
unfolding dominated value
value_dominated n [] bs x d t = omega arith
value_dominated n (c ∷ cs) [] x d t =
    through (d ^ n) (value (pred n) cs x d) (leb→le c 0 (and_l (leb c 0) (dominated cs []) t)) (value_dominated (pred n) cs [] x d (and_r (leb c 0) (dominated cs []) t))
  where
    through : (D F : ℕ) → c ≤ 0 → F ≤ 0 → c * D + x * F ≤ 0
    through D F h l = omega (arith, mul-le-mul_right D h, mul-le-mul_left x l)
value_dominated n (c ∷ cs) (b ∷ bs) x d t =
    add-le-add (mul-le-mul_right (d ^ n) (leb→le c b (and_l (leb c b) (dominated cs bs) t))) (mul-le-mul_left x (value_dominated (pred n) cs bs x d (and_r (leb c b) (dominated cs bs) t)))

-- ---- differences

-- where no coefficient of bs is above that of cs, their difference
unfoldable pub subtract : List ℕ → List ℕ → List ℕ
subtract [] bs = []
subtract (c ∷ cs) [] = c ∷ cs
subtract (c ∷ cs) (b ∷ bs) = (c - b) ∷ subtract cs bs

-- its length
pub length_subtract : (cs bs : List ℕ) → length (subtract cs bs) ≡ length cs
unfolding subtract
length_subtract [] bs = refl
length_subtract (c ∷ cs) [] = refl
length_subtract (c ∷ cs) (b ∷ bs) = ap suc (length_subtract cs bs)

-- its value, and the other's, make up the value of cs
pub value_subtract : (n : ℕ) (cs bs : List ℕ) (x d : ℕ) → T (dominated bs cs) → value n (subtract cs bs) x d + value n bs x d ≡ value n cs x d
unfolding dominated value subtract
value_subtract n [] bs x d t = omega (arith, value_dominated n bs [] x d t)
value_subtract n (c ∷ cs) [] x d t = omega arith
value_subtract n (c ∷ cs) (b ∷ bs) x d t =
    through (d ^ n) (value (pred n) (subtract cs bs) x d) (value (pred n) bs x d) (value (pred n) cs x d) (c - b)
    (sub-add_cancel (leb→le b c (and_l (leb b c) (dominated bs cs) t))) (value_subtract (pred n) cs bs x d (and_r (leb b c) (dominated bs cs) t))
  where
    through : (D F G H e : ℕ) → e + b ≡ c → F + G ≡ H → e * D + x * F + (b * D + x * G) ≡ c * D + x * H
    through D F G H e k l = omega (arith, ap (λ (y : ℕ). y * D) k, ap (λ (y : ℕ). x * y) l)

-- ---- products

-- a form of degree m, read as one of degree k + m
pub value_raise : (k m : ℕ) (cs : List ℕ) (x d : ℕ) → length cs ≤ suc m → value (k + m) cs x d ≡ d ^ k * value m cs x d
unfolding value
value_raise k m [] x d fits = omega arith
value_raise k m (a ∷ []) x d fits = rw pow-add (omega arith)
value_raise k zero (a ∷ b ∷ cs) x d fits = absurd (omega arith)
value_raise k (suc m) (a ∷ b ∷ cs) x d fits =
    rw (add-suc k m, ← add-suc k m, pow-add d k (suc m), value_raise k m (b ∷ cs) x d (le_of_suc-le-suc fits)) (through (d ^ k) (d ^ suc m) (value m (b ∷ cs) x d))
  where
    through : (K D F : ℕ) → a * (K * D) + x * (K * F) ≡ K * (a * D + x * F)
    through K D F = omega arith

-- the product; the work is least where the shorter list comes first
unfoldable pub mul : List ℕ → List ℕ → List ℕ
unfolding add scale
mul [] bs = []
mul (a ∷ cs) bs = add (scale a bs) (0 ∷ mul cs bs)

-- its length
pub length-mul : (n m : ℕ) (cs bs : List ℕ) → length cs ≤ suc n → length bs ≤ suc m → length (mul cs bs) ≤ suc (n + m)
unfolding mul
length-mul n m [] bs h l = omega arith
length-mul n m (a ∷ []) bs h l = length-add (suc (n + m)) (scale a bs) (0 ∷ []) (rw length_scale (omega arith)) (omega arith)
length-mul zero m (a ∷ b ∷ cs) bs h l = absurd (omega arith)
length-mul (suc n) m (a ∷ b ∷ cs) bs h l =
    length-add (suc (suc n + m)) (scale a bs) (0 ∷ mul (b ∷ cs) bs) (rw length_scale (omega arith)) (rw suc-add (suc-le-suc (length-mul n m (b ∷ cs) bs (le_of_suc-le-suc h) l)))

value_shift : (n : ℕ) (cs : List ℕ) (x d : ℕ) → value (suc n) (0 ∷ cs) x d ≡ x * value n cs x d
unfolding value
value_shift n cs x d = omega arith

-- its value
pub value-mul : (n m : ℕ) (cs bs : List ℕ) (x d : ℕ) → length cs ≤ suc n → length bs ≤ suc m → value (n + m) (mul cs bs) x d ≡ value n cs x d * value m bs x d
unfolding mul value
value-mul n m [] bs x d h l = omega arith
value-mul n m (a ∷ []) bs x d h l = rw (value-add, value_scale_by, value_raise n m bs x d l) (omega arith)
value-mul zero m (a ∷ b ∷ cs) bs x d h l = absurd (omega arith)
value-mul (suc n) m (a ∷ b ∷ cs) bs x d h l =
    rw (value-add, value_scale_by, value_raise (suc n) m bs x d l, suc-add n m, value_shift (n + m) (mul (b ∷ cs) bs) x d, value-mul n m (b ∷ cs) bs x d (le_of_suc-le-suc h) l)
    (through (d ^ suc n) (value m bs x d) (value n (b ∷ cs) x d))
  where
    through : (D F G : ℕ) → a * (D * F) + x * (G * F) ≡ (a * D + x * G) * F
    through D F G = omega arith

-- ---- composition

-- the constant term
unfoldable pub first : List ℕ → ℕ
first [] = 0
first (c ∷ cs) = c

-- the rest, over the variable
unfoldable pub rest : List ℕ → List ℕ
rest [] = []
rest (c ∷ cs) = cs

value_first : (n : ℕ) (cs : List ℕ) (x d : ℕ) → value (suc n) cs x d ≡ first cs * d ^ suc n + x * value n (rest cs) x d
unfolding value first rest
value_first n [] x d = omega arith
value_first n (c ∷ cs) x d = refl

length_rest : (n : ℕ) (cs : List ℕ) → length cs ≤ suc n → length (rest cs) ≤ n
unfolding rest
length_rest n [] fits = omega arith
length_rest n (c ∷ cs) fits = le_of_suc-le-suc fits

-- the form Σ cᵢ X ^ i D ^ (n - i), and D ^ n: a polynomial of degree n at X / D, and its denominator
unfoldable pub compose : List ℕ → List ℕ → ℕ → List ℕ → List ℕ × List ℕ
unfolding add scale mul first rest
compose X D zero cs = (cs, 1 ∷ [])
compose X D (suc n) cs = let r = compose X D n (rest cs) in let e = mul D r.1 in (add (scale (first cs) e) (mul X r.0), e)

module _ (X D : List ℕ) (m : ℕ) (fits-X : length X ≤ suc m) (fits-D : length D ≤ suc m) where
  degree : (n : ℕ) → suc n * m ≡ m + n * m
  degree n = omega arith

  -- the denominator's length
  pub length-denominator : (n : ℕ) (cs : List ℕ) → length (compose X D n cs).1 ≤ suc (n * m)
  unfolding compose
  length-denominator zero cs = omega arith
  length-denominator (suc n) cs = rw degree (length-mul m (n * m) D (compose X D n (rest cs)).1 fits-D (length-denominator n (rest cs)))

  -- the denominator's value
  pub value-denominator : (n : ℕ) (cs : List ℕ) (u v : ℕ) → value (n * m) (compose X D n cs).1 u v ≡ value m D u v ^ n
  unfolding compose value
  value-denominator zero cs u v = rw (zero-mul m, pow-zero, pow-zero) (omega arith)
  value-denominator (suc n) cs u v =
      rw (degree, value-mul m (n * m) D (compose X D n (rest cs)).1 u v fits-D (length-denominator n (rest cs)), value-denominator n (rest cs) u v)
      (sym (pow-succ' (value m D u v) n))

  -- the form's length
  pub length_compose : (n : ℕ) (cs : List ℕ) → length cs ≤ suc n → length (compose X D n cs).0 ≤ suc (n * m)
  unfolding compose
  length_compose zero cs fits = omega arith
  length_compose (suc n) cs fits =
      length-add (suc (suc n * m)) (scale (first cs) (compose X D (suc n) cs).1) (mul X (compose X D n (rest cs)).0)
      (rw length_scale (length-denominator (suc n) cs))
      (rw degree (length-mul m (n * m) X (compose X D n (rest cs)).0 fits-X (length_compose n (rest cs) (length_rest (suc n) cs fits))))

  -- the form is the polynomial at the fraction X / D
  pub value_compose : (n : ℕ) (cs : List ℕ) (u v : ℕ) → length cs ≤ suc n → value (n * m) (compose X D n cs).0 u v ≡ value n cs (value m X u v) (value m D u v)
  unfolding compose
  value_compose zero [] u v fits = unfold value in refl
  value_compose zero (c ∷ []) u v fits = unfold value in rw (zero-mul m, pow-zero, pow-zero) (omega arith)
  value_compose zero (c ∷ e ∷ cs) u v fits = absurd (omega arith)
  value_compose (suc n) cs u v fits =
      rw (
        value_first n cs (value m X u v) (value m D u v),
        value-add (suc n * m) (scale (first cs) (compose X D (suc n) cs).1) (mul X (compose X D n (rest cs)).0) u v,
        value_scale_by (suc n * m) (first cs) (compose X D (suc n) cs).1 u v,
        value-denominator (suc n) cs u v,
        degree n,
        value-mul m (n * m) X (compose X D n (rest cs)).0 u v fits-X (length_compose n (rest cs) (length_rest (suc n) cs fits)),
        value_compose n (rest cs) u v (length_rest (suc n) cs fits),
      ) refl
