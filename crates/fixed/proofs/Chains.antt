-- Two chains of Horner's rule that meet in one floor, against the exact polynomial: never more, less by one unit, by what the square's floor costs and by the chains' floors
-- in proportion to the argument; never falling. For any coefficients and any unit D. Assumes nothing.
use mathlib.Core.Path.{◌≡◌, refl, sym, ap}
use mathlib.Core.List.{List, [], ◌∷◌}
use Prim.Native.Nat.{ℕ, zero, suc, ◌+◌, ◌*◌, ◌/◌, ◌^◌, ◌≤◌, ◌<◌}
use native.Mathlib.Nat.{le_refl, le_trans, le_of_eq, le_of_lt, le_of_suc-le-suc, zero-mul, mul-zero, zero-div, pow-zero, pow-suc, mul_assoc, mul-le-mul, mul-le-mul_left, mul-le-mul_right, le_of_mul-le-mul_right, div-mul-le_self, lt-div-mul-add}
use native.Mathlib.Omega.{arith}
use lib.ListN.{length}
use lib.Pow.{pow-add}
use Rattle.exact.specs.Polynomial.{value}
use Rattle.exact.proofs.Power.{mul-pow, pow-one}
use Rattle.fixed.specs.Horner.{horner, alternate, others, chains}
use Rattle.fixed.proofs.Horner.{quotients, horner_mono, horner_first}

-- ---- a polynomial by its two halves
-- the first half begins with the first coefficient, and goes on as the second half of the others
first_half : (c : ℕ) (cs : List ℕ) → alternate (c ∷ cs) ≡ c ∷ others cs
unfolding alternate others
first_half c [] = refl
first_half c (b ∷ cs) = refl

-- cs(t) is what the one half is at t ^ 2, and t times what the other is
halves : (m : ℕ) (cs : List ℕ) (x d : ℕ) → length cs ≤ suc (suc (m + m)) → value (suc (m + m)) cs x d ≡ d * value m (alternate cs) (x * x) (d * d) + x * value m (others cs) (x * x) (d * d)
unfolding value alternate others
halves m [] x d fits = omega arith
halves m (c ∷ []) x d fits = rw (mul-pow d d m, ← pow-add d m m, pow-suc d (m + m)) (alone (d ^ (m + m)))
  where
    alone : (K : ℕ) → c * (K * d) + x * 0 ≡ d * (c * K + x * x * 0) + x * 0
    alone K = omega arith
halves zero (c ∷ b ∷ []) x d fits = rw (pow-zero, pow-one, pow-zero) (omega arith)
halves zero (c ∷ b ∷ a ∷ cs) x d fits = absurd (omega arith)
halves (suc m) (c ∷ b ∷ cs) x d fits =
    let e : suc m + suc m ≡ suc (suc (m + m)) = omega arith in
    rw (e, first_half b cs, mul-pow d d (suc m), ← pow-add d (suc m) (suc m), e, halves m cs x d (omega arith), pow-suc d (suc (suc (m + m))))
    (joined (d ^ suc (suc (m + m))) (value m (alternate cs) (x * x) (d * d)) (value m (others cs) (x * x) (d * d)))
  where
    joined : (K A B : ℕ) → c * (K * d) + x * (b * K + x * (d * A + x * B)) ≡ d * (c * K + x * x * A) + x * (b * K + x * x * B)
    joined K A B = omega arith

-- each half has half of the coefficients
half_length : (m : ℕ) (cs : List ℕ) → length cs ≤ suc (suc (m + m)) → (length (alternate cs) ≤ suc m) × (length (others cs) ≤ suc m)
unfolding alternate others
half_length m [] fits = (omega arith, omega arith)
half_length m (c ∷ []) fits = (omega arith, omega arith)
half_length zero (c ∷ b ∷ []) fits = (omega arith, omega arith)
half_length zero (c ∷ b ∷ a ∷ cs) fits = absurd (omega arith)
half_length (suc m) (c ∷ b ∷ cs) fits = let (l, k) = half_length m cs (omega arith) in (omega arith, rw (first_half b cs) (omega arith))

-- ---- one chain at an argument y / e of which only the cut-off z / D is at hand
-- it is at most the polynomial
cut_below : (D z y e : ℕ) → 0 < D → z * e ≤ y * D → (n : ℕ) (cs : List ℕ) → length cs ≤ suc n → horner D cs z * e ^ n ≤ value n cs y e
unfolding horner value
cut_below D z y e pos low n [] fits = omega arith
cut_below D z y e pos low zero (c ∷ []) fits = rw (zero-mul, zero-div, pow-zero) (omega arith)
cut_below D z y e pos low zero (c ∷ b ∷ cs) fits = absurd (omega arith)
cut_below D z y e pos low (suc n) (c ∷ cs) fits = rw pow-suc (through (horner D cs z) (horner D cs z * z / D) (e ^ n) (value n cs y e) (div-mul-le_self (horner D cs z * z) D) (cut_below D z y e pos low n cs (le_of_suc-le-suc fits)))
  where
    floor : (h t : ℕ) → t * D ≤ h * z → t * e ≤ h * y
    floor h t a = le_of_mul-le-mul_right (omega (arith, mul-le-mul_right e a, mul-le-mul_left h low)) pos

    through : (h t E v : ℕ) → t * D ≤ h * z → h * E ≤ v → (c + t) * (E * e) ≤ c * (E * e) + y * v
    through h t E v a b = omega (arith, mul-le-mul_right E (floor h t a), mul-le-mul_left y b)

-- all coefficients together
unfoldable pub altogether : List ℕ → ℕ
altogether [] = 0
altogether (c ∷ cs) = c + altogether cs

-- which no value up to 1 exceeds
pub horner_most : (D z : ℕ) → 0 < D → z ≤ D → (cs : List ℕ) → horner D cs z ≤ altogether cs
unfolding horner altogether
horner_most D z pos small [] = le_refl 0
horner_most D z pos small (c ∷ cs) = omega (arith, floor (horner D cs z) (horner D cs z * z / D) (div-mul-le_self (horner D cs z * z) D), horner_most D z pos small cs)
  where
    floor : (h t : ℕ) → t * D ≤ h * z → t ≤ h
    floor h t a = le_of_mul-le-mul_right (omega (arith, mul-le-mul_left h small)) pos

-- what a chain loses at most where its argument is cut off by up to one unit: for each step one unit by its floor, and as much as it is multiplied by; in parts of a unit
unfoldable pub loss : ℕ → List ℕ → ℕ
unfolding altogether
loss D [] = 0
loss D (c ∷ []) = 0
loss D (c ∷ b ∷ cs) = loss D (b ∷ cs) + D + altogether (b ∷ cs)

cut_above : (D z y e : ℕ) → 0 < D → z ≤ D → y ≤ e → y * D ≤ (z + 1) * e → (n : ℕ) (cs : List ℕ) → length cs ≤ suc n → D * value n cs y e ≤ (D * horner D cs z + loss D cs) * e ^ n
unfolding horner value loss
cut_above D z y e pos small part high n [] fits = rw (mul-zero) (omega arith)
cut_above D z y e pos small part high n (c ∷ []) fits = rw (zero-mul, zero-div) (alone (e ^ n))
  where
    alone : (E : ℕ) → D * (c * E + y * 0) ≤ (D * (c + 0) + 0) * E
    alone E = omega arith
cut_above D z y e pos small part high zero (c ∷ b ∷ cs) fits = absurd (omega arith)
cut_above D z y e pos small part high (suc n) (c ∷ b ∷ cs) fits =
    rw pow-suc
    (through (horner D (b ∷ cs) z) (horner D (b ∷ cs) z * z / D) (loss D (b ∷ cs)) (altogether (b ∷ cs)) (e ^ n) (value n (b ∷ cs) y e)
    (le_of_lt (lt-div-mul-add pos)) (horner_most D z pos small (b ∷ cs)) (cut_above D z y e pos small part high n (b ∷ cs) (le_of_suc-le-suc fits)))
  where
    through : (h t L A E v : ℕ) → h * z ≤ t * D + D → h ≤ A → D * v ≤ (D * h + L) * E → D * (c * (E * e) + y * v) ≤ (D * (c + t) + (L + D + A)) * (E * e)
    through h t L A E v a s i = omega (arith, mul-le-mul_left y i, mul-le-mul_right (h * E) high, mul-le-mul_right (L * E) part, mul-le-mul_right (E * e) a, mul-le-mul_right (E * e) s)

-- ---- the two chains together
-- p and q are what the chains make of A and B, z what is made of f ^ 2, and t of the sum, each less what its floor loses
widened : (D f t p q z K A B M N G : ℕ) → f ≤ D → f * p + z * q ≤ t * D + D → f * f ≤ z * D + D → q ≤ G → D * A ≤ (D * p + M) * K → D * B ≤ (D * q + N) * K
    → f * (D * A + f * B) * D ≤ ((t + 1) * (K * (D * D)) + (G * D + f * (M + N)) * K) * D
widened D f t p q z K A B M N G small a s g i j = le_trans chained (le_trans squared summed)
  where
    chained : f * (D * A + f * B) * D ≤ f * D * ((D * p + M) * K) + f * f * ((D * q + N) * K)
    chained = omega (arith, mul-le-mul_left (f * D) i, mul-le-mul_left (f * f) j)

    squared : f * D * ((D * p + M) * K) + f * f * ((D * q + N) * K) ≤ D * D * K * (f * p + z * q) + D * D * K * G + f * D * K * (M + N)
    squared = omega (arith, mul-le-mul_right (D * q * K) s, mul-le-mul_left (D * D * K) g, mul-le-mul_left (f * N * K) small)

    summed : D * D * K * (f * p + z * q) + D * D * K * G + f * D * K * (M + N) ≤ ((t + 1) * (K * (D * D)) + (G * D + f * (M + N)) * K) * D
    summed = omega (arith, mul-le-mul_left (D * D * K) a)

module _ (D : ℕ) (pos : 0 < D) (m c : ℕ) (cs : List ℕ) (fits : length cs ≤ suc (suc (m + m))) where
  whole : (f : ℕ) → value (suc (suc (m + m))) (c ∷ cs) f D ≡ c * D ^ suc (suc (m + m)) + f * (D * value m (alternate cs) (f * f) (D * D) + f * value m (others cs) (f * f) (D * D))
  unfolding value
  whole f = ap (λ (v : ℕ). c * D ^ suc (suc (m + m)) + f * v) (halves m cs f D fits)

  unit : D ^ suc (suc (m + m)) ≡ (D * D) ^ m * (D * D)
  unit = rw (pow-suc D (suc (m + m)), pow-suc D (m + m), pow-add D m m, mul-pow D D m) (powers (D ^ m))
    where
      powers : (K : ℕ) → K * K * D * D ≡ K * K * (D * D)
      powers K = omega arith

  module _ (f : ℕ) where
    abbrev z : ℕ
    z = f * f / D

    abbrev p : ℕ
    p = horner D (alternate cs) z

    abbrev q : ℕ
    q = horner D (others cs) z

    low : z * (D * D) ≤ f * f * D
    low = le_trans (le_of_eq (sym (mul_assoc z D D))) (mul-le-mul_right D (div-mul-le_self (f * f) D))

    high : f * f * D ≤ (z + 1) * (D * D)
    high = cut z (f * f) (le_of_lt (lt-div-mul-add pos))
      where
        cut : (w s : ℕ) → s ≤ w * D + D → s * D ≤ (w + 1) * (D * D)
        cut w s h = omega (arith, mul-le-mul_right D h)

    -- what they make is at most the polynomial
    pub chains-below : chains D (c ∷ cs) f * D ^ suc (suc (m + m)) ≤ value (suc (suc (m + m))) (c ∷ cs) f D
    unfolding chains
    chains-below =
        let (l, k) = half_length m cs fits in
        rw (whole f, unit)
        (through ((f * p + z * q) / D) p q z ((D * D) ^ m) (value m (alternate cs) (f * f) (D * D)) (value m (others cs) (f * f) (D * D))
        (div-mul-le_self (f * p + z * q) D) (div-mul-le_self (f * f) D) (cut_below D z (f * f) (D * D) pos low m (alternate cs) l) (cut_below D z (f * f) (D * D) pos low m (others cs) k))
      where
        through : (t p q z K A B : ℕ) → t * D ≤ f * p + z * q → z * D ≤ f * f → p * K ≤ A → q * K ≤ B → (c + t) * (K * (D * D)) ≤ c * (K * (D * D)) + f * (D * A + f * B)
        through t p q z K A B a s i j = omega (arith, mul-le-mul_right (K * D) a, mul-le-mul_left (f * D) i, mul-le-mul_left (z * D) j, mul-le-mul_right B s)

    -- the polynomial is more by one unit, by what the square's floor costs the second chain, and in proportion to f by what both chains lose
    pub chains_close : f ≤ D → value (suc (suc (m + m))) (c ∷ cs) f D ≤ (chains D (c ∷ cs) f + 1) * D ^ suc (suc (m + m)) + (altogether (others cs) * D + f * (loss D (alternate cs) + loss D (others cs))) * (D * D) ^ m
    unfolding chains
    chains_close small =
        let (l, k) = half_length m cs fits in
        let part : f * f ≤ D * D = mul-le-mul small small in
        let few : z ≤ D = le_of_mul-le-mul_right (le_trans (div-mul-le_self (f * f) D) part) pos in
        rw (whole f, unit)
        (through ((f * p + z * q) / D) p q z ((D * D) ^ m) (value m (alternate cs) (f * f) (D * D)) (value m (others cs) (f * f) (D * D)) (loss D (alternate cs)) (loss D (others cs)) (altogether (others cs))
        (le_of_lt (lt-div-mul-add pos)) (le_of_lt (lt-div-mul-add pos)) (horner_most D z pos few (others cs))
        (cut_above D z (f * f) (D * D) pos few part high m (alternate cs) l) (cut_above D z (f * f) (D * D) pos few part high m (others cs) k))
      where
        through : (t p q z K A B M N G : ℕ) → f * p + z * q ≤ t * D + D → f * f ≤ z * D + D → q ≤ G → D * A ≤ (D * p + M) * K → D * B ≤ (D * q + N) * K
            → c * (K * (D * D)) + f * (D * A + f * B) ≤ (c + t + 1) * (K * (D * D)) + (G * D + f * (M + N)) * K
        through t p q z K A B M N G a s g i j = added (K * (D * D)) _ _ (le_of_mul-le-mul_right (widened D f t p q z K A B M N G small a s g i j) pos)
          where
            added : (U x y : ℕ) → x ≤ (t + 1) * U + y → c * U + x ≤ (c + t + 1) * U + y
            added U x y h = omega arith

-- ---- order
-- a larger argument never gives less
pub chains_mono : (D : ℕ) (cs : List ℕ) {f g : ℕ} → 0 < D → f ≤ g → chains D cs f ≤ chains D cs g
unfolding chains
chains_mono D [] pos h = le_refl 0
chains_mono D (c ∷ cs) {f} {g} pos h =
    let s : f * f / D ≤ g * g / D = quotients D pos (mul-le-mul h h) in
    more (quotients D pos (both (mul-le-mul h (horner_mono D (alternate cs) pos s)) (mul-le-mul s (horner_mono D (others cs) pos s))))
  where
    more : {a b : ℕ} → a ≤ b → c + a ≤ c + b
    more l = omega arith

    both : {a b x y : ℕ} → a ≤ b → x ≤ y → a + x ≤ b + y
    both l k = omega arith

-- at zero they are the first coefficient
pub chains-zero : (D c : ℕ) (cs : List ℕ) → chains D (c ∷ cs) 0 ≡ c
unfolding chains
chains-zero D c cs = simp (zero-mul, zero-div) (omega (arith, zero-div D))

-- they are at least the first term of each half
pub chains_rises : (D c b : ℕ) (cs : List ℕ) (f : ℕ) → 0 < D → c + f * b / D ≤ chains D (c ∷ b ∷ cs) f
unfolding chains
chains_rises D c b cs f pos = rw (first_half b cs) (more (quotients D pos (le_trans (mul-le-mul_left f (horner_first D b (others cs) (f * f / D))) (extra _ _))))
  where
    more : {a b : ℕ} → a ≤ b → c + a ≤ c + b
    more l = omega arith

    extra : (a b : ℕ) → a ≤ a + b
    extra a b = omega arith
