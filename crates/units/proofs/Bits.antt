-- Bit patterns and units: a sign, a number g and a number S of at most 24 digits, put together as g * 2 ^ 23 + S below the sign's bit, are the float of S * 2 ^ g units.
-- S = 2 ^ 24 is the carry into the next exponent, g = 0 the subnormals. Assumes nothing.
use mathlib.Core.Path.{◌≡◌, refl, sym, ap, ◌∙◌, subst}
use mathlib.Core.Logic.{◌⊎◌, inl, inr}
use Prim.Native.Nat.{ℕ, suc, ◌+◌, ◌-◌, ◌*◌, ◌/◌, ◌%◌, ◌^◌, ◌≤◌, ◌<◌}
use native.Mathlib.Nat.{le_trans, le_of_eq, lt_of_le_of_lt, lt_of_lt_of_le, not-le_of_lt, zero-add, add-zero, add_assoc, div-one, mul_assoc, mul-div_cancel, le_of_mul-le-mul_right, lt_of_mul-lt-mul_right, pow-succ'}
use native.Mathlib.Omega.{arith}
use mathlib.Core.Bool.{Bool, true, false, not, cond}
use lib.Dec.{T, eqb, eqb→eq, not_T}
use borrow.Author.Tests.{le-leb, lt-leb, le-ltb}
use lib.Ieee.{Float, nan, inf, fin, binary32, size, odd, of_fields, of_bits, to_bits, nan_bits}
use lib.Ieee.Bits.{cond_no, of_bits-fits, of_bits-to_bits, nan_bits_above}
use lib.Pow.{pow-add, pow_pos}
use lib.Ieee.Digits.{size-lt, size-le, size_reaches}
use lib.Ieee.Exact.{HasValue, odd_sign}
use lib.Ieee.Scale.{finite}
use Rattle.units.specs.Units.{mag, negative, P, N, Number}
use Rattle.units.proofs.Naturals.{le-or-lt, pow_back_lt}
use Rattle.units.proofs.Size.{value-mag}
use Rattle.units.proofs.Signs.{size-sum, sign_plus, one_side}
use Rattle.units.proofs.Gaps.{multiple}

-- x is the finite float with the sign s and u units
pub record Is (x : Float) (s : Bool) (u : ℕ) : Type 0 where
  pub number : Number x
  pub sign : negative x ≡ s
  pub units : mag x ≡ u

-- a float above zero by its P and N
pub is_above_lem : (x : Float) (u : ℕ) → Number x → P x ≡ u → N x ≡ 0 → 0 < u → Is x false u
is_above_lem x u h p n l =
    let e : mag x ≡ u = sym (size-sum x) ∙ sum (P x) (N x) p n in
    record { number = h; sign = sign_plus x n (lt_of_lt_of_le l (le_of_eq (sym e))); units = e }
  where
    sum : (a b : ℕ) → a ≡ u → b ≡ 0 → a + b ≡ u
    sum a b i j = omega arith

-- the sign's bit
abbrev pub sign_bit : Bool → ℕ
sign_bit s = cond s 2147483648 0

value_finite : (x : Float) (s : Bool) (a c : ℕ) → HasValue x s a c → T (finite x)
value_finite nan s a c h = absurd h
value_finite (inf t) s a c h = absurd h
value_finite (fin t m e) s a c h = tt

-- a pattern by its three fields
by_fields : (s : Bool) (x t : ℕ) → x < 256 → t < 8388608 → of_bits binary32 (sign_bit s + (x * 8388608 + t)) ≡ of_fields binary32 s x t
unfolding of_bits
by_fields true x t hx ht =
    let b = 2147483648 + (x * 8388608 + t) in
    let e : b % 2147483648 / 8388608 ≡ x = omega arith in
    let d : b % 8388608 ≡ t = omega arith in
    rw (le-leb 2147483648 b (omega arith), e, d)
by_fields false x t hx ht =
    let b = 0 + (x * 8388608 + t) in
    let e : b % 2147483648 / 8388608 ≡ x = omega arith in
    let d : b % 8388608 ≡ t = omega arith in
    rw (lt-leb 2147483648 b (omega arith), e, d)

-- below the field of the infinities
by_value : (s : Bool) (x t : ℕ) → x < 254 → of_fields binary32 s (suc x) t ≡ odd 24 s (8388608 + t) x 149
unfolding of_fields
by_value s x t h =
    cond_no (eqb (suc x) 255) (cond (eqb t 0) (inf s) nan) (odd 24 s (8388608 + t) x 149)
    (not_T (eqb (suc x) 255) (λ (u : T (eqb (suc x) 255)). let e : suc x ≡ 255 = eqb→eq (suc x) 255 u in omega arith))

subnormal : (s : Bool) (t : ℕ) → of_fields binary32 s 0 t ≡ odd 24 s t 0 149
unfolding of_fields
subnormal s t = refl

-- the float of a pattern whose fields are known to be those of `odd`
is_odd : (s : Bool) (b q g : ℕ) → of_bits binary32 b ≡ odd 24 s q g 149 → Is (of_bits binary32 b) s (q * 2 ^ g)
is_odd s b q g e =
    let x = of_bits binary32 b in
    let h : HasValue x s (q * 2 ^ g) (2 ^ 149) = subst (λ (y : Float). HasValue y s (q * 2 ^ g) (2 ^ 149)) (sym e) (odd_sign 24 s q g 149) in
    let v = value-mag x s (q * 2 ^ g) h in
    record { number = record { fits32 = of_bits-fits binary32 b; is_finite = value_finite x s (q * 2 ^ g) (2 ^ 149) h }; sign = v.1; units = v.0 }

-- a pattern put together from a sign, an exponent g and digits S: subnormal (g = 0), normal, or with a carry (S = 2 ^ 24)
pub put : (s : Bool) (S g : ℕ) → (g ≡ 0) ⊎ (2 ^ 23 ≤ S) → S ≤ 2 ^ 24 → g * 8388608 + S < 255 * 8388608
    → Is (of_bits binary32 (sign_bit s + (g * 8388608 + S))) s (S * 2 ^ g)
put s S g shape top under = go shape (le-or-lt 8388608 S) (le-or-lt 16777216 S)
  where
    b : ℕ
    b = sign_bit s + (g * 8388608 + S)

    at : (x t q k : ℕ) → g * 8388608 + S ≡ x * 8388608 + t → x < 256 → t < 8388608 → of_fields binary32 s x t ≡ odd 24 s q k 149 → S * 2 ^ g ≡ q * 2 ^ k
        → Is (of_bits binary32 b) s (S * 2 ^ g)
    at x t q k e hx ht f u =
        subst (λ (n : ℕ). Is (of_bits binary32 b) s n) (sym u)
        (is_odd s b q k (ap (λ (n : ℕ). of_bits binary32 (sign_bit s + n)) e ∙ by_fields s x t hx ht ∙ f))

    go : (g ≡ 0) ⊎ (2 ^ 23 ≤ S) → (8388608 ≤ S) ⊎ (S < 8388608) → (16777216 ≤ S) ⊎ (S < 16777216) → Is (of_bits binary32 b) s (S * 2 ^ g)
    go c (inl l) (inl h) =
        let e : S ≡ 8388608 * 2 = omega arith in
        at (suc (suc g)) 0 8388608 (suc g) (omega arith) (omega arith) (omega arith) (by_value s (suc g) 0 (omega arith))
        (ap (λ (n : ℕ). n * 2 ^ g) e ∙ mul_assoc 8388608 2 (2 ^ g) ∙ ap (λ (n : ℕ). 8388608 * n) (sym (pow-succ' 2 g)))
    go c (inl l) (inr h) =
        let t = S - 8388608 in
        let e : S ≡ 8388608 + t = omega arith in
        at (suc g) t (8388608 + t) g (omega arith) (omega arith) (omega arith) (by_value s g t (omega arith)) (ap (λ (n : ℕ). n * 2 ^ g) e)
    go (inl z) (inr l) c = at 0 S S 0 (omega arith) (omega arith) l (subnormal s S) (ap (λ (n : ℕ). S * 2 ^ n) z)
    go (inr z) (inr l) c = absurd (not-le_of_lt l z)

-- such a pattern is no NaN's
pub no_nan : (s : Bool) (b : ℕ) → b < 255 * 8388608 → T (not (nan_bits binary32 (sign_bit s + b)))
no_nan s b h = subst (λ (t : Bool). T (not t)) (sym (nan_bits_above binary32 (sign_bit s + b) ∙ le-ltb 2139095040 ((sign_bit s + b) % 2147483648) (low s))) tt
  where
    low : (s : Bool) → (sign_bit s + b) % 2147483648 ≤ 2139095040
    low true = omega arith
    low false = omega arith

-- both laws with no sign's bit written
pub put_positive : (S g : ℕ) → (g ≡ 0) ⊎ (2 ^ 23 ≤ S) → S ≤ 2 ^ 24 → g * 8388608 + S < 255 * 8388608 → Is (of_bits binary32 (g * 8388608 + S)) false (S * 2 ^ g)
put_positive S g shape top below = subst (λ (b : ℕ). Is (of_bits binary32 b) false (S * 2 ^ g)) (zero-add (g * 8388608 + S)) (put false S g shape top below)

pub no_nan_positive : (b : ℕ) → b < 255 * 8388608 → T (not (nan_bits binary32 b))
no_nan_positive b h = subst (λ (n : ℕ). T (not (nan_bits binary32 n))) (zero-add b) (no_nan false b h)

-- ---- the way back: the pattern of a float, by its units
pub pattern : (x : Float) → Number x → to_bits binary32 x ≡ sign_bit (negative x) + (size (mag x) - 24) * 8388608 + mag x / 2 ^ (size (mag x) - 24)
unfolding to_bits mag negative
pattern nan h = absurd h.is_finite
pattern (inf s) h = absurd h.is_finite
pattern (fin s m e) h = refl

-- below 2 ^ 23 units the pattern is the number of units
pub pattern_subnormal : (x : Float) → Number x → mag x < 2 ^ 23 → to_bits binary32 x ≡ sign_bit (negative x) + mag x
pattern_subnormal x h l =
    let X = mag x in
    let few : size X ≤ 23 = size-le X 23 l in
    let none : size X - 24 ≡ 0 = omega arith in
    pattern x h ∙ rw (none, div-one) (ap (λ (n : ℕ). n + X) (add-zero (sign_bit (negative x))))

-- from there on it is an exponent k and 24 digits m
pub record Pattern (x : Float) : Type 0 where
  pub k : ℕ
  pub m : ℕ
  pub units : mag x ≡ m * 2 ^ k
  pub least : 2 ^ 23 ≤ m
  pub digits : m < 2 ^ 24
  pub bits : to_bits binary32 x ≡ sign_bit (negative x) + (k * 8388608 + m)

pub pattern_normal : (x : Float) → Number x → 2 ^ 23 ≤ mag x → Pattern x
pattern_normal x h l =
    let X = mag x in
    let z = size X in
    let k = z - 24 in
    let many : 23 < z = pow_back_lt 23 z (lt_of_le_of_lt l (size-lt X)) in
    let e : z ≡ 24 + k = omega arith in
    let lo : 2 ^ 23 * 2 ^ k ≤ X = le_trans (le_of_eq (sym (pow-add 2 23 k))) (size_reaches X (23 + k) (omega arith)) in
    let hi : X < 2 ^ 24 * 2 ^ k = lt_of_lt_of_le (size-lt X) (le_of_eq (ap (λ (n : ℕ). 2 ^ n) e ∙ pow-add 2 24 k)) in
    let (m, is) = multiple x h k lo in
    record {
      k = k;
      m = m;
      units = is;
      least = le_of_mul-le-mul_right (le_trans lo (le_of_eq is)) (pow_pos k);
      digits = lt_of_mul-lt-mul_right (2 ^ k) (lt_of_le_of_lt (le_of_eq (sym is)) hi);
      bits = pattern x h ∙ add_assoc (sign_bit (negative x)) (k * 8388608) (X / 2 ^ k) ∙ ap (λ (n : ℕ). sign_bit (negative x) + (k * 8388608 + n)) (ap (λ (n : ℕ). n / 2 ^ k) is ∙ mul-div_cancel m (pow_pos k));
    }

-- two finite floats that are one number, and not zero, are one float: their patterns agree
pub one_float : (x y : Float) → Number x → Number y → P x + N y ≡ P y + N x → 0 < mag x → x ≡ y
one_float x y h k e above =
    let (s, m) = one_side x y e above in
    sym (of_bits-to_bits binary32 x h.fits32) ∙ ap (of_bits binary32) (pattern x h ∙ rw (s, m) (sym (pattern y k))) ∙ of_bits-to_bits binary32 y k.fits32
