-- Where the digits are not open they tell the nearest float: no middle lies between what they can stand for. Assumes nothing.
use Rattle.std.proofs.Common.{◌≡◌, ℕ, zero, suc, ◌+◌, ◌-◌, ◌*◌, ◌/◌, ◌%◌, ◌^◌, ◌<◌, ◌≤◌, false, sym, refl, ap, ◌∙◌, subst, inl, inr, le_trans, le_of_eq, le_refl, lt_of_lt_of_le, le_of_lt, mul-le-mul_right, mul_comm, mul-le-mul_left, mul-lt-mul_of_pos_right, mul-pos, zero-mul, mul-one, le_of_mul-le-mul_right, arith, lit<, lit≤, pow_pos, pow-add, leb-false}
use lib.Ieee.{Float}
use Rattle.units.specs.Units.{P, N}
use Rattle.units.proofs.Naturals.{le-or-lt}
use Rattle.exact.specs.Power.{AtMost, AtLeast, LessThan}
use Rattle.exact.proofs.Power.{pow-one, most_of_less, most_of_larger, least_of_smaller, most_shift, least_shift, through_power}
use Rattle.exact.proofs.Strict.{less_of_less, more_of_more}
use Rattle.powers.specs.Exp2.{Accepts}
use Rattle.powers.specs.Raised.{raised}
use Rattle.powers.specs.Value.{cut_of, power_digits, open_lower, open_upper, is_left_open}
use Rattle.powers.proofs.Method.{D, raised-zero, raised_mono, raised_top, raised_most, raised_least}
use Rattle.powers.proofs.Reduction.{most_uncut, least_uncut}
use Rattle.powers.proofs.Rounding.{digits_first, digits_last}
use Rattle.powers.proofs.Order.{exponent_of}
use Rattle.powers.proofs.Middles.{Rounds, Found}

-- ---- over plain numbers: digits R of the fraction f, a step G and the unit U; d for D, and h for 2 ^ 23, of which D has 512

-- the factors in another order
regroup_over : (a b c h e k l G U : ℕ) → a * c * b * (2 * h) * (G * U) < e * (k * l) * (G * U) → a * b * G * c * (2 * (h * U)) < e * G * (k * U * l)
regroup_over a b c h e k l G U i = omega arith

regroup_under : (a b c k l h G U : ℕ) → a * (b * c) * (G * U) < k * l * (2 * h) * (G * U) → a * G * (b * U * c) < k * G * l * (2 * (h * U))
regroup_under a b c k l h G U i = omega arith

-- 512 h are d
halved : (S h q : ℕ) → (512 * S + 256) * q * (2 * h) ≡ (2 * S + 1) * (q * (512 * h))
halved S h q = omega arith

-- 9 units below the middle above S the digits keep below it
over_by : (R f S G U : ℕ) → R ≤ 2 * D → f ≤ D → R + 9 ≤ 512 * S + 256 → 0 < G * U
    → (2 * D + 1) * ((4 * R + 5) * D + 21 * f) * G * (10 * D + 7) * (2 * (2 ^ 23 * U)) < (2 * S + 1) * G * (2 * D * (4 * D * D) * U * (10 * D))
over_by R f S G U top small far pos =
    regroup_over (2 * D + 1) ((4 * R + 5) * D + 21 * f) (10 * D + 7) (2 ^ 23) (2 * S + 1) (2 * D * (4 * D * D)) (10 * D) G U
    (mul-lt-mul_of_pos_right (lt_of_lt_of_le (mul-lt-mul_of_pos_right fraction (lit< tt)) (le_of_eq (halved S (2 ^ 23) (80 * D * D * D)))) pos)
  where
    room : (d : ℕ) → 1000 ≤ d → R ≤ 2 * d → (2 * d + 1) * (10 * d + 7) * (4 * R + 26) < (R + 9) * (80 * d * d)
    room d many few = omega (arith, mul-le-mul_left d few, mul-le-mul_left d many)

    cut : (2 * D + 1) * (10 * D + 7) * (4 * R + 26) < (512 * S + 256) * (80 * D * D)
    cut = lt_of_lt_of_le (room D (lit≤ tt) top) (mul-le-mul_right (80 * D * D) far)

    scaled : (n m b s q d : ℕ) → b ≤ m * d → n * m < s * q → 0 < d → n * b < s * (q * d)
    scaled n m b s q d h l pos = omega (arith, mul-le-mul_left n h, mul-lt-mul_of_pos_right l pos)

    fraction : (2 * D + 1) * (10 * D + 7) * ((4 * R + 5) * D + 21 * f) < (512 * S + 256) * (80 * D * D * D)
    fraction = scaled ((2 * D + 1) * (10 * D + 7)) (4 * R + 26) ((4 * R + 5) * D + 21 * f) (512 * S + 256) (80 * D * D) D (omega arith) cut (lit< tt)

-- and 3 units above the middle below S they keep above it
under_by : (R T G U : ℕ) → R ≤ 2 * D → 512 * T + 259 ≤ R → 0 < G * U → (2 * T + 1) * G * ((2 * D + 1) * D * U * (10 * D + 7)) < 2 * D * R * G * (10 * D) * (2 * (2 ^ 23 * U))
under_by R T G U top far pos = regroup_under (2 * T + 1) ((2 * D + 1) * D) (10 * D + 7) (2 * D * R) (10 * D) (2 ^ 23) G U (mul-lt-mul_of_pos_right fraction pos)
  where
    cut : (512 * T + 256) * ((2 * D + 1) * (10 * D + 7)) < R * (20 * D * D)
    cut = omega arith

    scaled : (t n r q d h : ℕ) → d ≡ 512 * h → 0 < h → (512 * t + 256) * n < r * q → (2 * t + 1) * (n * d) < r * q * (2 * h)
    scaled t n r q d h e pos l = rw e (omega (arith, mul-lt-mul_of_pos_right l pos))

    fraction : (2 * T + 1) * ((2 * D + 1) * D * (10 * D + 7)) < 2 * D * R * (10 * D) * (2 * 2 ^ 23)
    fraction = order (2 * T + 1) (2 * D + 1) D (10 * D + 7) R (2 ^ 23) (scaled T ((2 * D + 1) * (10 * D + 7)) R (20 * D * D) D (2 ^ 23) refl (lit< tt) cut)
      where
        order : (t a d c r h : ℕ) → t * (a * c * d) < r * (20 * d * d) * (2 * h) → t * (a * d * c) < 2 * d * r * (10 * d) * (2 * h)
        order t a d c r h i = omega arith

-- digits that are not open are as far from both middles
far : (R : ℕ) → open_lower + open_upper < (R + 256 + open_lower) % 512 → (R + 9 ≤ 512 * ((R + 256) / 512) + 256) × (512 * ((R + 256) / 512) + 3 ≤ R + 256)
far R h = (omega arith, omega arith)

-- a significand and the odd number of half steps below it
below : (S R : ℕ) → 2 ^ 23 ≤ S → 512 * S + 3 ≤ R + 256 → (T : ℕ) × (2 * S - 1 ≡ 2 * T + 1) × (512 * T + 259 ≤ R)
below S R l h = (S - 1, omega arith, omega arith)

-- the least significand's units
pub at_first : (S G U : ℕ) → S ≡ 2 ^ 23 → S * G * U ≤ G * (2 ^ 23 * U)
at_first S G U e = rw e (regroup (2 ^ 23))
  where
    regroup : (h : ℕ) → h * G * U ≤ G * (h * U)
    regroup h = omega arith

-- ---- x below the whole number that its digits stand above: they are those of 1, and the step below 1 is half as long

-- then R is 1, or a unit more
one_digits : (R G U : ℕ) → D ≤ R → 0 < G * U → 2 * D * R * G * (10 * D) * U ≤ G * ((2 * D + 1) * D * U * (10 * D + 7)) → (R + 256) / 512 ≡ 2 ^ 23
one_digits R G U low pos h = digits (le_of_mul-le-mul_right (regroup D h) (mul-pos (lit< tt) pos))
  where
    regroup : (d : ℕ) → 2 * d * R * G * (10 * d) * U ≤ G * ((2 * d + 1) * d * U * (10 * d + 7)) → R * (20 * d) * (d * (G * U)) ≤ (2 * d + 1) * (10 * d + 7) * (d * (G * U))
    regroup d h = omega arith

    digits : R * (20 * D) ≤ (2 * D + 1) * (10 * D + 7) → (R + 256) / 512 ≡ 2 ^ 23
    digits l = omega arith

half_over : (G U : ℕ) → 0 < G * U → 2 * G * (2 * (2 ^ 23 * U)) < (2 * 2 ^ 24 + 1) * G * U
half_over G U pos = omega arith

half_under : (R G U : ℕ) → D ≤ R → 0 < G * U → (2 * 2 ^ 24 - 1) * G * ((2 * D + 1) * D * U * (10 * D + 7)) < 2 * D * R * (2 * G) * (10 * D) * (2 * (2 ^ 23 * U))
half_under R G U low pos = regroup (2 * 2 ^ 24 - 1) (2 * D + 1) D (10 * D + 7) (2 ^ 23) (mul-lt-mul_of_pos_right fraction (mul-pos (lit< tt) pos))
  where
    fraction : (2 * 2 ^ 24 - 1) * ((2 * D + 1) * (10 * D + 7)) < R * (20 * D) * (4 * 2 ^ 23)
    fraction = omega arith

    regroup : (t a d c h : ℕ) → t * (a * c) * (d * (G * U)) < R * (20 * d) * (4 * h) * (d * (G * U)) → t * G * (a * d * U * c) < 2 * d * R * (2 * G) * (10 * d) * (2 * (h * U))
    regroup t a d c h i = omega arith

-- a step twice as long, where the significand is the least
doubled : (k : ℕ) → 2 ^ 23 * 2 ^ (k + 1) ≡ 2 ^ 24 * 2 ^ k
doubled k = rw (pow-add 2 k 1) (regroup (2 ^ k))
  where
    regroup : (G : ℕ) → 2 ^ 23 * (G * 2 ^ 1) ≡ 2 ^ 24 * G
    regroup G = omega arith

lit_apart : 2 ^ 24 ≡ 2 ^ 23 → ⊥
lit_apart e = omega arith

-- at -126 nothing is below the whole number
one-at_least : (g p n u : ℕ) → n ≤ 126 * u → p + 126 * u < g * u + n → g ≡ g - 1 + 1
one-at_least zero p n u h l = absurd (omega (arith, zero-mul u))
one-at_least (suc g) p n u h l = omega arith

-- ---- a whole power of two, 2 ^ (g - 126), against 2 ^ x
module _ (x : Float) (g : ℕ) where
  itself : AtMost (2 ^ g) (2 ^ 126) g 126 1
  itself = record { per = pow_pos 126; root = lit< tt; holds = rw (pow-one (2 ^ g), pow-one (2 ^ 126)) (le_refl (2 ^ g * 2 ^ 126)) }

  mirrored : AtLeast (2 ^ g) (2 ^ 126) g 126 1
  mirrored = record { per = pow_pos 126; root = lit< tt; holds = rw (pow-one (2 ^ g), pow-one (2 ^ 126)) (le_refl (2 ^ g * 2 ^ 126)) }

  pub whole_most : g * 2 ^ 149 + N x ≤ P x + 126 * 2 ^ 149 → AtMost (2 ^ g) (2 ^ 126) (P x) (N x) (2 ^ 149)
  whole_most h = most_of_larger (pow_pos 149) (rw (mul-one (N x), mul-one (P x)) h) itself

  pub whole_least : P x + 126 * 2 ^ 149 ≤ g * 2 ^ 149 + N x → AtLeast (2 ^ g) (2 ^ 126) (P x) (N x) (2 ^ 149)
  whole_least h = least_of_smaller (pow_pos 149) (rw (mul-one (N x), mul-one (P x)) h) mirrored

-- ---- of an accepted x, where its digits R are not open
module _ (x : Float) (a : Accepts x) where
  abbrev X : ℕ
  X = cut_of x

  abbrev f : ℕ
  f = X % 2 ^ 32

  abbrev g : ℕ
  g = exponent_of X

  abbrev R : ℕ
  R = raised f

  abbrev S : ℕ
  S = power_digits f

  parts : f + g * D ≡ X
  parts = omega arith

  fraction : f ≤ D
  fraction = omega arith

  -- what R stands for, at least and at most
  most : AtMost (2 * D * R * 2 ^ g * (10 * D)) ((2 * D + 1) * D * 2 ^ 126 * (10 * D + 7)) (P x) (N x) (2 ^ 149)
  most = most_uncut x a (rw parts at (most_shift g 126 (raised_most f fraction)))

  least : AtLeast ((2 * D + 1) * ((4 * R + 5) * D + 21 * f) * 2 ^ g * (10 * D + 7)) (2 * D * (4 * D * D) * 2 ^ 126 * (10 * D)) (P x) (N x) (2 ^ 149)
  least = least_uncut x a (rw parts at (least_shift g 126 (raised_least f fraction)))

  floor : D ≤ R
  floor = le_trans (le_of_eq (sym raised-zero)) (raised_mono (omega arith))

  G_pos : 0 < 2 ^ g * 2 ^ 126
  G_pos = mul-pos (pow_pos g) (pow_pos 126)

  far_both : is_left_open R ≡ false → (R + 9 ≤ 512 * S + 256) × (512 * S + 3 ≤ R + 256)
  unfolding is_left_open power_digits
  far_both closed = far R (leb-false ((R + 256 + open_lower) % 512) (open_lower + open_upper) closed)

  -- x is at least the whole number before the digits
  from_whole : is_left_open R ≡ false → g * 2 ^ 149 + N x ≤ P x + 126 * 2 ^ 149 → Rounds x S g
  from_whole closed from =
      let (up, down) = far_both closed in
      let (T, e, away) = below S R (digits_first f) down in
      record {
        least = digits_first f;
        most = digits_last f fraction;
        over = more_of_more (lit< tt) (over_by R f S (2 ^ g) (2 ^ 126) (raised_top f fraction) fraction up G_pos) least;
        under = subst (λ (n : ℕ). LessThan (n * 2 ^ g) (2 * 2 ^ 149) (P x) (N x) (2 ^ 149)) (sym e) (less_of_less (lit< tt) (under_by R T (2 ^ g) (2 ^ 126) (raised_top f fraction) away G_pos) most);
        first = λ c. most_of_less (lit< tt) (at_first S (2 ^ g) (2 ^ 126) c) (whole_most x g from);
      }

  -- x is below it
  below-whole : (k : ℕ) → g ≡ k + 1 → P x + 126 * 2 ^ 149 ≤ g * 2 ^ 149 + N x → Found x (S * 2 ^ g)
  unfolding power_digits
  below-whole k e to = record { S = 2 ^ 24; g = k; rounds = rounds; same = ap (λ (n : ℕ). n * 2 ^ g) digits ∙ ap (λ (n : ℕ). 2 ^ 23 * 2 ^ n) e ∙ doubled k }
    where
      pos : 0 < 2 ^ k * 2 ^ 126
      pos = mul-pos (pow_pos k) (pow_pos 126)

      twice : 2 ^ g ≡ 2 * 2 ^ k
      twice = ap (λ (n : ℕ). 2 ^ n) e ∙ pow-add 2 k 1 ∙ mul_comm (2 ^ k) 2

      digits : S ≡ 2 ^ 23
      digits = one_digits R (2 ^ g) (2 ^ 126) floor G_pos (through_power most (whole_least x g to))

      rounds : Rounds x (2 ^ 24) k
      rounds = record {
        least = lit≤ tt;
        most = lit≤ tt;
        over = more_of_more (lit< tt) (half_over (2 ^ k) (2 ^ 126) pos) (subst (λ (n : ℕ). AtLeast n (2 ^ 126) (P x) (N x) (2 ^ 149)) twice (whole_least x g to));
        under = less_of_less (lit< tt) (half_under R (2 ^ k) (2 ^ 126) floor pos) (subst (λ (n : ℕ). AtMost (2 * D * R * n * (10 * D)) ((2 * D + 1) * D * 2 ^ 126 * (10 * D + 7)) (P x) (N x) (2 ^ 149)) twice most);
        first = λ c. absurd (lit_apart c);
      }

  pub told : is_left_open R ≡ false → Found x (S * 2 ^ g)
  told closed = elim (le-or-lt (g * 2 ^ 149 + N x) (P x + 126 * 2 ^ 149)) [
    | inl h ↦ record { S = S; g = g; rounds = from_whole closed h; same = refl }
    | inr h ↦ below-whole (g - 1) (one-at_least g (P x) (N x) (2 ^ 149) a.at_least h) (le_of_lt h)
  ]
