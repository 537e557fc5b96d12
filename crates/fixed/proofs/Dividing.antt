-- Long division by digits of 16 bits: one digit from the first half of the divisor, and two digits put together. Assumes nothing.
use mathlib.Core.Path.{◌≡◌, sym}
use Prim.Native.Nat.{ℕ, ◌+◌, ◌*◌, ◌/◌, ◌%◌, ◌^◌, ◌≤◌, ◌<◌}
use native.Mathlib.Nat.{le_of_lt, lt_of_le_of_lt, mod-eq_of_lt, mul-lt-mul_of_pos_right, mul-le-mul_left, le_of_mul-le-mul_right, lt_of_mul-lt-mul_right, div-mul-le_self, lt-div-mul-add, div-eq_of_lt-le}
use native.Mathlib.Omega.{arith}
use lib.Count.{count_leading_zeros}
use lib.Pow.{pow_pos}
use Rattle.fixed.specs.Division.{IsQuotient}
use Rattle.fixed.proofs.Rounding.{leading_shift}

-- ---- one digit, of r 2 ^ 16 + b
-- q is not too large, and at most 2 too small
pub record Tried (r b d q : ℕ) : Type 0 where
  pub most : q * d ≤ r * 65536 + b
  pub least : r * 65536 + b < q * d + 3 * d
  pub small : q < 65536

module _ (r b d : ℕ) (less : r < d) (digit : b < 65536) where
  -- whatever is not too large is one digit
  one_digit : (q : ℕ) → q * d ≤ r * 65536 + b → q < 65536
  one_digit q h = lt_of_mul-lt-mul_right d (lt_of_le_of_lt h (omega arith))

  -- r over the first half of the divisor, rounded up, for a divisor with its top bit set
  pub tried : 2 ^ 31 ≤ d → Tried r b d (r / (d / 65536 + 1))
  tried top =
      through (r / (d / 65536 + 1)) (d / 65536) (div-mul-le_self r (d / 65536 + 1)) (lt-div-mul-add {a = r} {b = d / 65536 + 1} (omega arith)) (div-mul-le_self d 65536)
      (le_of_lt (lt-div-mul-add {a = d} {b = 65536} (omega arith)))
    where
      not_above : (q h : ℕ) → q * (h + 1) ≤ r → d ≤ h * 65536 + 65536 → q * d ≤ r * 65536 + b
      not_above q h k l = omega (arith, mul-le-mul_left q l)

      close_below : (q h : ℕ) → q < 65536 → r < q * (h + 1) + (h + 1) → h * 65536 ≤ d → r * 65536 + b < q * d + 3 * d
      close_below q h s m o = omega (arith, mul-le-mul_left (q + 1) o)

      through : (q h : ℕ) → q * (h + 1) ≤ r → r < q * (h + 1) + (h + 1) → h * 65536 ≤ d → d ≤ h * 65536 + 65536 → Tried r b d q
      through q h k m o l = let n = not_above q h k l in record { most = n; least = close_below q h (one_digit q n) m o; small = one_digit q n }

  -- the quotient is a digit
  pub is_digit : (q s : ℕ) → IsQuotient (r * 65536 + b) d q s → IsQuotient (r * 65536 + b) d q s × (q < 65536)
  is_digit q s i = (i, one_digit q (omega (arith, i.same)))

-- ---- two digits, the second of what the first left
pub two_digits : (m d h r l s : ℕ) → IsQuotient (m / 4294967296 * 65536 + m / 65536 % 65536) d h r → IsQuotient (r * 65536 + m % 65536) d l s → IsQuotient m d (h * 65536 + l) s
two_digits m d h r l s i j = record {
  same = omega (arith, i.same, j.same);
  less = j.less;
}

-- ---- both shifted, until the divisor has its top bit set
pub record Shifted (n d z : ℕ) : Type 0 where
  pub small : z ≤ 31
  pub top : 2 ^ 31 ≤ d * 2 ^ z
  pub less : n * 2 ^ z / 2 ^ 32 < d * 2 ^ z
  -- nothing is shifted out
  pub divisor : d * 2 ^ z % 2 ^ 32 ≡ d * 2 ^ z
  pub number : n * 2 ^ z % 2 ^ 64 ≡ n * 2 ^ z

pub shifted : (n d : ℕ) → d < 2 ^ 32 → n < d * 4294967296 → Shifted n d (count_leading_zeros 32 d)
shifted n d h l =
    let (s, a, b) = leading_shift 31 d (omega arith) h in
    let m = scaled (2 ^ count_leading_zeros 32 d) (pow_pos (count_leading_zeros 32 d)) in
    record { small = s; top = a; less = omega arith; divisor = mod-eq_of_lt b; number = mod-eq_of_lt (omega arith) }
  where
    scaled : (U : ℕ) → 0 < U → n * U < d * U * 4294967296
    scaled U pos = omega (arith, mul-lt-mul_of_pos_right l pos)

pub unshifted : (n d U q r : ℕ) → 0 < U → IsQuotient (n * U) (d * U) q r → q ≡ n / d
unshifted n d U q r pos i = sym (div-eq_of_lt-le {k = q} d {m = n} (le_of_mul-le-mul_right {k = U} (omega (arith, i.same)) pos) (lt_of_mul-lt-mul_right U (omega (arith, i.same, i.less))))
