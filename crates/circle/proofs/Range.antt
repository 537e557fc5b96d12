-- The ranges by the bit pattern of a size: 2 ^ 22 has the digits 0x800000 with the exponent 148, and infinity is above every finite size. Assumes nothing.
use Rattle.std.proofs.Common.{◌%◌, ◌<◌, ◌≤◌, T, inr, not-le_of_lt, arith}
use lib.Ieee.{Float, binary32, fits, to_bits}
use Rattle.units.proofs.Patterns.{Shape, within_less, beyond_or-at, finite_below, below_infinity}
use Rattle.circle.specs.Promise.{AcceptsPi, Accepts}

pi_top : Shape 0x800000 148
pi_top = record { few = omega arith; first = inr (omega arith) }

module _ (x : Float) where
  pub in_pi_range : T (fits binary32 x) → to_bits binary32 x % 2147483648 < 0x4a800000 → AcceptsPi x
  in_pi_range f l = let (n, m) = within_less 0x800000 148 pi_top x (omega arith) f l in record { number = n; below = m }

  pub out_of_pi_range : 0x4a800000 ≤ to_bits binary32 x % 2147483648 → ¬ AcceptsPi x
  out_of_pi_range l a = not-le_of_lt a.below (beyond_or-at 0x800000 148 pi_top x a.number l)

  pub in_range : T (fits binary32 x) → to_bits binary32 x % 2147483648 < 0x7f800000 → Accepts x
  in_range f l = finite_below x f l

  pub out_of_range : 0x7f800000 ≤ to_bits binary32 x % 2147483648 → ¬ Accepts x
  out_of_range l a = not-le_of_lt (below_infinity x a) l
