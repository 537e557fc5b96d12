-- Which floats the tests on a bit pattern let through: the zeros, and the finite floats above zero. Assumes nothing.
use Rattle.std.proofs.Common.{◌≡◌, ℕ, ◌/◌, ◌%◌, ◌<◌, Bool, cond, T, refl, ap, ◌∙◌, inl, inr, arith}
use lib.Ieee.{Float, binary32, fits, to_bits}
use Rattle.units.specs.Units.{mag, Number}
use Rattle.units.proofs.Naturals.{le-or-lt}
use Rattle.units.proofs.Signs.{sign_plus}
use Rattle.units.proofs.Patterns.{Shape, packed_of, finite_below, below_infinity, within, beyond}
use Rattle.units.proofs.Between.{sign_clear}
use Rattle.units.specs.Units.{Positive}

-- no digits, no exponent
nothing : Shape 0 0
nothing = record { few = omega arith; first = inl refl }

module _ (x : Float) where
  abbrev b : ℕ
  b = to_bits binary32 x

  -- nothing below the sign's bit: a zero
  pub zero_is : T (fits binary32 x) → b % 2147483648 ≡ 0 → Number x × (mag x ≡ 0)
  zero_is f e = let (n, m) = within 0 0 nothing x (omega arith) f (omega arith) in (n, omega arith)

  -- something there: not a zero
  pub not-zero : Number x → 0 < b % 2147483648 → 0 < mag x
  not-zero n l = let h = beyond 0 0 nothing x n (omega arith) in omega arith

  -- and the sign's bit clear, below the infinity's pattern: a finite float above zero
  pub positive : T (fits binary32 x) → 0 < b % 2147483648 → b < 2139095040 → Positive x
  positive f l h =
      let n = finite_below x f (omega arith) in
      let k = not-zero n l in
      record { number = n; sign = sign_plus x (sign_clear x n (omega arith)).1 k; above = k }

  -- every such float is there
  pub positive_below : Positive x → b < 2139095040
  positive_below p =
      let s : b / 2147483648 ≡ 0 = (packed_of x p.number).top_bit ∙ ap (λ (s : Bool). cond s 1 0) p.sign in
      let l = below_infinity x p.number in
      omega arith

  pub positive_above : Positive x → 0 < b
  positive_above p = elim (le-or-lt b 0) [
    | inl l ↦ let (n, e) = zero_is p.number.fits32 (omega arith) in let q = p.above in absurd (omega arith)
    | inr l ↦ l
  ]
