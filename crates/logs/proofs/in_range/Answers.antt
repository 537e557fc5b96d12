-- `logs::in_range` tells whether x is finite and at least 2 ^ -126. Assumes nothing.
use Rattle.std.proofs.Common.{◌≡◌, ℕ, ◌%◌, ◌<◌, ◌≤◌, Bool, true, false, not}
use Rattle.std.proofs.Common.{◌&&◌, is_le, is_lt, nat_cmp, T, sym, refl, ap, ◌∙◌, subst, inl, true≢false, arith, rules}
use Rattle.std.proofs.lemmas.Grind.{common_steps}
use lib.Ieee.{Float, binary32, fits, to_bits}
use Rattle.units.proofs.Patterns.{Shape, finite_below, beyond}
use Rattle.units.proofs.Between.{sign_clear}
use Rattle.fixed.proofs.Take.{nan_is_none}
use Rattle.logs.specs.Log2.{Accepts}
use Rattle.logs.proofs.Reduction.{normal_bits, bits_few}
use Rattle.logs.proofs.in_range.Goals as goal

-- the greatest subnormal number
subnormal : Shape 8388607 0
subnormal = record { few = omega arith; first = inl refl }

-- a pattern from that of 2 ^ -126 on, below the infinity's
accepted : (x : Float) → T (fits binary32 x) → 8388608 ≤ to_bits binary32 x → to_bits binary32 x < 2139095040
    → Accepts x
accepted x f low high =
    let same : to_bits binary32 x % 2147483648 ≡ to_bits binary32 x = omega arith in
    let n = finite_below x f (omega arith) in
    record {
      number = n;
      at_least_zero = (sign_clear x n (omega arith)).1;
      normal = beyond 8388607 0 subnormal x n (omega arith);
    }

-- what the test of the range tells
module _ (low high b : ℕ) (r : Bool) (test : r ≡ (is_le (nat_cmp low b) && is_lt (nat_cmp b high))) where
  within : r ≡ true → (low ≤ b) × (b < high)
  within e = search (rules, common_steps)

  outside : r ≡ false → low ≤ b → b < high → ⊥
  outside e l h = grind (arith, common_steps)

pub returns-then-not-is_nan : goal.returns-then-not-is_nan
returns-then-not-is_nan c =
    let x = c.args.x in
    record {
      if_true = λ e.
          let (low, high) = within _ _ (to_bits binary32 x) _ c.contains.ensures.value e in
          accepted x (subst T (sym c.well_formed.0.1) tt) (omega (arith, low)) (omega (arith, high));
      if_false = λ e a.
          let out = outside _ _ (to_bits binary32 x) _ c.contains.ensures.value e in
          out (omega (arith, normal_bits x a)) (omega (arith, bits_few x a));
    }

pub returns-else-not-is_nan : goal.returns-else-not-is_nan
returns-else-not-is_nan c = record {
  if_true = λ e. absurd (true≢false (sym e ∙ ap not c.if-not-is_nan.false));
  if_false = λ e a. nan_is_none c.args.x (sym c.is_nan.ensures.value ∙ c.if-not-is_nan.false) a.number;
}
