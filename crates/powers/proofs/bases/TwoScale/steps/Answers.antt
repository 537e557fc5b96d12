-- `TwoScale::steps` meets its contract: a product that is exact, a shift that cuts off, or nothing. Assumes nothing.
use Rattle.std.proofs.Common.{◌≡◌, ℕ, ◌-◌, ◌*◌, ◌/◌, ◌%◌, ◌^◌, ◌≤◌, sym, ap, ◌∙◌, lt_of_le_of_lt, mod-eq_of_lt}
use Rattle.std.proofs.Common.{◌+◌, ◌<◌, one-mul, arith, pow_mono, inl, inr, refl}
use Rattle.std.proofs.Common.{le-ltb, lt-ltb, lt_of_lt_of_le, ltb, if◌then◌else◌}
use native.Mathlib.Nat.{div-eq_of_lt}
use Rattle.units.proofs.Naturals.{le-or-lt}
use Rattle.powers.specs.Bases.{steps_in}
use Rattle.powers.proofs.Taken.{steps_low, steps_whole, steps_cut}
use Rattle.powers.proofs.bases.TwoScale.steps.Goals as goal

-- the power of two fits a word of 32 bits
unit : (s : ℕ) → s ≤ 15 → 1 * 2 ^ s % 4294967296 ≡ 2 ^ s
unit s h =
    let small : 2 ^ s ≤ 32768 = pow_mono {i = s} {j = 15} h in
    ap (λ (n : ℕ). n % 4294967296) (one-mul (2 ^ s)) ∙ mod-eq_of_lt (lt_of_le_of_lt small (omega arith))

pub returns-then-e-ge118 : goal.returns-then-e-ge118
unfolding steps_in
returns-then-e-ge118 c =
    let a = c.args.a in
    rw (c.from.ensures, c.from-then-e-ge118.ensures, unit (a / 8388608 - 118) (omega arith))
    (sym (steps_whole a c.if-e-ge118.true))

-- below 2 ^ -33 no digit is left of 24
none_left : (m s : ℕ) → m < 16777216 → 25 ≤ s → (if ltb s 32 then m / 2 ^ s else 0) ≡ 0
none_left m s h l = elim (le-or-lt 32 s) [
  | inl o ↦ rw (le-ltb s 32 o) refl
  | inr u ↦ rw (lt-ltb s 32 u) (div-eq_of_lt (lt_of_lt_of_le h (pow_mono {i = 24} {j = s} (omega arith))))
]

pub returns : goal.returns
unfolding steps_in
returns c =
    let a = c.args.a in
    c.from-2.ensures ∙ c.unbounded_shr.ensures ∙ elim (le-or-lt 94 (a / 8388608)) [
      | inl l ↦
          rw (lt-ltb (118 - a / 8388608) 32 (omega arith)) (sym (steps_cut a l c.if-e-ge118.false))
      | inr l ↦
          none_left (a % 8388608 + 8388608) (118 - a / 8388608) (omega arith) (omega arith)
          ∙ sym (steps_low a (omega arith))
    ]
