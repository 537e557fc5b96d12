-- `sums::is_finite` meets its contract: the two tests are those of a finite float. Assumes nothing.
use mathlib.Core.Path.{◌≡◌, refl, sym, ◌∙◌, subst}
use mathlib.Core.Bool.{Bool, true, false, true≢false}
use lib.Dec.{T}
use lib.Ieee.{binary32, nan_bits, of_bits, le}
use lib.Ieee.Scale.{finite}
use Rattle.units.specs.Units.{Number}
use Rattle.units.proofs.Ranges.{finite_within, not_finite, not_finite_below}
use Rattle.sums.proofs.Lists.{same_finite}
use Rattle.sums.proofs.is_finite.Goals.{Start}
use Rattle.sums.proofs.is_finite.Goals as goal

pub float_from_bits-t-3 : goal.float_from_bits-t-3
unfolding nan_bits
float_from_bits-t-3 c = tt

pub float_from_bits-result : goal.float_from_bits-result
unfolding nan_bits
float_from_bits-result c = tt

-- x is an f32, so a number where it is finite
number : (c : Start) → T (finite c.args.x) → Number c.args.x
number c f = record { fits32 = subst T (sym c.well_formed.0.1) tt; is_finite = f }

same : (p q : Bool) → (T q → p ≡ false → ⊥) → (p ≡ true → T q) → p ≡ q
same true true h g = refl
same true false h g = absurd (g refl)
same false true h g = absurd (h tt refl)
same false false h g = refl

pub returns-then-x : goal.returns-then-x
returns-then-x c =
    let x = c.args.x in
    let e = same (le x (of_bits binary32 2139095039)) (finite x)
    (λ f. not_finite x (number (goal.at.returns-then-x c).Start f)) (finite_within x c.if-x.true) in
    record { told = e; value = e ∙ sym (same_finite x) }

pub returns-else-x : goal.returns-else-x
returns-else-x c =
    let x = c.args.x in
    let e = same (le (of_bits binary32 4286578687) x) (finite x)
    (λ f. not_finite_below x (number (goal.at.returns-else-x c).Start f)) (λ e. absurd (true≢false (sym e ∙ c.if-x.false))) in
    record { told = e; value = e ∙ sym (same_finite x) }
