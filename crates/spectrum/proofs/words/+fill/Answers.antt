-- `spectrum::words::fill` meets its contract, by recursion on the halves. Assumes nothing.
use mathlib.Core.Path.{refl, sym, ◌∙◌, subst}
use Prim.Native.Nat.{ℕ, ◌+◌, ◌*◌, ◌/◌, ◌^◌, ◌<◌}
use native.Mathlib.Omega.{arith}
use lib.ListN.{length}
use lib.Seq.{length-take-le}
use Rattle.spectrum.specs.Words.{Fillable}
use Rattle.spectrum.proofs.Blocks.{half_fits, shorter, rest_shorter, rest_half, mid_length, fillable, leaf_filled, deeper, few, inside, four_times, all_inside, first_four, second_four, twice_length, first_length, second_length, first_half, second_half, both_filled, twice}
use Rattle.spectrum.proofs.words.+fill.Goals as goal

pub returns-then-n-eq4 : goal.returns-then-n-eq4
returns-then-n-eq4 t c =
    leaf_filled c.args.y.now c.args.off c.args.st c.leaf.new.r
    (subst (Fillable c.args.y.now c.args.off c.args.st) c.if-n-eq4.true c.requires) (c.leaf.auto.r ∙ c.if-n-eq4.true)
    c.leaf.ensures

pub fill-requires : goal.fill-requires
fill-requires t c =
    let l = c.args.r.now in (
      subst (λ (n : ℕ). n < t) (sym (length-take-le _ l (half_fits l)))
          (shorter l t c.decreases c.if-n-eq4.false c.requires.s c.requires.size),
      fillable c.args.off _ c.requires c.if-n-eq4.false (omega (arith, c.requires.start))
          (length-take-le _ l (half_fits l)),
    )

pub fill-requires-2 : goal.fill-requires-2
fill-requires-2 t c =
    let l = c.args.r.now in
    let m = mid_length l c.fill.new.r (length l / 2) (half_fits l) c.fill.auto.r in (
      subst (λ (n : ℕ). n < t) (sym m)
          (rest_shorter l t c.decreases c.if-n-eq4.false c.requires.s c.requires.size),
      fillable (c.args.off + c.args.st) _ c.requires c.if-n-eq4.false (omega (arith, c.requires.start))
          (m ∙ rest_half l c.requires.s c.requires.size),
    )

pub combine-requires : goal.combine-requires
combine-requires t c =
    let l = c.args.r.now in
    let d = deeper c.requires.s c.requires.size c.requires.apart c.if-n-eq4.false in
    let l₁ = c.fill.new.r in
    let l₂ = c.fill-2.new.r in
    let k₁ = c.fill.auto.r in
    let k₂ = c.fill-2.auto.r in
    let f = half_fits l in
    let n = twice_length l l₁ l₂ (length l / 2) f k₁ k₂ in
    let b = few (2 ^ d.s) c.args.st d.apart in
    let first = first_four l l₁ l₂ (length l / 2) f k₁ k₂ (2 ^ d.s) d.size refl in
    let second = second_four l l₁ l₂ (length l / 2) f k₁ k₂ (2 ^ d.s) d.size refl in (
      n ∙ four_times l (2 ^ d.s) d.size,
      all_inside l l₁ l₂ (length l / 2) f k₁ k₂ (2 ^ d.s) d.size
          (inside c.args.y.now c.args.off (2 * c.args.st) d.s l₁ c.requires.as_many c.requires.small d.apart b first c.fill.ensures)
          (inside c.args.y.now (c.args.off + c.args.st) (2 * c.args.st) d.s l₂ c.requires.as_many c.requires.small d.apart b second c.fill-2.ensures),
    )

pub returns : goal.returns
returns t c =
    let l = c.args.r.now in
    let l₁ = c.fill.new.r in
    let l₂ = c.fill-2.new.r in
    let k₁ = c.fill.auto.r in
    let k₂ = c.fill-2.auto.r in
    let f = half_fits l in
    let n = c.combine.auto.r ∙ twice_length l l₁ l₂ (length l / 2) f k₁ k₂ in
    both_filled c.args.y.now c.args.off c.args.st (length l) l₁ l₂ (twice l l₁ l₂ (length l / 2) f k₁) c.combine.new.r
    (length l / 2) (length l / 2 / 2) c.if-n-eq4.false refl refl (first_length l l₁ l₂ (length l / 2) f k₁)
    (second_length l l₁ l₂ (length l / 2) f k₁ k₂) n (first_half l l₁ l₂ (length l / 2) f k₁ k₂)
    (second_half l l₁ l₂ (length l / 2) f k₁ k₂) c.fill.ensures c.fill-2.ensures c.combine.ensures
