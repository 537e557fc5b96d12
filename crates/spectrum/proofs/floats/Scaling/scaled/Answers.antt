-- `spectrum::floats::Scaling::scaled` meets its contract: digits and place of both kinds of patterns. Assumes nothing.
use mathlib.Core.Path.{◌≡◌, sym, ap, ap₂, ◌∙◌, subst}
use Prim.Native.Nat.{ℕ, ◌+◌, ◌-◌, ◌*◌, ◌/◌, ◌%◌, ◌^◌, ◌≤◌, ◌<◌}
use native.Mathlib.Omega.{arith}
use Rattle.spectrum.specs.Floats.{place_in, size_in}
use Rattle.spectrum.proofs.Sizes.{low_digits, low_place, high_digits}
use Rattle.spectrum.proofs.Loads.{place_most}
use Rattle.spectrum.proofs.floats.Scaling.scaled.Goals as goal

low_size : (b : ℕ) → b < 8388608 → size_in b ≡ b * 2 ^ 0
low_size b h = ap₂ (λ d k. d * 2 ^ k) (low_digits b h) (low_place b h)

high-size : (b : ℕ) → 8388608 ≤ b → size_in b ≡ (b % 8388608 + 8388608) * 2 ^ (b / 8388608 - 1)
unfolding place_in
high-size b h = ap (λ (d : ℕ). d * 2 ^ (b / 8388608 - 1)) (high_digits b h)

pub shifted-requires : goal.shifted-requires
shifted-requires c =
    let few : c.args.b * 2 ^ 0 < 2 ^ c.args.self.digits = rw (← low_size c.args.b c.if-b-lt8388608.true) c.requires.0 in
    (omega (arith, c.if-b-lt8388608.true), omega arith, few)

pub returns-then-b-lt8388608 : goal.returns-then-b-lt8388608
returns-then-b-lt8388608 c =
    c.shifted.ensures
    ∙ ap (λ (n : ℕ). n * 2 ^ 53 / 2 ^ c.args.self.digits) (sym (low_size c.args.b c.if-b-lt8388608.true))

pub shifted-requires-2 : goal.shifted-requires-2
unfolding place_in
shifted-requires-2 c =
    let size = high-size c.args.b c.if-b-lt8388608.false in (
      omega arith,
      place_most c.args.b c.args.self.digits c.if-b-lt8388608.false c.requires.0,
      subst (λ (n : ℕ). n < 2 ^ c.args.self.digits) size c.requires.0,
    )

pub returns : goal.returns
returns c =
    c.shifted-2.ensures
    ∙ ap (λ (n : ℕ). n * 2 ^ 53 / 2 ^ c.args.self.digits) (sym (high-size c.args.b c.if-b-lt8388608.false))
