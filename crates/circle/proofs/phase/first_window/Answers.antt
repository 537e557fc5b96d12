-- `circle::phase::first_window` meets its contract, by the tests of the first windows. Assumes nothing.
use Rattle.std.proofs.Common.{◌≡◌, ℕ, ◌-◌, ◌/◌, ◌%◌, ◌^◌, ◌<◌, ◌≤◌, ap, ◌∙◌, arith}
use Rattle.circle.specs.Phase.{first_word, first_digits}
use Rattle.circle.proofs.Window.{first_word_lem, first_digits_lem}
use Rattle.circle.proofs.phase.first_window.Goals as goal

pub returns-then-e-lt118 : goal.returns-then-e-lt118
returns-then-e-lt118 c =
    let cut = λ (i : ℕ). first_word / 2 ^ (31 - i) in
    c.from.ensures ∙ ap cut c.saturating_sub.ensures ∙ first_word_lem (c.args.e - 86) (omega arith)

-- the remainder is the number itself
places : (e : ℕ) → 118 ≤ e → e < 150 → (149 - e) % 32 ≡ 63 - (e - 86)
places e l h = omega arith

pub returns : goal.returns
returns c =
    let e = c.args.e in
    let cut = λ (i : ℕ). first_digits / 2 ^ i in
    ap cut (places e (omega arith) (omega arith)) ∙ first_digits_lem (e - 86) (omega arith)
