-- `Rows::difference` meets its contract: where more was borrowed than carried, the difference is below zero. Assumes
-- nothing.
use mathlib.Core.Path.{◌≡◌, ap, ◌∙◌}
use Prim.Native.Nat.{ℕ, ◌+◌, ◌*◌, ◌^◌}
use native.Mathlib.Nat.{lt_of_le_of_lt, le_of_eq}
use native.Mathlib.Omega.{arith}
use Rattle.units.specs.Answers.{float_bits}
use Rattle.exactsums.specs.Work.{number}
use Rattle.exactsums.specs.Nearest.{rounded}
use Rattle.exactsums.proofs.Ending.{ones_digits, positive, negative, pattern_fits}
use Rattle.exactsums.proofs.Rows.difference.Goals.{After-rounded-2}
use Rattle.exactsums.proofs.Rows.difference.Goals as goal

pub subtract-d-requires : goal.subtract-d-requires
subtract-d-requires c = (c.requires, ones_digits)

-- ---- above zero, or 0
pub returns-then-d : goal.returns-then-d
returns-then-d c =
    let d = c.subtract-d.result in
    c.rounded.ensures ∙ ap float_bits (positive c.args.self.now.bins _ d.over d.under c.subtract-d.ensures c.if-d.true)

-- ---- below zero
turned : (c : After-rounded-2)
    → 2147483648 + c.rounded-2.result
    ≡ float_bits (rounded (number c.args.self.now.bins 0 41 * 2 ^ 172) (number c.args.self.now.bins 41 41 * 2 ^ 172))
turned c =
    let d = c.subtract-d.result in
    ap (λ (n : ℕ). 2147483648 + n) c.rounded-2.ensures
    ∙ negative c.args.self.now.bins _ d.over d.under c.subtract-d.ensures c.if-d.false

pub overflow_add-result : goal.overflow_add-result
overflow_add-result c =
    let same = turned (goal.at.overflow_add-result c).After-rounded-2 in
    let bins = c.args.self.now.bins in
    let l = lt_of_le_of_lt (le_of_eq same) (pattern_fits (number bins 0 41 * 2 ^ 172) (number bins 41 41 * 2 ^ 172)) in
    omega (arith, l)

pub returns : goal.returns
returns c = turned (goal.at.returns c).After-rounded-2
