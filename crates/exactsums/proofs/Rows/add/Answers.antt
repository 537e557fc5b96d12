-- `exactsums::Rows::add` meets its contract. Assumes nothing.
use mathlib.Core.Path.{ap}
use Prim.Native.Nat.{ℕ, ◌+◌}
use Rattle.exactsums.proofs.Patterns.{exponent_of_lem}
use Rattle.exactsums.proofs.Gathering.{added_one}
use Rattle.exactsums.proofs.Rows.add.Goals as goal

pub times-t-requires : goal.times-t-requires
times-t-requires c = (exponent_of_lem c.args.x c.requires.0, exponent_of_lem c.args.y c.requires.1)

pub returns : goal.returns
returns c =
    let t = c.times-t.result in
    added_one c.args.x c.args.y c.args.self.now.bins t.digits t.place (c.row.result + t.place) c.requires.2.long
    c.times-t.ensures c.requires.0 c.requires.1 (ap (λ (n : ℕ). n + t.place) c.row.ensures)
