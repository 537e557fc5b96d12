use Rattle.std.proofs.Common.{arith, ◌≡◌, ◌≤◌, ◌∙◌, ◌++◌, ap, take}
use Rattle.std.proofs.lemmas.Grind.{common_steps}
use Rattle.std.proofs.lemmas.List.{take_all, length-append}
use Rattle.ear.proofs.Lines.{appended}
use Rattle.ear.proofs.line.Line.append.Goals as goal

pub returns-clause-cut : goal.returns-clause-cut
returns-clause-cut c =
    let within : c.self.inside.len ≤ 65536 = c.self.invariant in
    let part : c.copy_from_slice.new.self ≡ take c.min-n.result c.args.bytes.now = grind (arith, common_steps) in
    let same : take c.self.inside.len c.self.inside.bytes ≡ c.args.self.now = (cc) in
    appended 65536 c.self.inside.len c.min-n.result c.self.inside.bytes c.args.bytes.now c.copy_from_slice.new.self
    c.min-n.ensures within (omega arith) part _
    ∙ ap (λ s. take 65536 (s ++ c.args.bytes.now)) same

pub returns-clause-whole : goal.returns-clause-whole
returns-clause-whole c =
    λ fits. returns-clause-cut c ∙ take_all 65536 (c.args.self.now ++ c.args.bytes.now) (omega (arith, length-append c.args.self.now c.args.bytes.now))
