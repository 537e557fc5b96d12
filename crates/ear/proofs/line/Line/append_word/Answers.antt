use Rattle.std.proofs.Common.{◌++◌, ◌∷◌, [], ◌∙◌, ap, take, append_assoc}
use Rattle.ear.proofs.Lines.{take-cut}
use Rattle.ear.proofs.line.Line.append_word.Goals as goal

pub returns : goal.returns
returns c =
    c.append-2.ensures.cut
    ∙ ap (λ s. take 65536 (s ++ 32 ∷ [])) c.append.ensures.cut
    ∙ take-cut 65536 (c.args.self.now ++ c.args.word.now) (32 ∷ [])
    ∙ ap (take 65536) (append_assoc c.args.self.now c.args.word.now (32 ∷ []))
