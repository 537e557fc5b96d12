use Rattle.std.proofs.Common.{arith, ◌∙◌, ap, ◌<◌, ◌∷◌, [], ◌++◌, length, take}
use Rattle.std.proofs.lemmas.List.{length_push}
use Rattle.std.proofs.lemmas.List.Elements.{All-append}
use Rattle.ear.proofs.Lines.{all_one, one_line-push}
use Rattle.ear.proofs.arguments.Goals as goal

pub loop-i-preserved : goal.loop-i-preserved
loop-i-preserved g c =
    let before = c.loop-i.invariant in
    let word = c.in-Some.word.now in (
      before.0 ++ word ∷ [],
      omega (arith, length_push before.0 word, before.1),
      All-append (λ w. 0 < length w) before.0 (word ∷ []) before.2 (all_one (λ w. 0 < length w) word c.in-Some.ensures),
      c.append_word.ensures ∙ ap (λ s. take 65536 (s ++ (word ++ 32 ∷ []))) before.3 ∙ one_line-push 65536 before.0 word,
    )
