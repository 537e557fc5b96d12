use Rattle.std.proofs.Common.{◌≡◌, ◌-◌, ◌∙◌, ap, sym, length, take, drop, Some, None, position}
use Rattle.std.proofs.lemmas.List.{take_rest}
use Rattle.ear.specs.Words.{is_blank}
use Rattle.ear.proofs.FirstWord.{no_words, from_start, word_of, whole_word}
use Rattle.ear.proofs.words.split_first.Goals as goal

pub returns-in_err-word : goal.returns-in_err-word
returns-in_err-word c =
    rw c.from_residual.ensures (no_words c.args.line.now (sym c.word_start.ensures ∙ c.in_err-word.was))

pub returns-in-Some : goal.returns-in-Some
returns-in-Some c =
    let line = c.args.line.now in
    let i = c.in_ok-word.field-0 in
    let end = c.in-Some.end in
    let start = from_start line i (sym c.word_start.ensures ∙ c.in_ok-word.was) in
    let rest : take (length line - i) (drop i line) ≡ drop i line = take_rest line i in
    let ends : position is_blank (drop i line) ≡ Some end =
    ap (position is_blank) (sym rest) ∙ sym c.word_end.ensures ∙ c.in-Some.is in
    let front : c.split_at.result.0.now ≡ take end (drop i line) = c.split_at.ensures.front ∙ ap (take end) rest in
    let back : c.split_at.result.1.now ≡ drop end (drop i line) = c.split_at.ensures.back ∙ ap (drop end) rest in
    rw (front, back) (start.0 ∙ word_of (drop i line) end start.1 ends)

pub returns-in-None : goal.returns-in-None
returns-in-None c =
    let line = c.args.line.now in
    let i = c.in_ok-word.field-0 in
    let start = from_start line i (sym c.word_start.ensures ∙ c.in_ok-word.was) in
    let rest : take (length line - i) (drop i line) ≡ drop i line = take_rest line i in
    let ends : position is_blank (drop i line) ≡ None =
    ap (position is_blank) (sym rest) ∙ sym c.word_end.ensures ∙ c.in-None.is in
    rw rest (start.0 ∙ whole_word (drop i line) start.2 ends)
