-- The first word of a line, and the line behind it, are the head of its words and the others.
use Rattle.std.proofs.Common.{arith, ◌≡◌, ◌∙◌, sym, ap, refl, ℕ, zero, suc, ◌+◌, ◌<◌, ◌≤◌, ◌==◌, Bool, true, false, not, cond}
use Rattle.std.proofs.Common.{List, [], ◌∷◌, ◌++◌, length, get_or, take, drop, drop-cons, Some, None, position}
use Rattle.std.proofs.lemmas.Grind.{common_steps}
use Rattle.std.proofs.lemmas.List.Quantifiers.{position-Some}
use Rattle.std.proofs.lemmas.List.Splits.{slice_split-cons_yes, slice_split_none, slice_split_at}
use Rattle.std.proofs.lemmas.List.{take-append-drop, get_or-take, get_or-drop, length-drop, length-take-le}
use Rattle.std.proofs.lemmas.List.Elements.{All-head, All-tail}
use Rattle.std.specs.List.{All, filter, slice_split}
use Rattle.ear.specs.Words.{is_blank, words_of}
use Rattle.ear.proofs.Lines.{none_passes}

filter-kept : (word : List ℕ) (words : List (List ℕ)) → 0 < length word
    → filter (λ word. not (length word == 0)) (word ∷ words) ≡ word ∷ filter (λ word. not (length word == 0)) words
filter-kept word words some =
    let kept : not (length word == 0) ≡ true = grind (arith, common_steps) in
    let others = filter (λ word. not (length word == 0)) words in
    ap (λ b. cond b (word ∷ others) others) kept

-- a blank at the front does not count
words_of-blank : (b : ℕ) (bs : List ℕ) → is_blank b ≡ true → words_of (b ∷ bs) ≡ words_of bs
words_of-blank b bs blank = ap (filter (λ word. not (length word == 0))) (slice_split-cons_yes is_blank b bs blank)

words_of-blanks : (i : ℕ) (bs : List ℕ) → i ≤ length bs → ((k : ℕ) → k < i → is_blank (get_or bs k 0) ≡ true)
    → words_of bs ≡ words_of (drop i bs)
words_of-blanks zero bs within blanks = refl
words_of-blanks (suc i) [] within blanks = refl
words_of-blanks (suc i) (b ∷ bs) within blanks =
    words_of-blank b bs (blanks zero (omega arith))
    ∙ words_of-blanks i bs (omega arith) (λ k below. blanks (suc k) (omega arith))

not_false : (b : Bool) → not b ≡ false → b ≡ true
not_false true e = refl
not_false false e = sym e

false_not_true : false ≡ true → ⊥
false_not_true e = cc

not_true : (b : Bool) → not b ≡ true → b ≡ false
not_true true e = sym e
not_true false e = refl

words_of-all_blank : (bs : List ℕ) → All (λ b. not (is_blank b) ≡ false) bs → words_of bs ≡ []
words_of-all_blank [] blank = refl
words_of-all_blank (b ∷ bs) blank =
    words_of-blank b bs (not_false (is_blank b) (All-head (λ b. not (is_blank b) ≡ false) b bs blank))
    ∙ words_of-all_blank bs (All-tail (λ b. not (is_blank b) ≡ false) b bs blank)

pub no_words : (line : List ℕ) → position (λ b. not (is_blank b)) line ≡ None → words_of line ≡ []
no_words line none = words_of-all_blank line (none_passes (λ b. not (is_blank b)) line none)

-- from where the first word starts
pub from_start : (line : List ℕ) (i : ℕ) → position (λ b. not (is_blank b)) line ≡ Some i
    → (words_of line ≡ words_of (drop i line)) × (is_blank (get_or (drop i line) 0 0) ≡ false) × (0 < length (drop i line))
from_start line i found =
    let at = position-Some (λ b. not (is_blank b)) line i 0 found in
    let within : i < length line = at.0 in
    let plain : i + 0 ≡ i = omega arith in (
      words_of-blanks i line (omega arith) (λ k below. not_false (is_blank (get_or line k 0)) (at.2 k below)),
      ap is_blank (get_or-drop i line 0 0 ∙ ap (λ k. get_or line k 0) plain) ∙ not_true (is_blank (get_or line i 0)) at.1,
      omega (arith, length-drop i line),
    )

-- a line of one word
words_of-whole : (bs : List ℕ) → 0 < length bs → All (λ b. is_blank b ≡ false) bs → words_of bs ≡ bs ∷ []
words_of-whole bs some none =
    ap (filter (λ word. not (length word == 0))) (slice_split_none is_blank bs none) ∙ filter-kept bs [] some

later : (bs : List ℕ) (e : ℕ) → is_blank (get_or bs 0 0) ≡ false → is_blank (get_or bs e 0) ≡ true → 0 < e
later bs zero starts blank = absurd (false_not_true (sym starts ∙ blank))
later bs (suc e) starts blank = omega arith

-- a word and what stands behind it
pub word_of : (bs : List ℕ) (e : ℕ) → is_blank (get_or bs 0 0) ≡ false → position is_blank bs ≡ Some e
    → words_of bs ≡ take e bs ∷ words_of (drop e bs)
word_of bs e starts found =
    let at = position-Some is_blank bs e 0 found in
    let within : e < length bs = at.0 in
    let blank : is_blank (get_or bs e 0) ≡ true = at.1 in
    let some : 0 < length (take e bs) = omega (arith, length-take-le e bs (omega arith), later bs e starts blank) in
    let behind : drop e bs ≡ get_or bs e 0 ∷ drop (suc e) bs = drop-cons bs e 0 within in
    let parts : bs ≡ take e bs ++ get_or bs e 0 ∷ drop (suc e) bs =
    sym (take-append-drop e bs) ∙ ap (λ l. take e bs ++ l) behind in
    let none : All (λ b. is_blank b ≡ false) (take e bs) = λ k d below.
    let lower : k < e = omega (arith, length-take-le e bs (omega arith)) in
    ap is_blank (get_or-take e bs k d lower) ∙ (position-Some is_blank bs e d found).2 k lower in
    ap words_of parts
    ∙ ap (filter (λ word. not (length word == 0)))
    (slice_split_at is_blank (take e bs) (get_or bs e 0) (drop (suc e) bs) none blank)
    ∙ filter-kept (take e bs) (slice_split is_blank (drop (suc e) bs)) some
    ∙ ap (λ ws. take e bs ∷ ws)
    (sym (words_of-blank (get_or bs e 0) (drop (suc e) bs) blank) ∙ ap words_of (sym behind))

pub whole_word : (bs : List ℕ) → 0 < length bs → position is_blank bs ≡ None → words_of bs ≡ bs ∷ []
whole_word bs some none = words_of-whole bs some (none_passes is_blank bs none)
