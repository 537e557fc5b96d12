-- A line is filled as far as there is room, and up to the first newline.
use Rattle.std.proofs.Common.{arith, ◌≡◌, ◌≢◌, ◌∙◌, sym, ap, refl, subst, ℕ, zero, suc, ◌+◌, ◌-◌, ◌<◌, ◌≤◌, ◌==◌, Bool, false, min, eqb-true}
use Rattle.std.proofs.Common.{List, [], ◌∷◌, ◌++◌, append-nil, length, get_or, take, Option, Some, None, position}
use Rattle.std.proofs.lemmas.Grind.{common_steps, flat_map-append}
use Rattle.std.proofs.lemmas.List.{take_min, length-take-le, get_or-take, take_more, take-take}
use Rattle.std.proofs.lemmas.List.Elements.{All-append}
use Rattle.std.proofs.lemmas.List.Quantifiers.{position-Some}
use Rattle.std.proofs.lemmas.List.Sums.{fails_before_first}
use Rattle.std.proofs.lemmas.Slice.{take-put_mid}
use Rattle.std.proofs.Math.Seq.{take-append-add}
use Rattle.std.specs.List.{All, position_or_len}
use Rattle.std.specs.Io.KnownBytes.{Consumes}
use Rattle.std.proofs.KnownBytes.{Consumes-trans}
use Rattle.ear.specs.Words.{one_line}
use borrow.Rule.Slice.PartMut.{put_mid}

-- where the search finds nothing, no element passes
pub none_passes : (p : ℕ → Bool) (xs : List ℕ) → position p xs ≡ None → All (λ x. p x ≡ false) xs
none_passes p xs none = λ k d below.
    let all : length xs ≤ position_or_len p xs = grind (arith, common_steps) in
    fails_before_first p xs k d (omega arith)

pub no_newline : (xs : List ℕ) → position (λ x. x == 10) xs ≡ None → All (λ x. x ≢ 10) xs
no_newline xs none = λ k d below. let other = none_passes (λ x. x == 10) xs none k d below in grind (arith, common_steps)

pub take-cut : (n : ℕ) (xs ys : List ℕ) → take n (take n xs ++ ys) ≡ take n (xs ++ ys)
take-cut zero xs ys = refl
take-cut (suc n) [] ys = refl
take-cut (suc n) (x ∷ xs) ys = ap (λ l. x ∷ l) (take-cut n xs ys)

-- a word more
pub one_line-push : (n : ℕ) (words : List (List ℕ)) (word : List ℕ)
    → take n (take n (one_line words) ++ (word ++ 32 ∷ [])) ≡ take n (one_line (words ++ word ∷ []))
one_line-push n words word =
    let more : one_line words ++ (word ++ 32 ∷ []) ≡ one_line (words ++ word ∷ []) =
    ap (λ l. one_line words ++ l) (sym (append-nil (word ++ 32 ∷ [])))
    ∙ sym (flat_map-append (λ w. w ++ 32 ∷ []) words (word ∷ [])) in
    take-cut n (one_line words) (word ++ 32 ∷ []) ∙ ap (take n) more

-- what `append` leaves
pub appended : (most len n : ℕ) (all bytes part : List ℕ) → n ≡ min (most - len) (length bytes) → len ≤ most
    → len ≤ length all → part ≡ take n bytes → (k : ℕ) → take (len + n) (put_mid len k all part) ≡ take most (take len all ++ bytes)
appended most len n all bytes part is within filled part_is k =
    let n_part : len + n ≡ len + length part = grind (arith, common_steps) in
    let same : part ≡ take (most - len) bytes = part_is ∙ ap (λ m. take m bytes) is ∙ take_min (most - len) bytes in
    let room : length (take len all) + (most - len) ≡ most = omega (arith, length-take-le len all filled) in
    take-put_mid len k all part (len + n) n_part filled
    ∙ ap (λ l. take len all ++ l) same
    ∙ sym (take-append-add (take len all) bytes (most - len))
    ∙ ap (λ m. take m (take len all ++ bytes)) room

pub all_one : {X : Type 0} (P : X → Type 0) (x : X) → P x → All P (x ∷ [])
all_one P x holds zero d below = holds
all_one P x holds (suc k) d below = absurd (omega arith)

-- a line stays without a newline: with bytes up to the first one, or with bytes that have none
pub before_newline : (line bytes new : List ℕ) (end : ℕ) → All (λ x. x ≢ 10) line
    → position (λ x. x == 10) bytes ≡ Some end → new ≡ line ++ take end bytes → All (λ x. x ≢ 10) new
before_newline line bytes new end none found is =
    let within : end < length bytes = (position-Some (λ x. x == 10) bytes end 0 found).0 in
    let part : All (λ x. x ≢ 10) (take end bytes) = λ k d below.
    let lower : k < end = omega (arith, length-take-le end bytes (omega arith)) in
    let other : (get_or bytes k d == 10) ≡ false = (position-Some (λ x. x == 10) bytes end d found).2 k lower in
    let same : get_or (take end bytes) k d ≡ get_or bytes k d = get_or-take end bytes k d lower in
    grind (arith, common_steps) in
    subst (All (λ x. x ≢ 10)) (sym is) (All-append (λ x. x ≢ 10) line (take end bytes) none part)

pub without_newline : (line bytes new : List ℕ) → All (λ x. x ≢ 10) line
    → position (λ x. x == 10) bytes ≡ None → new ≡ line ++ bytes → All (λ x. x ≢ 10) new
without_newline line bytes new none found is =
    subst (All (λ x. x ≢ 10)) (sym is) (All-append (λ x. x ≢ 10) line bytes none (no_newline bytes found))

-- what a reader gave in two steps
pub consumed_more : (a b c : Option (List ℕ)) (line part new : List ℕ) → Consumes a b line → Consumes b c part
    → new ≡ line ++ part → Consumes a c new
consumed_more a b c line part new first second is =
    subst (Consumes a c) (sym is) (Consumes-trans a b c line part first second)

-- the bytes up to the newline, and the newline
pub through_newline : (shown : List ℕ) (n end : ℕ) → n ≤ length shown → position (λ x. x == 10) (take n shown) ≡ Some end
    → take (end + 1) shown ≡ take end (take n shown) ++ 10 ∷ []
through_newline shown n end bound found =
    let at = position-Some (λ x. x == 10) (take n shown) end 0 found in
    let within : end < n = omega (arith, at.0, length-take-le n shown bound) in
    let ten : get_or shown end 0 ≡ 10 =
    sym (get_or-take n shown end 0 within) ∙ eqb-true (get_or (take n shown) end 0) 10 at.1 in
    take_more shown end 0 (omega arith)
    ∙ ap (λ x. take end shown ++ x ∷ []) ten
    ∙ ap (λ l. l ++ 10 ∷ []) (sym (take-take end n shown (omega arith)))

pub newline_within : (shown : List ℕ) (n end : ℕ) → n ≤ length shown → position (λ x. x == 10) (take n shown) ≡ Some end
    → end + 1 ≤ length shown
newline_within shown n end bound found =
    let at = position-Some (λ x. x == 10) (take n shown) end 0 found in
    omega (arith, at.0, length-take-le n shown bound)
