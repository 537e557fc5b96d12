-- The check of a segment's words: six words, their sum, and what a changed word does to it. Assumes nothing.
use Rattle.std.proofs.Common.{◌≡◌, ℕ, zero, suc, ◌+◌, ◌-◌, ◌%◌, ◌^◌, ◌<◌, List, [], ◌∷◌, length, get_or, set, refl, ap, ◌∙◌, arith}
use Rattle.loudness.specs.Words.{total, check_sum, check_of, five_words, Passes}
use Rattle.loudness.specs.Fitted.{Changed}

-- a list of six
pub record Six (w : List ℕ) : Type 0 where
  pub a : ℕ
  pub b : ℕ
  pub c : ℕ
  pub d : ℕ
  pub e : ℕ
  pub f : ℕ
  pub same : w ≡ a ∷ b ∷ c ∷ d ∷ e ∷ f ∷ []

uncons : (w : List ℕ) (n : ℕ) → length w ≡ suc n → (x : ℕ) × (v : List ℕ) × (w ≡ x ∷ v) × (length v ≡ n)
uncons [] n h = absurd (omega arith)
uncons (x ∷ v) n h = (x, v, refl, omega arith)

empty : (w : List ℕ) → length w ≡ 0 → w ≡ []
empty [] h = refl
empty (x ∷ v) h = absurd (omega arith)

pub six : (w : List ℕ) → length w ≡ 6 → Six w
six w h =
    let (a, w1, e1, l1) = uncons w 5 h in
    let (b, w2, e2, l2) = uncons w1 4 l1 in
    let (c, w3, e3, l3) = uncons w2 3 l2 in
    let (d, w4, e4, l4) = uncons w3 2 l3 in
    let (e, w5, e5, l5) = uncons w4 1 l4 in
    let (f, w6, e6, l6) = uncons w5 0 l5 in
    record {
      a = a;
      b = b;
      c = c;
      d = d;
      e = e;
      f = f;
      same = e1 ∙ ap (λ v. a ∷ v) (e2 ∙ ap (λ v. b ∷ v) (e3 ∙ ap (λ v. c ∷ v) (e4 ∙ ap (λ v. d ∷ v) (e5 ∙ ap (λ v. e ∷ v) (e6 ∙ ap (λ v. f ∷ v) (empty w6 l6))))));
    }

-- their sum
pub total_six : (w : List ℕ) → length w ≡ 6 → total w ≡ get_or w 0 0 + get_or w 1 0 + get_or w 2 0 + get_or w 3 0 + get_or w 4 0 + get_or w 5 0
unfolding total
total_six w h = let s = six w h in rw s.same (omega arith)

-- six words written over six
pub all_set : (w : List ℕ) → length w ≡ 6 → (a b c d e f : ℕ) → set (set (set (set (set (set w 0 a) 1 b) 2 c) 3 d) 4 e) 5 f ≡ a ∷ b ∷ c ∷ d ∷ e ∷ f ∷ []
all_set w h a b c d e f = let s = six w h in rw s.same

-- a changed word changes the sum by as much
changed_total : (w : List ℕ) (j v : ℕ) → j < length w → total (set w j v) + get_or w j 0 ≡ total w + v
unfolding total
changed_total [] j v h = absurd (omega arith)
changed_total (x ∷ w) zero v h = omega arith
changed_total (x ∷ w) (suc j) v h = let e = changed_total w j v (omega arith) in omega arith

-- so that words with one changed do not pass
pub changed_fails : (words w : List ℕ) → ((j : ℕ) → get_or words j 0 < 4294967296) → Passes words → Changed words w → Passes w → ⊥
changed_fails words w small p ch q = ch.differs (same (total words) (total w) (get_or words ch.place 0) ch.other p q sums (small ch.place) ch.word)
  where
    sums : total w + get_or words ch.place 0 ≡ total words + ch.other
    sums = rw ch.changed (changed_total words ch.place ch.other ch.inside)

    same : (s t x y : ℕ) → s % 4294967296 ≡ check_sum → t % 4294967296 ≡ check_sum → t + x ≡ s + y → x < 4294967296 → y < 2 ^ 32 → y ≡ x
    same s t x y a b e l m = omega arith

-- five words and their check
module _ (s l h p r : ℕ) where
  pub five_length : length (five_words s l h p r) ≡ 6
  unfolding five_words
  five_length = refl

  pub five_check : Passes (five_words s l h p r)
  unfolding five_words total check_of
  five_check = ap (λ (v : ℕ). v % 4294967296) (turned s l h p r _) ∙ sums (s + l + h + p + r)
    where
      turned : (s l h p r x : ℕ) → s + (l + (h + (p + (r + (x + 0))))) ≡ s + l + h + p + r + x
      turned s l h p r x = omega arith

      sums : (x : ℕ) → (x + (check_sum + 4294967296 - x % 4294967296) % 4294967296) % 4294967296 ≡ check_sum
      sums x = omega arith

  -- each of them is a word
  pub five_few : s < 4294967296 → l < 4294967296 → h < 4294967296 → p < 4294967296 → r < 4294967296 → (j : ℕ) → get_or (five_words s l h p r) j 0 < 4294967296
  unfolding five_words check_of
  five_few u v x y z zero = u
  five_few u v x y z (suc zero) = v
  five_few u v x y z (suc (suc zero)) = x
  five_few u v x y z (suc (suc (suc zero))) = y
  five_few u v x y z (suc (suc (suc (suc zero)))) = z
  five_few u v x y z (suc (suc (suc (suc (suc zero))))) = omega arith
  five_few u v x y z (suc (suc (suc (suc (suc (suc j)))))) = omega arith

-- and a list is its first five words and their check where its last word is that check, which it is where the list passes
module _ (w : List ℕ) (six_words : length w ≡ 6) where
  abbrev five : ℕ
  five = get_or w 0 0 + get_or w 1 0 + get_or w 2 0 + get_or w 3 0 + get_or w 4 0

  pub five_of : get_or w 5 0 ≡ check_of five → five_words (get_or w 0 0) (get_or w 1 0) (get_or w 2 0) (get_or w 3 0) (get_or w 4 0) ≡ w
  unfolding five_words
  five_of e = let s = six w six_words in rw s.same (rw (rw s.same at e))

  pub check_last : get_or w 5 0 < 4294967296 → Passes w → get_or w 5 0 ≡ check_of five
  unfolding check_of
  check_last l p = let t = total_six w six_words in omega arith
