-- What a list holds after stores, and after a part of it was lent: the patterns of words. Assumes nothing.
use mathlib.Core.Path.{◌≡◌, sym, ap, ◌∙◌}
use mathlib.Core.List.{List, ◌++◌}
use Prim.Native.Nat.{ℕ, zero, suc, ◌+◌, ◌-◌, ◌≤◌, ◌<◌}
use native.Mathlib.Omega.{arith}
use lib.ListN.{length, get_or, set, take, drop, length-set, length-drop, get_or-append}
use lib.Seq.{get_or-set_same, get_or-set_other, length-take-le, get_or-append-add}
use borrow.Rule.Slice.PartMut.{mid_of, put_mid, post_of, same_len_mid}
use Rattle.spectrum.specs.Floats.{bits_of, StoredImaginary}

-- a store elsewhere is past over
past : (l : List ℕ) (i j v : ℕ) → ¬ (j ≡ i) → get_or (set l i v) j 0 ≡ get_or l j 0
past l i j v n = get_or-set_other l i j v 0 n

here : (l : List ℕ) (i v : ℕ) → i < length l → get_or (set l i v) i 0 ≡ v
here l i v h = get_or-set_same l i v 0 h

-- ---- a part of a list that was lent and came back as other words
pub placed : (h k : ℕ) (xs ys : List ℕ) → h ≤ length xs → (i : ℕ) → i < length ys
    → get_or (put_mid h k xs ys) (h + i) 0 ≡ get_or ys i 0
placed h k xs ys fits i l =
    ap (λ (n : ℕ). get_or (put_mid h k xs ys) (n + i) 0) (sym (length-take-le h xs fits))
    ∙ get_or-append-add (take h xs) (ys ++ post_of h k xs) i 0 ∙ get_or-append ys (post_of h k xs) 0 i l

-- ---- stores of patterns, each of the word that a call found
-- where every such call finds the word w
pub stored_as : {Found : ℕ → Type 0} {b : ℕ} (e w : ℕ) → ((v : ℕ) → Found v → v ≡ w)
    → (v : ℕ) × Found v × (b ≡ bits_of e v) → b ≡ bits_of e w
stored_as e w same (v, found, pattern) = pattern ∙ ap (bits_of e) (same v found)

-- all but the ends, and then these
pub between_ends : (e : ℕ) (words im out : List ℕ) → length im ≡ 65 → length out ≡ length (mid_of 1 63 im)
    → ((i : ℕ) → i < 63 → get_or out i 0 ≡ bits_of e (get_or words (127 - i) 0))
    → StoredImaginary e words (set (set (put_mid 1 63 im out) 0 0) 64 0)
between_ends e words im out a b stored = record {
  as_many = length-set (set all 0 0) 64 0 ∙ length-set all 0 0 ∙ whole;
  each = λ k l h. past (set all 0 0) 64 k 0 (λ z. omega arith) ∙ past all 0 k 0 (λ z. omega arith) ∙ inner k l h;
  first = past (set all 0 0) 64 0 0 (λ z. omega arith) ∙ here all 0 0 (omega (arith, whole));
  last = here (set all 0 0) 64 0 (omega (arith, whole, length-set all 0 0));
}
  where
    all : List ℕ
    all = put_mid 1 63 im out

    whole : length all ≡ 65
    whole = same_len_mid 1 63 im out b ∙ a

    part : length out ≡ 63
    part = b ∙ length-take-le 63 (drop 1 im) (omega (arith, length-drop 1 im))

    inner : (k : ℕ) → 1 ≤ k → k < 64 → get_or all k 0 ≡ bits_of e (get_or words (128 - k) 0)
    inner zero l h = absurd (omega arith)
    inner (suc i) l h =
        let place : suc i ≡ 1 + i = omega arith in
        let from : 128 - (1 + i) ≡ 127 - i = omega arith in
        rw (place, from) (placed 1 63 im out (omega arith) i (omega (arith, part)) ∙ stored i (omega arith))
