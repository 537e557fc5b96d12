-- The two halves of a block, and what the recursion is given and gives.
use mathlib.Core.Path.{◌≡◌, refl, sym, ap, ap₂, ◌∙◌, subst}
use mathlib.Core.Logic.{inl, inr}
use mathlib.Core.List.{List, [], ◌∷◌, ◌++◌}
use Prim.Native.Nat.{ℕ, zero, suc, ◌+◌, ◌-◌, ◌*◌, ◌/◌, ◌^◌, ◌≤◌, ◌<◌}
use native.Mathlib.Nat.{pow-suc, le_of_suc-le-suc, not-suc-le-zero, mul-le-mul_left, mul-le-mul_right, le_trans}
use native.Mathlib.Omega.{arith}
use lib.Dec.{T, leb, leb→le}
use lib.Pow.{pow_pos, pow_mono}
use lib.ListN.{length, get_or, take, drop, length-drop, get_or-eq_default, get_or-append}
use lib.Seq.{length_front, length-take-le, get_or-take}
use borrow.Rule.Slice.PartMut.{mid_of, put_mid, same_len_mid}
use Rattle.units.proofs.Naturals.{le-or-lt}
use Rattle.spectrum.specs.Table.{unit}
use Rattle.spectrum.specs.Words.{value_of, Inside, Small, Four, Combined, Filled, four, halves, Fillable, FilledWith}
use Rattle.spectrum.proofs.Tests.{all, at}
use Rattle.spectrum.proofs.Differences as D
use Rattle.spectrum.proofs.Stores.{placed}
use Rattle.spectrum.proofs.Combining.{moved}
use Rattle.spectrum.proofs.Filling.{loss, filled, sizes}

-- ---- a list whose first h words and whose others were lent and came back as l₁ and l₂
module _ (l₀ l₁ l₂ : List ℕ) (h : ℕ) (fits : h ≤ length l₀) (e₁ : length l₁ ≡ length (take h l₀)) where
  abbrev pub once : List ℕ
  once = l₁ ++ drop h l₀

  abbrev pub twice : List ℕ
  twice = put_mid h (length once - h) once l₂

  pub first_length : length l₁ ≡ h
  first_length = e₁ ∙ length-take-le h l₀ fits

  pub once_length : length once ≡ length l₀
  once_length = length_front l₀ l₁ h e₁

  module _ (e₂ : length l₂ ≡ length (mid_of h (length once - h) once)) where
    pub twice_length : length twice ≡ length l₀
    twice_length = same_len_mid h (length once - h) once l₂ e₂ ∙ once_length

    pub second_length : length l₂ ≡ length l₀ - h
    second_length =
        e₂ ∙ length-take-le (length once - h) (drop h once) (le_of (sym (length-drop h once))) ∙ ap (λ (n : ℕ). n - h) once_length
      where
        le_of : {a b : ℕ} → a ≡ b → a ≤ b
        le_of e = omega arith

    pub first_four : (x : ℕ) → length l₀ ≡ 8 * x → h ≡ length l₀ / 2 → length l₁ ≡ 4 * x
    first_four x e f = omega (arith, first_length)

    pub second_four : (x : ℕ) → length l₀ ≡ 8 * x → h ≡ length l₀ / 2 → length l₂ ≡ 4 * x
    second_four x e f = omega (arith, second_length)

    taken : length (take h once) ≡ h
    taken = length-take-le h once (omega (arith, once_length))

    pub first_half : (i : ℕ) → i < h → get_or twice i 0 ≡ get_or l₁ i 0
    first_half i l =
        get_or-append (take h once) (l₂ ++ drop (length once - h) (drop h once)) 0 i (omega (arith, taken))
        ∙ get_or-take h once i 0 l ∙ get_or-append l₁ (drop h l₀) 0 i (omega (arith, first_length))

    pub second_half : (i : ℕ) → i < length l₂ → get_or twice (h + i) 0 ≡ get_or l₂ i 0
    second_half i l = placed h (length once - h) once l₂ (omega (arith, once_length)) i l

-- ---- the words that are read, with any word beyond the end
pub within : (l : List ℕ) (i d d' : ℕ) → i < length l → get_or l i d ≡ get_or l i d'
within [] i d d' h = absurd (not-suc-le-zero h)
within (x ∷ l) zero d d' h = refl
within (x ∷ l) (suc i) d d' h = within l i d d' (le_of_suc-le-suc h)

module _ (y : List ℕ) (as_many : length y ≡ 128) (small : (i : ℕ) → i < 128 → Small (get_or y i 0)) where
  pub all_small : (i : ℕ) → Small (get_or y i unit)
  all_small i = elim (le-or-lt 128 i) [
    | inl l ↦ subst Small (sym (get_or-eq_default y unit (omega arith))) (record { least = omega arith; most = omega arith })
    | inr l ↦ subst Small (within y i 0 unit (omega arith)) (small i l)
  ]

  pub all_short : (i : ℕ) → D.length (value_of (get_or y i unit)) ≤ 2 ^ 53
  all_short i = let s = all_small i in short (get_or y i unit) s.least s.most
    where
      short : (v : ℕ) → unit ≤ v + 2 ^ 53 → v ≤ unit + 2 ^ 53 → (v - unit) + (unit - v) ≤ 2 ^ 53
      short v l m = omega arith

-- ---- sizes of blocks
losses : T (all 6 (λ s. leb (loss s) 462))
unfolding all loss
losses = tt

pub loss_most : (s : ℕ) → s ≤ 5 → loss s ≤ 462
loss_most s l = leb→le _ _ (at 6 (λ s. leb (loss s) 462) losses s (omega arith))

-- of n words that are not four: twice as many as 4 2 ^ s
pub record Deeper (n st : ℕ) : Type 0 where
  pub s : ℕ
  pub size : n ≡ 8 * 2 ^ s
  pub apart : 2 ^ s * (2 * st) ≡ 32

pub deeper : {n st : ℕ} (s : ℕ) → n ≡ 4 * 2 ^ s → 2 ^ s * st ≡ 32 → ¬ (n ≡ 4) → Deeper n st
deeper zero e f other = absurd (other e)
deeper {n} {st} (suc s) e f other = record { s = s; size = twice n (2 ^ s) (2 ^ suc s) (pow-suc 2 s) e; apart = around (2 ^ s) (2 ^ suc s) (pow-suc 2 s) f }
  where
    twice : (n p q : ℕ) → q ≡ p * 2 → n ≡ 4 * q → n ≡ 8 * p
    twice n p q h e = omega arith

    around : (p q : ℕ) → q ≡ p * 2 → q * st ≡ 32 → p * (2 * st) ≡ 32
    around p q h f = omega (arith, ap (λ (z : ℕ). z * st) h)

pub few : (p st : ℕ) → p * (2 * st) ≡ 32 → p ≤ 16
few p zero h = absurd (omega arith)
few p (suc st) h = omega (arith, mul-le-mul_left p (one st))
  where
    one : (st : ℕ) → 2 ≤ 2 * suc st
    one st = omega arith

pub few_stages : (s : ℕ) → 2 ^ s ≤ 16 → s ≤ 4
few_stages s h = elim (le-or-lt s 4) [ inl l ↦ l | inr l ↦ absurd (large (le_trans (pow_mono l) h)) ]
  where
    large : 2 ^ 5 ≤ 16 → ⊥
    large l = omega arith

-- the halves are fillable
pub fillable : {y : List ℕ} {off st n : ℕ} (off' m : ℕ) → Fillable y off st n → ¬ (n ≡ 4) → off' < 2 * st → m ≡ n / 2 → Fillable y off' (2 * st) m
fillable {n = n} off' m f other l e = let d = deeper f.s f.size f.apart other in record { s = d.s; size = e ∙ halved (2 ^ d.s) d.size; apart = d.apart; start = l; as_many = f.as_many; small = f.small }
  where
    halved : (p : ℕ) → n ≡ 8 * p → n / 2 ≡ 4 * p
    halved p h = omega arith

-- ---- a filled half is inside
pub inside : (y : List ℕ) (off st s : ℕ) (l : List ℕ) → length y ≡ 128 → ((i : ℕ) → i < 128 → Small (get_or y i 0)) → 2 ^ s * st ≡ 32 → 2 ^ s ≤ 16 → length l ≡ 4 * 2 ^ s → FilledWith y off st l → (i : ℕ) → i < length l → Inside (get_or l i 0)
inside y off st s l as_many small e few_words n f i h =
    let t = filled (λ i. get_or y i unit) (all_short y as_many small) (f s (2 ^ s) refl n) e in
    let b = sizes (λ i. get_or y i unit) (2 ^ 53) (all_short y as_many small) t i (omega arith) in
    bound (loss s) (2 ^ s) (get_or l i 0) (loss_most s (omega (arith, few_stages s few_words))) few_words b.0 b.1
  where
    bound : (e p v : ℕ) → e ≤ 462 → p ≤ 16 → unit ≤ v + (e + 4 * p * 2 ^ 53) → v ≤ unit + (e + 4 * p * 2 ^ 53) → Inside v
    bound e p v he hp l m = record { least = omega arith; most = omega arith }

-- ---- a combined block is filled
pub combined_by : {g st : ℕ} {f o r f' o' : ℕ → ℕ} → 1 ≤ g → Combined g st f o r → ((i : ℕ) → i < 2 * g → f' i ≡ f i) → ((i : ℕ) → i < 2 * g → o' i ≡ o i) → Combined g st f' o' r
combined_by {g} {f = f} {o = o} {r = r} pos h ef eo = record {
  first = h.first ∙ sym (ap₂ ◌+◌ (ef 0 (omega arith)) (eo 0 (omega arith)));
  middle = ap (λ (x : ℕ). r (2 * g) + x) (eo 0 (omega arith)) ∙ h.middle ∙ ap (λ (x : ℕ). x + unit) (sym (ef 0 (omega arith)));
  each = λ k l m. moved (h.each k l m) (ef k (omega arith)) (ef (2 * g - k) (omega arith)) (eo k (omega arith)) (eo (2 * g - k) (omega arith)) refl refl refl refl;
  same = h.same ∙ sym (ef g (omega arith));
  turned = ap (λ (x : ℕ). r (3 * g) + x) (eo g (omega arith)) ∙ h.turned;
}

pub both_filled : (y : List ℕ) (off st n : ℕ) (l₁ l₂ whole exit : List ℕ) (h g : ℕ) → ¬ (n ≡ 4) → h ≡ n / 2 → g ≡ h / 2 → length l₁ ≡ h → length l₂ ≡ n - h → length exit ≡ n
    → ((i : ℕ) → i < h → get_or whole i 0 ≡ get_or l₁ i 0) → ((i : ℕ) → i < length l₂ → get_or whole (h + i) 0 ≡ get_or l₂ i 0) → FilledWith y off (2 * st) l₁ → FilledWith y (off + st) (2 * st) l₂
    → Combined g st (λ i. get_or whole i 0) (λ i. get_or whole (2 * g + i) 0) (λ i. get_or exit i 0) → FilledWith y off st exit
both_filled y off st n l₁ l₂ whole exit h g other eh eg e₁ e₂ ee f₁ f₂ a b c zero p q m = absurd (other (omega arith))
both_filled y off st n l₁ l₂ whole exit h g other eh eg e₁ e₂ ee f₁ f₂ a b c (suc s) p q m =
    subst (λ (z : ℕ). Filled (λ i. get_or y i unit) (suc s) z off st (λ i. get_or exit i 0)) (sym twice)
    (halves (a s (2 ^ s) refl (first_of_lem (2 ^ s) twice)) (b s (2 ^ s) refl (second_of (2 ^ s) twice))
    (subst (λ (z : ℕ). Combined z st (λ i. get_or l₁ i 0) (λ i. get_or l₂ i 0) (λ i. get_or exit i 0)) (g_of (2 ^ s) twice)
    (combined_by (some (2 ^ s) twice (pow_pos s)) c (λ i l. sym (f₁ i (lower (2 ^ s) twice i l))) (λ i l. sym (ap (λ (z : ℕ). get_or whole (z + i) 0) (h_of (2 ^ s) twice) ∙ f₂ i (upper (2 ^ s) twice i l))))))
  where
    twice : p ≡ 2 * 2 ^ s
    twice = q ∙ pow-suc 2 s ∙ swap (2 ^ s)
      where
        swap : (x : ℕ) → x * 2 ≡ 2 * x
        swap x = omega arith

    first_of_lem : (x : ℕ) → p ≡ 2 * x → length l₁ ≡ 4 * x
    first_of_lem x e = omega arith

    second_of : (x : ℕ) → p ≡ 2 * x → length l₂ ≡ 4 * x
    second_of x e = omega arith

    g_of : (x : ℕ) → p ≡ 2 * x → g ≡ 2 * x
    g_of x e = omega arith

    some : (x : ℕ) → p ≡ 2 * x → 0 < x → 1 ≤ g
    some x e l = omega arith

    h_of : (x : ℕ) → p ≡ 2 * x → 2 * g ≡ h
    h_of x e = omega arith

    lower : (x : ℕ) → p ≡ 2 * x → (i : ℕ) → i < 2 * g → i < h
    lower x e i l = omega arith

    upper : (x : ℕ) → p ≡ 2 * x → (i : ℕ) → i < 2 * g → i < length l₂
    upper x e i l = omega arith

-- ---- and so is a block of four
pub leaf_filled : (y : List ℕ) (off st : ℕ) (exit : List ℕ) → Fillable y off st 4 → length exit ≡ 4 → Four (get_or y off 0) (get_or y (off + 32) 0) (get_or y (off + 64) 0) (get_or y (off + 96) 0) (λ i. get_or exit i 0)
    → FilledWith y off st exit
leaf_filled y off st exit f n h (suc s) p q m = absurd (large (2 ^ s) (q ∙ pow-suc 2 s) (pow_pos s))
  where
    large : (x : ℕ) → p ≡ x * 2 → 0 < x → ⊥
    large x e l = omega arith
leaf_filled y off st exit f n h zero p q m =
    subst (λ (z : ℕ). Filled (λ i. get_or y i unit) 0 z off st (λ i. get_or exit i 0)) (sym q)
    (four (rw (stride) (subst_four)))
  where
    stride : st ≡ 32
    stride = one (2 ^ f.s) f.size f.apart
      where
        one : (x : ℕ) → 4 ≡ 4 * x → x * st ≡ 32 → st ≡ 32
        one x e g = omega (arith, ap (λ (z : ℕ). z * st) (unit_of x e))
          where
            unit_of : (x : ℕ) → 4 ≡ 4 * x → x ≡ 1
            unit_of x e = omega arith

    near : (i : ℕ) → i < 128 → get_or y i unit ≡ get_or y i 0
    near i l = within y i unit 0 (omega (arith, f.as_many))

    subst_four : Four (get_or y off unit) (get_or y (off + 32) unit) (get_or y (off + 64) unit) (get_or y (off + 96) unit) (λ i. get_or exit i 0)
    subst_four =
        let start : off < 32 = omega (arith, f.start, stride) in
        rw (near off (omega arith), near (off + 32) (omega arith), near (off + 64) (omega arith), near (off + 96) (omega arith)) h

-- where half a block ends
pub half_fits : (l : List ℕ) → length l / 2 ≤ length l
half_fits l = omega arith

pub shorter : (l : List ℕ) (t : ℕ) → length l ≡ t → ¬ (length l ≡ 4) → (s : ℕ) → length l ≡ 4 * 2 ^ s → length l / 2 < t
shorter l t e other s f = less (2 ^ s) f (pow_pos s)
  where
    less : (x : ℕ) → length l ≡ 4 * x → 0 < x → length l / 2 < t
    less x f p = omega arith

-- what is left of it
pub mid_length : (l l₁ : List ℕ) (h : ℕ) (fits : h ≤ length l) (e : length l₁ ≡ length (take h l)) → length (mid_of h (length (l₁ ++ drop h l) - h) (l₁ ++ drop h l)) ≡ length l - h
mid_length l l₁ h fits e =
    length-take-le (length (l₁ ++ drop h l) - h) (drop h (l₁ ++ drop h l)) (le_of (sym (length-drop h (l₁ ++ drop h l)))) ∙ ap (λ (n : ℕ). n - h) (length_front l l₁ h e)
  where
    le_of : {a b : ℕ} → a ≡ b → a ≤ b
    le_of e = omega arith

pub rest_shorter : (l : List ℕ) (t : ℕ) → length l ≡ t → ¬ (length l ≡ 4) → (s : ℕ) → length l ≡ 4 * 2 ^ s → length l - length l / 2 < t
rest_shorter l t e other s f = less (2 ^ s) f (pow_pos s)
  where
    less : (x : ℕ) → length l ≡ 4 * x → 0 < x → length l - length l / 2 < t
    less x f p = omega arith

pub rest_half : (l : List ℕ) (s : ℕ) → length l ≡ 4 * 2 ^ s → length l - length l / 2 ≡ length l / 2
rest_half l s f = same (2 ^ s) f
  where
    same : (x : ℕ) → length l ≡ 4 * x → length l - length l / 2 ≡ length l / 2
    same x f = omega arith

-- ---- strides
pub stride_of : {y : List ℕ} {off st n : ℕ} → Fillable y off st n → n ≡ 4 → st ≡ 32
stride_of {st = st} {n = n} f e = one (2 ^ f.s) f.size f.apart
  where
    one : (x : ℕ) → n ≡ 4 * x → x * st ≡ 32 → st ≡ 32
    one x h g = omega (arith, ap (λ (z : ℕ). z * st) (unit_of x h))
      where
        unit_of : (x : ℕ) → n ≡ 4 * x → x ≡ 1
        unit_of x h = omega arith

pub stride_most : {y : List ℕ} {off st n : ℕ} → Fillable y off st n → st ≤ 32
stride_most {st = st} f = omega (arith, mul-le-mul_right st (pow_pos f.s), f.apart)

-- a block has at most 128 words
pub quarter_most : (g st : ℕ) → g * st ≡ 32 → g ≤ 32
quarter_most g zero e = absurd (omega arith)
quarter_most g (suc st) e = omega arith

pub words_most : {y : List ℕ} {off st n : ℕ} → Fillable y off st n → n ≤ 128
words_most {st = st} f = omega (arith, quarter_most (2 ^ f.s) st f.apart, f.size)

pub four_times : (l : List ℕ) (x : ℕ) → length l ≡ 8 * x → length l ≡ 4 * (length l / 2 / 2)
four_times l x e = omega arith

module _ (l l₁ l₂ : List ℕ) (h : ℕ) (fits : h ≤ length l) (e₁ : length l₁ ≡ length (take h l)) (e₂ : length l₂ ≡ length (mid_of h (length (once l l₁ l₂ h fits e₁) - h) (once l l₁ l₂ h fits e₁))) where
  pub all_inside : (x : ℕ) → length l ≡ 8 * x → ((i : ℕ) → i < length l₁ → Inside (get_or l₁ i 0)) → ((i : ℕ) → i < length l₂ → Inside (get_or l₂ i 0)) → (i : ℕ) → i < 4 * (length l / 2 / 2) → Inside (get_or (twice l l₁ l₂ h fits e₁) i 0)
  all_inside x e a b i m = elim (le-or-lt h i) [
    | inr o ↦ subst Inside (sym (first_half l l₁ l₂ h fits e₁ e₂ i o)) (a i (omega (arith, first_length l l₁ l₂ h fits e₁)))
    | inl o ↦ subst (λ (j : ℕ). Inside (get_or (twice l l₁ l₂ h fits e₁) j 0)) (back o) (subst Inside (sym (second_half l l₁ l₂ h fits e₁ e₂ (i - h) (rest o))) (b (i - h) (rest o)))
  ]
    where
      back : h ≤ i → h + (i - h) ≡ i
      back o = omega arith

      rest : h ≤ i → i - h < length l₂
      rest o = omega (arith, second_length l l₁ l₂ h fits e₁ e₂)
