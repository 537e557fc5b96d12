-- What a frame alone makes them: of two results of the same frame each is the other. Assumes nothing.
use mathlib.Core.Path.{◌≡◌, refl, sym, ap, ◌∙◌, subst}
use mathlib.Core.Logic.{inl, inr}
use mathlib.Core.List.{List}
use Prim.Native.Nat.{ℕ, zero, suc, ◌+◌, ◌-◌, ◌*◌, ◌^◌, ◌≤◌, ◌<◌}
use native.Mathlib.Nat.{le_antisymm, le_trans, le_of_eq, lt_of_le_of_lt, eq-zero-or-pos}
use native.Mathlib.Omega.{arith}
use lib.ListN.{length, get_or, get_or-eq_default}
use lib.Pow.{pow-add}
use lib.Ieee.{Float}
use Rattle.units.proofs.Naturals.{le-or-lt, pow_back_lt}
use Rattle.spectrum.specs.Table.{unit}
use Rattle.spectrum.specs.Words.{Butterfly, Combined, Four, Filled, four, halves, FilledWith}
use Rattle.spectrum.specs.Floats.{Largest, Scale, Loaded, bits_of, StoredReal, StoredImaginary, IsTransform}
use Rattle.spectrum.proofs.Blocks.{within}

-- ---- a butterfly has one result
module _ (j er ei or oi a b e d a' b' e''' d' : ℕ) (h : Butterfly j er ei or oi a b e d) (g : Butterfly j er ei or oi a' b' e''' d') where
  same_t : h.t ≡ g.t
  same_t = omega (arith, h.real, g.real)

  same_u : h.u ≡ g.u
  same_u = omega (arith, h.imaginary, g.imaginary)

  wings : (a ≡ a') × (b ≡ b') × (e ≡ e''') × (d ≡ d')
  wings = (omega (arith, same_t, h.sum_real, g.sum_real), omega (arith, same_t, h.difference_real, g.difference_real), omega (arith, same_u, h.difference_imaginary, g.difference_imaginary), omega (arith, same_u, h.sum_imaginary, g.sum_imaginary))

-- the places of a block of 4 g words
data Place (g : ℕ) : ℕ → Type 0 where
  first : Place g 0
  rising : (k : ℕ) → 1 ≤ k → k < g → Place g k
  quarter : Place g g
  falling : (k : ℕ) → 1 ≤ k → k < g → Place g (2 * g - k)
  middle : Place g (2 * g)
  rising' : (k : ℕ) → 1 ≤ k → k < g → Place g (2 * g + k)
  last : Place g (3 * g)
  falling' : (k : ℕ) → 1 ≤ k → k < g → Place g (4 * g - k)

place : (g i : ℕ) → i < 4 * g → Place g i
place g i l = elim (le-or-lt g i) [ inl a ↦ elim (le-or-lt (2 * g) i) [ inl b ↦ elim (le-or-lt (3 * g) i) [ inl c ↦ upper c | inr c ↦ third b c ] | inr b ↦ second a b ] | inr a ↦ lower i a ]
  where
    lower : (i : ℕ) → i < g → Place g i
    lower zero a = first
    lower (suc i) a = rising (suc i) (omega arith) a

    second : g ≤ i → i < 2 * g → Place g i
    second a b = elim (le-or-lt i g) [ inl c ↦ subst (Place g) (both a c) quarter | inr c ↦ subst (Place g) (back b) (falling (2 * g - i) (some b) (less c)) ]
      where
        both : g ≤ i → i ≤ g → g ≡ i
        both a c = omega arith

        back : i < 2 * g → 2 * g - (2 * g - i) ≡ i
        back b = omega arith

        some : i < 2 * g → 1 ≤ 2 * g - i
        some b = omega arith

        less : g < i → 2 * g - i < g
        less c = omega arith

    third : 2 * g ≤ i → i < 3 * g → Place g i
    third b c = elim (le-or-lt i (2 * g)) [ inl d ↦ subst (Place g) (both b d) middle | inr d ↦ subst (Place g) (back d) (rising' (i - 2 * g) (some d) (less c)) ]
      where
        both : 2 * g ≤ i → i ≤ 2 * g → 2 * g ≡ i
        both a c = omega arith

        back : 2 * g < i → 2 * g + (i - 2 * g) ≡ i
        back b = omega arith

        some : 2 * g < i → 1 ≤ i - 2 * g
        some b = omega arith

        less : i < 3 * g → i - 2 * g < g
        less c = omega arith

    upper : 3 * g ≤ i → Place g i
    upper c = elim (le-or-lt i (3 * g)) [ inl d ↦ subst (Place g) (both c d) last | inr d ↦ subst (Place g) (back l) (falling' (4 * g - i) (some l) (less d)) ]
      where
        both : 3 * g ≤ i → i ≤ 3 * g → 3 * g ≡ i
        both a c = omega arith

        back : i < 4 * g → 4 * g - (4 * g - i) ≡ i
        back b = omega arith

        some : i < 4 * g → 1 ≤ 4 * g - i
        some b = omega arith

        less : 3 * g < i → 4 * g - i < g
        less c = omega arith

-- ---- two blocks of the same halves are the same
module _ (g st : ℕ) (f o r f' o' r' : ℕ → ℕ) (h : Combined g st f o r) (h' : Combined g st f' o' r') (sf : (i : ℕ) → i < 2 * g → f i ≡ f' i) (so : (i : ℕ) → i < 2 * g → o i ≡ o' i) where
  winged : (k : ℕ) → 1 ≤ k → k < g → (r k ≡ r' k) × (r (2 * g - k) ≡ r' (2 * g - k)) × (r (2 * g + k) ≡ r' (2 * g + k)) × (r (4 * g - k) ≡ r' (4 * g - k))
  winged k a b =
      wings (k * st) (f k) (f (2 * g - k)) (o k) (o (2 * g - k)) _ _ _ _ _ _ _ _ (h.each k a b)
      (rw (sym (sf k (omega arith)), sym (sf (2 * g - k) (omega arith)), sym (so k (omega arith)), sym (so (2 * g - k) (omega arith))) at (h'.each k a b))

  combined : (i : ℕ) → Place g i → i < 4 * g → r i ≡ r' i
  combined i first l = omega (arith, h.first, h'.first, sf 0 (some l), so 0 (some l))
    where
      some : 0 < 4 * g → 0 < 2 * g
      some l = omega arith
  combined i (rising k a b) l = (winged k a b).0
  combined i quarter l = h.same ∙ sf g (some l) ∙ sym h'.same
    where
      some : g < 4 * g → g < 2 * g
      some l = omega arith
  combined i (falling k a b) l = (winged k a b).1
  combined i middle l = omega (arith, h.middle, h'.middle, sf 0 (some l), so 0 (some l))
    where
      some : 2 * g < 4 * g → 0 < 2 * g
      some l = omega arith
  combined i (rising' k a b) l = (winged k a b).2
  combined i last l = omega (arith, h.turned, h'.turned, so g (some l))
    where
      some : 3 * g < 4 * g → g < 2 * g
      some l = omega arith
  combined i (falling' k a b) l = (winged k a b).3

-- ---- a filled block, taken apart
record Halves (y : ℕ → ℕ) (s G off st : ℕ) (r : ℕ → ℕ) : Type 0 where
  g : ℕ
  f : ℕ → ℕ
  o : ℕ → ℕ
  double : G ≡ 2 * g
  even : Filled y s g off (2 * st) f
  odd : Filled y s g (off + st) (2 * st) o
  both : Combined (2 * g) st f o r

of_four : {y : ℕ → ℕ} {n G off st : ℕ} {r : ℕ → ℕ} → Filled y n G off st r → n ≡ 0 → Four (y off) (y (off + st)) (y (off + 2 * st)) (y (off + 3 * st)) r
of_four (four h) e = h
of_four (halves a b c) e = absurd (omega arith)

of_halves : {y : ℕ → ℕ} {n G off st : ℕ} {r : ℕ → ℕ} → Filled y n G off st r → (s : ℕ) → n ≡ suc s → Halves y s G off st r
of_halves (four h) s e = absurd (omega arith)
of_halves {y} {off = off} {st = st} {r = r} (halves {s} {g} {f = f} {o = o} a b c) s' e = subst (λ (x : ℕ). Halves y x (2 * g) off st r) (less e) (record { g = g; f = f; o = o; double = refl; even = a; odd = b; both = c })
  where
    less : suc s ≡ suc s' → s ≡ s'
    less e = omega arith

-- ---- the same words make the same block
pub filled_same : (y y' : ℕ → ℕ) → ((i : ℕ) → y i ≡ y' i) → {n G off st : ℕ} {r : ℕ → ℕ} → Filled y n G off st r → (r' : ℕ → ℕ) → Filled y' n G off st r' → (i : ℕ) → i < 4 * G → r i ≡ r' i
filled_same y y' same (four {off} {st} {r} h) r' F i l = small i l
  where
    h' : Four (y' off) (y' (off + st)) (y' (off + 2 * st)) (y' (off + 3 * st)) r'
    h' = of_four F refl

    A : y off ≡ y' off
    A = same off

    B : y (off + st) ≡ y' (off + st)
    B = same (off + st)

    E : y (off + 2 * st) ≡ y' (off + 2 * st)
    E = same (off + 2 * st)

    H : y (off + 3 * st) ≡ y' (off + 3 * st)
    H = same (off + 3 * st)

    small : (i : ℕ) → i < 4 → r i ≡ r' i
    small zero l = omega (arith, h.first, h'.first, A, B, E, H)
    small (suc zero) l = omega (arith, h.second, h'.second, A, E)
    small (suc (suc zero)) l = omega (arith, h.third, h'.third, A, B, E, H)
    small (suc (suc (suc zero))) l = omega (arith, h.fourth, h'.fourth, B, H)
    small (suc (suc (suc (suc i)))) l = absurd (omega arith)
filled_same y y' same (halves {s} {g} {off} {st} {f} {o} {r} a b c) r' F i l = combined (2 * g) st f o r v.f v.o r' c (subst (λ (x : ℕ). Combined (2 * x) st v.f v.o r') g_same v.both) (λ k h. filled_same y y' same a v.f (subst (λ (x : ℕ). Filled y' s x off (2 * st) v.f) g_same v.even) k (twice h)) (λ k h. filled_same y y' same b v.o (subst (λ (x : ℕ). Filled y' s x (off + st) (2 * st) v.o) g_same v.odd) k (twice h)) i (place (2 * g) i l) l
  where
    v : Halves y' s (2 * g) off st r'
    v = of_halves F s refl

    g_same : v.g ≡ g
    g_same = half v.g v.double
      where
        half : (x : ℕ) → 2 * g ≡ 2 * x → x ≡ g
        half x e = omega arith

    twice : {k : ℕ} → k < 2 * (2 * g) → k < 4 * g
    twice h = omega arith

-- ---- the same lists of words make the same block
pub blocks_same : (ys ys' r r' : List ℕ) → length ys ≡ 128 → length ys' ≡ 128 → ((i : ℕ) → i < 128 → get_or ys i 0 ≡ get_or ys' i 0) → length r ≡ 128 → length r' ≡ 128 → FilledWith ys 0 1 r → FilledWith ys' 0 1 r' → (k : ℕ) → k < 128 → get_or r k 0 ≡ get_or r' k 0
blocks_same ys ys' r r' n n' same c c' f f' = filled_same (λ i. get_or ys i unit) (λ i. get_or ys' i unit) words (f 5 32 refl c) (λ i. get_or r' i 0) (f' 5 32 refl c')
  where
    words : (k : ℕ) → get_or ys k unit ≡ get_or ys' k unit
    words k = elim (le-or-lt 128 k) [
      | inl l ↦ get_or-eq_default ys unit (omega arith) ∙ sym (get_or-eq_default ys' unit (omega arith))
      | inr l ↦ within ys k unit 0 (omega arith) ∙ same k l ∙ sym (within ys' k unit 0 (omega arith))
    ]

-- ---- one largest pattern, and one scale
largest_most : (xs : List Float) (m m' : ℕ) → Largest xs 128 m → Largest xs 128 m' → m ≤ m'
largest_most xs m m' h h' = elim (eq-zero-or-pos m) [ inl z ↦ none z | inr p ↦ let (i, l, e) = h.there (λ z. above p z) in le_trans (le_of_eq (sym e)) (h'.most i l) ]
  where
    none : m ≡ 0 → m ≤ m'
    none z = omega arith

    above : 0 < m → m ≡ 0 → ⊥
    above p z = omega arith

scale_most : (m e e''' : ℕ) → Scale m e → Scale m e''' → e ≤ e'''
scale_most m e e''' h h' = elim (eq-zero-or-pos m) [ inl z ↦ le_trans (le_of_eq (h.none z)) (least e''') | inr p ↦ below (pow_back_lt e (1 + e''') (lt_of_le_of_lt (h.below (λ z. above p z)) (twice h'.above))) ]
  where
    least : (n : ℕ) → 0 ≤ n
    least n = omega arith

    above : 0 < m → m ≡ 0 → ⊥
    above p z = omega arith

    below : e < 1 + e''' → e ≤ e'''
    below l = omega arith

    twice : {x : ℕ} → x < 2 ^ e''' → 2 * x < 2 ^ (1 + e''')
    twice {x} l = subst (λ (n : ℕ). 2 * x < n) (sym (pow-add 2 1 e''')) (double x (2 ^ e''') l)
      where
        double : (x y : ℕ) → x < y → 2 * x < 2 ^ 1 * y
        double x y l = omega arith

-- ---- so the outputs are one
module _ (xs : List Float) (re im re' im' : List ℕ) (h : IsTransform xs re im) (h' : IsTransform xs re' im') where
  same_m : h.m ≡ h'.m
  same_m = le_antisymm (largest_most xs h.m h'.m h.largest h'.largest) (largest_most xs h'.m h.m h'.largest h.largest)

  same_e : h.e ≡ h'.e
  same_e = le_antisymm (scale_most h.m h.e h'.e h.scale (subst (λ (m : ℕ). Scale m h'.e) (sym same_m) h'.scale)) (scale_most h.m h'.e h.e (subst (λ (m : ℕ). Scale m h'.e) (sym same_m) h'.scale) h.scale)

  loaded' : Loaded h.e xs h'.ys
  loaded' = subst (λ (e : ℕ). Loaded e xs h'.ys) (sym same_e) h'.loaded

  words : (k : ℕ) → k < 128 → get_or h.r k 0 ≡ get_or h'.r k 0
  words = blocks_same h.ys h'.ys h.r h'.r h.loaded.as_many loaded'.as_many (λ i l. h.loaded.each i l ∙ sym (loaded'.each i l)) h.count h'.count h.fills h'.fills

  real' : StoredReal h.e h'.r re'
  real' = subst (λ (e : ℕ). StoredReal e h'.r re') (sym same_e) h'.real

  imaginary' : StoredImaginary h.e h'.r im'
  imaginary' = subst (λ (e : ℕ). StoredImaginary e h'.r im') (sym same_e) h'.imaginary

  pub one_real : (k : ℕ) → k ≤ 64 → get_or re k 0 ≡ get_or re' k 0
  one_real k l = h.real.each k l ∙ ap (bits_of h.e) (words k (omega arith)) ∙ sym (real'.each k l)

  pub one_imaginary : (k : ℕ) → k ≤ 64 → get_or im k 0 ≡ get_or im' k 0
  one_imaginary k l = elim (le-or-lt 64 k) [
    | inl g ↦ let e = both l g in ap (λ (i : ℕ). get_or im i 0) e ∙ h.imaginary.last ∙ sym imaginary'.last ∙ ap (λ (i : ℕ). get_or im' i 0) (sym e)
    | inr g ↦ elim (eq-zero-or-pos k) [
      | inl z ↦ ap (λ (i : ℕ). get_or im i 0) z ∙ h.imaginary.first ∙ sym imaginary'.first ∙ ap (λ (i : ℕ). get_or im' i 0) (sym z)
      | inr p ↦ h.imaginary.each k p g ∙ ap (bits_of h.e) (words (128 - k) (omega arith)) ∙ sym (imaginary'.each k p g)
    ]
  ]
    where
      both : k ≤ 64 → 64 ≤ k → k ≡ 64
      both a b = omega arith
