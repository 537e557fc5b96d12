-- The head of a number of digits: one digit more, and what is rounded in the end. Assumes nothing.
use mathlib.Core.Path.{◌≡◌, refl, sym, ap, ◌∙◌}
use mathlib.Core.Logic.{inl, inr}
use mathlib.Core.List.{List}
use mathlib.Core.Bool.{Bool, true, false}
use Prim.Native.Nat.{ℕ, ◌+◌, ◌-◌, ◌*◌, ◌^◌, ◌≤◌, ◌<◌}
use native.Mathlib.Nat.{le_trans, le_of_eq, le_of_lt, one-mul, mul-le-mul_right, pow-suc}
use native.Mathlib.Numerals.{add-one}
use native.Mathlib.Omega.{arith}
use lib.ListN.{get_or}
use Rattle.units.specs.Answers.{float_bits}
use Rattle.fixed.specs.Rounded.{Normal, even_bits}
use Rattle.exactsums.specs.Nearest.{rounded}
use Rattle.exactsums.specs.Work.{number, Digits, Sticky, IsDigit, size_of, IsHead, IsClosed}
use Rattle.exactsums.proofs.Bins.{number_next₀, number_down, number_less}
use Rattle.exactsums.proofs.Rounding.{normal, rounds_all}

-- ---- the head that the loop starts from, and one digit more
module _ (top : ℕ) (ds : List ℕ) (below : Bool) where
  -- digits are less than what they are taken from
  fits : Digits ds → number ds 0 41 ≤ (top + 1) * 16 ^ 41
  fits h = le_trans (le_of_lt (number_less ds 0 41 h)) (le_trans (le_of_eq (sym (one-mul (16 ^ 41)))) (mul-le-mul_right (16 ^ 41) (some top)))
    where
      some : (t : ℕ) → 1 ≤ t + 1
      some t = omega arith

  pub start_plus : below ≡ false → number ds 0 41 + top * 16 ^ 41 ≡ size_of top ds below
  start_plus e = rw e refl

  pub start_minus : Digits ds → below ≡ true → size_of top ds below + number ds 0 41 ≡ (top + 1) * 16 ^ 41
  start_minus h e = rw e (back ((top + 1) * 16 ^ 41) (number ds 0 41) (fits h))
    where
      back : (x y : ℕ) → y ≤ x → x - y + y ≡ x
      back x y l = omega arith

  module _ (h i r : ℕ) (some : 0 < i) (d : IsDigit (get_or ds (i - 1) 0) below r) where
    pub next_plus : (below ≡ false → number ds 0 i + h * 16 ^ i ≡ size_of top ds below) → below ≡ false → number ds 0 (i - 1) + (16 * h + r) * 16 ^ (i - 1) ≡ size_of top ds below
    next_plus before e = ap (λ (n : ℕ). number ds 0 (i - 1) + (16 * h + n) * 16 ^ (i - 1)) (d.plus e) ∙ number_down ds h i some ∙ before e

    pub next_minus : (below ≡ true → size_of top ds below + number ds 0 i ≡ (h + 1) * 16 ^ i) → below ≡ true → size_of top ds below + number ds 0 (i - 1) ≡ (16 * h + r + 1) * 16 ^ (i - 1)
    next_minus before e = go (size_of top ds below) (number ds 0 (i - 1)) (get_or ds (i - 1) 0) (16 ^ (i - 1)) (d.minus e) (sym (ap (λ (n : ℕ). size_of top ds below + n) digits) ∙ before e ∙ ap (λ (n : ℕ). (h + 1) * n) place)
      where
        last : i - 1 + 1 ≡ i
        last = omega arith

        digits : number ds 0 i ≡ number ds 0 (i - 1) + get_or ds (i - 1) 0 * 16 ^ (i - 1)
        digits = ap (λ (n : ℕ). number ds 0 n) (sym last) ∙ number_next₀ ds (i - 1)

        place : 16 ^ i ≡ 16 ^ (i - 1) * 16
        place = ap (λ (n : ℕ). 16 ^ n) (sym last ∙ add-one (i - 1)) ∙ pow-suc 16 (i - 1)

        go : (D n x w : ℕ) → r + x ≡ 15 → D + (n + x * w) ≡ (h + 1) * (w * 16) → D + n ≡ (16 * h + r + 1) * w
        go D n x w f g = let m : (r + x) * w ≡ 15 * w = ap (λ (k : ℕ). k * w) f in omega arith

-- ---- what is rounded: the head g, and a rest that s tells of
pub record Ready (g i s D : ℕ) : Type 0 where
  pub rest : ℕ
  pub sticky : Sticky rest s
  pub enough : 0 < rest → 2 ^ 57 ≤ g
  pub less : rest < 16 ^ i
  pub small : g < 2 ^ 62
  pub whole : rest + g * 16 ^ i ≡ D

module _ (top : ℕ) (ds : List ℕ) (h i g s : ℕ) (digits : Digits ds) where
  ready_plus : IsHead top ds false h i → Sticky (number ds 0 i) s → IsClosed h s false g → Ready g i s (size_of top ds false)
  ready_plus a w c = record {
    rest = number ds 0 i;
    sticky = w;
    enough = λ l. rw e (a.enough l);
    less = number_less ds 0 i digits;
    small = rw e (wider a.small);
    whole = rw e (a.plus refl);
  }
    where
      e : g ≡ h
      e = c.plus refl

      wider : {n : ℕ} → n < 2 ^ 61 → n < 2 ^ 62
      wider l = omega arith

  ready_minus : IsHead top ds true h i → Sticky (number ds 0 i) s → IsClosed h s true g → Ready g i s (size_of top ds true)
  ready_minus a (inl (z, o)) c = record { rest = 0; sticky = inl (refl, o); enough = λ l. absurd (omega arith); less = positive (number ds 0 i) (16 ^ i) (number_less ds 0 i digits); small = wider a.small (c.minus refl); whole = all (size_of top ds true) (number ds 0 i) (16 ^ i) z (c.minus refl) (a.minus refl) }
    where
      positive : (n w : ℕ) → n < w → 0 < w
      positive n w l = omega arith

      wider : h < 2 ^ 61 → g + s ≡ h + 1 → g < 2 ^ 62
      wider l e = omega arith

      all : (D n w : ℕ) → n ≡ 0 → g + s ≡ h + 1 → D + n ≡ (h + 1) * w → 0 + g * w ≡ D
      all D n w k e f = let m : (g + s) * w ≡ (h + 1) * w = ap (λ (j : ℕ). j * w) e in let p : s * w ≡ 0 * w = ap (λ (j : ℕ). j * w) o in omega arith
  ready_minus a (inr (l, o)) c = record { rest = 16 ^ i - number ds 0 i; sticky = inr (rest (number_less ds 0 i digits), o); enough = λ k. rw same (a.enough l); less = part (number_less ds 0 i digits) l; small = wider a.small; whole = all (size_of top ds true) (number ds 0 i) (16 ^ i) (number_less ds 0 i digits) (a.minus refl) }
    where
      same : g ≡ h
      same = let e = c.minus refl in omega arith

      rest : {n w : ℕ} → n < w → 0 < w - n
      rest k = omega arith

      part : {n w : ℕ} → n < w → 0 < n → w - n < w
      part k j = omega arith

      wider : h < 2 ^ 61 → g < 2 ^ 62
      wider k = let e = same in omega arith

      all : (D n w : ℕ) → n < w → D + n ≡ (h + 1) * w → w - n + g * w ≡ D
      all D n w k e = let m : g * w ≡ h * w = ap (λ (j : ℕ). j * w) same in omega arith

-- with either sign
pub ready : (top : ℕ) (ds : List ℕ) (below : Bool) (h i g s : ℕ) → Digits ds → IsHead top ds below h i → Sticky (number ds 0 i) s → IsClosed h s below g → Ready g i s (size_of top ds below)
ready top ds false h i g s = ready_plus top ds h i g s
ready top ds true h i g s = ready_minus top ds h i g s

pub sticky_bit : (r s : ℕ) → Sticky r s → s ≤ 1
sticky_bit r s (inl (e, o)) = omega arith
sticky_bit r s (inr (e, o)) = omega arith

module _ (g i s D : ℕ) (y : Ready g i s D) (few : i ≤ 41) where
  pub ready_small : 2 * g + s < 2 ^ 63
  ready_small = let l = y.small in let m = sticky_bit y.rest s y.sticky in omega arith

  pub ready_normal : Normal (2 * g + s) (62 + 4 * i)
  ready_normal = normal g i y.rest s y.sticky y.enough few

  pub ready_rounds : even_bits (2 * g + s) (62 + 4 * i) ≡ float_bits (rounded (D * 2 ^ 172) 0)
  ready_rounds = rounds_all g i y.rest s y.sticky y.enough few D y.whole y.less y.small
