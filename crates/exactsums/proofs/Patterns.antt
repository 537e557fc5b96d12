-- Accepted floats by their patterns: the tests, and the exact product of two of them in its bin's units. Assumes nothing.
use mathlib.Core.Path.{◌≡◌, sym, ap, ap₂, ◌∙◌}
use mathlib.Core.Logic.{◌⊎◌, inl, inr}
use mathlib.Core.List.{List}
use mathlib.Core.Bool.{Bool, true, false, cond}
use Prim.Native.Nat.{ℕ, zero, suc, ◌+◌, ◌-◌, ◌*◌, ◌/◌, ◌%◌, ◌^◌, ◌≤◌, ◌<◌}
use native.Mathlib.Nat.{le_trans, eq-zero-or-pos, le_of_eq, lt_of_le_of_lt, not-le_of_lt, zero-add, add-zero, zero-mul, mul-zero, mul-pos, add-mul, mul_assoc}
use native.Mathlib.Omega.{arith}
use lib.Dec.{T, lit≤}
use lib.ListN.{length, get_or, set}
use lib.Pow.{pow-add, pow_pos}
use lib.Ieee.{Float, binary32, fits}
use Rattle.units.specs.Units.{mag, negative, Number}
use Rattle.units.specs.Answers.{float_bits}
use Rattle.units.specs.Tests.{Tells}
use Rattle.units.proofs.Naturals.{le-or-lt}
use Rattle.units.proofs.Patterns.{Shape, packed, packed_of, packed_le, packed_lt, finite_below, within, beyond}
use Rattle.sums.specs.Sum.{above, below}
use Rattle.exactsums.specs.Nearest.{Element}
use Rattle.exactsums.specs.Work.{Sized, Exponent, IsProduct, row_of, number}
use Rattle.exactsums.proofs.Bins.{number_more, number_out}

-- the first digit alone, as of a power of two
first : (g : ℕ) → Shape 8388608 g
first g = record { few = omega arith; first = inr (omega arith) }

module _ (x : Float) where
  abbrev t : ℕ
  t = float_bits x % 2147483648

  -- a size's pattern is 0 where the size is
  zero-size : Number x → t ≡ 0 → mag x ≡ 0
  zero-size n e = let p = packed_of x n in p.units ∙ ap (λ (m : ℕ). m * 2 ^ p.k) (none p.m p.k (sym p.size_bits_lem ∙ e)) ∙ zero-mul (2 ^ p.k)
    where
      none : (m k : ℕ) → k * 8388608 + m ≡ 0 → m ≡ 0
      none m k f = omega arith

  size-zero : Number x → mag x ≡ 0 → t ≡ 0
  size-zero n e = let p = packed_of x n in p.size_bits_lem ∙ none p.m p.k p.shape (sym p.units ∙ e)
    where
      none : (m k : ℕ) → Shape m k → m * 2 ^ k ≡ 0 → packed m k ≡ 0
      none zero k s f = elim s.first [ inl z ↦ omega arith | inr l ↦ absurd (omega arith) ]
      none (suc m) k s f = absurd (let l : 0 < suc m * 2 ^ k = mul-pos (omega arith) (pow_pos k) in omega arith)

  -- of an accepted float that is not 0 it lies between those of 2 ^ -40 and 2 ^ 40
  pub sized_of : Element x → ¬ (t ≡ 0) → Sized (float_bits x)
  sized_of r z = elim r.size [ inl e ↦ absurd (z (size-zero r.number e)) | inr (lo, hi) ↦ record { least = le_trans (lit≤ tt) (least lo); most = le_trans (most hi) (lit≤ tt) } ]
    where
      least : 2 ^ 109 ≤ mag x → 729808896 ≤ t
      least lo = elim (le-or-lt 729808896 t) [
        | inl l ↦ l
        | inr l ↦ let p = packed_of x r.number in absurd (not-le_of_lt (rw p.units (packed_lt p.m p.k 8388608 86 p.shape (first 86) (rw p.size_bits_lem at l))) lo)
      ]

      most : mag x ≤ 2 ^ 189 → t ≤ 1400897536
      most hi = elim (le-or-lt t 1400897536) [ inl l ↦ l | inr l ↦ absurd (not-le_of_lt (beyond 8388608 166 (first 166) x r.number l) hi) ]

  module _ (f : T (fits binary32 x)) where
    -- 0 is accepted
    pub accepts_zero : t ≡ 0 → Element x
    accepts_zero e = let n = finite_below x f (lt_of_le_of_lt (le_of_eq e) (omega arith)) in record { number = n; size = inl (zero-size n e) }

    -- and what lies between
    pub accepts_sized : Sized (float_bits x) → Element x
    accepts_sized h =
        let (n, m) = within 8388608 166 (first 166) x (omega arith) f (le_trans h.most (lit≤ tt)) in
        let p = packed_of x n in
        let l : 729808896 ≤ t = le_trans (lit≤ tt) h.least in
        record { number = n; size = inr (rw p.units (packed_le 8388608 86 p.m p.k (first 86) p.shape (rw p.size_bits_lem at l)), m) }

    -- so the test of that tells of any other
    pub tells_sized : {answer : Bool} → ¬ (t ≡ 0) → Tells (Sized (float_bits x)) answer → Tells (Element x) answer
    tells_sized z h = record { if_true = λ e. accepts_sized (h.if_true e); if_false = λ e r. h.if_false e (sized_of r z) }

-- its exponent is one of 81
pub exponent_of_lem : (b : ℕ) → Sized b → Exponent b
exponent_of_lem b h = let l = h.least in let m = h.most in record { least = omega arith; most = omega arith }

-- ---- an accepted float by its pattern b
module _ (x : Float) (r : Element x) (b : ℕ) (is : b ≡ float_bits x) where
  -- 0
  pub none_of : b % 2147483648 ≡ 0 → mag x ≡ 0
  none_of e = zero-size x r.number (ap (λ (n : ℕ). n % 2147483648) (sym is) ∙ e)

  -- any other
  pub none_or_sized : (b % 2147483648 ≡ 0) ⊎ Sized b
  none_or_sized = elim (eq-zero-or-pos (b % 2147483648)) [ inl e ↦ inl e | inr l ↦ inr (rw is (sized_of x r (some (rw is at l)))) ]
    where
      some : {n : ℕ} → 0 < n → ¬ (n ≡ 0)
      some l e = omega arith

  -- whose size has 24 digits
  pub size_of : Sized b → mag x ≡ (b % 8388608 + 8388608) * 2 ^ (b / 8388608 % 256 - 1)
  size_of h = let p = packed_of x r.number in p.units ∙ digits p.m p.k p.shape (ap (λ (n : ℕ). n % 2147483648) is ∙ p.size_bits_lem) h.least
    where
      digits : (m k : ℕ) → Shape m k → b % 2147483648 ≡ packed m k → 729808896 ≤ b % 2147483648 → m * 2 ^ k ≡ (b % 8388608 + 8388608) * 2 ^ (b / 8388608 % 256 - 1)
      digits m k s e l =
          let few : m < 16777216 = s.few in
          elim s.first [
            | inl n ↦ absurd (omega arith)
            | inr n ↦ let n' : 8388608 ≤ m = n in ap₂ (λ (u v : ℕ). u * 2 ^ v) (omega arith) (omega arith)
          ]

-- ---- the exact product of two accepted floats, by their patterns
module _ (x y : Float) (r : Element x) (q : Element y) (b c : ℕ) (is : b ≡ float_bits x) (js : c ≡ float_bits y) where
  -- their signs
  signs : ((b / 2147483648 + c / 2147483648) % 2 ≡ 0 → (above x y ≡ mag x * mag y) × (below x y ≡ 0)) × ((b / 2147483648 + c / 2147483648) % 2 ≡ 1 → (above x y ≡ 0) × (below x y ≡ mag x * mag y))
  signs = go (negative x) (negative y) (mag x) (mag y) (ap (λ (n : ℕ). n / 2147483648) is ∙ (packed_of x r.number).top_bit) (ap (λ (n : ℕ). n / 2147483648) js ∙ (packed_of y q.number).top_bit)
    where
      go : (s t : Bool) (m n : ℕ) → b / 2147483648 ≡ cond s 1 0 → c / 2147483648 ≡ cond t 1 0
          → ((b / 2147483648 + c / 2147483648) % 2 ≡ 0 → (cond s 0 m * cond t 0 n + cond s m 0 * cond t n 0 ≡ m * n) × (cond s 0 m * cond t n 0 + cond s m 0 * cond t 0 n ≡ 0))
          × ((b / 2147483648 + c / 2147483648) % 2 ≡ 1 → (cond s 0 m * cond t 0 n + cond s m 0 * cond t n 0 ≡ 0) × (cond s 0 m * cond t n 0 + cond s m 0 * cond t 0 n ≡ m * n))
      go true true m n e f = (λ g. (simp (zero-mul, zero-add), simp (zero-mul, mul-zero)), λ g. absurd (omega arith))
      go true false m n e f = (λ g. absurd (omega arith), λ g. (simp (zero-mul, mul-zero), simp (zero-mul, zero-add)))
      go false true m n e f = (λ g. absurd (omega arith), λ g. (simp (zero-mul, mul-zero), simp (zero-mul, add-zero)))
      go false false m n e f = (λ g. (simp (zero-mul, add-zero), simp (zero-mul, mul-zero)), λ g. absurd (omega arith))

  -- their sizes, where neither is 0
  sizes : (d k : ℕ) → IsProduct b c d k → Sized b → Sized c → d * 16 ^ k * 2 ^ 172 ≡ mag x * mag y
  sizes d k p z w =
      let e = exponent_of_lem b z in
      let f = exponent_of_lem c w in
      ap (λ (n : ℕ). n * 2 ^ 172) p.same ∙ gathered (b % 8388608 + 8388608) (c % 8388608 + 8388608) (b / 8388608 % 256) (c / 8388608 % 256) e.least f.least
      ∙ sym (ap₂ (λ (m n : ℕ). m * n) (size_of x r b is z) (size_of y q c js w))
    where
      gathered : (m n i j : ℕ) → 87 ≤ i → 87 ≤ j → m * n * 2 ^ (i + j - 174) * 2 ^ 172 ≡ m * 2 ^ (i - 1) * (n * 2 ^ (j - 1))
      gathered m n i j l h =
          mul_assoc (m * n) (2 ^ (i + j - 174)) (2 ^ 172) ∙ ap (λ (u : ℕ). m * n * u) (sym (pow-add 2 (i + j - 174) 172) ∙ ap (λ (u : ℕ). 2 ^ u) same ∙ pow-add 2 (i - 1) (j - 1)) ∙ regroup (2 ^ (i - 1)) (2 ^ (j - 1))
        where
          same : i + j - 174 + 172 ≡ i - 1 + (j - 1)
          same = omega arith

          regroup : (u w : ℕ) → m * n * (u * w) ≡ m * u * (n * w)
          regroup u w = omega arith

  parity : (n : ℕ) → (n % 2 ≡ 0) ⊎ (n % 2 ≡ 1)
  parity n = elim (le-or-lt (n % 2) 0) [ inl l ↦ inl (omega arith) | inr l ↦ inr (omega arith) ]

  -- with a 0 among them nothing is to be added
  pub adds_nothing : (mag x ≡ 0) ⊎ (mag y ≡ 0) → (above x y ≡ 0) × (below x y ≡ 0)
  adds_nothing h = elim (parity (b / 2147483648 + c / 2147483648)) [ inl e ↦ let (u, w) = signs.0 e in (u ∙ none h, w) | inr e ↦ let (u, w) = signs.1 e in (u, w ∙ none h) ]
    where
      none : (mag x ≡ 0) ⊎ (mag y ≡ 0) → mag x * mag y ≡ 0
      none (inl e) = ap (λ (n : ℕ). n * mag y) e ∙ zero-mul (mag y)
      none (inr e) = ap (λ (n : ℕ). mag x * n) e ∙ mul-zero (mag x)

  -- else the product goes to one row, and the other row stays
  module _ (bins : List ℕ) (long : length bins ≡ 82) (d k : ℕ) (p : IsProduct b c d k) (z : Sized b) (w : Sized c) where
    abbrev after : ℕ → List ℕ
    after i = set bins i (get_or bins i 0 + d)

    more : (s : ℕ) → s ≤ 41 → number (after (s + k)) s 41 * 2 ^ 172 ≡ number bins s 41 * 2 ^ 172 + mag x * mag y
    more s l = let h = p.room in ap (λ (n : ℕ). n * 2 ^ 172) (number_more bins s k d 41 (omega arith) (omega arith)) ∙ add-mul (number bins s 41) (d * 16 ^ k) (2 ^ 172) ∙ ap (λ (n : ℕ). number bins s 41 * 2 ^ 172 + n) (sizes d k p z w)

    stays : (i s : ℕ) → (i < s) ⊎ (s + 41 ≤ i) → number (after i) s 41 * 2 ^ 172 ≡ number bins s 41 * 2 ^ 172 + 0
    stays i s o = ap (λ (n : ℕ). n * 2 ^ 172) (number_out bins i (get_or bins i 0 + d) s 41 o) ∙ sym (add-zero (number bins s 41 * 2 ^ 172))

    pub adds_one : (i : ℕ) → i ≡ row_of b c + k
        → (number (after i) 0 41 * 2 ^ 172 ≡ number bins 0 41 * 2 ^ 172 + above x y) × (number (after i) 41 41 * 2 ^ 172 ≡ number bins 41 41 * 2 ^ 172 + below x y)
    adds_one i at = elim (parity (b / 2147483648 + c / 2147483648)) [
      | inl e ↦
          let (u, v) = signs.0 e in
          let h = p.room in
          let f : i ≡ 0 + k = omega arith in
          rw (u, v, f) (more 0 (omega arith), stays (0 + k) 41 (inl (omega arith)))
      | inr e ↦
          let (u, v) = signs.1 e in
          let f : i ≡ 41 + k = omega arith in
          rw (u, v, f) (stays (41 + k) 0 (inr (omega arith)), more 41 (omega arith))
    ]
