-- `loudness::segment::nearest_step` meets its contract: the quotient of the upper digits by the next divisor is at most 1 too small. Assumes nothing.
use Rattle.std.proofs.Common.{◌≡◌, ℕ, suc, ◌+◌, ◌-◌, ◌*◌, ◌/◌, ◌<◌, ◌≤◌, sym, inl, inr, mul-le-mul_right, div-lt_iff_lt-mul, mul-le-mul, le_antisymm, mul-le-mul_left, le-div_iff_mul-le, div-mul-le_self, arith}
use native.Mathlib.Nat.{lt-div-mul-add}
use Rattle.units.proofs.Naturals.{le-or-lt}
use Rattle.loudness.specs.Value.{nearest_step}
use Rattle.loudness.specs.Segment.{Quotient}
use Rattle.loudness.proofs.segment.nearest_step.Goals.{Start}
use Rattle.loudness.proofs.segment.nearest_step.Goals as goal

-- a quotient from its two bounds
is-quotient : (p h q : ℕ) → 0 < h → q * h ≤ p → p < suc q * h → p / h ≡ q
is-quotient p h q ph l u = le_antisymm (below ((div-lt_iff_lt-mul {k = h} ph).1 u)) ((le-div_iff_mul-le {k = h} ph).1 l)
  where
    below : p / h < suc q → p / h ≤ q
    below h = omega arith

-- ---- over plain numbers: q is the quotient of the upper digits
module _ (k n h : ℕ) (qu : Quotient k n h) where
  abbrev p : ℕ
  p = k * n + h / 2

  abbrev q : ℕ
  q = p / 2048 / (h / 2048 + 1)

  product : k * n ≤ 1023 * h
  product = mul-le-mul qu.steps qu.within

  p_few : p < 8796093022208
  p_few = few (k * n) product qu.word
    where
      few : (x : ℕ) → x ≤ 1023 * h → h < 4294967296 → x + h / 2 < 8796093022208
      few x l w = omega arith

  -- from below
  q-below : q * h ≤ p
  q-below = through q (div-mul-le_self (p / 2048) (h / 2048 + 1)) (mul-le-mul_left q (next h))
    where
      next : (h : ℕ) → h ≤ (h / 2048 + 1) * 2048
      next h = omega arith

      through : (q : ℕ) → q * (h / 2048 + 1) ≤ p / 2048 → q * h ≤ q * ((h / 2048 + 1) * 2048) → q * h ≤ p
      through q a b = omega arith

  q-few : q ≤ 1023
  q-few = elim (le-or-lt q 1023) [
    | inl l ↦ l
    | inr l ↦ absurd (over q (k * n) qu.full product q-below (mul-le-mul_right h l))
  ]
    where
      over : (q x : ℕ) → 2147483648 ≤ h → x ≤ 1023 * h → q * h ≤ x + h / 2 → 1024 * h ≤ q * h → ⊥
      over q x f a b c = omega arith

  -- from above
  q-above : p < (q + 2) * h
  q-above = through q (lt-div-mul-add {a = p / 2048} {b = h / 2048 + 1} (omega arith)) q-few qu.full
    where
      divisor : (q : ℕ) → (q + 1) * ((h / 2048 + 1) * 2048) ≤ (q + 1) * (h + 2048)
      divisor q = mul-le-mul_left (q + 1) (next h)
        where
          next : (h : ℕ) → (h / 2048 + 1) * 2048 ≤ h + 2048
          next h = omega arith

      through : (q : ℕ) → p / 2048 < q * (h / 2048 + 1) + (h / 2048 + 1) → q ≤ 1023 → 2147483648 ≤ h → p < (q + 2) * h
      through q a b f = let c = divisor q in omega arith

  h-pos : 0 < h
  h-pos = let f = qu.full in omega arith

  -- and so the answer, with 1 more where a divisor is left
  exact : p - q * h < h → q ≡ nearest_step k n h
  unfolding nearest_step
  exact l = sym (is-quotient p h q h-pos q-below (through q q-below l))
    where
      through : (q : ℕ) → q * h ≤ p → p - q * h < h → p < suc q * h
      through q a b = omega arith

  one_more : h ≤ p - q * h → q + 1 ≡ nearest_step k n h
  unfolding nearest_step
  one_more l = sym (is-quotient p h (q + 1) h-pos (through q q-below l) (next q q-above))
    where
      through : (q : ℕ) → q * h ≤ p → h ≤ p - q * h → (q + 1) * h ≤ p
      through q a b = omega arith

      next : (q : ℕ) → p < (q + 2) * h → p < suc (q + 1) * h
      next q a = omega arith

-- ---- the words
pub overflow_sub-p : goal.overflow_sub-p
overflow_sub-p c = rw (c.from-4.ensures, c.from.ensures, c.from-2.ensures, c.from-3.ensures, c.from-w.ensures) (q-below c.args.k c.args.n c.args.h c.requires)

pub returns-then-p-from : goal.returns-then-p-from
returns-then-p-from c =
    let left = rw (c.from-4.ensures, c.from.ensures, c.from-2.ensures, c.from-3.ensures, c.from-w.ensures) at c.if-p-from.true in
    rw (c.from.ensures, c.from-2.ensures, c.from-3.ensures) (exact c.args.k c.args.n c.args.h c.requires left)

pub returns-else-p-from : goal.returns-else-p-from
returns-else-p-from c =
    let left = rw (c.from-4.ensures, c.from.ensures, c.from-2.ensures, c.from-3.ensures, c.from-w.ensures) at c.if-p-from.false in
    rw (c.from.ensures, c.from-2.ensures, c.from-3.ensures) (one_more c.args.k c.args.n c.args.h c.requires left)
