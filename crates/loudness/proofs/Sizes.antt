-- The tests of a channel's levels and of an envelope value, on patterns: these are in the order of the sizes. Assumes nothing.
use Rattle.std.proofs.Common.{◌≡◌, ℕ, suc, ◌+◌, ◌-◌, ◌*◌, ◌/◌, ◌%◌, ◌^◌, ◌<◌, ◌≤◌, Bool, true, false, cond, T, eqb, leb, sym, refl, ap, ◌∙◌, subst, inl, inr, le_trans, le_of_eq, lt_of_lt_of_le, lt_irrefl, mul-le-mul_left, pow-suc, zero-mul, not-le_of_lt, arith, pow_pos, eq-eqb, ne_eqb, eqb-true, leb-false, leb-true}
use lib.Ieee.{Float, binary32, fits, to_bits}
use Rattle.units.specs.Units.{mag, negative, P, N, Number}
use Rattle.units.specs.Tests.{Tells}
use Rattle.units.proofs.Naturals.{le-or-lt}
use Rattle.units.proofs.Patterns.{Shape, packed, packed_le, packed_lt, packed_of, finite_below, within}
use Rattle.units.proofs.Between.{sign_clear, sign_set}
use Rattle.loudness.specs.Map.{Levels, Envelope}
use Rattle.loudness.specs.Segment.{size_bits}
use Rattle.loudness.proofs.Known.{Sound, low_sound, high_sound, above_zero, positive}

-- 2 ^ -24 and 1
quietest : Shape 8388608 102
quietest = record { few = omega arith; first = inr (omega arith) }

one : Shape 8388608 126
one = record { few = omega arith; first = inr (omega arith) }

-- ---- x of S 2 ^ g units has the pattern of these; of 0 it may be that with a sign
pub record Sized (x : Float) : Type 0 where
  pub S : ℕ
  pub g : ℕ
  pub shape : Shape S g
  pub units : P x ≡ S * 2 ^ g
  pub bits : size_bits x ≡ packed S g
  pub own : 0 < P x → to_bits binary32 x ≡ size_bits x

-- the pattern of -0, and any other
pub other_bits : (x : Float) → ¬ (to_bits binary32 x ≡ 2147483648) → size_bits x ≡ to_bits binary32 x
unfolding size_bits
other_bits x n = rw (ne_eqb (to_bits binary32 x) 2147483648 n)

clear_bits : (x : Float) → to_bits binary32 x < 2147483648 → size_bits x ≡ to_bits binary32 x
clear_bits x l = other_bits x (λ e. lt_irrefl 2147483648 (subst (λ (n : ℕ). n < 2147483648) e l))

pub set_bits : (x : Float) → to_bits binary32 x ≡ 2147483648 → size_bits x ≡ 0
unfolding size_bits
set_bits x e = rw (eq-eqb (to_bits binary32 x) 2147483648 e)

pub sized : (x : Float) → Number x → N x ≡ 0 → Sized x
sized x n z = let t = packed_of x n in go t.m t.k t.shape t.units t.size_bits_lem (negative x) refl t.top_bit
  where
    Bits : ℕ
    Bits = to_bits binary32 x

    nothing : (m k : ℕ) → Shape m k → m * 2 ^ k ≡ 0 → (m ≡ 0) × (k ≡ 0)
    nothing m k s e = let f : m ≡ 0 = zero_digits m (2 ^ k) (pow_pos k) e in (f, elim s.first [ inl h ↦ h | inr h ↦ absurd (omega arith) ])
      where
        zero_digits : (m u : ℕ) → 0 < u → m * u ≡ 0 → m ≡ 0
        zero_digits m u p e = omega (arith, mul-le-mul_left m p)

    go : (m k : ℕ) → Shape m k → mag x ≡ m * 2 ^ k → Bits % 2147483648 ≡ packed m k → (s : Bool) → negative x ≡ s → Bits / 2147483648 ≡ cond s 1 0 → Sized x
    go m k sh u b false e c = record {
      S = m;
      g = k;
      shape = sh;
      units = ap (λ (s : Bool). cond s 0 (mag x)) e ∙ u;
      bits = clear_bits x (omega arith) ∙ omega arith;
      own = λ p. sym (clear_bits x (omega arith));
    }
    go m k sh u b true e c =
        let (m0, k0) = nothing m k sh (sym u ∙ sym (ap (λ (s : Bool). cond s (mag x) 0) e) ∙ z) in
        let none : P x ≡ 0 = ap (λ (s : Bool). cond s 0 (mag x)) e in
        record {
          S = m;
          g = k;
          shape = sh;
          units = none ∙ sym (rw m0 (zero-mul (2 ^ k)));
          bits = set_bits x (omega arith) ∙ omega arith;
          own = λ p. absurd (not-le_of_lt p (le_of_eq none));
        }

-- the order of the patterns is that of the sizes
module _ (x y : Float) (s : Sized x) (r : Sized y) where
  pub sizes_le : size_bits x ≤ size_bits y → P x ≤ P y
  sizes_le l = rw (s.units, r.units) (packed_le s.S s.g r.S r.g s.shape r.shape (rw (s.bits, r.bits) at l))

  pub sizes_lt : size_bits x < size_bits y → P x < P y
  sizes_lt l = rw (s.units, r.units) (packed_lt s.S s.g r.S r.g s.shape r.shape (rw (s.bits, r.bits) at l))

-- against the pattern of S digits with the exponent g
module _ (S g : ℕ) (sh : Shape S g) (x : Float) (s : Sized x) where
  at_most : size_bits x ≤ packed S g → P x ≤ S * 2 ^ g
  at_most l = rw s.units (packed_le s.S s.g S g s.shape sh (rw s.bits at l))

  at_least : packed S g ≤ size_bits x → S * 2 ^ g ≤ P x
  at_least l = rw s.units (packed_le S g s.S s.g sh s.shape (rw s.bits at l))

  more : packed S g < size_bits x → S * 2 ^ g < P x
  more l = rw s.units (packed_lt S g s.S s.g sh s.shape (rw s.bits at l))

  less : size_bits x < packed S g → P x < S * 2 ^ g
  less l = rw s.units (packed_lt s.S s.g S g s.shape sh (rw s.bits at l))

-- a float from 2 ^ -24 on has a pattern of its own
module _ {x : Float} (s : Sound x) where
  pub sound_sized : Sized x
  sound_sized = sized x s.number (positive x (above_zero s))

  pub own_bits : to_bits binary32 x ≡ size_bits x
  own_bits = sound_sized.own (above_zero s)

  -- and one more in its exponent is the pattern of twice the size
  twice : Shape sound_sized.S (suc sound_sized.g)
  twice = record { few = sound_sized.shape.few; first = inr (elim sound_sized.shape.first [ inl h ↦ absurd (small sound_sized.S sound_sized.g h sound_sized.shape.few sound_sized.units) | inr h ↦ h ]) }
    where
      small : (S g : ℕ) → g ≡ 0 → S < 2 ^ 24 → P x ≡ S * 2 ^ g → ⊥
      small S g e l u = let v : P x ≡ S * 2 ^ 0 = u ∙ ap (λ (i : ℕ). S * 2 ^ i) e in let q = s.quietest in omega arith

  double : sound_sized.S * 2 ^ suc sound_sized.g ≡ 2 * P x
  double = rw (sound_sized.units, pow-suc 2 sound_sized.g) (omega arith)

-- a pattern up to that of 1 is of a number that is not negative
plain : (x : Float) → T (fits binary32 x) → to_bits binary32 x ≤ 1065353216 → Number x × (N x ≡ 0)
plain x f u = let n = finite_below x f (omega arith) in (n, (sign_clear x n (omega arith)).1)

-- ---- the levels of a channel
module _ (b m : Float) where
  abbrev l : ℕ
  l = to_bits binary32 b

  abbrev h : ℕ
  h = to_bits binary32 m

  pub in_order : T (fits binary32 b) → T (fits binary32 m) → 864026624 ≤ l → h ≤ 1065353216 → l ≤ h → 8388608 ≤ h - l → Levels b m
  in_order fb fm quiet loud rising octave =
      let (nb, zb) = plain b fb (omega arith) in
      let (nm, zm) = plain m fm loud in
      let kb : size_bits b ≡ l = clear_bits b (omega arith) in
      let km : size_bits m ≡ h = clear_bits m (omega arith) in
      let q = at_least 8388608 102 quietest b (sized b nb zb) (omega arith) in
      let u = at_most 8388608 126 one m (sized m nm zm) (omega arith) in
      let up = sizes_le b m (sized b nb zb) (sized m nm zm) (omega arith) in
      let sb : Sound b = record { number = nb; quietest = q; loudest = le_trans up u } in
      record {
        b_number = nb;
        m_number = nm;
        quietest = q;
        octave = le_trans (le_of_eq (sym (double sb))) (at_least _ _ (twice sb) m (sized m nm zm) (le_trans (next (sound_sized sb).S (sound_sized sb).g (sym kb ∙ (sound_sized sb).bits)) (le_of_eq (sym km))));
        loudest = u;
      }
    where
      next : (S g : ℕ) → l ≡ packed S g → packed S (suc g) ≤ h
      next S g e = omega arith

  -- each test that fails rules the levels out
  module _ (v : Levels b m) where
    sb : Sound b
    sb = low_sound v

    sm : Sound m
    sm = high_sound v

    pub too_quiet : l < 864026624 → ⊥
    too_quiet t = not-le_of_lt (less 8388608 102 quietest b (sound_sized sb) (rw (own_bits sb) at t)) v.quietest

    pub too_loud : 1065353216 < h → ⊥
    too_loud t = not-le_of_lt (more 8388608 126 one m (sound_sized sm) (rw (own_bits sm) at t)) v.loudest

    pub no_octave : h < l + 8388608 → ⊥
    no_octave t = not-le_of_lt (lt_of_lt_of_le (less _ _ (twice sb) m (sound_sized sm) (next (sound_sized sb).S (sound_sized sb).g (own_bits sb ∙ (sound_sized sb).bits) (own_bits sm))) (le_of_eq (double sb))) v.octave
      where
        next : (S g : ℕ) → l ≡ packed S g → h ≡ size_bits m → size_bits m < packed S (suc g)
        next S g e f = omega arith

    -- so the patterns are in order too
    pub in_bits : (864026624 ≤ l) × (h ≤ 1065353216) × (l + 8388608 ≤ h)
    in_bits = (
      elim (le-or-lt 864026624 l) [ inl t ↦ t | inr t ↦ absurd (too_quiet t) ],
      elim (le-or-lt h 1065353216) [ inl t ↦ t | inr t ↦ absurd (too_loud t) ],
      elim (le-or-lt (l + 8388608) h) [ inl t ↦ t | inr t ↦ absurd (no_octave t) ],
    )

-- ---- an envelope value
pub envelope : (a : Float) → T (fits binary32 a) → Tells (Envelope a) (leb (size_bits a) 1065353216)
unfolding size_bits
envelope a f = record { if_true = λ e. yes (leb-true _ _ e); if_false = λ e r. not-le_of_lt (more 8388608 126 one a (sized a r.number r.at_least_zero) (leb-false _ _ e)) r.at_most_one }
  where
    minus : to_bits binary32 a ≡ 2147483648 → Number a × (N a ≡ 0)
    minus e =
        let (n, z) = within 0 0 (record { few = omega arith; first = inl refl }) a (omega arith) f (omega arith) in
        let (p, q) = sign_set a n (omega arith) in
        (n, omega arith)

    either : size_bits a ≤ 1065353216 → Number a × (N a ≡ 0)
    either l = go (eqb (to_bits binary32 a) 2147483648) refl l
      where
        go : (t : Bool) → eqb (to_bits binary32 a) 2147483648 ≡ t → cond t 0 (to_bits binary32 a) ≤ 1065353216 → Number a × (N a ≡ 0)
        go true e h = minus (eqb-true (to_bits binary32 a) 2147483648 e)
        go false e h = plain a f h

    yes : size_bits a ≤ 1065353216 → Envelope a
    yes l = let (n, z) = either l in record { number = n; at_least_zero = z; at_most_one = at_most 8388608 126 one a (sized a n z) l }

-- one below 2 ^ -24 has a pattern below that of it
pub quieter : {a : Float} → Envelope a → P a < 2 ^ 125 → size_bits a < 864026624
quieter {a} e l = elim (le-or-lt 864026624 (size_bits a)) [
  | inl h ↦ absurd (not-le_of_lt l (at_least 8388608 102 quietest a (sized a e.number e.at_least_zero) h))
  | inr h ↦ h
]

-- and all have patterns up to that of 1
pub up_to_one : {a : Float} → Envelope a → size_bits a ≤ 1065353216
up_to_one {a} e = elim (le-or-lt (size_bits a) 1065353216) [
  | inl h ↦ h
  | inr h ↦ absurd (not-le_of_lt (more 8388608 126 one a (sized a e.number e.at_least_zero) h) e.at_most_one)
]

-- ---- an envelope value against a level
module _ {a x : Float} (e : Envelope a) (s : Sound x) where
  value_sized : Sized a
  value_sized = sized a e.number e.at_least_zero

  pub up_to : size_bits a ≤ to_bits binary32 x → P a ≤ P x
  up_to l = sizes_le a x value_sized (sound_sized s) (rw (own_bits s) at l)

  pub past : to_bits binary32 x < size_bits a → P x < P a
  past l = sizes_lt x a (sound_sized s) value_sized (rw (own_bits s) at l)

  pub from : to_bits binary32 x ≤ size_bits a → P x ≤ P a
  from l = sizes_le x a (sound_sized s) value_sized (rw (own_bits s) at l)

  pub short : size_bits a < to_bits binary32 x → P a < P x
  short l = sizes_lt a x value_sized (sound_sized s) (rw (own_bits s) at l)
