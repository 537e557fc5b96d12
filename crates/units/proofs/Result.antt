-- What the result of an f32 operation is: the exact number, (a - b) / c units, rounded. Each operation shows that it is (Sums, Products, Quotients).
-- What follows from it is shown here, once for all of them and for both signs.
use mathlib.Core.Path.{◌≡◌, sym, ap, ◌∙◌}
use mathlib.Core.Logic.{inl, inr}
use Prim.Native.Nat.{ℕ, ◌+◌, ◌-◌, ◌*◌, ◌^◌, ◌≤◌, ◌<◌, zero-le}
use native.Mathlib.Nat.{le_of_eq, le_antisymm, le_of_lt, lt_of_le_of_lt, zero-mul, mul-one, add-zero, zero-sub, sub-zero, sub-eq-zero_of_le, min-eq_left, min-le_left}
use native.Mathlib.Omega.{arith}
use mathlib.Core.Bool.{Bool, true, false, not, cond}
use lib.Dec.{T, lit<}
use lib.Ieee.{Float, binary32, round, fits, is_nan}
use lib.Ieee.Scale.{finite}
use lib.Ieee.Fits.{round-fits}
use Rattle.units.specs.Units.{mag, negative, P, N, Number}
use Rattle.units.proofs.Naturals.{le-or-lt, sub-mul}
use Rattle.units.proofs.Near.{Near, near_sym}
use Rattle.units.proofs.Size.{mag_digits, mag-lt, finite_of_mag, finite_real}
use Rattle.units.proofs.Round.{rnd, rnd_stays, rnd_upto, rnd_near, rnd_whole, rnd_same, rnd_zero}
use Rattle.units.proofs.Rounded.{cap, cap_under, round_P, round_N, round_real}

-- z is (a - b) / c units rounded, an infinity where that is too large, and no NaN: at most one of the two differences is above 0
pub record Rounds (z : Float) (a b c : ℕ) : Type 0 where
  pub fits32 : T (fits binary32 z)
  pub no_nan : T (not (is_nan z))
  pub plus : P z ≡ cap (rnd (a - b) c)
  pub minus : N z ≡ cap (rnd (b - a) c)

-- ---- how an operation shows it
-- a fraction r / d rounded, with the sign s, where r / d is v / c units, and a - b is v or, for the sign -, -v
pub rounds_of : (s : Bool) (r d a b c v : ℕ) → 0 < d → 0 < c → r * 2 ^ 149 * c ≡ v * d → a + cond s v 0 ≡ cond s 0 v + b → Rounds (round binary32 s r d) a b c
rounds_of false r d a b c v D C e w = record {
  fits32 = round-fits binary32 false r d;
  no_nan = round_real false r d;
  plus = round_P false r d ∙ ap cap (rnd_same (r * 2 ^ 149) d v c D C e ∙ ap (λ (x : ℕ). rnd x c) (sym (rest a b v w).0));
  minus = round_N false r d ∙ ap cap (sym (ap (λ (x : ℕ). rnd x c) (rest a b v w).1 ∙ rnd_zero c C));
}
  where
    rest : (x y z : ℕ) → x + 0 ≡ z + y → (x - y ≡ z) × (y - x ≡ 0)
    rest x y z g = omega arith
rounds_of true r d a b c v D C e w = record {
  fits32 = round-fits binary32 true r d;
  no_nan = round_real true r d;
  plus = round_P true r d ∙ ap cap (sym (ap (λ (x : ℕ). rnd x c) (rest a b v w).1 ∙ rnd_zero c C));
  minus = round_N true r d ∙ ap cap (rnd_same (r * 2 ^ 149) d v c D C e ∙ ap (λ (x : ℕ). rnd x c) (sym (rest a b v w).0));
}
  where
    rest : (x y z : ℕ) → x + z ≡ 0 + y → (y - x ≡ z) × (x - y ≡ 0)
    rest x y z g = omega arith

-- a finite float is its own number, rounded
pub rounds_self : (w : Float) → Number w → Rounds w (P w) (N w) 1
rounds_self w n =
    record { fits32 = n.fits32; no_nan = finite_real w n.is_finite; plus = (own (negative w)).0; minus = (own (negative w)).1 }
  where
    stays : mag w ≡ cap (rnd (mag w) 1)
    stays = let d = mag_digits w n in sym (ap cap (rnd_stays (mag w) d.0 d.1 (le_of_lt d.2) d.3) ∙ min-eq_left (le_of_lt (mag-lt w n)))

    zeros : 0 ≡ cap (rnd 0 1)
    zeros = sym (ap cap (rnd_zero 1 (lit< tt)))

    own : (s : Bool) → (cond s 0 (mag w) ≡ cap (rnd (cond s 0 (mag w) - cond s (mag w) 0) 1)) × (cond s (mag w) 0 ≡ cap (rnd (cond s (mag w) 0 - cond s 0 (mag w)) 1))
    own false = (rw sub-zero stays, rw zero-sub zeros)
    own true = (rw zero-sub zeros, rw sub-zero stays)

-- ---- sizes of the two sides
side_lt : (s : Bool) (m k : ℕ) → m < k → (cond s 0 m < k) × (cond s m 0 < k)
side_lt false m k h = (h, lt_of_le_of_lt zero-le h)
side_lt true m k h = (lt_of_le_of_lt zero-le h, h)

size-lt : (s : Bool) (m k : ℕ) → cond s 0 m < k → cond s m 0 < k → m < k
size-lt false m k g h = g
size-lt true m k g h = h

-- each side of a finite float is below 2 ^ 277
pub sides_lt : (z : Float) → Number z → (P z < 2 ^ 277) × (N z < 2 ^ 277)
sides_lt z n = side_lt (negative z) (mag z) (2 ^ 277) (mag-lt z n)

module _ (z : Float) (a b c : ℕ) (r : Rounds z a b c) where
  -- a finite result is the rounding itself: its positive side
  pub rounds_plus : T (finite z) → P z ≡ rnd (a - b) c
  rounds_plus t = r.plus ∙ cap_under (rnd (a - b) c) (rw r.plus at (sides_lt z (record { fits32 = r.fits32; is_finite = t })).0)

  -- and its negative side
  pub rounds_minus : T (finite z) → N z ≡ rnd (b - a) c
  rounds_minus t = r.minus ∙ cap_under (rnd (b - a) c) (rw r.minus at (sides_lt z (record { fits32 = r.fits32; is_finite = t })).1)

  -- it is finite where the rounding is below 2 ^ 277
  pub rounds_number : rnd (a - b) c < 2 ^ 277 → rnd (b - a) c < 2 ^ 277 → Number z
  rounds_number g h =
      finite_of_mag z r.fits32 r.no_nan
      (size-lt (negative z) (mag z) (2 ^ 277) (rw r.plus (lt_of_le_of_lt (min-le_left (rnd (a - b) c) (2 ^ 277)) g)) (rw r.minus (lt_of_le_of_lt (min-le_left (rnd (b - a) c) (2 ^ 277)) h)))

  -- so where the exact number is at most some number of 24 digits below 2 ^ 277, in size
  pub rounds_bounded : (q j : ℕ) → 0 < c → q ≤ 2 ^ 24 → q * 2 ^ j < 2 ^ 277 → Near a b (q * 2 ^ j * c) → Number z
  rounds_bounded q j C h l d =
      rounds_number (lt_of_le_of_lt (rnd_upto (a - b) c q j C h (within a b (q * 2 ^ j * c) d.at_most)) l)
      (lt_of_le_of_lt (rnd_upto (b - a) c q j C h (within b a (q * 2 ^ j * c) d.at_least)) l)
    where
      within : (x y e : ℕ) → x ≤ y + e → x - y ≤ e
      within x y e g = omega arith

-- ---- how far off, for both signs
-- the side that is 0 is exact, and the other is off by what the rounding is off, e being what that adds to the relative bound
one_sided : (a b c d e : ℕ) → 0 < c → ((x : ℕ) → Near (rnd x c * c * 2 ^ 24) (x * 2 ^ 24) (x + e)) → Near a b d → a ≤ b
    → Near ((rnd (a - b) c * c + b) * 2 ^ 24) ((rnd (b - a) c * c + a) * 2 ^ 24) (d + e)
one_sided a b c d e C h g l = far (rnd (a - b) c * c) (rnd (b - a) c * c) (rw (sub-eq-zero_of_le l, rnd_zero c C) (zero-mul c)) (h (b - a))
  where
    far : (p n : ℕ) → p ≡ 0 → Near (n * 2 ^ 24) ((b - a) * 2 ^ 24) (b - a + e) → Near ((p + b) * 2 ^ 24) ((n + a) * 2 ^ 24) (d + e)
    far p n u v = omega arith

error : (a b c d e : ℕ) → 0 < c → ((x : ℕ) → Near (rnd x c * c * 2 ^ 24) (x * 2 ^ 24) (x + e)) → Near a b d
    → Near ((rnd (a - b) c * c + b) * 2 ^ 24) ((rnd (b - a) c * c + a) * 2 ^ 24) (d + e)
error a b c d e C h g = elim (le-or-lt a b) [ inl l ↦ one_sided a b c d e C h g l | inr l ↦ near_sym (one_sided b a c d e C h (near_sym g) (le_of_lt l)) ]

-- The standard model. d is at least the exact number's size, times c: the result is at most d / 2 ^ 24 off, and half a unit.
pub rounds_near : (z : Float) (a b c d : ℕ) → 0 < c → Rounds z a b c → T (finite z) → Near a b d → Near ((P z * c + b) * 2 ^ 24) ((N z * c + a) * 2 ^ 24) (d + 2 ^ 23 * c)
rounds_near z a b c d C r n g = rw (rounds_plus z a b c r n, rounds_minus z a b c r n) (error a b c d (2 ^ 23 * c) C (λ x. rnd_near x c C) g)

-- and without the half unit where the exact number is a whole number of units
pub rounds_whole : (z : Float) (a b d : ℕ) → Rounds z a b 1 → T (finite z) → Near a b d → Near ((P z + b) * 2 ^ 24) ((N z + a) * 2 ^ 24) d
rounds_whole z a b d r n g = plain (P z) (N z) (rw (rounds_plus z a b 1 r n, rounds_minus z a b 1 r n) (error a b 1 d 0 (lit< tt) whole g))
  where
    plain : (p q : ℕ) → Near ((p * 1 + b) * 2 ^ 24) ((q * 1 + a) * 2 ^ 24) (d + 0) → Near ((p + b) * 2 ^ 24) ((q + a) * 2 ^ 24) d
    plain p q h = omega arith

    whole : (x : ℕ) → Near (rnd x 1 * 1 * 2 ^ 24) (x * 2 ^ 24) (x + 0)
    whole x = rw (mul-one, add-zero) (rnd_whole x)

-- ---- order
scaled : (a b c a' b' c' : ℕ) → a * c' + b' * c ≤ a' * c + b * c' → (a - b) * c' ≤ (a' - b') * c
scaled a b c a' b' c' h = less (a - b) (a' - b') (sub-mul a b c') (sub-mul a' b' c)
  where
    less : (x y : ℕ) → x * c' ≡ a * c' - b * c' → y * c ≡ a' * c - b' * c → x * c' ≤ y * c
    less x y u v = omega arith

-- equal exact numbers have results that are the same number
pub rounds_same : (z z' : Float) (a b c a' b' c' : ℕ) → 0 < c → 0 < c' → Rounds z a b c → Rounds z' a' b' c' → a * c' + b' * c ≡ a' * c + b * c' → (P z ≡ P z') × (N z ≡ N z')
rounds_same z z' a b c a' b' c' C C' r r' e =
    let there = scaled a b c a' b' c' (le_of_eq e) in
    let back = scaled a' b' c' a b c (le_of_eq (sym e)) in
    let there' = scaled b a c b' a' c' (le_of_eq (turn (a * c') (b' * c) (a' * c) (b * c') e)) in
    let back' = scaled b' a' c' b a c (le_of_eq (sym (turn (a * c') (b' * c) (a' * c) (b * c') e))) in (
      r.plus ∙ ap cap (rnd_same (a - b) c (a' - b') c' C C' (le_antisymm there back)) ∙ sym r'.plus,
      r.minus ∙ ap cap (rnd_same (b - a) c (b' - a') c' C C' (le_antisymm there' back')) ∙ sym r'.minus,
    )
  where
    turn : (u v x y : ℕ) → u + v ≡ x + y → y + x ≡ v + u
    turn u v x y g = omega arith

module _ (z : Float) (a b c : ℕ) (C : 0 < c) (r : Rounds z a b c) where
  -- where the exact number is that of a finite float, the result is that number
  pub rounds_exact : (w : Float) → Number w → a + N w * c ≡ P w * c + b → (P z ≡ P w) × (N z ≡ N w)
  rounds_exact w n e = rounds_same z w a b c (P w) (N w) 1 C (lit< tt) r (rounds_self w n) (rw (mul-one a, mul-one b) e)

  -- a result is on the exact number's side of zero: not positive where that is not
  pub rounds_nonpositive : a ≤ b → P z ≡ 0
  rounds_nonpositive h = rw (r.plus, sub-eq-zero_of_le h, rnd_zero c C)

  -- and not negative where that is not
  pub rounds_nonnegative : b ≤ a → N z ≡ 0
  rounds_nonnegative h = rw (r.minus, sub-eq-zero_of_le h, rnd_zero c C)
