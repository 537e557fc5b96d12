-- Method: a polynomial times the distance to a power of two, evaluated by Horner's rule with floors, against the logarithm: a computed test shows that the two
-- differ by at most 5 parts in 2 ^ 32 on a sixteenth of an octave.
use Rattle.std.proofs.Common.{◌≡◌, ℕ, ◌+◌, ◌-◌, ◌*◌, ◌^◌, ◌<◌, ◌≤◌, Bool, true, false, ◌&&◌, T, List, [], ◌∷◌, length, sym, ap, le_trans, le_of_eq, mul-le-mul_right, mul-le-mul_left, pow-suc, arith, lit<}
use native.Mathlib.Nat.{one-le-mul}
use lib.Ieee.Fits.{and_l, and_r}
use Rattle.exact.specs.Power.{AtMost, AtLeast}
use Rattle.exact.specs.Polynomial.{value}
use Rattle.exact.proofs.Power.{most_of_less, least_of_more, most_of_larger, least_of_smaller}
use Rattle.exact.proofs.Logarithm.{exponent, exponent_least, exponent_most}
use Rattle.exact.proofs.Pieces.{end}
use Rattle.exact.proofs.Tight.{upper, lower, tight_above, tight_below}
use Rattle.fixed.specs.Horner.{horner}
use Rattle.fixed.proofs.Horner.{horner_close, horner_first}

-- F steps of 2 ^ -54 are log2 (n / d), within 5 parts in 2 ^ 32 of F
pub record Close (n d F : ℕ) : Type 0 where
  pub least : AtLeast n d ((2 ^ 32 - 5) * F) 0 (2 ^ 86)
  pub most : AtMost n d ((2 ^ 32 + 5) * F) 0 (2 ^ 86)

-- the same of n / d written with other numbers
pub close_same : {n d n' d' F : ℕ} → 0 < d' → n * d' ≡ n' * d → Close n d F → Close n' d' F
close_same pos e c = record { least = least_of_more pos (le_of_eq e) c.least; most = most_of_less pos (le_of_eq (sym e)) c.most }

-- ---- the floors: what Horner's rule makes of five coefficients at v / d ≤ 1 / 16, against the exact polynomial
module _ (d v c b : ℕ) (cs : List ℕ) (dpos : 0 < d) (near : 16 * v ≤ d) (few : length cs ≤ 3) (large : 5 * 2 ^ 28 ≤ c) where
  abbrev made : ℕ
  made = horner d (c ∷ b ∷ cs) v

  abbrev exact : ℕ
  exact = value 4 (c ∷ b ∷ cs) v d

  -- the exact polynomial is at most 4 parts in 2 ^ 32 above what is made
  pub floors : (2 ^ 32 + 1) * exact ≤ (2 ^ 32 + 5) * (made * d ^ 4)
  floors =
      through made (d ^ 3) (d ^ 4) (length cs) exact (pow-suc d 3) few (le_trans large (horner_first d c (b ∷ cs) v))
      (horner_close d dpos v (le_trans (omega arith) near) 3 c b cs few)
    where
      through : (p C K k X : ℕ) → K ≡ C * d → k ≤ 3 → 5 * 2 ^ 28 ≤ p → X ≤ (p + 1) * K + k * v * C → (2 ^ 32 + 1) * X ≤ (2 ^ 32 + 5) * (p * K)
      through p C K k X e h l m =
          let a : 16 * (k * v * C) ≤ 3 * K = omega (arith, mul-le-mul_right (C * (16 * v)) h, mul-le-mul_left (3 * C) near) in
          let q : 5 * 2 ^ 28 * K ≤ p * K = mul-le-mul_right K l in
          omega arith

-- ---- the polynomial: t = (plus - minus)(x) / unit against log2 of bs(x) / (cs - ds)(x), for x from 0 to 1 / 16
module _ (cs ds bs plus minus : List ℕ) (unit : ℕ) where
  -- the test: t is at most 5 parts in 2 ^ 32 above, and at most 1 part below
  unfoldable pub encloses : Bool
  unfolding exponent upper lower
  encloses =
      exponent 1 cs ds bs 5 plus minus unit (2 ^ 32 - 5) (2 ^ 32) 12 upper (2 ^ 48) 16 0 (1 ∷ []) true
      && exponent 1 cs ds bs 5 plus minus unit (2 ^ 32 + 1) (2 ^ 32) 12 lower (2 ^ 48) 16 0 (1 ∷ []) false

  module _ (t : T encloses) (fits-cs : length cs ≤ 2) (fits-ds : length ds ≤ 2) (fits-bs : length bs ≤ 2) (fits-plus : length plus ≤ 6) (fits-minus : length minus ≤ 6)
      (x d z E : ℕ) (dpos : 0 < d) (near : 16 * x ≤ d) (at_z : z + value 5 minus x d ≡ value 5 plus x d) (rest : E + value 1 ds x d ≡ value 1 cs x d) (Epos : 0 < E) (upos : 0 < unit) where
    abbrev q : ℕ
    q = unit * 2 ^ 32 * d ^ 5

    first : Bool
    first = exponent 1 cs ds bs 5 plus minus unit (2 ^ 32 - 5) (2 ^ 32) 12 upper (2 ^ 48) 16 0 (1 ∷ []) true

    second : Bool
    second = exponent 1 cs ds bs 5 plus minus unit (2 ^ 32 + 1) (2 ^ 32) 12 lower (2 ^ 48) 16 0 (1 ∷ []) false

    above_t : AtMost (value 1 bs x d) E ((2 ^ 32 + 1) * z) 0 q
    unfolding encloses first second end
    above_t =
        exponent_most 1 cs ds bs 5 plus minus unit (2 ^ 32 + 1) (2 ^ 32) 12 lower (2 ^ 48) 16 0 (1 ∷ [])
        (lit< tt) fits-cs fits-ds fits-bs fits-plus fits-minus x d dpos (omega arith) (omega arith) z E at_z rest Epos (one-le-mul upos (lit< tt)) tight_below (and_r first second t)

    below_t : (2 ^ 32 - 5) * z ≤ q → AtLeast (value 1 bs x d) E ((2 ^ 32 - 5) * z) 0 q
    unfolding encloses first second end
    below_t small =
        exponent_least 1 cs ds bs 5 plus minus unit (2 ^ 32 - 5) (2 ^ 32) 12 upper (2 ^ 48) 16 0 (1 ∷ [])
        (lit< tt) fits-cs fits-ds fits-bs fits-plus fits-minus x d dpos (omega arith) (omega arith) z E at_z rest Epos (one-le-mul upos (lit< tt)) tight_above (and_l first second t) small

    -- where z / (unit d ^ 5) is Y / (2 ^ 54 d ^ 4), and F is Y / d ^ 4 but for the floors
    module _ (c Y F : ℕ) (scaled : unit * d ≡ c * 2 ^ 54) (at-Y : z ≡ c * Y) (low : F * d ^ 4 ≤ Y) (high : (2 ^ 32 + 1) * Y ≤ (2 ^ 32 + 5) * (F * d ^ 4)) where
      q_is : q ≡ c * (2 ^ 86 * d ^ 4)
      q_is = through (d ^ 5) (d ^ 4) (pow-suc d 4)
        where
          through : (G K : ℕ) → G ≡ K * d → unit * 2 ^ 32 * G ≡ c * (2 ^ 86 * K)
          through G K e = rw e (omega (arith, ap (λ (i : ℕ). i * (K * 2 ^ 32)) scaled))

      small : 5 * F ≤ 3 * 2 ^ 54 → (2 ^ 32 - 5) * z ≤ q
      small h = rw (at-Y, q_is) (through (d ^ 4) low high)
        where
          through : (K : ℕ) → F * K ≤ Y → (2 ^ 32 + 1) * Y ≤ (2 ^ 32 + 5) * (F * K) → (2 ^ 32 - 5) * (c * Y) ≤ c * (2 ^ 86 * K)
          through K l m =
              let k : 5 * F * K ≤ 3 * 2 ^ 54 * K = mul-le-mul_right K h in
              let y : Y ≤ 2 ^ 54 * K = omega arith in
              omega (arith, mul-le-mul_left c y)

      -- then F is close to the logarithm
      pub close : 5 * F ≤ 3 * 2 ^ 54 → Close (value 1 bs x d) E F
      close h = record {
        least = least_of_smaller (lit< tt) (rw (at-Y, q_is) (before (d ^ 4) low)) (below_t (small h));
        most = most_of_larger (lit< tt) (rw (at-Y, q_is) (after (d ^ 4) high)) above_t;
      }
        where
          before : (K : ℕ) → F * K ≤ Y → (2 ^ 32 - 5) * F * (c * (2 ^ 86 * K)) + 0 * 2 ^ 86 ≤ (2 ^ 32 - 5) * (c * Y) * 2 ^ 86 + 0 * (c * (2 ^ 86 * K))
          before K l = omega (arith, mul-le-mul_left c l)

          after : (K : ℕ) → (2 ^ 32 + 1) * Y ≤ (2 ^ 32 + 5) * (F * K) → (2 ^ 32 + 1) * (c * Y) * 2 ^ 86 + 0 * (c * (2 ^ 86 * K)) ≤ (2 ^ 32 + 5) * F * (c * (2 ^ 86 * K)) + 0 * 2 ^ 86
          after K l = omega (arith, mul-le-mul_left c l)
