-- Steps of b round a circle of m: a test which says, by the rule of Euclid, that the first n of them miss the arc from l to l + w.
-- Assumes nothing.
use mathlib.Core.Path.{◌≡◌, refl}
use mathlib.Core.Bool.{Bool, true, false}
use Prim.Native.Nat.{ℕ, zero, suc, ◌+◌, ◌-◌, ◌*◌, ◌/◌, ◌%◌, ◌≤◌, ◌<◌}
use native.Mathlib.Nat.{le_dest, mul-le-mul_left, le-div_iff_mul-le, div-add-mod, mod-lt, mod-zero, lt_of_not-le, le_of_lt, zero-lt-suc, zero-mul}
use native.Mathlib.Decide.{dec_le}
use native.Mathlib.Omega.{arith}
use lib.Dec.{T, leb, ltb}
use borrow.Author.Tests.{ltb-true, ltb-false, leb-false}

-- no i ≤ n has b i within [l, l + w] and a multiple of m: either b n does not reach l, or the steps of the circle of b that y rounds of m make are looked at.
-- It gives up where a multiple of b lies in the arc itself, and when f rounds did not decide.
unfoldable pub free : ℕ → ℕ → ℕ → ℕ → ℕ → ℕ → Bool
free zero n b m l w = false
free (suc f) n b m l w = elim (ltb (b * n) l) [
  | true ↦ true
  | false ↦ elim (leb ((l + w) % b) w) [ true ↦ false | false ↦ free f ((b * n - l) / m) (m % b) b (b - (l + w) % b) w ]
]

-- the i-th step stands in the arc after y rounds
pub record Hit (b m l w i y : ℕ) : Type 0 where
  pub from : m * y + l ≤ b * i
  pub to : b * i ≤ m * y + l + w

-- a step in the arc after y rounds of m is the y-th step of m % b round the circle of b
module _ {b m l w i y : ℕ} (pos : 0 < b) (mpos : 0 < m) (h : Hit b m l w i y) where
  rounds : (n : ℕ) → i ≤ n → y ≤ (b * n - l) / m
  rounds n in-time = (le-div_iff_mul-le mpos).1 (omega (arith, h.from, mul-le-mul_left b in-time))

  module _ (P Q r s : ℕ) (arc : b * P + s ≡ l + w) (circle : b * Q + r ≡ m) (over : w < s) where
    round : Q * y + P < i
    round = elim (dec_le i (Q * y + P)) [ yes less ↦ absurd (through (mul-le-mul_left b less)) | no more ↦ lt_of_not-le more ]
      where
        through : b * i ≤ b * (Q * y + P) → ⊥
        through k = omega (arith, rw (← circle) at h.from)

    later : s ≤ b → (z : ℕ) → Q * y + P + suc z ≡ i → Hit r b (b - s) w y z
    later low z sum = record { from = omega (arith, h'.to); to = omega (arith, h'.from) }
      where
        h' : Hit b (b * Q + r) l w (Q * y + P + suc z) y
        h' = rw (circle, sum) h

-- how far the arc's end stands past a multiple of b
unfoldable past : (b l w : ℕ) → ℕ
past b l w = (l + w) % b

-- one round of the test
module _ (n b m l w : ℕ) where
  module _ (next : Bool) (sound : T next → 0 < b → (i y : ℕ) → i ≤ (b * n - l) / m → Hit (m % b) b (b - past b l w) w i y → ⊥)
      (mpos : 0 < m) (i y : ℕ) (in-time : i ≤ n) (h : Hit b m l w i y) where
    on : l ≤ b * n → w < past b l w → T next → ⊥
    unfolding past
    on reach over t =
        let pos : 0 < b = positive b reach over in
        let (z, sum) = le_dest (round pos mpos h ((l + w) / b) (m / b) (m % b) (past b l w) (div-add-mod (l + w) b) (div-add-mod m b) over) in
        sound t pos y z (rounds pos mpos h n in-time)
        (later pos mpos h ((l + w) / b) (m / b) (m % b) (past b l w) (div-add-mod (l + w) b) (div-add-mod m b) over (le_of_lt (mod-lt (l + w) pos)) z (omega arith))
      where
        -- steps of nothing reach no further than 0, and the arc from 0 is given up
        positive : (b' : ℕ) → l ≤ b' * n → w < (l + w) % b' → 0 < b'
        positive zero r o = absurd (omega (arith, mod-zero (l + w), zero-mul n))
        positive (suc b') r o = zero-lt-suc b'

    given_up : l ≤ b * n → (x : Bool) → leb (past b l w) w ≡ x → T (elim x [ true ↦ false | false ↦ next ]) → ⊥
    given_up reach true e t = t
    given_up reach false e t = on reach (leb-false (past b l w) w e) t

    short : (x : Bool) → ltb (b * n) l ≡ x → T (elim x [ true ↦ true | false ↦ elim (leb (past b l w) w) [ true ↦ false | false ↦ next ] ]) → ⊥
    short true e t = omega (arith, ltb-true (b * n) l e, h.from, mul-le-mul_left b in-time)
    short false e t = given_up (ltb-false (b * n) l e) (leb (past b l w) w) refl t

-- what passes the test misses the arc
pub free_sound : (f n b m l w : ℕ) → T (free f n b m l w) → 0 < m → (i y : ℕ) → i ≤ n → Hit b m l w i y → ⊥
unfolding free past
free_sound zero n b m l w t mpos i y in-time h = t
free_sound (suc f) n b m l w t mpos i y in-time h =
    short n b m l w (free f ((b * n - l) / m) (m % b) b (b - past b l w) w)
    (λ t' pos. free_sound f ((b * n - l) / m) (m % b) b (b - past b l w) w t' pos) mpos i y in-time h (ltb (b * n) l) refl t
