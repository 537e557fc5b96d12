-- No sum in a butterfly passes 2 ^ 64, and no difference below zero: of words that are inside, the turned values are within 2 ^ 60.
use mathlib.Core.Path.{◌≡◌, refl, ap}
use Prim.Native.Nat.{ℕ, ◌+◌, ◌-◌, ◌*◌, ◌^◌, ◌≤◌, ◌<◌}
use native.Mathlib.Nat.{mul-le-mul_left, mul-le-mul_right, le_of_mul-le-mul_right}
use native.Mathlib.Omega.{arith}
use lib.Pow.{pow_pos}
use Rattle.spectrum.specs.Table.{unit, entry}
use Rattle.spectrum.specs.Words.{part, Inside, Twice, Turned}
use Rattle.spectrum.proofs.Parts.{Product, made}
use Rattle.spectrum.proofs.Entries.{Row, entry_most}

-- a product is near q itself, since the word is near 2 ^ 61
record NearBy (q p : ℕ) : Type 0 where
  most : p ≤ q + (2 ^ 59 + 2 ^ 10)
  least : q ≤ p + 3 + (2 ^ 59 + 2 ^ 10)

-- over any unit
near : (u g v q p : ℕ) → 0 < u → q ≤ u → u ≤ v + g → v ≤ u + g → p * u ≤ v * q → v * q < (p + 3) * u → (p ≤ q + g) × (q ≤ p + 3 + g)
near u g v q p pos small least most m l = (
  le_of_mul-le-mul_right (omega (arith, m, mul-le-mul_right q most, mul-le-mul_left g small)) pos,
  le_of_mul-le-mul_right (omega (arith, l, mul-le-mul_right q least, mul-le-mul_left g small)) pos,
)

turned : {v q p : ℕ} → q ≤ unit → Inside v → Product v q p → NearBy q p
turned {v} {q} {p} small i r =
    let h = near unit (2 ^ 59 + 2 ^ 10) v q p (pow_pos 61) small i.least i.most r.most r.least in record { most = h.0; least = h.1 }

module _ (c s or oi : ℕ) (hc : c ≤ unit) (hs : s ≤ unit) (hr : Inside or) (hi : Inside oi) where
  -- the real part
  pub real_room : (p p' t : ℕ) → Product or c p → Product oi s p' → t + (c + s) ≡ p + p' + 2 * unit → Twice t
  real_room p p' t r r' e = let a = turned hc hr r in let b = turned hs hi r' in record { least = omega (arith, a.least, b.least); most = omega (arith, a.most, b.most) }

  -- and the imaginary part
  pub imaginary_room : (p p' u : ℕ) → Product oi c p → Product or s p' → u + (p' + c) ≡ p + (2 * unit + s) → Twice u
  imaginary_room p p' u r r' e = let a = turned hc hi r in let b = turned hs hr r' in record { least = omega arith; most = omega arith }

  -- what is taken away last
  pub taken_away : (p p' : ℕ) → Product oi c p → Product or s p' → p' + c ≤ p + (2 * unit + s)
  taken_away p p' r r' = let a = turned hc hi r in let b = turned hs hr r' in omega arith

-- one product
pub one_room : (v q p : ℕ) → q ≤ unit → Inside v → Product v q p → p ≤ 2 * unit
one_room v q p l h r = omega (arith, (turned l h r).most)

-- ---- a value turned back, as the program has it
module _ {j c s z y : ℕ} (re im : ℕ) (few : j ≤ 32) (n : Row j c s z y) (hr : Inside re) (hi : Inside im) where
  cosine_most : entry j ≤ unit
  cosine_most = entry_most j few

  sine_most : entry (32 - j) ≤ unit
  sine_most = entry_most (32 - j) (omega arith)

  cosine_re : Product re (entry j) (part re c)
  cosine_re = made refl n.cosine

  sine_re : Product re (entry (32 - j)) (part re s)
  sine_re = made refl n.sine

  cosine_im : Product im (entry j) (part im c)
  cosine_im = made refl n.cosine

  sine_im : Product im (entry (32 - j)) (part im s)
  sine_im = made refl n.sine

  -- no sum passes 2 ^ 64
  pub two_room : part re c + part im s ≤ 4 * unit
  two_room = omega (arith, one_room _ _ _ cosine_most hr cosine_re, one_room _ _ _ sine_most hi sine_im)

  pub offset_room : part im c + y ≤ 5 * unit
  offset_room = omega (arith, one_room _ _ _ cosine_most hi cosine_im, n.other, sine_most)

  -- and the difference does not go below zero
  pub enough : part re s ≤ part im c + y
  enough =
      omega (
        arith,
        n.other,
        taken_away (entry j) (entry (32 - j)) re im cosine_most sine_most hr hi _ _ cosine_im sine_re,
      )

  pub turned_back : Turned j re im (part re c + part im s + z) (part im c + y - part re s)
  turned_back = record {
    real = omega (arith, n.both, ap (part re) n.cosine, ap (part im) n.sine);
    imaginary = omega (arith, n.other, enough, ap (part im) n.cosine, ap (part re) n.sine);
    room_real =
        real_room (entry j) (entry (32 - j)) re im cosine_most sine_most hr hi _ _ _ cosine_re sine_im
        (omega (arith, n.both));
    room_imaginary =
        imaginary_room (entry j) (entry (32 - j)) re im cosine_most sine_most hr hi _ _ _ cosine_im sine_re
        (omega (arith, n.other, enough));
  }
