-- The opposite of a float: its positive and its negative side change places. Assumes nothing.
use mathlib.Core.Path.{◌≡◌, refl, sym}
use mathlib.Core.Bool.{true, false, true≢false}
use Prim.Native.Nat.{ℕ}
use lib.Ieee.{Float, nan, inf, fin, neg, binary32}
use lib.Ieee.Fits.{neg-fits}
use Rattle.units.specs.Units.{mag, negative, P, N, Number}
use Rattle.units.proofs.Bits.{Is}

-- it is a number too
pub opposite : (z : Float) → Number z → Number (neg z)
unfolding neg
opposite nan h = absurd h.is_finite
opposite (inf s) h = absurd h.is_finite
opposite (fin s m e) h = record { fits32 = neg-fits binary32 (fin s m e) h.fits32; is_finite = tt }

-- its sides
pub opposite_plus : (z : Float) → Number z → P (neg z) ≡ N z
unfolding neg mag negative
opposite_plus nan h = absurd h.is_finite
opposite_plus (inf s) h = absurd h.is_finite
opposite_plus (fin true m e) h = refl
opposite_plus (fin false m e) h = refl

pub opposite_minus : (z : Float) → Number z → N (neg z) ≡ P z
unfolding neg mag negative
opposite_minus nan h = absurd h.is_finite
opposite_minus (inf s) h = absurd h.is_finite
opposite_minus (fin true m e) h = refl
opposite_minus (fin false m e) h = refl

-- of a float below zero it is the one above zero, of as many units
pub opposite_is : (z : Float) {u : ℕ} → Is z true u → Is (neg z) false u
unfolding neg mag negative
opposite_is nan h = absurd h.number.is_finite
opposite_is (inf s) h = absurd h.number.is_finite
opposite_is (fin true m e) h = record { number = opposite (fin true m e) h.number; sign = refl; units = h.units }
opposite_is (fin false m e) h = absurd (true≢false (sym h.sign))
