-- Two polynomials of degree 12 that enclose 2 ^ t for 0 ≤ t ≤ 1, in units of 2 ^ -48: one above it by less than 2 ^ -42 of it, one below it by less than 2 ^ -40.
-- b / c is ln 2 but for 2 ^ -43, above and below, and each coefficient is b / (c i) times the one before it, rounded up and down; the last one above is b / (c i - b) times. tools/enclosure.py finds them.
use mathlib.Core.List.{List, [], ◌∷◌}
use Prim.Native.Nat.{ℕ, ◌^◌}
use lib.Dec.{lit<, lit≤}
use Rattle.exact.proofs.Growth.{fast, slow}
use Rattle.exact.proofs.Enclosure.{Above, Below, is_above_lem, is_below}

-- the coefficients of the one above, after the first
unfoldable pub upper_tail : List ℕ
upper_tail =
    0xb17217f7d1e0 ∷ 0x3d7f7bff0597 ∷ 0xe35846b8255 ∷ 0x276556df74b ∷ 0x5761ff9e2a ∷ 0xa184897c4 ∷ 0xffe5fe2d ∷ 0x162c0224 ∷ 0x1b5253e ∷ 0x1e4cf6 ∷ 0x1e8cb ∷ 0x1df7 ∷ []

-- the coefficients of the one below, after the first
unfoldable pub lower_tail : List ℕ
lower_tail =
    0xb17217f7d1c0 ∷ 0x3d7f7bff0580 ∷ 0xe35846b824c ∷ 0x276556df748 ∷ 0x5761ff9e29 ∷ 0xa184897c3 ∷ 0xffe5fe2c ∷ 0x162c0223 ∷ 0x1b5253d ∷ 0x1e4cf5 ∷ 0x1e8ca ∷ 0x1c3b ∷ []

-- the one above
unfoldable pub upper : List ℕ
unfolding upper_tail
upper = (2 ^ 48) ∷ upper_tail

-- the one below
unfoldable pub lower : List ℕ
unfolding lower_tail
lower = (2 ^ 48) ∷ lower_tail

-- 2 ^ t ≤ upper(t) / 2 ^ 48
pub tight_above : Above 12 upper (2 ^ 48)
unfolding upper fast
tight_above = is_above_lem 0xb17217f7d1e (2 ^ 44) 44 12 (2 ^ 48) upper_tail (lit< tt) (lit< tt) (lit≤ tt) tt

-- lower(t) / 2 ^ 48 ≤ 2 ^ t
pub tight_below : Below 12 lower (2 ^ 48)
unfolding lower slow
tight_below = is_below 0xb17217f7d1c (2 ^ 44) 44 12 (2 ^ 48) lower_tail (lit< tt) (lit< tt) (lit≤ tt) (lit< tt) tt
