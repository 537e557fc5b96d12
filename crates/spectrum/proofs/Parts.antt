-- What a product of two words loses when the lower halves are left out: less than 3.
use mathlib.Core.Path.{◌≡◌, refl, sym, ◌∙◌, ap, ap₂, subst}
use Prim.Native.Nat.{ℕ, ◌+◌, ◌*◌, ◌/◌, ◌%◌, ◌^◌, ◌≤◌, ◌<◌}
use native.Mathlib.Nat.{mul-le-mul, div-add-mod'}
use native.Mathlib.Omega.{arith}
use Rattle.spectrum.specs.Table.{unit}
use Rattle.spectrum.specs.Words.{part}

-- p is v q / 2 ^ 61, or less than 3 below it
pub record Product (v q p : ℕ) : Type 0 where
  pub most : p * unit ≤ v * q
  pub least : v * q < (p + 3) * unit

-- of the halves of v and w
halves : (a b c d : ℕ) → b ≤ 4294967295 → d ≤ 4294967295 → (x y : ℕ) → x ≡ a * d / 4294967296 → y ≡ b * c / 4294967296
    → ((a * c + x + y) * 2 ^ 64 ≤ (a * 4294967296 + b) * (c * 4294967296 + d)) × ((a * 4294967296 + b) * (c * 4294967296 + d) < (a * c + x + y + 3) * 2 ^ 64)
halves a b c d hb hd x y ex ey = (omega arith, omega (arith, mul-le-mul hb hd))

module _ (v w : ℕ) where
  same : (v / 4294967296 * 4294967296 + v % 4294967296) * (w / 4294967296 * 4294967296 + w % 4294967296) ≡ v * w
  same = ap₂ ◌*◌ (div-add-mod' v 4294967296) (div-add-mod' w 4294967296)

  both : (part v w * 2 ^ 64 ≤ v * w) × (v * w < (part v w + 3) * 2 ^ 64)
  unfolding part
  both = rw same at (halves (v / 4294967296) (v % 4294967296) (w / 4294967296) (w % 4294967296) (omega arith) (omega arith) _ _ refl refl)

-- w is eight times a number of the table
pub product : (v q : ℕ) → Product v q (part v (8 * q))
product v q = record { most = omega (arith, (both v (8 * q)).0); least = omega (arith, (both v (8 * q)).1) }

-- as the program has it
pub made : {v w q p : ℕ} → p ≡ part v w → w ≡ 8 * q → Product v q p
made {v} {w} {q} {p} e f = subst (λ (x : ℕ). Product v q x) (sym (e ∙ ap (part v) f)) (product v q)
