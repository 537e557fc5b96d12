-- One step of a sum, a rounded product or a rounded addition: what it does to the distance from the exact number. A float is P - N units of 2 ^ -149,
-- the exact number a - b units of 2 ^ -298. Assumes nothing.
use mathlib.Core.Path.{◌≡◌, refl, sym, ap₂, ◌∙◌}
use Prim.Native.Nat.{ℕ, ◌+◌, ◌-◌, ◌*◌, ◌^◌, ◌≤◌, ◌<◌}
use native.Mathlib.Nat.{le_of_eq, mul-le-mul_left, mul-le-mul_right, le_of_mul-le-mul_right}
use native.Mathlib.Omega.{arith}
use lib.Dec.{T, lit<}
use lib.Ieee.{Float, binary32, of_bits, add, mul}
use lib.Ieee.Scale.{finite}
use Rattle.units.specs.Units.{P, N, Number}
use Rattle.units.proofs.Near.{Near, near_scale}
use Rattle.units.proofs.Signs.{size-sum}
use Rattle.units.proofs.Ranges.{zero_units}
use Rattle.units.proofs.Result.{rounds_exact}
use Rattle.units.proofs.Sums.{add_rounds, add_near}
use Rattle.units.proofs.Products.{mul_near}
use Rattle.sums.specs.Sum.{above, below, size, apart}
use Rattle.sums.proofs.Apart.{near_apart, apart_least, apart-scaled}

-- z, after at most k roundings, is at most k / (2 ^ 24 - k) of s off, and n halves of the least float, each grown as much
abbrev pub Off : (k n : ℕ) (z : Float) (a b s : ℕ) → Type 0
Off k n z a b s = apart (P z * 2 ^ 149 + b) (N z * 2 ^ 149 + a) * (2 ^ 24 - k) ≤ k * s + n * 2 ^ 172

-- ---- a product
-- its size is what it has above zero and what it has below
pub size_is : (x y : Float) → size x y ≡ above x y + below x y
size_is x y = ap₂ (λ (m n : ℕ). m * n) (sym (size-sum x)) (sym (size-sum y)) ∙ multiplied (P x) (N x) (P y) (N y)
  where
    multiplied : (p n q m : ℕ) → (p + n) * (q + m) ≡ p * q + n * m + (p * m + n * q)
    multiplied p n q m = omega arith

-- a rounded product has gone through one rounding
pub off_product : (x y : Float) → Number x → Number y → T (finite (mul binary32 x y)) → Off 1 1 (mul binary32 x y) (above x y) (below x y) (size x y)
off_product x y h k t =
    let z = mul binary32 x y in
    once (apart (P z * 2 ^ 149 + below x y) (N z * 2 ^ 149 + above x y)) (size x y) (2 ^ 172)
    (apart-scaled (P z * 2 ^ 149 + below x y) (N z * 2 ^ 149 + above x y) (2 ^ 24) (size x y + 2 ^ 172) (mul_near x y h k t))
  where
    once : (e s half : ℕ) → e * 2 ^ 24 ≤ s + half → e * (2 ^ 24 - 1) ≤ 1 * s + 1 * half
    once e s half g = omega arith

-- ---- a sum of two parts
-- the arithmetic: E bounds the parts' errors together, r is the error of the addition itself, s the parts' sizes together
grown : (w m k E r s e B : ℕ) → 0 < w → m ≤ w → e ≤ E + r → r * w ≤ s + E → E * (m + 1) ≤ k * s + B → e * m ≤ (k + 1) * s + B
grown w m k E r s e B W l h g f =
    let a1 : e * (m * w) ≤ (E + r) * (m * w) = mul-le-mul_right (m * w) h in
    let a2 : m * (r * w) ≤ m * (s + E) = mul-le-mul_left m g in
    let a3 : E * m ≤ E * w = mul-le-mul_left E l in
    let a4 : E * (m + 1) * w ≤ (k * s + B) * w = mul-le-mul_right w f in
    let a5 : s * m ≤ s * w = mul-le-mul_left s l in
    let a6 : e * m * w ≤ ((k + 1) * s + B) * w = omega arith in
    le_of_mul-le-mul_right a6 W

-- x = px - nx and y = py - ny are added to z = pz - nz, in units of which each is U of the exact numbers' units
module _ (U w m k B B' px nx py ny pz nz a b a' b' : ℕ) (W : 0 < w) (l : m ≤ w)
    (rounded : Near ((pz + (nx + ny)) * w) ((nz + (px + py)) * w) (apart (px + py) (nx + ny)))
    (first : apart (px * U + b) (nx * U + a) * (m + 1) ≤ k * (a + b) + B)
    (second : apart (py * U + b') (ny * U + a') * (m + 1) ≤ k * (a' + b') + B') where
  abbrev E : ℕ
  E = apart (px * U + b) (nx * U + a) + apart (py * U + b') (ny * U + a')

  abbrev r : ℕ
  r = apart (pz + (nx + ny)) (nz + (px + py))

  -- the exact sum of x and y is at most the parts' sizes and their errors
  within : apart (px + py) (nx + ny) * U ≤ a + b + (a' + b') + E
  within =
      let h = near_apart (px * U + b) (nx * U + a) in
      let g = near_apart (py * U + b') (ny * U + a') in
      apart-scaled (px + py) (nx + ny) U (a + b + (a' + b') + E) (record { at_most = omega arith; at_least = omega arith })

  added : apart (pz * U + (b + b')) (nz * U + (a + a')) * m ≤ (k + 1) * (a + b + (a' + b')) + (B + B')
  added =
      let h = near_apart (px * U + b) (nx * U + a) in
      let g = near_apart (py * U + b') (ny * U + a') in
      let f = near_scale U (near_apart (pz + (nx + ny)) (nz + (px + py))) in
      let c : Near (pz * U + (b + b')) (nz * U + (a + a')) (E + r * U) = record { at_most = omega arith; at_least = omega arith } in
      let d : r * w * U ≤ apart (px + py) (nx + ny) * U = mul-le-mul_right U (apart-scaled (pz + (nx + ny)) (nz + (px + py)) w (apart (px + py) (nx + ny)) rounded) in
      let i = within in
      let j : r * U * w ≤ a + b + (a' + b') + E = omega arith in
      grown w m k E (r * U) (a + b + (a' + b')) (apart (pz * U + (b + b')) (nz * U + (a + a'))) (B + B') W l (apart_least c) j (omega arith)

-- more roundings, a larger bound
pub off_more : (j k n : ℕ) (z : Float) (a b s : ℕ) → j ≤ k → Off j n z a b s → Off k n z a b s
off_more j k n z a b s l h = more (2 ^ 24) (apart (P z * 2 ^ 149 + b) (N z * 2 ^ 149 + a)) (n * 2 ^ 172) h
  where
    more : (w e B : ℕ) → e * (w - j) ≤ j * s + B → e * (w - k) ≤ k * s + B
    more w e B g =
        let c : e * (w - k) ≤ e * (w - j) = mul-le-mul_left e (omega arith) in
        let d : j * s ≤ k * s = mul-le-mul_right s l in
        omega arith

-- a rounded sum has gone through one rounding more than its parts, which each are numbers a - b of size a + b
pub off_plus : (k n n' : ℕ) (x y : Float) (a b a' b' : ℕ) → k < 2 ^ 24 → Number x → Number y → T (finite (add binary32 x y))
    → Off k n x a b (a + b) → Off k n' y a' b' (a' + b') → Off (k + 1) (n + n') (add binary32 x y) (a + a') (b + b') (a + b + (a' + b'))
off_plus k n n' x y a b a' b' l h g t f f' =
    let z = add binary32 x y in
    shared (2 ^ 172) (apart (P z * 2 ^ 149 + (b + b')) (N z * 2 ^ 149 + (a + a')) * m)
    (added (2 ^ 149) (2 ^ 24) m k (n * 2 ^ 172) (n' * 2 ^ 172) (P x) (N x) (P y) (N y) (P z) (N z) a b a' b' (lit< tt) (omega arith)
    (add_near x y (apart (P x + P y) (N x + N y)) h g t (near_apart (P x + P y) (N x + N y)))
    (rw left at f) (rw left at f'))
  where
    m : ℕ
    m = 2 ^ 24 - (k + 1)

    left : 2 ^ 24 - k ≡ m + 1
    left = omega arith

    shared : (H e : ℕ) → e ≤ (k + 1) * (a + b + (a' + b')) + (n * H + n' * H) → e ≤ (k + 1) * (a + b + (a' + b')) + (n + n') * H
    shared H e i = omega arith

-- adding to zero is exact
pub add-zero_left : (x y : Float) → Number x → Number y → (P x ≡ 0) × (N x ≡ 0) → (P (add binary32 x y) ≡ P y) × (N (add binary32 x y) ≡ N y)
add-zero_left x y h k (p, n) = rounds_exact (add binary32 x y) (P x + P y) (N x + N y) 1 (lit< tt) (add_rounds x y h k) y k (omega arith)

-- and so is adding zero
pub add-zero_right : (x y : Float) → Number x → Number y → (P y ≡ 0) × (N y ≡ 0) → (P (add binary32 x y) ≡ P x) × (N (add binary32 x y) ≡ N x)
add-zero_right x y h k (p, n) = rounds_exact (add binary32 x y) (P x + P y) (N x + N y) 1 (lit< tt) (add_rounds x y h k) x h (omega arith)

-- +0 stands for nothing, exactly
pub off_nothing : Off 0 0 (of_bits binary32 0) 0 0 0
unfolding apart
off_nothing = rw (zero_units.0, zero_units.1) (le_of_eq refl)
