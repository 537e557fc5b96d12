-- `logs::fixed_bits` meets its contract: what wraps comes out right, since the value is a word. Assumes nothing.
use Rattle.std.proofs.Common.{◌≡◌, ℕ, ◌+◌, ◌-◌, ◌*◌, ◌%◌, ◌<◌, ◌≤◌, refl, ap, inl, inr, arith}
use Rattle.units.proofs.Naturals.{le-or-lt}
use Rattle.logs.specs.Value.{nearer, Upper, fixed_bits}
use Rattle.logs.proofs.Reduction.{no_borrow, octave}
use Rattle.logs.proofs.fixed_bits.Goals as goal

-- over plain numbers: p is the slope, e the nearer exponent, d the distance that wraps, h the upper word
joined : (b p e d h w v : ℕ) → b < 2147483648 → e * 8388608 < 4294967296
    → p < 4294967296 → d < 4294967296 → h < 4294967296
    → (d + e * 8388608) % 4294967296 ≡ b → Upper b (e * 8388608) p h → e * 8388608 * p ≤ e * 18014398509481984 + b * p
    → v ≡ e * 18014398509481984 + b * p - e * 8388608 * p → v < 18446744073709551616
    → w ≡ (d * p + h * 4294967296) % 18446744073709551616 → w ≡ v
joined b p e d h w v lb lk lp ld lh wraps u borrow value few sum = elim (le-or-lt (e * 8388608) b) [
  | inl l ↦
      let up = u.above l in
      let q : (d + e * 8388608) * p ≡ b * p = ap (λ (x : ℕ). x * p) (omega arith) in
      omega arith
  | inr l ↦
      let up = u.below l in
      let q : (d + e * 8388608) * p ≡ (b + 4294967296) * p = ap (λ (x : ℕ). x * p) (omega arith) in
      omega arith
]

pub returns : goal.returns
unfolding nearer fixed_bits
returns c =
    let b = c.args.b in
    let e = c.slope-p.ensures in
    let o = (octave b).1 in
    let d = (b + (4294967296 - nearer b * 8388608)) % 4294967296 in
    rw (c.from.ensures, c.from-2.ensures, c.from-3.ensures)
    (joined b c.slope-p.result (nearer b) d c.upper-h.result _ (fixed_bits b)
    c.requires (omega arith) c.slope-p.type_inv (omega arith) c.upper-h.type_inv
    (omega arith) c.upper-h.ensures (rw e (no_borrow b)) (rw e refl) (omega arith) refl)
