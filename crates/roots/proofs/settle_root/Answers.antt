-- `roots::settle_root` meets its contract: s is not too small, and s - 1 is. Assumes nothing.
use Rattle.std.proofs.Common.{rules, ◌≡◌, ℕ, ◌+◌, ◌-◌, ◌*◌, ◌<◌, ◌≤◌, ap, arith}
use Rattle.roots.proofs.settle_root.Goals as goal

pub returns : goal.returns
returns c =
    let n = c.args.n in
    let s = c.settle.result in
    let enough : n ≤ s * s + s = search rules in
    let least : (s - 1) * (s - 1) + (s - 1) < n = search rules in
    record { half_above = enough; half_below = below n s c.settle.ensures.above_zero least }
  where
    below : (n s : ℕ) → 0 < s → (s - 1) * (s - 1) + (s - 1) < n → s * s < n + s
    below n s p l =
        let e : s ≡ s - 1 + 1 = omega arith in
        let k : s * s ≡ (s - 1 + 1) * (s - 1 + 1) = ap (λ (q : ℕ). q * q) e in
        omega arith
