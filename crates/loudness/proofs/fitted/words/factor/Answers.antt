-- `loudness::fitted::words::factor` meets its contract: two quotients, one after the other. Assumes nothing.
use Rattle.std.proofs.Common.{◌≡◌, ℕ, ◌+◌, ◌-◌, ◌*◌, ◌/◌, ◌<◌, ◌≤◌, ap, ◌∙◌, div-mul-le_self, arith}
use native.Mathlib.Nat.{add-mul-div_right}
use Rattle.loudness.specs.Words.{factor_of}
use Rattle.loudness.proofs.fitted.words.factor.Goals as goal

-- both together are the quotient with 32 digits more
joined : (k h : ℕ) → 0 < h → let n = k * 8589934592 in n / h * 4294967296 + (n - n / h * h) * 4294967296 / h + 1 ≡ factor_of k h
unfolding factor_of
joined k h ph = through (k * 8589934592 / h) (div-mul-le_self (k * 8589934592) h)
  where
    through : (q : ℕ) → q * h ≤ k * 8589934592 → q * 4294967296 + (k * 8589934592 - q * h) * 4294967296 / h + 1 ≡ k * 36893488147419103232 / h + 1
    through q l =
        let r = k * 8589934592 - q * h in
        let whole : k * 36893488147419103232 ≡ r * 4294967296 + q * 4294967296 * h = omega arith in
        let g = ap (λ (x : ℕ). x / h) whole ∙ add-mul-div_right (r * 4294967296) (q * 4294967296) ph in
        omega arith

pub returns : goal.returns
returns c =
    rw (c.from-2.ensures, c.quotient-2.ensures, c.from.ensures, c.from-q.ensures, c.quotient.ensures, c.from-n.ensures)
    (joined c.args.k c.args.h (omega (arith, c.requires.1)))
