-- `circle::phase::turns` meets its contract: the product is made of two, of 32 digits of the window each.
-- Assumes nothing.
use Rattle.std.proofs.Common.{◌≡◌, ℕ, ◌+◌, ◌*◌, ◌/◌, ◌%◌, ◌^◌, ap, ◌∙◌, arith}
use Rattle.circle.proofs.phase.turns.Goals as goal

-- the two products make up the whole, but for whole turns
joined : (m w : ℕ) → (m * (w / 4294967296) * 4294967296 % 2 ^ 64 + m * (w % 4294967296)) % 2 ^ 64 ≡ m * w % 2 ^ 64
joined m w = through (w / 4294967296) (w % 4294967296) (omega arith)
  where
    reduced : (a b : ℕ) → (a * 4294967296 % 2 ^ 64 + b) % 2 ^ 64 ≡ (a * 4294967296 + b) % 2 ^ 64
    reduced a b = omega arith

    through : (h l : ℕ) → h * 4294967296 + l ≡ w → (m * h * 4294967296 % 2 ^ 64 + m * l) % 2 ^ 64 ≡ m * w % 2 ^ 64
    through h l e =
        let p : m * h * 4294967296 + m * l ≡ m * w = omega (arith, ap (λ (n : ℕ). m * n) e) in
        rw (← p) (reduced (m * h) (m * l))

pub returns : goal.returns
returns c = joined c.significand-m.result c.args.w ∙ ap (λ (m : ℕ). m * c.args.w % 2 ^ 64) c.significand-m.ensures
