-- `Power::is_open` meets its contract: the 1 before the point is no part of the remainder. Assumes nothing.
use Rattle.std.proofs.Common.{◌≡◌, ℕ, ◌+◌, ◌%◌, ◌^◌, leb, ap, arith}
use Rattle.powers.specs.Value.{open_lower, open_upper, is_left_open}
use Rattle.powers.proofs.Power.is_open.Goals as goal

-- one remainder
same : (q : ℕ) → (q % 512 + 264) % 512 ≡ (q + 2 ^ 32 + 256 + open_lower) % 512
same q = omega arith

pub returns : goal.returns
unfolding is_left_open
returns c = ap (λ (n : ℕ). leb n (open_lower + open_upper)) (same c.args.self.q)
