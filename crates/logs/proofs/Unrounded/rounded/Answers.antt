-- `logs::Unrounded::rounded` meets its contract: digits that are not within 8 of a middle are not open.
-- Assumes nothing.
use Rattle.std.proofs.Common.{◌≡◌, ℕ, ◌+◌, ◌*◌, ◌/◌, ◌%◌, ◌≤◌, refl, arith, le-ltb}
use Rattle.logs.specs.Value.{width_of, is_left_open, log2_digits}
use Rattle.logs.proofs.Rounding.{together}
use Rattle.logs.proofs.Told.{width_most}
use Rattle.logs.proofs.Unrounded.rounded.Goals as goal

-- within 8 of no middle is within no less of one either
far : (u h : ℕ) → h ≤ 8 → 16 ≤ (u % 256 + 136) % 256 → 2 * h ≤ (u % 256 + 128 + h) % 256
far u h few test = omega arith

told : (b w u z : ℕ) → 16 ≤ (u % 256 + 136) % 256 → (u / 128 + 1) / 2 ≡ log2_digits b w u z
unfolding log2_digits is_left_open
told b w u z test = rw (le-ltb _ _ (far u (width_of z) (width_most z) test)) refl

pub returns-then-first-ge16 : goal.returns-then-first-ge16
returns-then-first-ge16 c =
    let first = c.first_word-first.result in
    together c.args.self.b c.args.self.w c.distance-n.result first.m first.e _
    c.distance-n.ensures c.first_word-first.ensures
    (told _ _ _ _ c.if-first-ge16.true)
    (omega (arith, c.if-n-ge4294967296.true)) c.put_together.ensures
