-- The logarithm in fixed point, on which the loudness map is built: log2 x + 127 in steps of 2 ^ -54, before any rounding to a float. A reader of the promises need not read this.
-- Definitions only.
use Rattle.std.specs.Prelude.{◌≡◌, ℕ, ◌+◌, ◌*◌, ◌^◌, ◌≤◌, Float}
use Rattle.exact.specs.Power.{AtMost, AtLeast}
use Rattle.units.specs.Units.{mag, Le}
pub use Rattle.logs.specs.Log2.{Accepts}
unfoldable pub use Rattle.logs.specs.Value.{fixed_of}

-- the proved error, 3 * 2 ^ 22 steps: 3 / 2 ^ 32
abbrev pub fixed_error : ℕ
fixed_error = 3 * 2 ^ 22

-- w is log2 x + 127 in steps of 2 ^ -54; x 2 ^ 127 is (mag x) / 2 ^ 22
pub record FixedLog2 (x : Float) (w : ℕ) : Type 0 where
  pub value : w ≡ fixed_of x
  -- within the error, of the real logarithm: 2 ^ ((w - error) steps) ≤ x 2 ^ 127 ≤ 2 ^ ((w + error) steps)
  pub least : AtLeast (mag x) (2 ^ 22) w fixed_error (2 ^ 54)
  pub most : AtMost (mag x) (2 ^ 22) (w + fixed_error) 0 (2 ^ 54)
  -- exact at powers of two
  pub whole : (k : ℕ) → mag x ≡ 2 ^ k → w + 22 * 2 ^ 54 ≡ k * 2 ^ 54
  -- a larger input never gives a smaller output
  pub order : (x' : Float) → Accepts x' → Le x' x → fixed_of x' ≤ w
