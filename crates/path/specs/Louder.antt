-- A frame played louder. Definitions only.
use Rattle.std.specs.Prelude.{◌≡◌, List, ℕ, ◌+◌, ◌*◌, ◌≤◌, ◌<◌, Float}
use Rattle.units.specs.Units.{P, N}
use Rattle.spectrum.specs.Transform.{at}

-- every sample of xs' is p / q times that of xs, p / q at least 1, as exact numbers: proofs/Louder (never_lower) says that no current is lower by more than one step
pub record Louder (xs xs' : List Float) : Type 0 where
  pub p : ℕ
  pub q : ℕ
  pub some : 0 < q
  pub more : q ≤ p
  pub each : (i : ℕ) → i < 128 → q * P (at xs' i) + p * N (at xs i) ≡ p * P (at xs i) + q * N (at xs' i)
