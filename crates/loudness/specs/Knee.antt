-- The promise of the loudness map with a knee. Definitions only.
use Rattle.std.specs.Prelude.{◌≡◌, ℕ, ◌<◌, ◌≤◌, Float}
use Rattle.units.specs.Units.{P, Le}
use Rattle.loudness.specs.Map.{Channel, Envelope, NearMap, map_error_num, map_error_den}
use Rattle.loudness.specs.Value.{knee_of}

-- a bent channel: two channels that meet at the knee, from b to k with the steps t to s, and from k to m with the steps s to c
pub record BentChannel (top : ℕ) (b k m : Float) (t s c : ℕ) : Type 0 where
  pub lower : Channel top b k t s
  pub upper : Channel top k m s c

-- the whole promise: a bent channel and an envelope value are answered by a code, and where that is 0 by the step i
pub record LoudnessKnee (top : ℕ) (b k m : Float) (t s c : ℕ) (a : Float) (code i : ℕ) : Type 0 where
  -- code 4, BAD_CHANNEL, where the channel breaks a condition
  pub bad_channel : ¬ BentChannel top b k m t s c → code ≡ 4
  -- else code 1, OUT_OF_RANGE, where a is no envelope value
  pub out_of_range : BentChannel top b k m t s c → ¬ Envelope a → code ≡ 1
  -- else code 0, success, and the function's value
  pub success : BentChannel top b k m t s c → Envelope a → code ≡ 0
  pub value : BentChannel top b k m t s c → Envelope a → i ≡ knee_of b k m t s c a
  -- between threshold and the knee's step up to k, between that and comfort from k on
  pub at_least : BentChannel top b k m t s c → Envelope a → t ≤ i
  pub below_knee : BentChannel top b k m t s c → Envelope a → P a ≤ P k → i ≤ s
  pub above_knee : BentChannel top b k m t s c → Envelope a → P k ≤ P a → s ≤ i
  pub at_most : BentChannel top b k m t s c → Envelope a → i ≤ c
  -- threshold for a ≤ b, the knee's step at k, comfort for a ≥ m
  pub quiet : BentChannel top b k m t s c → Envelope a → P a ≤ P b → i ≡ t
  pub knee : BentChannel top b k m t s c → Envelope a → P a ≡ P k → i ≡ s
  pub loud : BentChannel top b k m t s c → Envelope a → P m ≤ P a → i ≡ c
  -- within the constant of the exact map on both sides
  pub near_below : BentChannel top b k m t s c → Envelope a → P b < P a → P a < P k → NearMap (map_error_num top) map_error_den b k t s a i
  pub near_above : BentChannel top b k m t s c → Envelope a → P k < P a → P a < P m → NearMap (map_error_num top) map_error_den k m s c a i
  -- a louder sound never gets a smaller step, across the knee too
  pub order : BentChannel top b k m t s c → Envelope a → (a' : Float) → Envelope a' → Le a' a → knee_of b k m t s c a' ≤ i
