-- The promise of the loudness map. Definitions only.
use Rattle.std.specs.Prelude.{◌≡◌, ℕ, ◌+◌, ◌-◌, ◌*◌, ◌^◌, ◌<◌, ◌≤◌, cond, nat_le, Float}
use Rattle.units.specs.Units.{Number, P, N, Le}
use Rattle.loudness.specs.Value.{step_of}

-- the sound levels of a channel: 2 ^ -24 ≤ b, 2 b ≤ m ≤ 1, as exact numbers
pub record Levels (b m : Float) : Type 0 where
  pub b_number : Number b
  pub m_number : Number m
  pub quietest : 2 ^ 125 ≤ P b
  pub octave : 2 * P b ≤ P m
  pub loudest : P m ≤ 2 ^ 149

-- a channel of a stimulator with the steps 0 to top: its levels in order, and t ≤ c ≤ top ≤ 1,023, the steps of threshold and comfort
pub record Channel (top : ℕ) (b m : Float) (t c : ℕ) : Type 0 where
  pub levels : Levels b m
  pub order : t ≤ c
  pub steps : c ≤ top
  pub highest : top ≤ 1023

-- an envelope value: 0 ≤ a ≤ 1; -0 counts as 0
pub record Envelope (a : Float) : Type 0 where
  pub number : Number a
  pub at_least_zero : N a ≡ 0
  pub at_most_one : P a ≤ 2 ^ 149

-- (a / b) ^ k ≤ (m / b) ^ j, for whole numbers of one unit: log (a / b) / log (m / b) is at most j / k
abbrev pub RatioAtMost : ℕ → ℕ → ℕ → ℕ → ℕ → Type 0
RatioAtMost a b m k j = a ^ k * b ^ j ≤ b ^ k * m ^ j

-- (m / b) ^ j ≤ (a / b) ^ k: the same ratio is at least j / k
abbrev pub RatioAtLeast : ℕ → ℕ → ℕ → ℕ → ℕ → Type 0
RatioAtLeast a b m k j = b ^ k * m ^ j ≤ a ^ k * b ^ j

-- i is within num / den of t + (c - t) log (a / b) / log (m / b), the exact map between b and m
pub record NearMap (num den : ℕ) (b m : Float) (t c : ℕ) (a : Float) (i : ℕ) : Type 0 where
  pub not_below : RatioAtMost (P a) (P b) (P m) (den * (c - t)) (den * (i - t) + num)
  pub not_above : RatioAtLeast (P a) (P b) (P m) (den * (c - t)) (den * (i - t) - num)

-- the proved constant: a half and a millionth of a step where top is at most 255, a half and four millionths up to 1,023. Document 01 asks for 0.55, and for 0.6 up to 1,023
abbrev pub map_error_num : ℕ → ℕ
map_error_num top = cond (nat_le top 255) 500001 500004

abbrev pub map_error_den : ℕ
map_error_den = 1000000

-- the whole promise: a channel and an envelope value are answered by a code, and where that is 0 by the step i
pub record Loudness (top : ℕ) (b m : Float) (t c : ℕ) (a : Float) (code i : ℕ) : Type 0 where
  -- code 4, BAD_CHANNEL, where the channel breaks its conditions
  pub bad_channel : ¬ Channel top b m t c → code ≡ 4
  -- else code 1, OUT_OF_RANGE, where a is no envelope value
  pub out_of_range : Channel top b m t c → ¬ Envelope a → code ≡ 1
  -- else code 0, success, and the function's value, which is the same for every top
  pub success : Channel top b m t c → Envelope a → code ≡ 0
  pub value : Channel top b m t c → Envelope a → i ≡ step_of b m t c a
  -- between threshold and comfort
  pub at_least : Channel top b m t c → Envelope a → t ≤ i
  pub at_most : Channel top b m t c → Envelope a → i ≤ c
  -- threshold for a ≤ b, comfort for a ≥ m
  pub quiet : Channel top b m t c → Envelope a → P a ≤ P b → i ≡ t
  pub loud : Channel top b m t c → Envelope a → P m ≤ P a → i ≡ c
  -- between b and m within the constant of the exact map
  pub near : Channel top b m t c → Envelope a → P b < P a → P a < P m → NearMap (map_error_num top) map_error_den b m t c a i
  -- a louder sound never gets a smaller step
  pub order : Channel top b m t c → Envelope a → (a' : Float) → Envelope a' → Le a' a → step_of b m t c a' ≤ i
