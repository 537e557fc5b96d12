-- What a segment's functions are given and compute. A reader of the promise need not read this. Definitions only.
use Rattle.std.specs.Prelude.{ℕ, ◌^◌, ◌<◌, ◌≤◌, cond, ◌==◌, to_bits, Float}
use Rattle.std.specs.Float.{binary32}
use Rattle.units.specs.Units.{Number, P}
use Rattle.loudness.specs.Map.{Levels}

-- a segment of a map: straight from step t at b to step c at m, of as many steps as a stimulator may have
pub record Segment (b m : Float) (t c : ℕ) : Type 0 where
  pub levels : Levels b m
  pub order : t ≤ c
  pub few : c ≤ 1023

-- an envelope value inside of it
pub record Inside (b m : Float) (t c : ℕ) (a : Float) : Type 0 where
  pub segment : Segment b m t c
  pub number : Number a
  pub above : P b < P a
  pub below : P a < P m

-- k steps over a word h with its first digit set, of them those up to n
pub record Quotient (k n h : ℕ) : Type 0 where
  pub steps : k ≤ 1023
  pub within : n ≤ h
  pub full : 2 ^ 31 ≤ h
  pub word : h < 2 ^ 32

-- the pattern of a, with 0 for -0: of envelope values these are in the order of the values
unfoldable pub size_bits : Float → ℕ
size_bits a = cond (to_bits binary32 a == 2147483648) 0 (to_bits binary32 a)
