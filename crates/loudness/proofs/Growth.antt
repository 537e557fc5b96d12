-- The growth function of a segment, from what is known of levels and of their words. Assumes nothing.
use Rattle.std.proofs.Common.{◌≡◌, ℕ, ◌+◌, ◌-◌, ◌^◌, ◌<◌, ◌≤◌, ◌⊎◌, sym, subst, inl, inr, le_trans, le_of_eq, le_refl, lt_of_lt_of_le, lt_of_le_of_lt, le_of_lt, arith, le-leb}
use borrow.Author.Tests.{lt-leb}
use lib.Ieee.{Float}
use Rattle.units.specs.Units.{Number, P}
use Rattle.units.proofs.Naturals.{le-or-lt}
use Rattle.logs.specs.Fixed.{fixed_of}
use Rattle.loudness.specs.Map.{NearMap}
use Rattle.loudness.specs.Value.{rise_of, steps_of, step_of}
use Rattle.loudness.specs.Segment.{Segment}
use Rattle.loudness.proofs.Steps.{Rounded, Allows, not_below, not_above}
use Rattle.loudness.proofs.Words.{steps_rounded, steps_mono}
use Rattle.loudness.proofs.Known.{parts, shift, width, Sound, low_sound, high_sound, encloses, rises, encloses_sum, rise_few, rise_octave}

-- the three cases of the map
module _ (b m : Float) (t c : ℕ) (a : Float) where
  pub step_quiet : P a ≤ P b → step_of b m t c a ≡ t
  unfolding step_of
  step_quiet h = rw (le-leb (P a) (P b) h)

  pub step_loud : P b < P a → P m ≤ P a → step_of b m t c a ≡ c
  unfolding step_of
  step_loud h k = rw (lt-leb (P a) (P b) h, le-leb (P m) (P a) k)

  pub step_between : P b < P a → P a < P m → step_of b m t c a ≡ t + steps_of (c - t) (rise_of b a) (rise_of b m)
  unfolding step_of
  step_between h k = rw (lt-leb (P a) (P b) h, lt-leb (P m) (P a) k)

module _ (b m : Float) (t c : ℕ) (sg : Segment b m t c) where
  abbrev k : ℕ
  k = c - t

  abbrev d : ℕ
  d = rise_of b m

  -- the levels of the segment
  low : Sound b
  low = low_sound sg.levels

  high : Sound m
  high = high_sound sg.levels

  pub b≤m : P b ≤ P m
  b≤m = let o = sg.levels.octave in omega arith

  -- between b and m a float has a level
  pub between_sound : (a : Float) → Number a → P b ≤ P a → P a ≤ P m → Sound a
  between_sound a h l r = record { number = h; quietest = le_trans sg.levels.quietest l; loudest = le_trans r sg.levels.loudest }

  -- the span of the segment is an octave or more, but for the errors, and has 59 digits
  pub span_octave : parts ≤ d + width
  span_octave = rise_octave low high b≤m sg.levels.octave

  pub span_long : 2 ^ 53 ≤ d
  span_long = let s = span_octave in omega arith

  pub span_few : d < 2 ^ 59
  span_few = rise_few low high b≤m

  pub few : k ≤ 1023
  few = let f = sg.few in omega arith

  -- a float between b and m rises no higher than m
  pub rise_most : (a : Float) → Sound a → P a ≤ P m → rise_of b a ≤ d
  unfolding rise_of
  rise_most a s r = let l = rises s high r in omega arith

  near : (a : Float) → Sound a → P a ≤ P m → Rounded k (rise_of b a) d 1073741824 (steps_of k (rise_of b a) d)
  near a s r = steps_rounded d span_long span_few (rise_of b a) (rise_most a s r) k

  -- ---- between threshold and comfort
  pub inside : (a : Float) → Number a → (t ≤ step_of b m t c a) × (step_of b m t c a ≤ c)
  inside a h = go (le-or-lt (P a) (P b)) (le-or-lt (P m) (P a))
    where
      Inside : ℕ → Type 0
      Inside i = (t ≤ i) × (i ≤ c)

      go : (P a ≤ P b) ⊎ (P b < P a) → (P m ≤ P a) ⊎ (P a < P m) → Inside (step_of b m t c a)
      go (inl l) r = subst Inside (sym (step_quiet b m t c a l)) (le_refl t, sg.order)
      go (inr l) (inl r) = subst Inside (sym (step_loud b m t c a l r)) (sg.order, le_refl c)
      go (inr l) (inr r) =
          let i = (near a (between_sound a h (le_of_lt l) (le_of_lt r)) (le_of_lt r)).most in
          let o = sg.order in
          subst Inside (sym (step_between b m t c a l r)) (omega arith, omega arith)

  -- ---- a louder sound never gets a smaller step
  steps_rise : (a a' : Float) → Sound a → Sound a' → P a' ≤ P a → steps_of k (rise_of b a') d ≤ steps_of k (rise_of b a) d
  unfolding rise_of
  steps_rise a a' s s' less = let l = rises s' s less in steps_mono d span_long span_few (rise_of b a') (rise_of b a) k (omega arith)

  pub never_falls : (a a' : Float) → Number a → Number a' → P a' ≤ P a → step_of b m t c a' ≤ step_of b m t c a
  never_falls a a' h h' less = go (le-or-lt (P m) (P a)) (le-or-lt (P a') (P b))
    where
      go : (P m ≤ P a) ⊎ (P a < P m) → (P a' ≤ P b) ⊎ (P b < P a') → step_of b m t c a' ≤ step_of b m t c a
      go r (inl l) = le_trans (le_of_eq (step_quiet b m t c a' l)) (inside a h).0
      go (inl r) (inr l) = le_trans (inside a' h').1 (le_of_eq (sym (step_loud b m t c a (lt_of_lt_of_le l less) r)))
      go (inr r) (inr l) =
          let s = between_sound a h (le_trans (le_of_lt l) less) (le_of_lt r) in
          let s' = between_sound a' h' (le_of_lt l) (le_trans less (le_of_lt r)) in
          let up = steps_rise a a' s s' less in
          rw (step_between b m t c a' l (lt_of_le_of_lt less r), step_between b m t c a (lt_of_lt_of_le l less) r) (omega arith)

  -- ---- within the constant of the exact map
  pub within : (num den : ℕ) → Allows num den width k d 1073741824 → (a : Float) → Number a → P b < P a → P a < P m → NearMap num den b m t c a (step_of b m t c a)
  within num den al a h l r =
      let s = between_sound a h (le_of_lt l) (le_of_lt r) in
      let n = rise_of b a in
      let i = steps_of k n d in
      let steps : step_of b m t c a - t ≡ i = let e = step_between b m t c a l r in omega arith in
      let ro = near a s (le_of_lt r) in
      let A = encloses_sum low s (le_of_lt l) in
      let M = encloses_sum low high b≤m in
      record {
        not_below = rw steps (not_below (P a) (P b) (P m) (2 ^ 22) (fixed_of b) n d width shift parts k 1073741824 i num den ro al A (encloses low) M);
        not_above = rw steps (not_above (P a) (P b) (P m) (2 ^ 22) (fixed_of b) n d width shift parts k 1073741824 i num den ro al A (encloses low) M (le_of_lt l));
      }
