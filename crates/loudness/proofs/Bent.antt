-- The promise of the map with a knee: two segments of one law. Assumes nothing.
use Rattle.std.proofs.Common.{◌≡◌, ℕ, ◌<◌, ◌≤◌, ◌⊎◌, sym, refl, ◌∙◌, inl, inr, le_trans, le_of_eq, lt_of_lt_of_le, le_of_lt, not-le_of_lt, arith, pow_pos, le-leb}
use borrow.Author.Tests.{lt-leb}
use lib.Ieee.{Float}
use Rattle.units.specs.Units.{P}
use Rattle.units.specs.Answers.{Ends, itself}
use Rattle.units.proofs.Answers.{written, untouched}
use Rattle.units.proofs.Naturals.{le-or-lt}
use Rattle.loudness.specs.Map.{Envelope, Loudness}
use Rattle.loudness.specs.Knee.{BentChannel, LoudnessKnee}
use Rattle.loudness.specs.Value.{step_of, knee_of}
use Rattle.loudness.proofs.Growth.{never_falls}
use Rattle.loudness.proofs.Promise.{segment, promised}

-- up to the knee the map is the lower segment's, past it the upper one's
module _ (b k m : Float) (t s c : ℕ) (a : Float) where
  pub knee_below : P a ≤ P k → knee_of b k m t s c a ≡ step_of b k t s a
  unfolding knee_of
  knee_below h = rw (le-leb (P a) (P k) h)

  pub knee_above : P k < P a → knee_of b k m t s c a ≡ step_of k m s c a
  unfolding knee_of
  knee_above h = rw (lt-leb (P a) (P k) h)

module _ (top : ℕ) (b k m : Float) (t s c : ℕ) (ch : BentChannel top b k m t s c) where
  lower : (a : Float) → Envelope a → Loudness top b k t s a 0 (step_of b k t s a)
  lower = promised top b k t s ch.lower

  upper : (a : Float) → Envelope a → Loudness top k m s c a 0 (step_of k m s c a)
  upper = promised top k m s c ch.upper

  b<k : P b < P k
  b<k = let o = ch.lower.levels.octave in let q : 0 < P b = lt_of_lt_of_le (pow_pos 125) ch.lower.levels.quietest in omega arith

  k<m : P k < P m
  k<m = let o = ch.upper.levels.octave in let l = b<k in omega arith

  module _ (a : Float) (e : Envelope a) where
    abbrev i : ℕ
    i = knee_of b k m t s c a

    below_knee : P a ≤ P k → (t ≤ i) × (i ≤ s)
    below_knee h = rw (knee_below b k m t s c a h) ((lower a e).at_least ch.lower e, (lower a e).at_most ch.lower e)

    above_knee : P k < P a → (s ≤ i) × (i ≤ c)
    above_knee h = rw (knee_above b k m t s c a h) ((upper a e).at_least ch.upper e, (upper a e).at_most ch.upper e)

    -- the knee's own step
    pub at_knee : P a ≡ P k → i ≡ s
    at_knee h = knee_below b k m t s c a (le_of_eq h) ∙ (lower a e).loud ch.lower e (le_of_eq (sym h))

    inside : (t ≤ i) × (i ≤ c)
    inside = elim (le-or-lt (P a) (P k)) [
      | inl h ↦ let j = below_knee h in let o = ch.upper.order in (j.0, le_trans j.1 o)
      | inr h ↦ let j = above_knee h in let o = ch.lower.order in (le_trans o j.0, j.1)
    ]

    from_knee : P k ≤ P a → s ≤ i
    from_knee h = elim (le-or-lt (P a) (P k)) [ inl g ↦ le_of_eq (sym (at_knee (omega arith))) | inr g ↦ (above_knee g).0 ]

  -- ---- a louder sound never gets a smaller step, across the knee too
  pub rising : (a : Float) → Envelope a → (a' : Float) → Envelope a' → P a' ≤ P a → knee_of b k m t s c a' ≤ knee_of b k m t s c a
  rising a e a' e''' less = go (le-or-lt (P a) (P k)) (le-or-lt (P a') (P k))
    where
      go : (P a ≤ P k) ⊎ (P k < P a) → (P a' ≤ P k) ⊎ (P k < P a') → knee_of b k m t s c a' ≤ knee_of b k m t s c a
      go (inl h) (inl g) = rw (knee_below b k m t s c a h, knee_below b k m t s c a' g) (never_falls b k t s (segment ch.lower) a a' e.number e'''.number less)
      go (inl h) (inr g) = absurd (not-le_of_lt g (le_trans less h))
      go (inr h) (inl g) = le_trans (below_knee a' e''' g).1 (above_knee a e h).0
      go (inr h) (inr g) = rw (knee_above b k m t s c a h, knee_above b k m t s c a' g) (never_falls k m s c (segment ch.upper) a a' e.number e'''.number less)

  pub kept : (a : Float) → Envelope a → LoudnessKnee top b k m t s c a 0 (knee_of b k m t s c a)
  kept a e = record {
    bad_channel = λ h. absurd (h ch);
    out_of_range = λ h n. absurd (n e);
    success = λ h g. refl;
    value = λ h g. refl;
    at_least = λ h g. (inside a e).0;
    below_knee = λ h g l. (below_knee a e l).1;
    above_knee = λ h g l. from_knee a e l;
    at_most = λ h g. (inside a e).1;
    quiet = λ h g l. knee_below b k m t s c a (le_trans l (le_of_lt b<k)) ∙ (lower a e).quiet ch.lower e l;
    knee = λ h g l. at_knee a e l;
    loud = λ h g l. knee_above b k m t s c a (lt_of_lt_of_le k<m l) ∙ (upper a e).loud ch.upper e l;
    near_below = λ h g l r. rw (knee_below b k m t s c a (le_of_lt r)) ((lower a e).near ch.lower e l r);
    near_above = λ h g l r. rw (knee_above b k m t s c a l) ((upper a e).near ch.upper e l r);
    order = λ h g a' e''' l. rising a e a' e''' (omega (arith, e.at_least_zero, e'''.at_least_zero));
  }

-- an accepted channel with another a
pub out_of_range : (top : ℕ) (b k m : Float) (t s c : ℕ) (a : Float) (i : ℕ) → BentChannel top b k m t s c → ¬ Envelope a → LoudnessKnee top b k m t s c a 1 i
out_of_range top b k m t s c a i ch n = record {
  bad_channel = λ h. absurd (h ch);
  out_of_range = λ h g. refl;
  success = λ h g. absurd (n g);
  value = λ h g. absurd (n g);
  at_least = λ h g. absurd (n g);
  below_knee = λ h g. absurd (n g);
  above_knee = λ h g. absurd (n g);
  at_most = λ h g. absurd (n g);
  quiet = λ h g. absurd (n g);
  knee = λ h g. absurd (n g);
  loud = λ h g. absurd (n g);
  near_below = λ h g. absurd (n g);
  near_above = λ h g. absurd (n g);
  order = λ h g. absurd (n g);
}

-- no channel
bad_channel : (top : ℕ) (b k m : Float) (t s c : ℕ) (a : Float) → ¬ BentChannel top b k m t s c → LoudnessKnee top b k m t s c a 4 0
bad_channel top b k m t s c a n = record {
  bad_channel = λ h. refl;
  out_of_range = λ h. absurd (n h);
  success = λ h. absurd (n h);
  value = λ h. absurd (n h);
  at_least = λ h. absurd (n h);
  below_knee = λ h. absurd (n h);
  above_knee = λ h. absurd (n h);
  at_most = λ h. absurd (n h);
  quiet = λ h. absurd (n h);
  knee = λ h. absurd (n h);
  loud = λ h. absurd (n h);
  near_below = λ h. absurd (n h);
  near_above = λ h. absurd (n h);
  order = λ h. absurd (n h);
}

-- ---- how the call ends
module _ (top : ℕ) (b k m : Float) (t s c : ℕ) (a : Float) {before : ℕ} where
  pub success : {after : ℕ} → BentChannel top b k m t s c → Envelope a → after ≡ knee_of b k m t s c a → Ends itself (LoudnessKnee top b k m t s c a) 0 before after
  success ch e v = written (knee_of b k m t s c a) (kept top b k m t s c ch a e) v

  pub refusal : BentChannel top b k m t s c → ¬ Envelope a → Ends itself (LoudnessKnee top b k m t s c a) 1 before before
  refusal ch n = untouched 1 0 (λ z. omega arith) (out_of_range top b k m t s c a 0 ch n)

  pub no_channel : ¬ BentChannel top b k m t s c → Ends itself (LoudnessKnee top b k m t s c a) 4 before before
  no_channel n = untouched 4 0 (λ z. omega arith) (bad_channel top b k m t s c a n)
