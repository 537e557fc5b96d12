-- The words of a bent channel: those of its two segments, one after the other. Assumes nothing.
use Rattle.std.proofs.Common.{◌≡◌, ℕ, ◌+◌, ◌-◌, ◌<◌, ◌≤◌, ◌⊎◌, List, [], ◌++◌, length, get_or, take, drop, set, sym, ap, ◌∙◌, ap₂, inl, inr, append-nil, le_trans, le_of_eq, le-add_right, le_of_lt, not-le_of_lt, arith, length-append, get_or-drop, get_or-take, take_at, drop_at, le-leb}
use borrow.Author.Tests.{lt-leb}
use lib.Seq.{take-set-lt, drop-set-add, drop-length}
use borrow.Rule.Slice.PartMut.{put_mid, post_of, Post-is}
use lib.Ieee.{Float}
use Rattle.units.specs.Units.{P}
use Rattle.units.proofs.Naturals.{le-or-lt}
use Rattle.loudness.specs.Map.{Envelope}
use Rattle.loudness.specs.Knee.{BentChannel}
use Rattle.loudness.specs.Value.{step_of, knee_of}
use Rattle.loudness.specs.Segment.{Segment, size_bits}
use Rattle.loudness.specs.Words.{threshold_of, comfort_of, BentPasses, Past, rise_in, step_in, bent_in, segment_words}
use Rattle.loudness.specs.Fitted.{fitted_knee, Changed}
use Rattle.loudness.proofs.Growth.{step_quiet}
use Rattle.loudness.proofs.Promise.{segment}
use Rattle.loudness.proofs.Bent.{knee_below, knee_above}
use Rattle.loudness.proofs.Check.{changed_fails}
use Rattle.loudness.proofs.Fitting.{bounded, threshold_in_lem, comfort_in_lem, segment_passes, segment_words_few, segment_length, past_level, not_wrapped, at_top, same_step}

-- ---- the words of two segments, written over twelve
module _ (w x : List ℕ) (six : length x ≡ 6) where
  pub both_halves : (y : List ℕ) → put_mid 6 (length (x ++ drop 6 w) - 6) (x ++ drop 6 w) y ≡ x ++ y
  both_halves y =
      let l = x ++ drop 6 w in
      let nothing : post_of 6 (length l - 6) l ≡ [] = Post-is 6 (length l) l (le_trans (le_of_eq (sym six)) (le_trans (le-add_right (length x) (length (drop 6 w))) (le_of_eq (sym (length-append x (drop 6 w)))))) ∙ drop-length l in
      ap₂ ◌++◌ (take_at x (drop 6 w) 6 six) (ap (λ (r : List ℕ). y ++ r) nothing ∙ append-nil y)

-- ---- any words
module _ (w : List ℕ) (p : ℕ) where
  pub bent_below : ¬ Past w p → bent_in w p ≡ step_in (take 6 w) p
  unfolding bent_in
  bent_below h = elim (le-or-lt 9223372036854775808 (rise_in (drop 6 w) p)) [ inl l ↦ rw (le-leb 9223372036854775808 (rise_in (drop 6 w) p) l) | inr l ↦ absurd (h l) ]

  pub bent_above : Past w p → bent_in w p ≡ step_in (drop 6 w) p
  unfolding bent_in
  bent_above h = rw (lt-leb 9223372036854775808 (rise_in (drop 6 w) p) h)

  -- between the threshold of the lower segment and the comfort of the upper one
  pub bent_bounded : BentPasses w → (threshold_of (get_or w 0 0) ≤ bent_in w p) × (bent_in w p ≤ comfort_of (get_or w 6 0))
  bent_bounded h =
      let (a, b) = bounded (take 6 w) p in
      let (c, d) = bounded (drop 6 w) p in
      let o = h.order in
      let low = get_or-take 6 w 0 0 (omega arith) in
      let high = get_or-drop 6 w 0 0 in
      elim (le-or-lt 9223372036854775808 (rise_in (drop 6 w) p)) [
        | inl l ↦ rw (bent_below (λ q. not-le_of_lt q l)) (omega arith, omega arith)
        | inr l ↦ rw (bent_above l) (omega arith, omega arith)
      ]

-- ---- the words of a bent channel
module _ (top : ℕ) (b k m : Float) (t s c : ℕ) (ch : BentChannel top b k m t s c) where
  abbrev w : List ℕ
  w = fitted_knee b k m t s c

  lower : Segment b k t s
  lower = segment ch.lower

  upper : Segment k m s c
  upper = segment ch.upper

  low_part : take 6 w ≡ segment_words b k t s
  low_part = take_at (segment_words b k t s) (segment_words k m s c) 6 (segment_length b k t s)

  high_part : drop 6 w ≡ segment_words k m s c
  high_part = drop_at (segment_words b k t s) (segment_words k m s c) 6 (segment_length b k t s)

  -- they pass
  pub knee_passes : BentPasses w
  knee_passes = record {
    lower = rw low_part (segment_passes b k t s lower);
    upper = rw high_part (segment_passes k m s c upper);
    order = le_of_eq (ends ∙ sym begins);
  }
    where
      ends : comfort_of (get_or w 0 0) ≡ s
      ends = ap comfort_of (sym (get_or-take 6 w 0 0 (omega arith)) ∙ ap (λ (v : List ℕ). get_or v 0 0) low_part) ∙ comfort_in_lem b k t s lower

      begins : threshold_of (get_or w 6 0) ≡ s
      begins = ap threshold_of (sym (get_or-drop 6 w 0 0) ∙ ap (λ (v : List ℕ). get_or v 0 0) high_part) ∙ threshold_in_lem k m s c upper

  -- the step is the map's; a value up to the knee whose logarithm is the knee's has the knee's step in both segments
  module _ (a : Float) (e : Envelope a) where
    abbrev p : ℕ
    p = size_bits a

    by_lower : step_in (take 6 w) p ≡ step_of b k t s a
    by_lower = ap (λ (v : List ℕ). step_in v p) low_part ∙ same_step b k t s lower a e

    by_upper : step_in (drop 6 w) p ≡ step_of k m s c a
    by_upper = ap (λ (v : List ℕ). step_in v p) high_part ∙ same_step k m s c upper a e

    at_the_knee : Past w p → P a ≤ P k → step_of k m s c a ≡ step_of b k t s a
    at_the_knee h l =
        let tie = not_wrapped k m s c upper a e (rw high_part at h) in
        step_quiet k m s c a l ∙ sym (at_top b k t s lower a e tie) ∙ same_step b k t s lower a e

    pub same_bent : bent_in w p ≡ knee_of b k m t s c a
    same_bent = go (le-or-lt 9223372036854775808 (rise_in (drop 6 w) p)) (le-or-lt (P a) (P k))
      where
        go : (9223372036854775808 ≤ rise_in (drop 6 w) p) ⊎ Past w p → (P a ≤ P k) ⊎ (P k < P a) → bent_in w p ≡ knee_of b k m t s c a
        go (inl h) (inl l) = bent_below w p (λ q. not-le_of_lt q h) ∙ by_lower ∙ sym (knee_below b k m t s c a l)
        go (inl h) (inr l) = absurd (not-le_of_lt (rw (← high_part) at (past_level k m s c upper a e (le_of_lt l))) h)
        go (inr h) (inl l) = bent_above w p h ∙ by_upper ∙ at_the_knee h l ∙ sym (knee_below b k m t s c a l)
        go (inr h) (inr l) = bent_above w p h ∙ by_upper ∙ sym (knee_above b k m t s c a l)

  -- with one word changed they do not pass
  module _ (v : List ℕ) (h : Changed w v) where
    in_lower : h.place < 6 → Changed (segment_words b k t s) (take 6 v)
    in_lower l = record {
      place = h.place;
      other = h.other;
      inside = rw (segment_length b k t s) l;
      word = h.word;
      differs = λ e. h.differs (e ∙ ap (λ (u : List ℕ). get_or u h.place 0) (sym low_part) ∙ get_or-take 6 w h.place 0 l);
      changed = ap (take 6) h.changed ∙ take-set-lt 6 w h.place h.other l ∙ ap (λ (u : List ℕ). set u h.place h.other) low_part;
    }

    in_upper : (i : ℕ) → h.place ≡ 6 + i → Changed (segment_words k m s c) (drop 6 v)
    in_upper i e = record {
      place = i;
      other = h.other;
      inside = rw (segment_length k m s c) (few (rw (length-append (segment_words b k t s) (segment_words k m s c), segment_length b k t s, segment_length k m s c) at h.inside));
      word = h.word;
      differs = λ d. h.differs (d ∙ ap (λ (u : List ℕ). get_or u i 0) (sym high_part) ∙ get_or-drop 6 w i 0 ∙ ap (λ (j : ℕ). get_or w j 0) (sym e));
      changed = ap (drop 6) (h.changed ∙ ap (λ (j : ℕ). set w j h.other) e) ∙ drop-set-add 6 w i h.other ∙ ap (λ (u : List ℕ). set u i h.other) high_part;
    }
      where
        few : h.place < 6 + 6 → i < 6
        few l = omega arith

    pub changed_knee : BentPasses v → ⊥
    changed_knee p =
        elim (le-or-lt 6 h.place) [
          | inl l ↦ changed_fails (segment_words k m s c) (drop 6 v) (segment_words_few k m s c upper) (segment_passes k m s c upper) (in_upper (h.place - 6) (omega arith)) p.upper
          | inr l ↦ changed_fails (segment_words b k t s) (take 6 v) (segment_words_few b k t s lower) (segment_passes b k t s lower) (in_lower l) p.lower
        ]
