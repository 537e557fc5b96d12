-- The promises of fitting and of stepping, joined from their pieces. Assumes nothing.
use Rattle.std.proofs.Common.{◌≡◌, ℕ, ◌+◌, ◌-◌, ◌≤◌, List, [], length, take, drop, sym, refl, ap, ◌∙◌, subst, inl, inr, le_of_eq, arith, length-drop, length-set, take_all}
use lib.Ieee.{Float}
use Rattle.units.specs.Answers.{Ends, itself}
use Rattle.units.proofs.Answers.{written, untouched}
use Rattle.loudness.specs.Map.{Channel, Envelope}
use Rattle.loudness.specs.Segment.{Segment, size_bits}
use Rattle.loudness.specs.Words.{Passes, BentPasses, Answered, Chosen, ChosenWords, step_in, bent_in, five_words, segment_words}
use Rattle.loudness.specs.Fitted.{fitted_of, fitted_knee, as_they_are, Fits, Changed, Step}
use Rattle.loudness.proofs.Promise.{segment, promised, out_of_range}
use Rattle.loudness.proofs.Bent as bends
use Rattle.loudness.proofs.Bending.{bent_below, bent_above, knee_passes, same_bent, bent_bounded, changed_knee}
use Rattle.loudness.proofs.Check.{changed_fails}
use Rattle.loudness.proofs.Fitting.{segment_length, segment_passes, segment_words_few, same_step, bounded}

-- how many words there are
knee_length : (b k m : Float) (t s c : ℕ) → length (fitted_knee b k m t s c) ≡ 12
unfolding segment_words five_words
knee_length b k m t s c = refl

changed_length : {words w : List ℕ} → Changed words w → length w ≡ length words
changed_length {words} {w} h = ap length h.changed ∙ length-set words h.place h.other

-- a segment with one word changed does not pass
pub changed_segment : (b m : Float) (t c : ℕ) → Segment b m t c → {w : List ℕ} → Changed (segment_words b m t c) w → Passes w → ⊥
changed_segment b m t c sg {w} h p = changed_fails (segment_words b m t c) w (segment_words_few b m t c sg) (segment_passes b m t c sg) h p

-- ---- words of another number
pub wrong_number : (w : List ℕ) (a : Float) → ¬ (length w ≡ 6) → ¬ (length w ≡ 12) → Step w a 2 0
wrong_number w a n n' = record {
  bad_length = λ h k. refl;
  straight = λ top b m t c ch e. absurd (n (ap length e ∙ segment_length b m t c));
  bent = λ top b k m t s c ch e. absurd (n' (ap length e ∙ knee_length b k m t s c));
  changed_straight = λ top b m t c ch e. absurd (n (changed_length e ∙ segment_length b m t c));
  changed_bent = λ top b k m t s c ch e. absurd (n' (changed_length e ∙ knee_length b k m t s c));
  out_of_range = λ h k. absurd (elim h [ inl e ↦ n e | inr e ↦ n' e ]);
  answered = λ h e. elim h [ inl l ↦ absurd (n l) | inr l ↦ absurd (n' l) ];
  at_least = λ z. absurd (omega arith);
  at_most = λ z. absurd (omega arith);
}

-- ---- six words
module _ (w : List ℕ) (a : Float) (six : length w ≡ 6) where
  not_bent : length w ≡ 12 → ⊥
  not_bent e = omega arith

  fails : (i : ℕ) → ¬ Passes w → Step w a 4 i
  fails i n = record {
    bad_length = λ h k. absurd (h six);
    straight = λ top b m t c ch e. absurd (n (rw e (segment_passes b m t c (segment ch))));
    bent = λ top b k m t s c ch e. absurd (not_bent (ap length e ∙ knee_length b k m t s c));
    changed_straight = λ top b m t c ch e. refl;
    changed_bent = λ top b k m t s c ch e. refl;
    out_of_range = λ h k. inr refl;
    answered = λ h e. inr refl;
    at_least = λ z. absurd (omega arith);
    at_most = λ z. absurd (omega arith);
  }

  module _ (p : Passes w) where
    changed : (top : ℕ) (b m : Float) (t c : ℕ) → Channel top b m t c → Changed (fitted_of b m t c) w → ⊥
    changed top b m t c ch e = changed_segment b m t c (segment ch) e p

    refused : (i : ℕ) → ¬ Envelope a → Step w a 1 i
    refused i n = record {
      bad_length = λ h k. absurd (h six);
      straight = λ top b m t c ch e. out_of_range top b m t c a i ch n;
      bent = λ top b k m t s c ch e. absurd (not_bent (ap length e ∙ knee_length b k m t s c));
      changed_straight = λ top b m t c ch e. absurd (changed top b m t c ch e);
      changed_bent = λ top b k m t s c ch e. absurd (not_bent (changed_length e ∙ knee_length b k m t s c));
      out_of_range = λ h k. inl refl;
      answered = λ h e. absurd (n e);
      at_least = λ z. absurd (omega arith);
      at_most = λ z. absurd (omega arith);
    }

    stepped : Envelope a → Step w a 0 (step_in w (size_bits a))
    stepped v = record {
      bad_length = λ h k. absurd (h six);
      straight = λ top b m t c ch e. rw (e, same_step b m t c (segment ch) a v) (promised top b m t c ch a v);
      bent = λ top b k m t s c ch e. absurd (not_bent (ap length e ∙ knee_length b k m t s c));
      changed_straight = λ top b m t c ch e. absurd (changed top b m t c ch e);
      changed_bent = λ top b k m t s c ch e. absurd (not_bent (changed_length e ∙ knee_length b k m t s c));
      out_of_range = λ h k. absurd (k v);
      answered = λ h e. inl refl;
      at_least = λ z. (bounded w (size_bits a)).0;
      at_most = λ z. rw six (bounded w (size_bits a)).1;
    }

-- ---- twelve words
module _ (w : List ℕ) (a : Float) (twelve : length w ≡ 12) where
  not_straight : length w ≡ 6 → ⊥
  not_straight e = omega arith

  bent_fails : ¬ BentPasses w → Step w a 4 0
  bent_fails n = record {
    bad_length = λ h k. absurd (k twelve);
    straight = λ top b m t c ch e. absurd (not_straight (ap length e ∙ segment_length b m t c));
    bent = λ top b k m t s c ch e. absurd (n (rw e (knee_passes top b k m t s c ch)));
    changed_straight = λ top b m t c ch e. refl;
    changed_bent = λ top b k m t s c ch e. refl;
    out_of_range = λ h k. inr refl;
    answered = λ h e. inr refl;
    at_least = λ z. absurd (omega arith);
    at_most = λ z. absurd (omega arith);
  }

  module _ (p : BentPasses w) where
    pub bent_refused : (i : ℕ) → ¬ Envelope a → Step w a 1 i
    bent_refused i n = record {
      bad_length = λ h k. absurd (k twelve);
      straight = λ top b m t c ch e. absurd (not_straight (ap length e ∙ segment_length b m t c));
      bent = λ top b k m t s c ch e. bends.out_of_range top b k m t s c a i ch n;
      changed_straight = λ top b m t c ch e. absurd (not_straight (changed_length e ∙ segment_length b m t c));
      changed_bent = λ top b k m t s c ch e. absurd (changed_knee top b k m t s c ch w e p);
      out_of_range = λ h k. inl refl;
      answered = λ h e. absurd (n e);
      at_least = λ z. absurd (omega arith);
      at_most = λ z. absurd (omega arith);
    }

    bent_stepped : Envelope a → Step w a 0 (bent_in w (size_bits a))
    bent_stepped v = record {
      bad_length = λ h k. absurd (k twelve);
      straight = λ top b m t c ch e. absurd (not_straight (ap length e ∙ segment_length b m t c));
      bent = λ top b k m t s c ch e. rw (e, same_bent top b k m t s c ch a v) (bends.kept top b k m t s c ch a v);
      changed_straight = λ top b m t c ch e. absurd (not_straight (changed_length e ∙ segment_length b m t c));
      changed_bent = λ top b k m t s c ch e. absurd (changed_knee top b k m t s c ch w e p);
      out_of_range = λ h k. absurd (k v);
      answered = λ h e. inl refl;
      at_least = λ z. (bent_bounded w (size_bits a) p).0;
      at_most = λ z. rw twelve (bent_bounded w (size_bits a) p).1;
    }

-- ---- how a call of `step` ends
module _ (w : List ℕ) (a : Float) {before : ℕ} where
  pub no_number : ¬ (length w ≡ 6) → ¬ (length w ≡ 12) → Ends itself (Step w a) 2 before before
  no_number n n' = untouched 2 0 (λ z. omega arith) (wrong_number w a n n')

  pub no_bent_pass : length w ≡ 12 → ¬ BentPasses w → Ends itself (Step w a) 4 before before
  no_bent_pass s n = untouched 4 0 (λ z. omega arith) (bent_fails w a s n)

-- as the words of a segment are answered
step_of : (w : List ℕ) (a : Float) (code i : ℕ) → length w ≡ 6 → Answered w a code i → Step w a code i
step_of w a code i s h =
    elim h.how [
      | inl (e, n) ↦ rw e (fails w a s i n)
      | inr (inl (e, p, n)) ↦ rw e (refused w a s p i n)
      | inr (inr (e, p, v, g)) ↦ rw (e, g) (stepped w a s p v)
    ]

-- of a bent channel's words, those of the half in which the value lies
bent_step_of : (w v : List ℕ) (a : Float) (code i : ℕ) → length w ≡ 12 → BentPasses w → Passes v → (Envelope a → bent_in w (size_bits a) ≡ step_in v (size_bits a)) → Answered v a code i → Step w a code i
bent_step_of w v a code i s p q lies h =
    elim h.how [
      | inl (e, n) ↦ absurd (n q)
      | inr (inl (e, r, n)) ↦ rw e (bent_refused w a s p i n)
      | inr (inr (e, r, u, g)) ↦ rw (e, g ∙ sym (lies u)) (bent_stepped w a s p u)
    ]

module _ {a : Float} {code before after : ℕ} where
  as_straight : (w : List ℕ) → length w ≡ 6 → Ends itself (Answered w a) code before after → Ends itself (Step w a) code before after
  as_straight w s e = record { result = e.result; promise = step_of w a code e.result s e.promise; written = e.written; kept = e.kept }

  as_half : (w v : List ℕ) → length w ≡ 12 → BentPasses w → Passes v → (Envelope a → bent_in w (size_bits a) ≡ step_in v (size_bits a)) → Ends itself (Answered v a) code before after → Ends itself (Step w a) code before after
  as_half w v s p q lies e = record { result = e.result; promise = bent_step_of w v a code e.result s p q lies e.promise; written = e.written; kept = e.kept }

  -- the words that were chosen
  pub as_chosen : (w : List ℕ) (at : ℕ) → Chosen w a at → at ≤ 6 → Ends itself (Answered (take (at + 6 - at) (drop at w)) a) code before after → Ends itself (Step w a) code before after
  as_chosen w at ch l x =
      elim ch.how [
        | inl (e, n, n') ↦ absurd (omega arith)
        | inr (inl (e, s, n)) ↦ absurd (omega arith)
        | inr (inr (inl (e, s))) ↦ as_straight w s (rw (take_all 6 w (le_of_eq s)) at (at_start e))
        | inr (inr (inr (inl (e, (s, p, h))))) ↦ as_half w (take 6 w) s p p.lower (λ u. bent_below w (size_bits a) (h u)) (at_start e)
        | inr (inr (inr (inr (e, (s, p, h))))) ↦ as_half w (drop 6 w) s p p.upper (λ u. bent_above w (size_bits a) (h u)) (rw (take_all 6 (drop 6 w) (le_of_eq (length-drop 6 w ∙ ap (λ (n : ℕ). n - 6) s))) at (at_half e))
      ]
    where
      at_start : at ≡ 0 → Ends itself (Answered (take 6 w) a) code before after
      at_start e = subst (λ (i : ℕ). Ends itself (Answered (take (i + 6 - i) (drop i w)) a) code before after) e x

      at_half : at ≡ 6 → Ends itself (Answered (take 6 (drop 6 w)) a) code before after
      at_half e = subst (λ (i : ℕ). Ends itself (Answered (take (i + 6 - i) (drop i w)) a) code before after) e x

  -- as they stand
  pub by_words : (w v : List ℕ) → ChosenWords w a v → Ends itself (Answered v a) code before after → Ends itself (Step w a) code before after
  by_words w v ch x =
      elim ch.how [
        | inl (s, e) ↦ as_chosen w 0 (record { how = inr (inr (inl (refl, s))) }) (omega arith) (rw (take_all 6 w (le_of_eq s), ← e) x)
        | inr (inl (l, e)) ↦ as_chosen w 0 (record { how = inr (inr (inr (inl (refl, l)))) }) (omega arith) (rw (← e) x)
        | inr (inr (u, e)) ↦
            let s = length-drop 6 w ∙ ap (λ (n : ℕ). n - 6) u.0 in
            as_chosen w 6 (record { how = inr (inr (inr (inr (refl, u)))) }) (omega arith) (rw (take_all 6 (drop 6 w) (le_of_eq s), ← e) x)
      ]

-- ---- how a call of `fit` or `fit_knee` ends
module _ {Good : Type 0} {words : List ℕ} {n : ℕ} {before : List ℕ} where
  pub other_number : ¬ (length before ≡ n) → Ends as_they_are (Fits Good words n (length before)) 2 before before
  other_number h = untouched 2 [] (λ z. omega arith) (record { bad_length = λ k. refl; bad_channel = λ k. absurd (h k); success = λ k. absurd (h k); value = λ k. absurd (h k) })

  pub no_channel : length before ≡ n → ¬ Good → Ends as_they_are (Fits Good words n (length before)) 4 before before
  no_channel s g = untouched 4 [] (λ z. omega arith) (record { bad_length = λ k. absurd (k s); bad_channel = λ k h. refl; success = λ k h. absurd (g h); value = λ k h. absurd (g h) })

  pub fitted : {after : List ℕ} → length before ≡ n → Good → after ≡ words → Ends as_they_are (Fits Good words n (length before)) 0 before after
  fitted s g e = written words (record { bad_length = λ k. absurd (k s); bad_channel = λ k h. absurd (h g); success = λ k h. refl; value = λ k h. refl }) e
