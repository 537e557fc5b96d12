-- The promise of the loudness map, joined from its pieces. Assumes nothing.
use Rattle.std.proofs.Common.{◌≡◌, ℕ, ◌+◌, ◌-◌, ◌*◌, ◌<◌, ◌≤◌, refl, inl, inr, lt_of_lt_of_le, mul-le-mul_right, arith, pow_pos, le-leb}
use borrow.Author.Tests.{lt-leb}
use lib.Ieee.{Float}
use Rattle.units.specs.Units.{P}
use Rattle.units.specs.Answers.{Ends, itself}
use Rattle.units.proofs.Answers.{written, untouched}
use Rattle.units.proofs.Naturals.{le-or-lt}
use Rattle.loudness.specs.Map.{Channel, Envelope, map_error_num, map_error_den, Loudness}
use Rattle.loudness.specs.Value.{rise_of, step_of}
use Rattle.loudness.specs.Segment.{Segment}
use Rattle.loudness.proofs.Steps.{Allows}
use Rattle.loudness.proofs.Known.{parts, width}
use Rattle.loudness.proofs.Growth.{step_quiet, step_loud, span_octave, inside, never_falls, within}

-- a channel is one segment
pub segment : {top : ℕ} {b m : Float} {t c : ℕ} → Channel top b m t c → Segment b m t c
segment ch = let s = ch.steps in let h = ch.highest in record { levels = ch.levels; order = ch.order; few = omega arith }

-- e millionths of a step beside the half allow the errors of the words and of the logarithms over k steps, each with its share
allows : (k e d : ℕ) → 4000000 * k ≤ e * 1073741824 → 4 * (width * (4000000 * k + 1000000 + 2 * e)) ≤ 7 * e * d → Allows (500000 + e) map_error_den width k d 1073741824
allows k e d words logs = joined (mul-le-mul_right d words)
  where
    joined : 4000000 * k * d ≤ e * 1073741824 * d → Allows (500000 + e) map_error_den width k d 1073741824
    joined a = omega arith

module _ (top : ℕ) (b m : Float) (t c : ℕ) (ch : Channel top b m t c) where
  -- so the constant allows them over all steps and an octave
  allowed : Allows (map_error_num top) map_error_den width (c - t) (rise_of b m) 1073741824
  allowed =
      let s = ch.steps in
      let o = span_octave b m t c (segment ch) in
      elim (le-or-lt top 255) [
        | inl h ↦ rw (le-leb top 255 h) (short (c - t) (rise_of b m) (omega arith) o)
        | inr h ↦ let l = ch.highest in rw (lt-leb top 255 h) (longer (c - t) (rise_of b m) (omega arith) o)
      ]
    where
      short : (k d : ℕ) → k ≤ 255 → parts ≤ d + width → Allows 500001 map_error_den width k d 1073741824
      short k d few long = allows k 1 d (omega arith) (omega arith)

      longer : (k d : ℕ) → k ≤ 1023 → parts ≤ d + width → Allows 500004 map_error_den width k d 1073741824
      longer k d few long = allows k 4 d (omega arith) (omega arith)

  -- m is above b
  below_both : (a : Float) → P m ≤ P a → P a ≤ P b → ⊥
  below_both a l r =
      let o = ch.levels.octave in
      let q : 0 < P b = lt_of_lt_of_le (pow_pos 125) ch.levels.quietest in
      omega arith

  pub promised : (a : Float) → Envelope a → Loudness top b m t c a 0 (step_of b m t c a)
  promised a e =
      let sg = segment ch in
      let n = e.number in
      let i = inside b m t c sg a n in
      record {
        bad_channel = λ h. absurd (h ch);
        out_of_range = λ h k. absurd (k e);
        success = λ h k. refl;
        value = λ h k. refl;
        at_least = λ h k. i.0;
        at_most = λ h k. i.1;
        quiet = λ h k l. step_quiet b m t c a l;
        loud = λ h k l. elim (le-or-lt (P a) (P b)) [ inl r ↦ absurd (below_both a l r) | inr r ↦ step_loud b m t c a r l ];
        near = λ h k l r. within b m t c sg (map_error_num top) map_error_den allowed a n l r;
        order = λ h k a' k' l. never_falls b m t c sg a a' n k'.number (omega (arith, e.at_least_zero, k'.at_least_zero));
      }

-- an accepted channel with another a
pub out_of_range : (top : ℕ) (b m : Float) (t c : ℕ) (a : Float) (i : ℕ) → Channel top b m t c → ¬ Envelope a → Loudness top b m t c a 1 i
out_of_range top b m t c a i ch n = record {
  bad_channel = λ h. absurd (h ch);
  out_of_range = λ h k. refl;
  success = λ h k. absurd (n k);
  value = λ h k. absurd (n k);
  at_least = λ h k. absurd (n k);
  at_most = λ h k. absurd (n k);
  quiet = λ h k. absurd (n k);
  loud = λ h k. absurd (n k);
  near = λ h k. absurd (n k);
  order = λ h k. absurd (n k);
}

-- no channel
bad_channel : (top : ℕ) (b m : Float) (t c : ℕ) (a : Float) → ¬ Channel top b m t c → Loudness top b m t c a 4 0
bad_channel top b m t c a n = record {
  bad_channel = λ h. refl;
  out_of_range = λ h. absurd (n h);
  success = λ h. absurd (n h);
  value = λ h. absurd (n h);
  at_least = λ h. absurd (n h);
  at_most = λ h. absurd (n h);
  quiet = λ h. absurd (n h);
  loud = λ h. absurd (n h);
  near = λ h. absurd (n h);
  order = λ h. absurd (n h);
}

-- ---- how the call ends
module _ (top : ℕ) (b m : Float) (t c : ℕ) (a : Float) {before : ℕ} where
  -- the step is written
  pub success : {after : ℕ} → Channel top b m t c → Envelope a → after ≡ step_of b m t c a → Ends itself (Loudness top b m t c a) 0 before after
  success ch e v = written (step_of b m t c a) (promised top b m t c ch a e) v

  -- nothing is written
  pub refusal : Channel top b m t c → ¬ Envelope a → Ends itself (Loudness top b m t c a) 1 before before
  refusal ch n = untouched 1 0 (λ z. omega arith) (out_of_range top b m t c a 0 ch n)

  pub no_channel : ¬ Channel top b m t c → Ends itself (Loudness top b m t c a) 4 before before
  no_channel n = untouched 4 0 (λ z. omega arith) (bad_channel top b m t c a n)
