-- The four promises: of an accepted x code 0 and the value, of any other code 1; and how the calls end. Assumes nothing.
use Rattle.std.specs.Prelude.{Result, Ok, Err, MatchResult, IsOkAnd}
use Rattle.std.proofs.Common.{arith, ◌≡◌, ℕ, ◌/◌, ◌%◌, ◌^◌, ◌<◌, ◌≤◌, sym, refl, ◌∙◌, subst, lit<, lit≤}
use lib.Ieee.{Float, binary32, to_bits}
use Rattle.units.specs.Units.{mag, Number}
use Rattle.units.specs.declared.refusal.Refusal.{Refusal}
use Rattle.units.specs.declared.refusal.Refusal.TheVariants.{OutOfRange}
use Rattle.units.specs.Answers.{Ends, float_bits}
use Rattle.units.specs.Refusals.{Gives}
use Rattle.units.proofs.Answers.{given, declined, untouched, err}
use Rattle.exact.specs.Circle.{Signed, bound, Sine, Cosine, QuarterTurn}
use Rattle.exact.proofs.Limits.{near_wider}
use Rattle.circle.specs.Phase.{half_turns, radians}
use Rattle.circle.specs.Wave.{wave_bits, wave, half_on, quarter_on, sin_pi_of, cos_pi_of, sin_of, cos_of}
use Rattle.circle.specs.Promise.{AcceptsPi, Accepts, wave_error_num, wave_error_den, pi_error_num, pi_error_den, as_fraction, pi_times, SinPi, CosPi, Sin, Cos}
use Rattle.circle.proofs.Pattern.{wave_pattern}
use Rattle.circle.proofs.Taken.{size_bits}
use Rattle.circle.proofs.Enclosed.{sin_pi_enclosed, cos_pi_enclosed}
use Rattle.circle.proofs.Near.{less, wave-number, wave_inside, open_bound, sin_pi_is, cos_pi_is, sin_is, cos_is, sin_pi_near, cos_pi_near, sin_near, cos_near}
use Rattle.circle.proofs.Whole.{sin_pi_whole, cos_pi_whole}

-- a result that is a wave's is finite, and from -1 to 1
module _ {r : Float} (t : ℕ) (e : r ≡ wave (t % 2 ^ 64)) where
  number_of : Number r
  number_of = subst Number (sym e) (wave-number _ (less t))

  inside_of : mag r ≤ 2 ^ 149
  inside_of = subst (λ (r : Float). mag r ≤ 2 ^ 149) (sym e) (wave_inside _ (less t))

-- the pattern is the value's
module _ {Promise : ℕ → Float → Type 0} where
  ended : {bits : ℕ} (t : ℕ) → Promise 0 (wave (t % 2 ^ 64)) → bits ≡ wave_bits (t % 2 ^ 64) → Gives float_bits Promise (Ok bits)
  ended t p e = record { result = wave (t % 2 ^ 64); promise = p; given = e ∙ sym (wave_pattern (t % 2 ^ 64) (less t)) }

  -- nothing is written
  kept : {before : ℕ} (r : Float) → Promise 1 r → Ends float_bits Promise 1 before before
  kept r p = untouched 1 r (λ z. omega arith) p

-- an answer that is made of another one: its value of the value, and the same refusal
pub answered : {A : Type 0} {Promise : ℕ → Float → Type 0} {Value : A → Type 0} {Post : A → ℕ → Type 0} {Declined : Type 0}
    → (from : Result A Refusal) (answer : Result ℕ Refusal)
    → MatchResult from Value (λ e. (e ≡ OutOfRange) × Declined) → MatchResult from (λ a. IsOkAnd answer (Post a)) (λ e. answer ≡ Err e)
    → ((a : A) (bits : ℕ) → Value a → Post a bits → Gives float_bits Promise (Ok bits))
    → (Declined → Ends float_bits Promise 1 0 0) → Gives float_bits Promise answer
answered (Ok a) (Ok bits) v p gives refuses = gives a bits v p
answered (Ok a) (Err e) v p gives refuses = absurd p
answered (Err e) answer (is, d) p gives refuses = rw (p, is) (err OutOfRange (refuses d))

-- ---- pi x
module _ (x : Float) where
  abbrev half : ℕ
  half = half_turns (size_bits x)

  sin_pi_promised : AcceptsPi x → SinPi x 0 (sin_pi_of x)
  sin_pi_promised a = record {
    answers = given sin_pi_of x (sin_pi_of x) a refl (number_of _ (sin_pi_is x a.number));
    near = λ h. sin_pi_near x a.number;
    whole = λ h. sin_pi_whole x a.number;
    inside = λ h. inside_of _ (sin_pi_is x a.number);
  }

  sin_pi_refused : ¬ AcceptsPi x → SinPi x 1 (sin_pi_of x)
  sin_pi_refused n = record { answers = declined sin_pi_of x (sin_pi_of x) n; near = λ h. absurd (n h); whole = λ h. absurd (n h); inside = λ h. absurd (n h) }

  pub sin_pi_success : {bits : ℕ} → AcceptsPi x → bits ≡ wave_bits (half_on half (to_bits binary32 x / 2147483648)) → Gives float_bits (SinPi x) (Ok bits)
  unfolding sin_pi_of half_on
  sin_pi_success a e = ended _ (sin_pi_promised a) e

  pub sin_pi_refusal : {before : ℕ} → ¬ AcceptsPi x → Ends float_bits (SinPi x) 1 before before
  sin_pi_refusal n = kept (sin_pi_of x) (sin_pi_refused n)

  cos_pi_promised : AcceptsPi x → CosPi x 0 (cos_pi_of x)
  cos_pi_promised a = record {
    answers = given cos_pi_of x (cos_pi_of x) a refl (number_of _ (cos_pi_is x a.number));
    near = λ h. cos_pi_near x a.number;
    whole = λ h. cos_pi_whole x a.number;
    inside = λ h. inside_of _ (cos_pi_is x a.number);
  }

  cos_pi_refused : ¬ AcceptsPi x → CosPi x 1 (cos_pi_of x)
  cos_pi_refused n = record { answers = declined cos_pi_of x (cos_pi_of x) n; near = λ h. absurd (n h); whole = λ h. absurd (n h); inside = λ h. absurd (n h) }

  pub cos_pi_success : {bits : ℕ} → AcceptsPi x → bits ≡ wave_bits (quarter_on half) → Gives float_bits (CosPi x) (Ok bits)
  unfolding cos_pi_of quarter_on
  cos_pi_success a e = ended _ (cos_pi_promised a) e

  pub cos_pi_refusal : {before : ℕ} → ¬ AcceptsPi x → Ends float_bits (CosPi x) 1 before before
  cos_pi_refusal n = kept (cos_pi_of x) (cos_pi_refused n)

-- ---- x itself
module _ (x : Float) where
  abbrev turns : ℕ
  turns = radians (size_bits x)

  sin_promised : Accepts x → Sin x 0 (sin_of x)
  sin_promised a = record {
    answers = given sin_of x (sin_of x) a refl (number_of _ (sin_is x a));
    near = λ h. sin_near x a;
    inside = λ h. inside_of _ (sin_is x a);
  }

  sin_refused : ¬ Accepts x → Sin x 1 (sin_of x)
  sin_refused n = record { answers = declined sin_of x (sin_of x) n; near = λ h. absurd (n h); inside = λ h. absurd (n h) }

  pub sin_success : {bits : ℕ} → Accepts x → bits ≡ wave_bits (half_on turns (to_bits binary32 x / 2147483648)) → Gives float_bits (Sin x) (Ok bits)
  unfolding sin_of half_on
  sin_success a e = ended _ (sin_promised a) e

  pub sin_refusal : {before : ℕ} → ¬ Accepts x → Ends float_bits (Sin x) 1 before before
  sin_refusal n = kept (sin_of x) (sin_refused n)

  cos_promised : Accepts x → Cos x 0 (cos_of x)
  cos_promised a = record {
    answers = given cos_of x (cos_of x) a refl (number_of _ (cos_is x a));
    near = λ h. cos_near x a;
    inside = λ h. inside_of _ (cos_is x a);
  }

  cos_refused : ¬ Accepts x → Cos x 1 (cos_of x)
  cos_refused n = record { answers = declined cos_of x (cos_of x) n; near = λ h. absurd (n h); inside = λ h. absurd (n h) }

  pub cos_success : {bits : ℕ} → Accepts x → bits ≡ wave_bits (quarter_on turns) → Gives float_bits (Cos x) (Ok bits)
  unfolding cos_of quarter_on
  cos_success a e = ended _ (cos_promised a) e

  pub cos_refusal : {before : ℕ} → ¬ Accepts x → Ends float_bits (Cos x) 1 before before
  cos_refusal n = kept (cos_of x) (cos_refused n)

-- ---- 1 / 2 ^ 22, which document 01 asks for, follows

module _ {t r : Signed} where
  pub sine_as_asked : Sine t r (bound wave_error_num wave_error_den) → Sine t r (bound 1 (2 ^ 22))
  sine_as_asked h = record { near = near_wider (lit< tt) (lit≤ tt) h.near }

  pub cosine_as_asked : Cosine t r (bound wave_error_num wave_error_den) → Cosine t r (bound 1 (2 ^ 22))
  cosine_as_asked h = record { near = near_wider (lit< tt) (lit≤ tt) h.near }

  pub sin_pi_as_asked : Sine t r (bound pi_error_num pi_error_den) → Sine t r (bound 1 (2 ^ 22))
  sin_pi_as_asked h = record { near = near_wider (lit< tt) (lit≤ tt) h.near }

  pub cos_pi_as_asked : Cosine t r (bound pi_error_num pi_error_den) → Cosine t r (bound 1 (2 ^ 22))
  cos_pi_as_asked h = record { near = near_wider (lit< tt) (lit≤ tt) h.near }

-- ---- and of the real sin (pi x) and cos (pi x), for every enclosure of pi / 2: there are some as narrow as one likes

module _ {x r : Float} {code : ℕ} (a : AcceptsPi x) (c d w : ℕ) (pos : 0 < w) (turn : QuarterTurn c d w) where
  pub sin_pi_real : SinPi x code r → Sine (pi_times c w x) (as_fraction r) (open_bound d w x)
  sin_pi_real p = subst (λ (r : Float). Sine (pi_times c w x) (as_fraction r) (open_bound d w x)) (sym (p.answers.value a)) (sin_pi_enclosed x a.number c d w pos turn)

  pub cos_pi_real : CosPi x code r → Cosine (pi_times c w x) (as_fraction r) (open_bound d w x)
  cos_pi_real p = subst (λ (r : Float). Cosine (pi_times c w x) (as_fraction r) (open_bound d w x)) (sym (p.answers.value a)) (cos_pi_enclosed x a.number c d w pos turn)
