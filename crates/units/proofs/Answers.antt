-- The two ways in which a call ends, and the two answers of a function of one float. Assumes nothing.
use Rattle.std.specs.Prelude.{Result, Ok, Err, MatchResult}
use Rattle.std.proofs.Common.{◌≡◌, refl, ◌∙◌, arith}
use Prim.Native.Nat.{ℕ}
use lib.Ieee.{Float}
use Rattle.units.specs.declared.refusal.Refusal.{Refusal}
use Rattle.units.specs.declared.refusal.Refusal.TheVariants.{OutOfRange, BadLength, Overflow, BadChannel}
use Rattle.units.specs.Units.{Number}
use Rattle.units.specs.Answers.{Ends, Answers}
use Rattle.units.specs.Refusals.{code_of, code_in, Gives}

module _ {R A : Type 0} {pattern : R → A} {Promise : ℕ → R → Type 0} {before : A} where
  -- success: the place holds the result's pattern
  pub written : {after : A} (r : R) → Promise 0 r → after ≡ pattern r → Ends pattern Promise 0 before after
  written r p e = record { result = r; promise = p; written = λ h. e; kept = λ n. absurd (n refl) }

  -- a refusal: the place is as it was, and nothing is said of any result
  pub untouched : (code : ℕ) (r : R) → ¬ (code ≡ 0) → Promise code r → Ends pattern Promise code before before
  untouched code r n p = record { result = r; promise = p; written = λ h. absurd (n h); kept = λ h. refl }

module _ {Accepts : Float → Type 0} (value_of : Float → Float) (x r : Float) where
  -- of an accepted x: code 0 and the value
  pub given : Accepts x → r ≡ value_of x → Number r → Answers Accepts value_of x 0 r
  given a e n = record { success = λ h. refl; refusal = λ h. absurd (h a); value = λ h. e; finite = λ h. n }

  -- of any other: code 1
  pub declined : ¬ Accepts x → Answers Accepts value_of x 1 r
  declined n = record { success = λ h. absurd (n h); refusal = λ h. refl; value = λ h. absurd (n h); finite = λ h. absurd (n h) }

-- ---- answers that are returned, and places that are written by them
module _ {R A : Type 0} {pattern : R → A} {Promise : ℕ → R → Type 0} {before : A} where
  -- a result that would be written is returned as well
  pub ok : {bits : A} → Ends pattern Promise 0 before bits → Gives pattern Promise (Ok bits)
  ok e = record { result = e.result; promise = e.promise; given = e.written refl }

  -- a refusal, likewise
  pub err : (refusal : Refusal) → Ends pattern Promise (code_of refusal) before before → Gives pattern Promise (Err refusal)
  err refusal e = record { result = e.result; promise = e.promise; given = tt }

  -- and back: a call that writes what another one returned, and answers by the code of it
  pub ends : (answer : Result A Refusal) {code : ℕ} {after : A} → Gives pattern Promise answer → code ≡ code_in answer
      → MatchResult answer (λ bits. after ≡ bits) (λ _. after ≡ before) → Ends pattern Promise code before after
  ends (Ok bits) g c a = rw c (written g.result g.promise (a ∙ g.given))
  ends (Err refusal) g c a = rw (c, a) (untouched (code_of refusal) g.result (refuses refusal) g.promise)
    where
      refuses : (r : Refusal) → ¬ (code_of r ≡ 0)
      refuses OutOfRange z = omega arith
      refuses BadLength z = omega arith
      refuses Overflow z = omega arith
      refuses BadChannel z = omega arith
