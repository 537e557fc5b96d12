-- How a call in Rattle ends: an answer, or a refusal. A reader of the promises need not read this. Definitions only.
use Rattle.std.specs.Prelude.{◌≡◌, ℕ, List, Result, Ok, Err, IfOk, codes}
use Rattle.units.specs.declared.refusal.Refusal.{Refusal}
use Rattle.units.specs.declared.refusal.Refusal.TheVariants.{OutOfRange, BadLength, Overflow, BadChannel}

-- the code of a refusal
abbrev pub code_of : Refusal → ℕ
code_of OutOfRange = 1
code_of BadLength = 2
code_of Overflow = 3
code_of BadChannel = 4

-- the bytes of a refusal's name
abbrev pub refusal_name : Refusal → List ℕ
refusal_name OutOfRange = codes "OUT_OF_RANGE"
refusal_name BadLength = codes "BAD_LENGTH"
refusal_name Overflow = codes "OVERFLOW"
refusal_name BadChannel = codes "BAD_CHANNEL"

-- the code of an answer: 0 where it is no refusal
abbrev pub code_in : {A : Type 0} → Result A Refusal → ℕ
code_in (Ok _) = 0
code_in (Err refusal) = code_of refusal

-- as `Ends`, of a call that returns its result: the answer's code keeps the promise, and where it is 0 the answer is the pattern of the result
pub record Gives {R A : Type 0} (pattern : R → A) (Promise : ℕ → R → Type 0) (answer : Result A Refusal) : Type 0 where
  pub result : R
  pub promise : Promise (code_in answer) result
  pub given : IfOk answer (λ bits. bits ≡ pattern result)
