-- What a test tells. A reader of the promises need not read this. Definitions only.
use Rattle.std.specs.Prelude.{◌≡◌, Bool, true, false}

-- the answer to a question
pub record Tells (Holds : Type 0) (answer : Bool) : Type 0 where
  pub if_true : answer ≡ true → Holds
  pub if_false : answer ≡ false → ¬ Holds
