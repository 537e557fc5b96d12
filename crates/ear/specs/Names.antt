-- The functions' names. A reader of the promises need not read this. Definitions only.
use Rattle.std.specs.Prelude.{◌≡◌, ◌≢◌, ℕ, List, Result, MatchResult, codes}
use Rattle.ear.specs.declared.functions.Function.{Function}
use Rattle.ear.specs.declared.functions.Function.TheVariants.{Sqrt, Rsqrt, Exp2, Exp, Log2, Sinpi, Cospi, Sin, Cos}
use Rattle.ear.specs.declared.functions.Function.TheVariants.{Dot, DotNearest, Softmax2, Softmax, Loudness}

-- the bytes of a function's name
abbrev pub name_of : Function → List ℕ
name_of Sqrt = codes "sqrt"
name_of Rsqrt = codes "rsqrt"
name_of Exp2 = codes "exp2"
name_of Exp = codes "exp"
name_of Log2 = codes "log2"
name_of Sinpi = codes "sinpi"
name_of Cospi = codes "cospi"
name_of Sin = codes "sin"
name_of Cos = codes "cos"
name_of Dot = codes "dot"
name_of DotNearest = codes "dot_nearest"
name_of Softmax2 = codes "softmax2"
name_of Softmax = codes "softmax"
name_of Loudness = codes "loudness"

-- the answer is the function of that name, or a complaint where no function has it
abbrev pub Names : {E : Type 0} → List ℕ → Result Function E → Type 0
Names word answer =
    MatchResult answer (λ function. name_of function ≡ word) (λ _. (function : Function) → name_of function ≢ word)
