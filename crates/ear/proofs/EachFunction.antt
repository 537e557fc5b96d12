-- The list of all functions has each of them, so a search of it tells which one a word names.
use Rattle.std.proofs.Common.{arith, ◌≡◌, ◌≢◌, ◌<◌, ℕ, List, [], ◌∷◌, length}
use Rattle.std.proofs.Common.{Option, Some, None}
use Rattle.std.specs.List.{AllWithin, HoldsAt}
use Rattle.std.specs.Option.{MatchOption, ok_or}
use Rattle.ear.specs.declared.functions.Function.{Function}
use Rattle.ear.specs.declared.functions.Function.TheVariants.{Sqrt, Rsqrt, Exp2, Exp, Log2, Sinpi, Cospi, Sin, Cos}
use Rattle.ear.specs.declared.functions.Function.TheVariants.{Dot, DotNearest, Softmax2, Softmax, Loudness}
use Rattle.ear.specs.Names.{Names, name_of}

abbrev pub all_functions : List Function
all_functions =
    Sqrt ∷ Rsqrt ∷ Exp2 ∷ Exp ∷ Log2 ∷ Sinpi ∷ Cospi ∷ Sin ∷ Cos
    ∷ Dot ∷ DotNearest ∷ Softmax2 ∷ Softmax ∷ Loudness ∷ []

of_each : (P : Function → Type 0) → AllWithin P all_functions 0 14 → (function : Function) → P function
of_each P all Sqrt = all 0 Sqrt (omega arith) (omega arith)
of_each P all Rsqrt = all 1 Rsqrt (omega arith) (omega arith)
of_each P all Exp2 = all 2 Exp2 (omega arith) (omega arith)
of_each P all Exp = all 3 Exp (omega arith) (omega arith)
of_each P all Log2 = all 4 Log2 (omega arith) (omega arith)
of_each P all Sinpi = all 5 Sinpi (omega arith) (omega arith)
of_each P all Cospi = all 6 Cospi (omega arith) (omega arith)
of_each P all Sin = all 7 Sin (omega arith) (omega arith)
of_each P all Cos = all 8 Cos (omega arith) (omega arith)
of_each P all Dot = all 9 Dot (omega arith) (omega arith)
of_each P all DotNearest = all 10 DotNearest (omega arith) (omega arith)
of_each P all Softmax2 = all 11 Softmax2 (omega arith) (omega arith)
of_each P all Softmax = all 12 Softmax (omega arith) (omega arith)
of_each P all Loudness = all 13 Loudness (omega arith) (omega arith)

-- what `find` tells of a search for the name
abbrev pub IsFound : List ℕ → Option Function → Type 0
IsFound word found =
    MatchOption found (AllWithin (λ function. name_of function ≢ word) all_functions 0 (length all_functions))
    (λ function. (name_of function ≡ word) × (i : ℕ) × (i < length all_functions)
    × HoldsAt (λ other. other ≡ function) all_functions i
    × AllWithin (λ other. name_of other ≢ word) all_functions 0 i)

pub named : {E : Type 0} (word : List ℕ) (found : Option Function) (error : E) → IsFound word found
    → Names word (ok_or found error)
named word (Some function) error is = is.0
named word None error none = of_each (λ function. name_of function ≢ word) none
