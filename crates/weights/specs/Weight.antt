-- What the inner functions are given and answer. A reader of the promise need not read this. Definitions only.
use Rattle.std.specs.Prelude.{◌≡◌, List, ℕ, ◌+◌, ◌*◌, ◌^◌, ◌≤◌, ◌<◌, length, get_or, set, Float, Result, MatchResult}
use Rattle.units.specs.declared.refusal.Refusal.{Refusal}
use Rattle.units.specs.declared.refusal.Refusal.TheVariants.{OutOfRange}
use Rattle.powers.specs.Base.{Base}
use Rattle.powers.specs.Fixed.{fixed_digits}
use Rattle.weights.specs.Lists.{at, sum}
use Rattle.weights.specs.Softmax.{Elements, floats_of, Softmax}
use Rattle.weights.specs.Value.{top_key, power_at}

-- what is weighed: the floats whose patterns the places of the outputs hold, or another list
pub data Source : Type 0 where
  own : Source
  other : List Float → Source

-- its list, where p are these places
abbrev pub source_of : Source → List ℕ → List Float
source_of own p = floats_of p
source_of (other x) p = x

-- there is an output for each of its elements
abbrev pub Sized : Source → List ℕ → Type 0
Sized s p = length (source_of s p) ≡ length p

-- a list that was judged: as many places as elements, few of them, and every element accepted
pub record Weighable (s : Source) (p : List ℕ) : Type 0 where
  pub sized : Sized s p
  pub few : length p ≤ 1024
  pub elements : Elements (source_of s p)

-- the largest key where every element is accepted, and else a refusal
abbrev pub IsJudged : List Float → Result ℕ Refusal → Type 0
IsJudged xs answer =
    MatchResult answer (λ top. Elements xs × (top ≡ top_key xs)) (λ e. (¬ Elements xs) × (e ≡ OutOfRange))

-- between the sum and the weights: beside another list, the place of the output i holds the digits d of a power
-- without the first
abbrev pub HoldsDigits : Source → List ℕ → ℕ → ℕ → Type 0
HoldsDigits own p i d = Unit {0}
HoldsDigits (other x) p i d = get_or p i 0 + 2 ^ 32 ≡ d

-- every place those of its power
abbrev pub DigitsIn : Base → Source → List ℕ → Type 0
DigitsIn base s p = (i : ℕ) → i < length p → HoldsDigits s p i (fixed_digits base (at (source_of s p) i))

-- the list with one of them more
abbrev pub kept_at : Source → List ℕ → ℕ → ℕ → List ℕ
kept_at own p i q = p
kept_at (other x) p i q = set p i q

-- p became q, which holds them; the list that is weighed is the same
pub record Kept (base : Base) (s : Source) (p q : List ℕ) : Type 0 where
  pub same : length q ≡ length p
  pub source : source_of s q ≡ source_of s p
  pub digits : DigitsIn base s q

-- the promise, of the list that is weighed
abbrev pub Weighs : Base → Source → List ℕ → ℕ → List Float → Type 0
Weighs base s p = Softmax base (source_of s p) (length p)

-- a factor r of 31 digits, and c no larger than the exponents
pub record Scaling (r c : ℕ) : Type 0 where
  pub least : 2 ^ 30 ≤ r
  pub most : r < 2 ^ 31
  pub high : c ≤ 218

-- the sum of all powers
abbrev pub power_sum : Base → List Float → ℕ
power_sum base xs = sum (power_at base xs) (length xs)

-- a power t is scaled to t r 2 ^ (75 - c) units: at most 2 ^ 149 of them, or 1
abbrev pub AtMostOne : ℕ → ℕ → ℕ → Type 0
AtMostOne t r c = t * r ≤ 2 ^ 74 * 2 ^ c
