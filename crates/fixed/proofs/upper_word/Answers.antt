-- `fixed::upper_word` meets its contract: the halves' words are that of the whole. Assumes nothing.
use mathlib.Core.Path.{◌≡◌, sym, ap, ◌∙◌}
use Prim.Native.Nat.{ℕ, ◌+◌, ◌-◌, ◌*◌, ◌/◌, ◌%◌, ◌^◌, ◌≤◌, ◌<◌}
use native.Mathlib.Nat.{mod-eq_of_lt, mul-le-mul_right, div-div-eq-div-mul}
use native.Mathlib.Omega.{arith}
use lib.Pow.{pow-add, pow_pos}
use lib.Ieee.Nearest.{div_same}
use Rattle.fixed.proofs.upper_word.Goals as goal

-- over plain numbers: S T = 2 ^ 32
module _ (n S T : ℕ) (ps : 0 < S) (pt : 0 < T) (whole : S * T ≡ 4294967296) (few : n * S < 18446744073709551616) where
  high-whole : n / 4294967296 * S < 4294967296
  high-whole = let a : n / 4294967296 * 4294967296 * S ≤ n * S = mul-le-mul_right S (omega arith) in omega arith

  low_same : n % 4294967296 / T ≡ n % 4294967296 * S / 4294967296
  low_same = div_same (n % 4294967296) T (n % 4294967296 * S) 4294967296 pt (omega arith) (turned (n % 4294967296))
    where
      turned : (l : ℕ) → l * 4294967296 ≡ l * S * T
      turned l = rw (← whole) (omega arith)

  both : n / 4294967296 * S + n % 4294967296 / T ≡ n * S / 4294967296
  both =
      rw low_same
      (through (n / 4294967296 * S) (n % 4294967296 * S) (n * S) (halves (n / 4294967296) (n % 4294967296) (omega arith)))
    where
      halves : (u l : ℕ) → n ≡ u * 4294967296 + l → n * S ≡ u * S * 4294967296 + l * S
      halves u l e = rw e (omega arith)

      through : (U L N : ℕ) → N ≡ U * 4294967296 + L → U + L / 4294967296 ≡ N / 4294967296
      through U L N e = omega arith

module _ (c : goal.Start) where
  abbrev n : ℕ
  n = c.args.n

  abbrev s : ℕ
  s = c.args.s

  -- the two shifts together are 32 places
  split : 2 ^ s * 2 ^ (32 - s) ≡ 4294967296
  split = sym (pow-add 2 s (32 - s)) ∙ ap (λ (i : ℕ). 2 ^ i) (sums s c.requires.1)
    where
      sums : (s : ℕ) → s < 32 → s + (32 - s) ≡ 32
      sums s h = omega arith

  -- a place first, and the others
  twice : n % 4294967296 / 2 / 2 ^ (31 - s) ≡ n % 4294967296 / 2 ^ (32 - s)
  twice =
      div-div-eq-div-mul (n % 4294967296) 2 (2 ^ (31 - s))
      ∙ ap (λ (i : ℕ). n % 4294967296 / i) (one_more (31 - s) ∙ ap (λ (i : ℕ). 2 ^ i) (places s c.requires.1))
    where
      one_more : (i : ℕ) → 2 * 2 ^ i ≡ 2 ^ (1 + i)
      one_more i = sym (pow-add 2 1 i)

      places : (s : ℕ) → s < 32 → 1 + (31 - s) ≡ 32 - s
      places s h = omega arith

  high : n / 4294967296 * 2 ^ s < 4294967296
  high = high-whole n (2 ^ s) (2 ^ (32 - s)) (pow_pos s) (pow_pos (32 - s)) split c.requires.0

  sum : n / 4294967296 * 2 ^ s + n % 4294967296 / 2 / 2 ^ (31 - s) ≡ n * 2 ^ s / 4294967296
  sum = rw twice (both n (2 ^ s) (2 ^ (32 - s)) (pow_pos s) (pow_pos (32 - s)) split c.requires.0)

pub overflow_add-result : goal.overflow_add-result
overflow_add-result c = rw (mod-eq_of_lt (high c), sum c) (let w = c.requires.0 in omega arith)

pub returns : goal.returns
returns c = rw (mod-eq_of_lt (high c)) (sum c)
