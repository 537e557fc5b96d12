-- `powers::whole_cut` meets its contract: modulo 2 ^ 64 the product adds the steps, or takes them away. Assumes
-- nothing.
use Rattle.std.proofs.Common.{◌≡◌, ℕ, ◌+◌, ◌-◌, ◌*◌, ◌/◌, ◌%◌, ◌^◌, ◌<◌, ◌≤◌, sym, ap, ◌∙◌, le_trans, le_of_eq}
use Rattle.std.proofs.Common.{lt_of_le_of_lt, mod-eq_of_lt, mul-le-mul, one-mul, mul-add, arith, pow_pos, pow_mono}
use lib.Ieee.{binary32, to_bits}
use Rattle.fixed.proofs.Take.{no_nan}
use Rattle.powers.specs.Value.{steps_of, cut_of}
use Rattle.powers.proofs.Taken.{pattern_small, steps_whole, cut_plus, cut_minus}
use Rattle.powers.proofs.whole_cut.Goals.{Start, then-b-lt2147483648, else-b-lt2147483648}
use Rattle.powers.proofs.whole_cut.Goals as goal

-- ---- over plain numbers: m digits, a power of two u, and what they make
module _ (m u : ℕ) (few : m ≤ 16777216) (low : 1 ≤ u) (high : u ≤ 32768) where
  product : m * u ≤ 16777216 * 32768
  product = mul-le-mul few high

  added : (126 * 4294967296 + m * u) % 2 ^ 64 ≡ 126 * 2 ^ 32 + m * u
  added = omega (arith, product)

  -- n is 2 ^ 32 less u
  taken_away : 8388608 ≤ m → (p n : ℕ) → p < 4294967296 → (p + m) % 4294967296 ≡ 126 → n < 4294967296
      → (n + u) % 4294967296 ≡ 0 → m * u ≤ 126 * 2 ^ 32 → (p * 4294967296 + m * n) % 2 ^ 64 ≡ 126 * 2 ^ 32 - m * u
  taken_away first p n word e word' e' h = omega (arith, both)
    where
      rest : n + u ≡ 4294967296
      rest = omega arith

      both : m * n + m * u ≡ m * 4294967296
      both = sym (mul-add m n u) ∙ ap (λ (k : ℕ). m * k) rest

-- ---- the program's
module _ (c : Start) where
  abbrev b : ℕ
  b = to_bits binary32 c.args.x

  abbrev m : ℕ
  m = b % 8388608 + 8388608

  abbrev s : ℕ
  s = b % 2147483648 / 8388608 - 118

  small : b % 2147483648 < 134 * 8388608
  small = pattern_small c.args.x c.requires.0

  high : 2 ^ s ≤ 32768
  high = pow_mono {i = s} {j = 15} (omega (arith, small))

  unit : 1 * 2 ^ s % 4294967296 ≡ 2 ^ s
  unit = ap (λ (n : ℕ). n % 4294967296) (one-mul (2 ^ s)) ∙ mod-eq_of_lt (lt_of_le_of_lt high (omega arith))

  -- the digits at their place are the steps
  placed : m * 2 ^ s ≡ steps_of (b % 2147483648)
  placed =
      sym (steps_whole (b % 2147483648) (let l = c.requires.1 in omega arith)
      ∙ ap (λ (n : ℕ). (n + 8388608) * 2 ^ s) same)
    where
      same : b % 2147483648 % 8388608 ≡ b % 8388608
      same = omega arith

  plus : b < 2147483648 → (126 * 4294967296 + m * (1 * 2 ^ s % 4294967296)) % 2 ^ 64 ≡ cut_of c.args.x
  plus l =
      rw unit (added m (2 ^ s) (omega arith) (pow_pos s) high)
      ∙ ap (λ (n : ℕ). 126 * 2 ^ 32 + n) placed ∙ cut_plus c.args.x c.requires.0 l

  minus : 2147483648 ≤ b → (p n : ℕ) → p < 4294967296 → (p + m) % 4294967296 ≡ 126 → n < 4294967296
      → (n + 1 * 2 ^ s % 4294967296) % 4294967296 ≡ 0 → (p * 4294967296 + m * n) % 2 ^ 64 ≡ cut_of c.args.x
  minus l p n word e word' e' =
      let (room, value) = cut_minus c.args.x c.requires.0 l in
      let fits : m * 2 ^ s ≤ 126 * 2 ^ 32 = le_trans (le_of_eq placed) room in
      taken_away m (2 ^ s) (omega arith) (pow_pos s) high (omega arith) p n word e word' (rw unit at e') fits
      ∙ ap (λ (n : ℕ). 126 * 2 ^ 32 - n) placed ∙ value

pub float_to_bits-b : goal.float_to_bits-b
float_to_bits-b c = no_nan c.args.x c.requires.0.number

pub overflow_shl-u : goal.overflow_shl-u
overflow_shl-u c = omega (arith, small c)

pub returns : goal.returns
returns c =
    let v = (goal.at.returns c).Start in
    rw (c.from.ensures, c.from-2.ensures, c.from-3.ensures) (elim c.if-b-lt2147483648.branch [
      | then-b-lt2147483648 w ↦ rw w.part-is (plus v w.if-b-lt2147483648.true)
      | else-b-lt2147483648 w ↦
          let r = w.wrapping_neg in
          rw w.part-is (minus v w.if-b-lt2147483648.false _ r.result (omega arith) (omega arith) r.type_inv r.ensures)
    ])
