-- `phase::joined` meets its contract: a word's last digits, moved up s places, leave room for s more, so the sum is below 2 ^ 32.
-- Assumes nothing.
use Rattle.std.proofs.Common.{◌≡◌, ℕ, ◌+◌, ◌-◌, ◌*◌, ◌/◌, ◌%◌, ◌^◌, ◌<◌, ◌≤◌, sym, ap, ◌∙◌, arith, pow_pos, pow-add, mod-eq_of_lt}
use Rattle.std.proofs.Math.Arith.{mod-mul}
use Rattle.std.proofs.Math.Nat.{mul-mod_left, mod-lt, mul-le-mul_right, div-lt_iff_lt-mul}
use Rattle.circle.proofs.phase.joined.Goals as goal

-- p = 2 ^ (32 - s) and c = 2 ^ s
below : (word tail p c : ℕ) → p * c ≡ 2 ^ 32 → 0 < p → 0 < c → tail < c → word * c % 2 ^ 32 + tail < 2 ^ 32
below word tail p c whole some any less =
    let a : ℕ = word * c / c % p in
    let cut : word * c % 2 ^ 32 ≡ a * c + word * c % c = ap (λ (n : ℕ). word * c % n) (sym whole) ∙ mod-mul (word * c) some any in
    let none : word * c % c ≡ 0 = mul-mod_left word c in
    let room : (a + 1) * c ≤ p * c = mul-le-mul_right c (omega (mod-lt (word * c / c) some, arith)) in
    omega arith

shares : (i j k : ℕ) → i + j ≡ k → 2 ^ i * 2 ^ j ≡ 2 ^ k
shares i j k e = sym (pow-add 2 i j) ∙ ap (λ (n : ℕ). 2 ^ n) e

module _ (word next s : ℕ) (few : s < 32) (fits : next < 2 ^ 32) where
  tail : next / 2 / 2 ^ (31 - s) < 2 ^ s
  tail =
      let whole : 2 ^ s * 2 ^ (31 - s) ≡ 2 ^ 31 = shares s (31 - s) 31 (omega arith) in
      (div-lt_iff_lt-mul (pow_pos (31 - s))).1 (omega arith)

  sum : word * 2 ^ s % 2 ^ 32 + next / 2 / 2 ^ (31 - s) < 2 ^ 32
  sum = below word (next / 2 / 2 ^ (31 - s)) (2 ^ (32 - s)) (2 ^ s) (shares (32 - s) s 32 (omega arith)) (pow_pos (32 - s)) (pow_pos s) tail

pub overflow_add-result : goal.overflow_add-result
overflow_add-result c = record { fits = sum c.args.word c.args.next c.args.s c.requires c.ranges.next.fits }

pub returns : goal.returns
returns c = sym (mod-eq_of_lt (sum c.args.word c.args.next c.args.s c.requires c.ranges.next.fits))
