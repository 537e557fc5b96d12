-- `Factor::weight` meets its contract: its pattern is the one that `Rounding` speaks of. Assumes nothing.
use Rattle.std.proofs.Common.{◌≡◌, ℕ, ◌+◌, ◌-◌, ◌*◌, ◌/◌, ◌^◌, ◌<◌, inl, inr, refl, sym, ◌∙◌, arith, Fits, w32}
use borrow.Author.Tests.{lt-ltb, le-ltb}
use Rattle.units.proofs.Naturals.{le-or-lt}
use Rattle.weights.proofs.Rounding.{Placed, placed, normal, bits_more, bits_few, few_units, few_none}
use Rattle.weights.proofs.scaling.Factor.weight.Goals.{Start, After-unbounded_shr}
use Rattle.weights.proofs.scaling.Factor.weight.Goals as goal

short : {n : ℕ} → n < 2 ^ 24 → Fits w32 n
short h = omega arith

-- the product has 63 or 64 digits
product : (c : Start) → Placed ((c.args.q + 2 ^ 32) * c.args.self.r) c.args.g c.args.self.c
product c =
    let f = c.args.self in
    placed (c.args.q + 2 ^ 32) c.args.g f.r f.c (omega arith) (omega arith) f.scaling c.requires.1

pub nearest_bits-requires : goal.nearest_bits-requires
nearest_bits-requires c =
    rw (c.from.ensures, c.from-2.ensures) (normal _ _ _ (product (goal.at.nearest_bits-requires c).Start) c.if-c-e.true)

-- the shift is a division of it, by 64 places and more as well
shifted : (c : After-unbounded_shr)
    → Placed ((c.args.q + 2 ^ 32) * c.args.self.r) c.args.g c.args.self.c
    → c.unbounded_shr.result ≡ (c.args.q + 2 ^ 32) * c.args.self.r / 2 ^ (c.args.self.c + 40 - (c.args.g + 115))
shifted c p =
    let s = c.args.self.c + 40 - (c.args.g + 115) in
    c.unbounded_shr.ensures ∙ rw (c.from.ensures, c.from-2.ensures) (elim (le-or-lt 64 s) [
      | inl h ↦ rw (le-ltb s 64 h) (sym (few_none _ _ _ p c.if-c-e.false h))
      | inr h ↦ rw (lt-ltb s 64 h) refl
    ])

pub overflow_cast-result : goal.overflow_cast-result
overflow_cast-result c =
    let v = goal.at.overflow_cast-result c in
    let p = product v.Start in
    rw (shifted v.After-unbounded_shr p) (short (few_units _ _ _ p c.if-c-e.false))

pub returns-then-c-e : goal.returns-then-c-e
returns-then-c-e c =
    let p = product (goal.at.returns-then-c-e c).Start in
    c.nearest_bits.ensures ∙ rw (c.from.ensures, c.from-2.ensures) (sym (bits_more _ _ _ p c.if-c-e.true))

pub returns-else-c-e : goal.returns-else-c-e
returns-else-c-e c =
    let v = goal.at.returns-else-c-e c in
    let p = product v.Start in
    shifted v.After-unbounded_shr p ∙ sym (bits_few _ _ _ p c.if-c-e.false)
