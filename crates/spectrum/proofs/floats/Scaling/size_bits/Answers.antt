-- `spectrum::floats::Scaling::size_bits` meets its contract: enough digits for a normal float, or few. Assumes nothing.
use mathlib.Core.Path.{◌≡◌, sym, ◌∙◌}
use Prim.Native.Nat.{ℕ, ◌%◌, ◌^◌, ◌<◌}
use native.Mathlib.Nat.{mod-eq_of_lt, lt_of_lt_of_le}
use native.Mathlib.Omega.{arith}
use lib.Pow.{pow_mono}
use Rattle.spectrum.proofs.Outputs.{at_least_17, normal, bits_normal, bits_below, bits_cut, bits_whole}
use Rattle.spectrum.proofs.Outputs.{cut_most, whole_most}
use Rattle.spectrum.proofs.floats.Scaling.size_bits.Goals as goal

pub overflow_sub-e : goal.overflow_sub-e
overflow_sub-e c = at_least_17 c.args.n c.args.self.digits c.requires c.args.self.high c.if-n-e.true

pub nearest_bits-requires : goal.nearest_bits-requires
nearest_bits-requires c = normal c.args.n c.args.self.digits c.requires c.args.self.high c.if-n-e.true

pub returns-then-n-e : goal.returns-then-n-e
returns-then-n-e c =
    let b = sym (bits_normal c.args.n c.args.self.digits c.requires c.args.self.high c.if-n-e.true) in
    let e = c.nearest_bits.ensures ∙ b in
    (e, rw e (bits_below c.args.n c.args.self.digits c.requires c.args.self.high))

pub overflow_cast-result-then-e-lt53 : goal.overflow_cast-result-then-e-lt53
overflow_cast-result-then-e-lt53 c =
    omega (arith, cut_most c.args.n c.args.self.digits c.requires c.args.self.high c.if-n-e.false c.if-e-lt53.true)

pub returns-then-e-lt53 : goal.returns-then-e-lt53
returns-then-e-lt53 c =
    let e = sym (bits_cut c.args.n c.args.self.digits c.requires c.args.self.high c.if-n-e.false c.if-e-lt53.true) in
    (e, rw e (bits_below c.args.n c.args.self.digits c.requires c.args.self.high))

-- no digit is shifted out
kept : {n : ℕ} → n < 2 ^ 23 → n % 2 ^ 64 ≡ n
kept l = mod-eq_of_lt (lt_of_lt_of_le l (pow_mono {i = 23} {j = 64} (omega arith)))

pub overflow_cast-result-3 : goal.overflow_cast-result-3
overflow_cast-result-3 c =
    let l = whole_most c.args.n c.args.self.digits c.requires c.args.self.high c.if-n-e.false c.if-e-lt53.false in
    rw (kept l) (record { fits = lt_of_lt_of_le l (pow_mono {i = 23} {j = 32} (omega arith)) })

pub returns : goal.returns
returns c =
    let l = whole_most c.args.n c.args.self.digits c.requires c.args.self.high c.if-n-e.false c.if-e-lt53.false in
    let b = bits_whole c.args.n c.args.self.digits c.requires c.args.self.high c.if-n-e.false c.if-e-lt53.false in
    let e = kept l ∙ sym b in
    (e, rw e (bits_below c.args.n c.args.self.digits c.requires c.args.self.high))
