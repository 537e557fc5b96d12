-- `roots::reciprocal_bits` meets its contract: its pattern is the value function's. Assumes nothing.
use Rattle.std.proofs.Common.{ℕ, ◌+◌, ◌*◌, ◌<◌, sym, subst, arith}
use Rattle.roots.specs.Value.{IsNearRecip, turned}
use Rattle.roots.proofs.ReciprocalRoot.{evened, word_least, word_most, word_evened, pattern_in, rsqrt_bits_lem}
use Rattle.roots.proofs.reciprocal_bits.Goals.{After-settle_reciprocal}
use Rattle.roots.proofs.reciprocal_bits.Goals as goal

pub settle_reciprocal-requires : goal.settle_reciprocal-requires
settle_reciprocal-requires c =
    let e = c.apart-m.result.e in
    let a = c.apart-m.ensures in
    (a.least, a.digits, word_least e, word_most e, c.reciprocal.ensures)

module _ (c : After-settle_reciprocal) where
  abbrev m : ℕ
  m = c.apart-m.result.m

  abbrev e : ℕ
  e = c.apart-m.result.e

  abbrev h : ℕ
  h = c.settle_reciprocal.result

  -- the digits that were settled
  settled : IsNearRecip (evened e) m h
  settled = subst (λ (t : ℕ). IsNearRecip t m h) (word_evened e) c.settle_reciprocal.ensures

  in_pattern : turned e * 8388608 + h < 255 * 8388608
  in_pattern = pattern_in c.args.x m e h c.requires.above c.apart-m.ensures settled

pub overflow_add-result : goal.overflow_add-result
overflow_add-result c = omega (arith, in_pattern (goal.at.overflow_add-result c).After-settle_reciprocal)

pub returns : goal.returns
returns c =
    let near = settled (goal.at.returns c).After-settle_reciprocal in
    sym (rsqrt_bits_lem c.args.x c.apart-m.result.m c.apart-m.result.e c.settle_reciprocal.result c.requires.above
    c.apart-m.ensures near)
