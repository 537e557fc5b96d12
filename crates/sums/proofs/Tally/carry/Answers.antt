-- `Tally::carry` meets its contract: a digit is carried while it is 1, and those are as many as block i's number ends in.
-- Assumes nothing.
use mathlib.Core.Path.{◌≡◌, sym, ap, ap₂, ◌∙◌}
use Prim.Native.Nat.{◌+◌, ◌/◌, ◌%◌, ◌^◌, ◌<◌}
use native.Mathlib.Nat.{mul-one, div-one}
use native.Mathlib.Omega.{arith}
use Rattle.std.proofs.Common.{w32}
use Rattle.std.proofs.lemmas.Nat.{shr-shr}
use Rattle.std.proofs.lemmas.Nat.Bits.{bit_at-trailing_ones}
use Rattle.sums.specs.Value.{block_of}
use Rattle.sums.proofs.Counter.{in_counter, block_at, carry_on, carry_place, carry_end}
use Rattle.sums.proofs.Tally.carry.Goals.{After-loop-l}
use Rattle.sums.proofs.Tally.carry.Goals as goal

pub loop-l-init : goal.loop-l-init
loop-l-init c =
    let p = c.args.pair in
    let behind = c.behind.ensures in
    record {
      place = omega (arith, div-one c.args.i);
      sum = c.sixty_four-s.ensures ∙ ap₂ (block_of 6) behind.first.rest behind.second.rest
          ∙ ap (block_at p.a.now p.b.now 0) (sym (mul-one (c.args.i / 1) ∙ div-one c.args.i));
    }

-- up to 2 ^ 10 blocks no carry passes the tenth digit
pub bounds-self-l : goal.bounds-self-l
bounds-self-l c =
    let l = c.loop-l in
    in_counter (c.args.i + 1) (c.args.i / 2 ^ l.l) l.l (omega arith) (omega (arith, l.invariant.place))

-- the loop ends at the lowest digit that is 0
end : (c : After-loop-l) → c.loop-l.l ≡ c.trailing_ones-places.result
end c = omega arith

low : (c : After-loop-l) → c.loop-l.l < 11
low c =
    let l = c.loop-l in
    in_counter (c.args.i + 1) (c.args.i / 2 ^ l.l) l.l (omega arith) (omega (arith, l.invariant.place))

pub bounds-self-places : goal.bounds-self-places
bounds-self-places c = let v = (goal.at.bounds-self-places c).After-loop-l in rw (end v) at (low v)

pub loop-l-preserved : goal.loop-l-preserved
loop-l-preserved c =
    let o = c.args in
    let p = o.pair in
    let l = c.loop-l in
    let h = l.invariant in
    let d = o.i / 2 ^ l.l in
    let on = c.requires.2 in
    let odd : d % 2 ≡ 1 =
    (bit_at-trailing_ones w32 o.i (omega arith)).2 l.l (omega (arith, c.trailing_ones-places.ensures)) in
    let half : d / 2 ≡ o.i / 2 ^ (l.l + 1) = shr-shr o.i l.l 1 in
    record {
      place = rw half at (carry_place p.a.now p.b.now o.i l.l d o.self.now.held on h.place h.sum odd);
      sum = rw half at (carry_on p.a.now p.b.now o.i l.l d o.self.now.held on h.place h.sum odd);
    }

pub returns : goal.returns
returns c =
    let v = (goal.at.returns c).After-loop-l in
    let o = c.args in
    let p = o.pair in
    let l = c.loop-l in
    let h = l.invariant in
    let d = o.i / 2 ^ l.l in
    let zero : d % 2 ≡ 0 =
    rw (end v, c.trailing_ones-places.ensures) (bit_at-trailing_ones w32 o.i (omega arith)).1 in
    rw (end v) at
    (carry_end p.a.now p.b.now o.i l.l d o.self.now.held c.requires.2 h.place h.sum (low v) (λ odd. omega arith))
