use Rattle.std.proofs.Common.{arith, ◌≡◌, ◌∙◌, sym, ap, subst, ℕ, ◌+◌, ◌≤◌, ◌∷◌, [], ◌++◌, append_assoc, length, take}
use Rattle.std.proofs.lemmas.List.{length-take}
use Rattle.std.proofs.BufReadLemmas.{Consumes_shown}
use Rattle.std.proofs.KnownBytes.{Consumes-nil}
use Rattle.std.specs.Io.BufRead.{FillKeeps}
use Rattle.std.specs.Io.KnownBytes.{Consumes}
use Rattle.ear.proofs.Lines.{before_newline, without_newline, consumed_more, newline_within, through_newline}
use Rattle.ear.proofs.read_line.Goals as goal

pub loop-input-init : goal.loop-input-init
loop-input-init g c =
    rw c.clear.ensures (record {
      most = omega arith;
      one = λ k d below. absurd (omega arith);
      given = Consumes-nil (g.R.Read.remaining c.args.input.now);
    })

pub returns-in-Some-clause-one : goal.returns-in-Some-clause-one
returns-in-Some-clause-one g c =
    before_newline c.loop-input.line _ c.append.new.self c.in-Some.end c.loop-input.invariant.one
    (sym c.newline.ensures ∙ c.in-Some.is) (c.append.ensures.whole (omega (arith, length-take {A = ℕ})))

pub returns-in-Some-clause-ended : goal.returns-in-Some-clause-ended
returns-in-Some-clause-ended g c = λ _.
    let shown = c.in-Ok.bytes.now in
    let n = c.min-n.result in
    let end = c.in-Some.end in
    let bound : n ≤ length shown = omega (arith, c.min-n.ensures) in
    let through = through_newline shown n end bound (sym c.newline.ensures ∙ c.in-Some.is) in
    let within : end + 1 ≤ length shown = newline_within shown n end bound (sym c.newline.ensures ∙ c.in-Some.is) in
    let rested = c.fill_buf.follows.lender-at-none in
    let filled = subst (FillKeeps _ (g.R.Read.remaining rested) (g.R.BufRead.consumable_len rested)) c.in-Ok.is
    c.fill_buf.follows.holds-at-none in
    let moved = Consumes_shown _ _ _ _ shown (end + 1) within c.in-Ok.ensures.front c.in-Ok.ensures.end filled.0 filled.1
    c.consume.ensures.bytes in
    let part = subst (Consumes _ _) through moved.0 in
    let is : c.append.new.self ++ 10 ∷ [] ≡ c.loop-input.line ++ (take end (take n shown) ++ 10 ∷ []) =
    ap (λ l. l ++ 10 ∷ []) (c.append.ensures.whole (omega (arith, length-take {A = ℕ})))
    ∙ append_assoc c.loop-input.line (take end (take n shown)) (10 ∷ []) in
    consumed_more _ _ _ c.loop-input.line _ _ c.loop-input.invariant.given part is

pub loop-input-preserved : goal.loop-input-preserved
loop-input-preserved g c =
    let shown = c.in-Ok.bytes.now in
    let n = c.min-n.result in
    let bound : n ≤ length shown = omega (arith, c.min-n.ensures) in
    let whole : c.append-in-None.new.self ≡ c.loop-input.line ++ take n shown =
    c.append-in-None.ensures.whole (omega (arith, length-take {A = ℕ})) in
    let rested = c.fill_buf.follows.lender-at-none in
    let filled = subst (FillKeeps _ (g.R.Read.remaining rested) (g.R.BufRead.consumable_len rested)) c.in-Ok.is
    c.fill_buf.follows.holds-at-none in
    let moved = Consumes_shown _ _ _ _ shown n bound c.in-Ok.ensures.front c.in-Ok.ensures.end filled.0 filled.1
    c.consume-in-None.ensures.bytes in
    let most : length c.append-in-None.new.self ≤ 65536 =
    rw c.append-in-None.ensures.cut (omega (arith, length-take {A = ℕ})) in
    record {
      most = most;
      one = without_newline c.loop-input.line _ c.append-in-None.new.self c.loop-input.invariant.one
          (sym c.newline.ensures ∙ c.in-None.is) whole;
      given = consumed_more _ _ _ c.loop-input.line _ _ c.loop-input.invariant.given moved.0 whole;
    }
