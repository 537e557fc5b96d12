-- `loudness::channel::in_order` meets its contract: its tests are those of the sizes. Assumes nothing.
use Rattle.std.proofs.Common.{◌≡◌, Bool, false, T, sym, ◌∙◌, subst, true≢false, arith, rules, leb-false, leb-true}
use Rattle.units.specs.Tests.{Tells}
use Rattle.loudness.proofs.Sizes.{in_order, in_bits}
use Rattle.loudness.proofs.channel.in_order.Goals as goal

-- an answer of no
refuse : {Holds : Type 0} {answer : Bool} → answer ≡ false → ¬ Holds → Tells Holds answer
refuse e n = record { if_true = λ t. absurd (true≢false (sym t ∙ e)); if_false = λ t. n }

pub returns-then-l-h : goal.returns-then-l-h
returns-then-l-h c =
    let t = rw (c.bits_of-l.ensures, c.bits_of-h.ensures) at c.if-l-h.true in
    record {
      if_true = λ e. in_order _ _ (subst T (sym c.well_formed.0.1) tt) (subst T (sym c.well_formed.1.0.1) tt) t.0 t.1 t.2 (rw (c.bits_of-l.ensures, c.bits_of-h.ensures) at (leb-true _ _ e));
      if_false = λ e v. let o = leb-false _ _ e in let i = in_bits _ _ v in omega arith;
    }

pub returns-else-l-h : goal.returns-else-l-h
returns-else-l-h c = refuse (search rules) (λ v. let i = in_bits _ _ v in let e = c.if-l-h.either in omega arith)
