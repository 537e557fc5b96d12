-- `sums::dot` meets its promise: each return is lists whose sum is finite, or lists that the tests show are refused. Assumes nothing.
use mathlib.Core.Path.{◌≡◌, sym, ap₂, ◌∙◌}
use mathlib.Core.Bool.{true≢false}
use Rattle.std.proofs.lemmas.Result.{err_from_is_err_and}
use Rattle.units.specs.declared.refusal.Refusal.TheVariants.{OutOfRange, BadLength, Overflow}
use Rattle.units.proofs.Size.{finite_real}
use Rattle.units.proofs.Answers.{ok, err}
use Rattle.sums.specs.Dot.{Lengths, dot_of}
use Rattle.sums.proofs.Lists.{finite_of, finite_back, all_finite_of, each_finite}
use Rattle.sums.proofs.DotProduct.{success, refused_lengths, refused_element, refused_overflow}
use Rattle.sums.proofs.dot.Goals.{After-in_pairs-s, else-all_finite-via-then-all_finite+else-all_finite-2, else-all_finite-via-else-all_finite}
use Rattle.sums.proofs.dot.Goals as goal

-- the lists of the pair are those that were passed
lengths : (c : After-in_pairs-s) → Lengths c.args.a.now c.args.b.now
lengths c = let (i, j) = c.in_ok-new.ensures.of in rw (i, j) at c.in_ok-new.field-0.lengths

sum : (c : After-in_pairs-s) → c.in_pairs-s.result ≡ dot_of c.args.a.now c.args.b.now
sum c = let (i, j) = c.in_ok-new.ensures.of in c.in_pairs-s.ensures ∙ ap₂ dot_of i j

-- other lengths
pub returns-in_err-new : goal.returns-in_err-new
returns-in_err-new c =
    let p = err_from_is_err_and c.from_residual.result c.from_residual.ensures.1 in
    let (bad, none) = c.in_err-new.ensures.refusal in
    rw (p.1, p.2, bad) (err {before = 0} BadLength (refused_lengths c.args.a.now c.args.b.now none))

pub float_to_bits-result : goal.float_to_bits-result
float_to_bits-result c =
    finite_real c.in_pairs-s.result (finite_of c.in_pairs-s.result (sym c.is_finite.ensures.value ∙ c.if-is_finite.true))

pub returns-then-is_finite : goal.returns-then-is_finite
returns-then-is_finite c =
    let at = (goal.at.returns-then-is_finite c).After-in_pairs-s in
    ok {before = 0} (success c.args.a.now c.args.b.now c.type_inv.a c.type_inv.b (lengths at) (sum at)
    (finite_of c.in_pairs-s.result (sym c.is_finite.ensures.value ∙ c.if-is_finite.true)))

pub returns-then-all_finite-2 : goal.returns-then-all_finite-2
returns-then-all_finite-2 c =
    let at = (goal.at.returns-then-all_finite-2 c).After-in_pairs-s in
    let a = c.args.a.now in
    let b = c.args.b.now in
    err {before = 0} Overflow (refused_overflow a b (lengths at)
    (record {
      first = all_finite_of a (c.all_finite.ensures.0 c.if-all_finite.true);
      second = all_finite_of b (c.all_finite-then-all_finite.ensures.0 c.if-all_finite-2.true);
    })
    (λ t. true≢false (sym (finite_back c.in_pairs-s.result (rw (sum at) t)) ∙ sym c.is_finite.ensures.value ∙ c.if-is_finite.false)))

pub returns-else-all_finite : goal.returns-else-all_finite
returns-else-all_finite c =
    let at = (goal.at.returns-else-all_finite c).After-in_pairs-s in
    let a = c.args.a.now in
    let b = c.args.b.now in
    err {before = 0} OutOfRange (refused_element a b (lengths at) (λ h. elim c.else-all_finite.branch [
      | else-all_finite-via-then-all_finite+else-all_finite-2 w ↦
          true≢false (sym (w.all_finite-then-all_finite.ensures.1 (each_finite b h.second)) ∙ w.if-all_finite-2.false)
      | else-all_finite-via-else-all_finite w ↦
          true≢false (sym (c.all_finite.ensures.1 (each_finite a h.first)) ∙ w.if-all_finite.false)
    ]))
