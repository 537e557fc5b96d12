use Rattle.std.proofs.Common.{rules, tests, ◌≡◌, ◌≢◌, subst, sym}
use Rattle.std.proofs.lemmas.Iterator.{first_from_find, YieldsList-from_slice}
use Rattle.std.proofs.lemmas.Iterator.Consumers.{YieldsList-at, YieldsList-from_copied}
use Rattle.ear.proofs.EachFunction.{all_functions, named}
use Rattle.ear.specs.Names.{Names, name_of}
use Rattle.ear.proofs.functions.FunctionTryFromRefSliceU8.try_from.Goals as goal

pub returns : goal.returns
returns c =
    let word = c.args.word.now in
    let listed = YieldsList-from_copied (YieldsList-at c.copied.ensures.source (YieldsList-from_slice all_functions cc)) in
    let found = first_from_find _ _ c.find.result (λ function. name_of function ≡ word) (λ function. name_of function ≢ word)
    c.find.ensures.ran listed (λ x q k. search (rules, tests)) (λ x q k. search (rules, tests)) in
    subst (Names word) (sym c.ok_or.ensures.value) (named word c.find.result _ found)
