-- Some row's code is 0.
use Rattle.std.proofs.Common.{◌∙◌, rules, tests, eqb}
use Rattle.std.proofs.lemmas.Iterator.{YieldsList-from_slice}
use Rattle.std.proofs.lemmas.Iterator.Search.{any_from_yields_List}
use Rattle.rows.specs.inner.Layout.{unpacked}
use Rattle.rows.proofs.Changes.{any_ends}
use Rattle.rows.proofs.lists.some_ends.Goals as goal

pub returns : goal.returns
returns c =
    any_from_yields_List (λ r. eqb (unpacked r).reacts.code 0) _ _ c.any.result c.any.ensures.ran (YieldsList-from_slice c.args.list.now cc)
    (λ x b q k. search (rules, tests)) ∙ any_ends c.args.list.now
