-- `reader::parsing::parse` meets its contract: the loop takes parts from the end, and what is left before them is still the text; where all was read the verdict is that of the machine.
use mathlib.Core.Path.{sym, ap, ◌∙◌}
use native.Mathlib.Omega.{arith}
use borrow.Author.Tests.{eqb-true}
use Rattle.std.specs.Prelude.{Err}
use Rattle.std.proofs.lemmas.Result.{err_from_is_err_and}
use Rattle.table.specs.declared.Refusal.{Refusal}
use Rattle.reader.proofs.Loops.{unbegun, begun_whole, parsing_none, found_as, stopped, taken, parsing_more, parsing_done}
use Rattle.reader.proofs.parsing.parse.Goals as goal

pub returns-in_err-rest : goal.returns-in_err-rest
returns-in_err-rest c =
    let e = err_from_is_err_and c.from_residual.result c.from_residual.ensures.1 in
    let stop = unbegun _ c.of.result _ c.of.ensures c.in_err-rest.ensures.value in
    found_as _ _ stop.0 (e.1 ∙ ap (λ (z : Refusal). Err z) (e.2 ∙ stop.1))

pub loop-rest-init : goal.loop-rest-init
loop-rest-init c = parsing_none _ _ _ (begun_whole _ c.of.result _ c.of.ensures c.in_ok-rest.ensures.value) (omega arith) (omega arith)

pub returns-in_err-before : goal.returns-in_err-before
returns-in_err-before c =
    let e = err_from_is_err_and c.from_residual-in_err-before.result c.from_residual-in_err-before.ensures.1 in
    let stop = stopped c.loop-rest.invariant c.take.result c.take.new.room _ c.take.ensures c.in_err-before.ensures.value in
    found_as _ _ stop.0 (e.1 ∙ ap (λ (z : Refusal). Err z) (e.2 ∙ stop.1))

pub loop-rest-preserved : goal.loop-rest-preserved
loop-rest-preserved c =
    parsing_more c.loop-rest.invariant (taken c.loop-rest.invariant c.take.result c.take.new.room c.in_ok-before.before c.in_ok-before.next c.take.ensures c.in_ok-before.ensures.value) c.skip-rest.ensures

pub returns : goal.returns
returns c = found_as _ _ (sym (parsing_done c.loop-rest.invariant (eqb-true _ _ (sym c.is_empty.ensures ∙ c.loop-rest-test.false)))) c.finish.ensures
