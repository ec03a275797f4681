-- `reader::read_with` meets its contract: each answer goes by the verdict on the text.
use mathlib.Core.Path.{ap, ◌∙◌}
use Rattle.std.specs.Prelude.{Err}
use Rattle.std.proofs.lemmas.Result.{err_from_is_err_and}
use Rattle.table.specs.declared.Refusal.{Refusal}
use Rattle.reader.proofs.Tables.{read_refused, at_end, read_whole}
use Rattle.reader.proofs.read_with.Goals as goal

pub returns-in_err-count : goal.returns-in_err-count
returns-in_err-count c =
    let r = err_from_is_err_and c.from_residual.result c.from_residual.ensures.1 in
    read_refused c.args.text.now _ c.parse.result c.parse.ensures _ c.in_err-count.was _ (r.1 ∙ ap (λ (z : Refusal). Err z) r.2)

pub make_table-requires : goal.make_table-requires
make_table-requires c = at_end c.args.text.now _ c.parse.result c.parse.ensures c.in_ok-count.was

pub returns : goal.returns
returns c = read_whole c.args.text.now _ c.parse.result c.parse.ensures c.in_ok-count.was _ _ _ c.make_table.ensures
