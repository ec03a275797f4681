-- A refusal is passed on; else the reactions of the area are delivered.
use mathlib.Core.Path.{refl, sym, ap, ◌∙◌}
use Rattle.std.proofs.lemmas.Result.{err_from_is_err_and}
use Rattle.table.specs.Reading.{table_of}
use Rattle.list.specs.Answers.{fitted, list_of}
use Rattle.list.proofs.Limits.{unready_refused, ready_limited}
use Rattle.list.proofs.Deliveries.{refused_as, delivered_as, passed_on, list_at_lem}
use Rattle.list.proofs.listed.Goals as goal

pub returns-in_err-program : goal.returns-in_err-program
unfolding list_of
returns-in_err-program g c =
    let p = err_from_is_err_and c.from_residual.result c.from_residual.ensures.1 in
    rw (p.1, p.2) (refused_as _ (passed_on _ _ _ (sym (list_at_lem (table_of c.args.table.now) c.args.assumed c.args.mark c.args.labels refl) ∙ unready_refused c.in_err-program.ensures.prepares _ _)))

pub returns-in_err-n : goal.returns-in_err-n
unfolding list_of
returns-in_err-n g c =
    let p = err_from_is_err_and c.from_residual-in_err-n.result c.from_residual-in_err-n.ensures.1 in
    rw (p.1, p.2) (refused_as _ (passed_on _ _ _ (sym (list_at_lem (table_of c.args.table.now) c.args.assumed _ _ c.from-state.ensures) ∙ ready_limited c.in_ok-program.ensures.prepares _ c.args.assumed ∙ c.in_err-n.ensures)))

pub returns : goal.returns
unfolding list_of
returns g c =
    delivered_as c.deliver.ensures
    (ap (fitted _ _ _) (sym c.in_ok-n.ensures.0 ∙ sym (ready_limited c.in_ok-program.ensures.prepares _ c.args.assumed) ∙ list_at_lem (table_of c.args.table.now) c.args.assumed _ _ c.from-state.ensures))
