-- By cases of what check answers.
use mathlib.Core.Path.{◌≡◌, sym, ap, ◌∙◌}
use Rattle.table.specs.Outcomes.{number_of, cell_after}
use Rattle.table.specs.Reading.{checked_outcome, check_of}
use Rattle.deskheron.proofs.deskheron_check.Goals as goal

pub returns-in-Ok : goal.returns-in-Ok
unfolding number_of cell_after
returns-in-Ok c =
    let e : check_of c.args.table.now ≡ _ = sym c.check.ensures ∙ ap checked_outcome c.in-Ok.is in
    record { value = rw e; nodes_after = rw e }

pub returns-in-Err : goal.returns-in-Err
unfolding number_of cell_after
returns-in-Err c =
    let e : check_of c.args.table.now ≡ _ = sym c.check.ensures ∙ ap checked_outcome c.in-Err.is in
    record { value = c.into.ensures ∙ sym (ap number_of e); nodes_after = rw e }
