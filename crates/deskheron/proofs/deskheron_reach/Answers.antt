-- By cases of what reach answers.
use mathlib.Core.Path.{◌≡◌, sym, ap, ◌∙◌}
use Rattle.sets.proofs.Booleans.{flag_byte}
use Rattle.table.specs.Outcomes.{number_of, cell_after}
use Rattle.reach.specs.Answers.{reached_outcome, reach_of}
use Rattle.deskheron.proofs.deskheron_reach.Goals as goal

pub returns-in-Ok : goal.returns-in-Ok
unfolding number_of cell_after
returns-in-Ok c =
    let e : reach_of c.args.table.now ≡ _ = sym c.reach.ensures ∙ ap reached_outcome c.in-Ok.is in
    record { value = rw e; start_ends_after = rw e (flag_byte c.in-Ok.found.ends); start_labels_after = rw e; reached_after = rw e; rounds_after = rw e }

pub returns-in-Err : goal.returns-in-Err
unfolding number_of cell_after
returns-in-Err c =
    let e : reach_of c.args.table.now ≡ _ = sym c.reach.ensures ∙ ap reached_outcome c.in-Err.is in
    record { value = c.into.ensures ∙ sym (ap number_of e); start_ends_after = rw e; start_labels_after = rw e; reached_after = rw e; rounds_after = rw e }
