-- By cases of what trim answers.
use mathlib.Core.Path.{◌≡◌, sym, ap, ◌∙◌}
use lib.ListN.{length}
use Rattle.table.specs.Outcomes.{number_of, cell_after}
use Rattle.trim.specs.Answers.{trimmed_outcome, trim_of}
use Rattle.deskheron.proofs.deskheron_trim.Goals as goal

pub returns-in-Ok : goal.returns-in-Ok
unfolding number_of cell_after trimmed_outcome
returns-in-Ok c =
    let e : trim_of c.args.table.now (length c.args.out.now) ≡ _ = sym c.trim.ensures.0 ∙ ap trimmed_outcome c.in-Ok.is in
    record { value = rw e; out_after = c.trim.ensures.1; nodes_after = rw e; bytes_after = rw e; thousandths_after = rw e; remainder_after = rw e }

pub returns-in-Err : goal.returns-in-Err
unfolding number_of cell_after trimmed_outcome
returns-in-Err c =
    let e : trim_of c.args.table.now (length c.args.out.now) ≡ _ = sym c.trim.ensures.0 ∙ ap trimmed_outcome c.in-Err.is in
    record { value = c.into.ensures ∙ sym (ap number_of e); out_after = c.trim.ensures.1; nodes_after = rw e; bytes_after = rw e; thousandths_after = rw e; remainder_after = rw e }
