-- By cases of what write answers.
use mathlib.Core.Path.{◌≡◌, sym, ap, ◌∙◌}
use lib.ListN.{length}
use Rattle.table.specs.Outcomes.{number_of, cell_after}
use Rattle.text.specs.Answers.{answer_outcome, write_of}
use Rattle.deskheron.proofs.deskheron_write_text.Goals as goal

pub returns-in-Ok : goal.returns-in-Ok
unfolding number_of cell_after
returns-in-Ok c =
    let e : write_of c.args.table.now (length c.args.out.now) ≡ _ = sym c.write.ensures.0 ∙ ap answer_outcome c.in-Ok.is in
    record { value = rw e; out_after = c.write.ensures.1; bytes_after = rw e }

pub returns-in-Err : goal.returns-in-Err
unfolding number_of cell_after
returns-in-Err c =
    let e : write_of c.args.table.now (length c.args.out.now) ≡ _ = sym c.write.ensures.0 ∙ ap answer_outcome c.in-Err.is in
    record { value = c.into.ensures ∙ sym (ap number_of e); out_after = c.write.ensures.1; bytes_after = rw e }
