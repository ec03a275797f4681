-- By cases of what read answers.
use mathlib.Core.Path.{◌≡◌, sym, ap, ◌∙◌}
use lib.ListN.{length}
use Rattle.table.specs.Outcomes.{number_of, cell_after}
use Rattle.text.specs.Answers.{answer_outcome, read_of}
use Rattle.deskheron.proofs.deskheron_read_text.Goals as goal

pub returns-in-Ok : goal.returns-in-Ok
unfolding number_of cell_after
returns-in-Ok c =
    let e : read_of c.args.text.now (length c.args.out.now) ≡ _ = sym c.read.ensures.0 ∙ ap answer_outcome c.in-Ok.is in
    record { value = rw e; out_after = c.read.ensures.1; bytes_after = rw e }

pub returns-in-Err : goal.returns-in-Err
unfolding number_of cell_after
returns-in-Err c =
    let e : read_of c.args.text.now (length c.args.out.now) ≡ _ = sym c.read.ensures.0 ∙ ap answer_outcome c.in-Err.is in
    record { value = c.into.ensures ∙ sym (ap number_of e); out_after = c.read.ensures.1; bytes_after = rw e }
