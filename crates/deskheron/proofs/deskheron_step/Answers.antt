-- By cases of what step answers.
use mathlib.Core.Path.{◌≡◌, sym, ap, ◌∙◌}
use Rattle.std.specs.Prelude.{Ok}
use Rattle.table.specs.Outcomes.{number_of, cell_after}
use Rattle.step.specs.Answers.{stepped_values, stepped_outcome, step_of}
use Rattle.deskheron.proofs.deskheron_step.Goals as goal

pub returns-in-Ok-One : goal.returns-in-Ok-One
unfolding number_of cell_after stepped_values
returns-in-Ok-One c =
    let e : step_of c.args.table.now c.args.provided c.args.mark c.args.labels ≡ _ = sym c.step.ensures ∙ ap stepped_outcome (c.in-Ok-One.is ∙ ap Ok c.in-Ok-One.field-0-is) in
    record { value = rw e; answer_after = rw e; assumed_after = rw e; emitted_after = rw e; code_after = rw e; reached_after = rw e }

pub returns-in-Ok-None : goal.returns-in-Ok-None
unfolding number_of cell_after stepped_values
returns-in-Ok-None c =
    let e : step_of c.args.table.now c.args.provided c.args.mark c.args.labels ≡ _ = sym c.step.ensures ∙ ap stepped_outcome (c.in-Ok-None.is ∙ ap Ok c.in-Ok-None.field-0-is) in
    record { value = rw e; answer_after = rw e; assumed_after = rw e; emitted_after = rw e; code_after = rw e; reached_after = rw e }

pub returns-in-Ok-Several : goal.returns-in-Ok-Several
unfolding number_of cell_after stepped_values
returns-in-Ok-Several c =
    let e : step_of c.args.table.now c.args.provided c.args.mark c.args.labels ≡ _ = sym c.step.ensures ∙ ap stepped_outcome (c.in-Ok-Several.is ∙ ap Ok c.in-Ok-Several.field-0-is) in
    record { value = rw e; answer_after = rw e; assumed_after = rw e; emitted_after = rw e; code_after = rw e; reached_after = rw e }

pub returns-in-Err : goal.returns-in-Err
unfolding number_of cell_after
returns-in-Err c =
    let e : step_of c.args.table.now c.args.provided c.args.mark c.args.labels ≡ _ = sym c.step.ensures ∙ ap stepped_outcome c.in-Err.is in
    record { value = c.into.ensures ∙ sym (ap number_of e); answer_after = rw e; assumed_after = rw e; emitted_after = rw e; code_after = rw e; reached_after = rw e }
