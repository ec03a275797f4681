-- Its fields are those of the row.
use Rattle.sets.specs.Set.{◌union◌}
use Rattle.rows.specs.inner.Layout.{unpacked}
use Rattle.step.proofs.Rows.{step_given}
use Rattle.step.proofs.looking.Question.step_of.Goals as goal

pub returns : goal.returns
unfolding ◌union◌
returns c = step_given c.args.self.now.provided (unpacked c.args.row) c.emitted-emitted.ensures.0 c.code.ensures.0 c.labels.ensures
