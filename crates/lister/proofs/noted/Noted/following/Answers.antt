-- By the test.
use Rattle.rows.proofs.Merges.{made_as}
use Rattle.rows.specs.inner.Rules.{going_row}
use Rattle.lister.specs.inner.Notes.{part_at}
use Rattle.lister.proofs.Joins.{changed}
use Rattle.lister.proofs.Starts.{following_once, following_again}
use Rattle.lister.proofs.noted.Noted.following.Goals as goal

pub returns-then-again : goal.returns-then-again
returns-then-again c =
    made_as _ _ (following_again c.args.signals.now (part_at c.args.self.now.nodes c.args.at) c.if-again.true) _
    (changed going_row _ _ _ _ _ _ c.altered.auto.area c.start_at-started.ensures c.altered.ensures)

pub returns : goal.returns
returns c = made_as _ _ (following_once c.args.signals.now (part_at c.args.self.now.nodes c.args.at) c.if-again.false) _ c.start_at-started.ensures
