-- By the mark.
use Rattle.list.proofs.Findings.{mark_start, mark_resumed}
use Rattle.list.proofs.StateFromTuple2U32U64.from.Goals as goal

pub returns-then-mark-eq0 : goal.returns-then-mark-eq0
returns-then-mark-eq0 c = mark_start c.args.arg1.0 c.args.arg1.1 c.if-mark-eq0.true

pub returns-else-mark-eq0 : goal.returns-else-mark-eq0
returns-else-mark-eq0 c = mark_resumed c.args.arg1.0 c.args.arg1.1 c.if-mark-eq0.false
