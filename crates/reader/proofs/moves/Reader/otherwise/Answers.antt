-- `reader::moves::Reader::otherwise` meets its contract: the `end` that is open innermost has an else branch from here on, or the machine fails too.
use Rattle.reader.proofs.Moving.{but_ending, branched, otherwise_bottom, otherwise_refused}
use Rattle.reader.proofs.moves.Reader.otherwise.Goals as goal

pub returns-in_err-frame : goal.returns-in_err-frame
returns-in_err-frame c = rw c.from_residual.ensures (otherwise_bottom _ _ c.in_err-frame.ensures)

pub returns-in_default : goal.returns-in_default
returns-in_default c = otherwise_refused _ _ _ _ c.in_ok-frame.ensures.1 (but_ending _ c.in_default.not-Ending)

pub returns : goal.returns
returns c = branched _ _ _ c.in_ok-frame.frame c.due.ensures c.requires c.in_ok-frame.ensures.0 c.in_ok-frame.ensures.1 c.in-Ending.is
