-- `reader::moves::Reader::body` meets its contract: what is open innermost is an `end`, or the machine fails too.
use Rattle.reader.proofs.Moving.{but_ending, closed, body_bottom, body_refused, body_closed}
use Rattle.reader.proofs.moves.Reader.body.Goals as goal

pub returns-in_err-frame : goal.returns-in_err-frame
returns-in_err-frame c = rw c.from_residual.ensures (body_bottom _ _ c.in_err-frame.ensures)

pub returns-in_default : goal.returns-in_default
returns-in_default c = body_refused _ _ _ _ c.in_ok-frame.ensures.1 (but_ending _ c.in_default.not-Ending)

pub returns : goal.returns
returns c = body_closed _ _ _ _ c.in_ok-frame.ensures.1 c.in-Ending.is (closed _ _ _ _ c.put-count.ensures c.closed.ensures)
