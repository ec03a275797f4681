-- `reader::moves::Reader::bracket` meets its contract: what is open innermost is a `]`, or the machine fails too.
use Rattle.reader.proofs.Moving.{but_bracket, bracket_bottom, bracket_refused, bracket_closed}
use Rattle.reader.proofs.moves.Reader.bracket.Goals as goal

pub returns-in_err-frame : goal.returns-in_err-frame
returns-in_err-frame c = rw c.from_residual.ensures (bracket_bottom _ _ c.in_err-frame.ensures)

pub returns-in_default : goal.returns-in_default
returns-in_default c = bracket_refused _ _ _ _ c.in_ok-frame.ensures.1 (but_bracket _ c.in_default.not-Bracket)

pub returns : goal.returns
returns c = bracket_closed _ _ _ _ c.in_ok-frame.ensures.1 c.in-Bracket.is c.closed.ensures
