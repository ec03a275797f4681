-- `reader::moves::Reader::top` meets its contract.
use native.Mathlib.Omega.{arith}
use Rattle.reader.proofs.Held.{frame_top}
use Rattle.reader.proofs.Moving.{at_60}
use Rattle.reader.proofs.moves.Reader.top.Goals as goal

pub returns-then-self-eq-DEEPEST : goal.returns-then-self-eq-DEEPEST
returns-then-self-eq-DEEPEST c = at_60 _ c.if-self-eq-DEEPEST.true c.requires.frames

pub returns : goal.returns
returns c = (omega (arith, c.requires.room), frame_top _ _ _ (omega (arith, c.requires.room, c.requires.frames)))
