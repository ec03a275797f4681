-- By the kind: `;`, `||` or `else`.
use native.Mathlib.Omega.{arith}
use Rattle.writer.proofs.Putting.{room_same, put_same}
use Rattle.writer.proofs.Words.{semicolon_word, bars_word, else_word}
use Rattle.writer.proofs.writing.put_between.Goals as goal

pub put-requires : goal.put-requires
put-requires c = room_same (semicolon_word _ c.in-7.is) c.requires

pub put-requires-in-8 : goal.put-requires-in-8
put-requires-in-8 c = room_same (bars_word _ c.in-8.is) c.requires

pub put-requires-in_default : goal.put-requires-in_default
put-requires-in_default c = room_same (else_word _ (omega arith) (omega arith)) c.requires

pub returns-in-7 : goal.returns-in-7
returns-in-7 c = put_same (semicolon_word _ c.in-7.is) c.put.ensures

pub returns-in-8 : goal.returns-in-8
returns-in-8 c = put_same (bars_word _ c.in-8.is) c.put-in-8.ensures

pub returns-in_default : goal.returns-in_default
returns-in_default c = put_same (else_word _ (omega arith) (omega arith)) c.put-in_default.ensures
