-- By the kind: its words, and the digits of its operand.
use mathlib.Core.Path.{sym, ◌∙◌}
use native.Mathlib.Omega.{arith}
use Rattle.writer.proofs.Putting.{room_same, room_first, room_next, put_same, put_then}
use Rattle.writer.proofs.Words.{pause_words, gotopause_words, emit_words, exit_words, nothing_words}
use Rattle.writer.proofs.writing.put_leaf.Goals as goal

pub put_number-label-requires : goal.put_number-label-requires
put_number-label-requires c = (omega arith, room_first (pause_words _ _ c.operand_of-operand.ensures (sym c.kind_of.ensures ∙ c.in-1.is)) c.requires)

pub put-requires : goal.put-requires
put-requires c = room_next (pause_words _ _ c.operand_of-operand.ensures (sym c.kind_of.ensures ∙ c.in-1.is)) c.requires c.put_number-label.ensures

pub returns-in-1 : goal.returns-in-1
returns-in-1 c = put_then (pause_words _ _ c.operand_of-operand.ensures (sym c.kind_of.ensures ∙ c.in-1.is)) c.put_number-label.ensures c.put.ensures

pub put_numbered-requires : goal.put_numbered-requires
put_numbered-requires c = (omega arith, room_same (gotopause_words _ _ c.operand_of-operand.ensures (sym c.kind_of.ensures ∙ c.in-2.is)) c.requires)

pub returns-in-2 : goal.returns-in-2
returns-in-2 c = put_same (gotopause_words _ _ c.operand_of-operand.ensures (sym c.kind_of.ensures ∙ c.in-2.is)) c.put_numbered.ensures

pub put_numbered-requires-in-3 : goal.put_numbered-requires-in-3
put_numbered-requires-in-3 c = (omega arith, room_same (emit_words _ _ c.operand_of-operand.ensures (sym c.kind_of.ensures ∙ c.in-3.is)) c.requires)

pub returns-in-3 : goal.returns-in-3
returns-in-3 c = put_same (emit_words _ _ c.operand_of-operand.ensures (sym c.kind_of.ensures ∙ c.in-3.is)) c.put_numbered-in-3.ensures

pub put_numbered-requires-in-4 : goal.put_numbered-requires-in-4
put_numbered-requires-in-4 c = (omega arith, room_same (exit_words _ _ c.operand_of-operand.ensures (sym c.kind_of.ensures ∙ c.in-4.is)) c.requires)

pub returns-in-4 : goal.returns-in-4
returns-in-4 c = put_same (exit_words _ _ c.operand_of-operand.ensures (sym c.kind_of.ensures ∙ c.in-4.is)) c.put_numbered-in-4.ensures

pub put-requires-in_default : goal.put-requires-in_default
put-requires-in_default c = room_same (nothing_words _ _ (omega arith) (omega arith) (omega arith) (omega arith)) c.requires

pub returns-in_default : goal.returns-in_default
returns-in_default c = put_same (nothing_words _ _ (omega arith) (omega arith) (omega arith) (omega arith)) c.put-in_default.ensures
