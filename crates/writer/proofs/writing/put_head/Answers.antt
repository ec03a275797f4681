-- By the kind: its words, and the number of its signal.
use mathlib.Core.Path.{sym, ◌∙◌}
use native.Mathlib.Omega.{arith}
use Rattle.writer.proofs.Putting.{room_same, room_first, room_next, put_same, put_then, put_none}
use Rattle.writer.proofs.Words.{signal_words, present_words, loop_words, try_words, opening_word, no_opening}
use Rattle.writer.proofs.writing.put_head.Goals as goal

pub put_numbered-signal-requires : goal.put_numbered-signal-requires
put_numbered-signal-requires c = (omega arith, room_first (signal_words _ _ c.operand_of-operand.ensures _ (sym c.kind_of.ensures ∙ c.in-5.is)) c.requires)

pub put-requires : goal.put-requires
put-requires c = room_next (signal_words _ _ c.operand_of-operand.ensures _ (sym c.kind_of.ensures ∙ c.in-5.is)) c.requires c.put_numbered-signal.ensures

pub returns-in-5 : goal.returns-in-5
returns-in-5 c = put_then (signal_words _ _ c.operand_of-operand.ensures _ (sym c.kind_of.ensures ∙ c.in-5.is)) c.put_numbered-signal.ensures c.put.ensures

pub put_numbered-signal-requires-in-6 : goal.put_numbered-signal-requires-in-6
put_numbered-signal-requires-in-6 c = (omega arith, room_first (present_words _ _ c.operand_of-operand.ensures _ (sym c.kind_of.ensures ∙ c.in-6.is)) c.requires)

pub put-requires-in-6 : goal.put-requires-in-6
put-requires-in-6 c = room_next (present_words _ _ c.operand_of-operand.ensures _ (sym c.kind_of.ensures ∙ c.in-6.is)) c.requires c.put_numbered-signal-in-6.ensures

pub returns-in-6 : goal.returns-in-6
returns-in-6 c = put_then (present_words _ _ c.operand_of-operand.ensures _ (sym c.kind_of.ensures ∙ c.in-6.is)) c.put_numbered-signal-in-6.ensures c.put-in-6.ensures

pub put-requires-in-9 : goal.put-requires-in-9
put-requires-in-9 c = room_same (loop_words _ _ _ (sym c.kind_of.ensures ∙ c.in-9.is)) c.requires

pub returns-in-9 : goal.returns-in-9
returns-in-9 c = put_same (loop_words _ _ _ (sym c.kind_of.ensures ∙ c.in-9.is)) c.put-in-9.ensures

pub put-requires-in-10 : goal.put-requires-in-10
put-requires-in-10 c = room_same (try_words _ _ _ (sym c.kind_of.ensures ∙ c.in-10.is)) c.requires

pub returns-in-10 : goal.returns-in-10
returns-in-10 c = put_same (try_words _ _ _ (sym c.kind_of.ensures ∙ c.in-10.is)) c.put-in-10.ensures

pub put-requires-in_default : goal.put-requires-in_default
put-requires-in_default c = room_same (opening_word _ _ (omega arith) (omega arith) (omega arith) (omega arith) _ c.if-brackets.true) c.requires

pub returns-in_default : goal.returns-in_default
returns-in_default c = put_same (opening_word _ _ (omega arith) (omega arith) (omega arith) (omega arith) _ c.if-brackets.true) c.put-in_default.ensures

pub returns-in_default-2 : goal.returns-in_default-2
returns-in_default-2 c = put_none (no_opening _ _ (omega arith) (omega arith) (omega arith) (omega arith) _ c.if-brackets.false) c.requires
