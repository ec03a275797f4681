-- `end`, a bracket or nothing.
use Rattle.writer.proofs.Putting.{room_same, put_same, put_none}
use Rattle.writer.proofs.Words.{end_word, closing_word, no_closing}
use Rattle.writer.proofs.writing.put_tail.Goals as goal

pub put-requires : goal.put-requires
put-requires c = room_same (end_word _ _ c.if-kind-eq-PRESENT.true) c.requires

pub returns-then-kind-eq-PRESENT : goal.returns-then-kind-eq-PRESENT
returns-then-kind-eq-PRESENT c = put_same (end_word _ _ c.if-kind-eq-PRESENT.true) c.put.ensures

pub put-requires-then-brackets : goal.put-requires-then-brackets
put-requires-then-brackets c = room_same (closing_word _ _ c.if-kind-eq-PRESENT.false c.if-brackets.true) c.requires

pub returns-then-brackets : goal.returns-then-brackets
returns-then-brackets c = put_same (closing_word _ _ c.if-kind-eq-PRESENT.false c.if-brackets.true) c.put-then-brackets.ensures

pub returns-else-brackets : goal.returns-else-brackets
returns-else-brackets c = put_none (no_closing _ _ c.if-kind-eq-PRESENT.false c.if-brackets.false) c.requires
