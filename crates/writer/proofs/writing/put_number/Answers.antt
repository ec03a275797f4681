-- One digit, or the tens and the ones.
use Rattle.text.proofs.Decimal.{digits_one}
use Rattle.writer.proofs.Putting.{room_same, put_same}
use Rattle.writer.proofs.Words.{digits_two}
use Rattle.writer.proofs.writing.put_number.Goals as goal

pub put-requires : goal.put-requires
put-requires c = room_same (digits_one c.args.number c.if-number-lt10.true) c.requires.1

pub put-requires-else-number-lt10 : goal.put-requires-else-number-lt10
put-requires-else-number-lt10 c = room_same (digits_two c.args.number c.if-number-lt10.false c.requires.0) c.requires.1

pub returns-then-number-lt10 : goal.returns-then-number-lt10
returns-then-number-lt10 c = put_same (digits_one c.args.number c.if-number-lt10.true) c.put.ensures

pub returns-else-number-lt10 : goal.returns-else-number-lt10
returns-else-number-lt10 c = put_same (digits_two c.args.number c.if-number-lt10.false c.requires.0) c.put-else-number-lt10.ensures
