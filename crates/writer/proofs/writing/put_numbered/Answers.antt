-- One after the other.
use Rattle.writer.proofs.Putting.{pieces, room_first, room_next, put_both}
use Rattle.writer.proofs.writing.put_numbered.Goals as goal

pub put-behind-requires : goal.put-behind-requires
put-behind-requires c = room_first pieces c.requires.1

pub put_number-requires : goal.put_number-requires
put_number-requires c = (c.requires.0, room_next pieces c.requires.1 c.put-behind.ensures)

pub returns : goal.returns
returns c = put_both c.put-behind.ensures c.put_number.ensures
