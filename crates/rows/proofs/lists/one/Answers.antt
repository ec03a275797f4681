-- One row is a list in order.
use Rattle.rows.proofs.Puts.{standing_one}
use Rattle.rows.proofs.lists.one.Goals as goal

pub returns : goal.returns
returns c = standing_one c.args.area.now c.args.row c.requires
