-- The place is found; where the row is not there yet, what stands above it moves up.
use Rattle.rows.proofs.Puts.{put_new}
use Rattle.rows.proofs.lists.put.Goals as goal

pub returns : goal.returns
returns c =
    put_new c.args.area.now c.args.n c.in-Err.place c.args.row c.requires c.in-Err.ensures _ c.copy_within.ensures.after c.copy_within.ensures.len
    c.if-end-eq-MOST.false
