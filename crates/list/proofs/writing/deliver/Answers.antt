-- The invariant: of each buffer i places are written.
use mathlib.Core.Path.{refl, sym}
use native.Mathlib.Omega.{arith}
use Rattle.table.specs.declared.Refusal.TheVariants.{Places}
use Rattle.list.proofs.Limits.{held_length}
use Rattle.list.proofs.Deliveries.{refused_as, listed_as, short, long_enough}
use Rattle.list.proofs.Fills.{filling_none, filling_step, filling_all}
use Rattle.list.proofs.writing.deliver.Goals as goal

pub returns-then-places-rows : goal.returns-then-places-rows
returns-then-places-rows g c =
    refused_as Places (short _ _ _ _ c.places.ensures c.min.ensures c.places-2.ensures c.min-places.ensures _ refl c.if-places-rows.true)

pub loop-i-init : goal.loop-i-init
loop-i-init g c = filling_none

pub loop-i-preserved : goal.loop-i-preserved
loop-i-preserved g c =
    filling_step c.loop-i.invariant
    _ _ _ _ c.loop-i-test.true c.emitted.ensures.0 c.put.auto.buffer c.put.ensures c.code.ensures.0 c.labels.ensures c.put-in-loop-i.auto.buffer
    c.put-in-loop-i.ensures c.places.ensures c.min.ensures c.places-2.ensures (omega arith)

pub returns : goal.returns
returns g c =
    let all = filling_all c.loop-i.invariant (omega arith) in
    listed_as
    (long_enough _ _ _ _ c.places.ensures c.min.ensures c.places-2.ensures c.min-places.ensures _ refl c.if-places-rows.false)
    (sym (held_length c.args.rows.now)) all.0 all.1 all.2
