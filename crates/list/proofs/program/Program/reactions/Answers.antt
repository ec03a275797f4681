-- By what the lister gives.
use Rattle.list.proofs.Limits.{found_listed, found_none, found_through}
use Rattle.list.proofs.Slotting.{none_slotted}
use Rattle.list.proofs.program.Program.reactions.Goals as goal

pub presence-signals-requires : goal.presence-signals-requires
presence-signals-requires c = none_slotted

pub returns-in-Ok : goal.returns-in-Ok
returns-in-Ok c =
    let signals = c.presence-signals in
    found_listed signals.result _ _ c.args.assumed signals.ensures.assumed signals.ensures.unknown _ c.in-Ok.ensures

pub returns-in-Err-Over : goal.returns-in-Err-Over
returns-in-Err-Over c =
    let signals = c.presence-signals in
    found_none signals.result _ _ c.args.assumed signals.ensures.assumed signals.ensures.unknown c.rows_in.new.area (rw c.in-Err-Over.field-0-is at c.in-Err-Over.ensures)

pub returns-in-Err : goal.returns-in-Err
returns-in-Err c =
    let signals = c.presence-signals in
    rw c.or.ensures (found_through signals.result _ _ c.args.assumed signals.ensures.assumed signals.ensures.unknown _ c.rows_through.result c.rows_through.ensures)
