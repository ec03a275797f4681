-- One list of rows, if it is tried and the area has room.
use native.Mathlib.Omega.{arith}
use Rattle.sets.proofs.Counts.{count_width}
use Rattle.step.proofs.Splits.{attempts_none, attempts_over, attempts_rows}
use Rattle.step.proofs.looking.Question.attempt.Goals as goal

pub returns-then-get-many : goal.returns-then-get-many
returns-then-get-many g c = attempts_none _ c.count-many.ensures c.if-get-many.true

pub limit_after-requires : goal.limit_after-requires
limit_after-requires g c = omega (arith, c.count-many.ensures, count_width 64 c.args.among.unknown)

pub returns-in-Ok : goal.returns-in-Ok
returns-in-Ok g c =
    let signals = c.presence-signals in
    attempts_rows signals.result _ _ _ signals.ensures.assumed signals.ensures.unknown c.in-Ok.ensures c.gather.ensures

pub returns-in-Err-Over : goal.returns-in-Err-Over
returns-in-Err-Over g c =
    let signals = c.presence-signals in
    attempts_over signals.result _ _ _ signals.ensures.assumed signals.ensures.unknown (rw c.in-Err-Over.field-0-is at c.in-Err-Over.ensures)
