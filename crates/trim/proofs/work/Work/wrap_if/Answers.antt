-- `Work::wrap_if` meets its contract, by the flag.
use native.Mathlib.Omega.{arith}
use Rattle.trim.proofs.Parts.{wrapped_not, wrapped_put}
use Rattle.trim.proofs.work.Work.wrap_if.Goals as goal

pub returns-then-not-wrap : goal.returns-then-not-wrap
returns-then-not-wrap c =
    wrapped_not c.if-not-wrap.true

pub returns : goal.returns
returns c =
    wrapped_put c.if-not-wrap.false (omega (arith, c.requires.room, c.fill-whole.ensures.near)) c.fill-whole.ensures c.put.ensures
