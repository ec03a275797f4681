use Rattle.step.proofs.Scanning.{Tracked}
use Rattle.step.proofs.free.emitted_free.Given as goal

abbrev pub invariant-loop-at : goal.invariant-loop-at
invariant-loop-at l = Tracked l.noted.nodes l.noted.notes l.at l.free l.until
