use Rattle.step.proofs.Slots.{Gathered}
use Rattle.step.proofs.looking.slots_in.Given as goal

abbrev pub invariant-loop-signal : goal.invariant-loop-signal
invariant-loop-signal l = Gathered l.slotted l.set l.signal-iterator.rest l.slots
