-- Fewer signals are unknown.
use Rattle.lister.proofs.Slots.{slotted_less}
use Rattle.lister.proofs.presence.Presence.with_absent.Goals as goal

pub invariant_of-result : goal.invariant_of-result
invariant_of-result c = record { slots = slotted_less c.args.signal c.args.self.now.slots c.without-2.ensures }
