-- The signal has a slot.
use Rattle.lister.proofs.Slots.{slotted_more}
use Rattle.lister.proofs.presence.Presence.with_unknown.Goals as goal

pub invariant_of-result : goal.invariant_of-result
invariant_of-result c = record { slots = slotted_more c.args.signal c.args.self.now.slots c.requires c.with.ensures }
