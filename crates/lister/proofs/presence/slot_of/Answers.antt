-- The members below the signal are the bits below its own.
use mathlib.Core.Path.{sym, ◌∙◌}
use borrow.Author.Rules.{rules}
use Rattle.sets.proofs.Counts.{count_ones}
use Rattle.lister.proofs.Slots.{slot_count, own_there}
use Rattle.lister.proofs.presence.slot_of.Goals as goal

pub overflow_sub-below : goal.overflow_sub-below
overflow_sub-below c = own_there c.args.signal c.singleton-own.result c.requires c.singleton-own.ensures

pub returns : goal.returns
returns c = c.count.ensures ∙ sym (count_ones 64 _ (search rules)) ∙ slot_count c.args.slotted c.args.signal c.singleton-own.result c.requires c.singleton-own.ensures
