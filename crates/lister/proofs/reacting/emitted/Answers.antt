-- By the tests; the word of the signal has room for a code and a condition.
use native.Mathlib.Omega.{arith}
use mathlib.Core.Path.{sym, ◌∙◌, subst}
use Prim.Native.Nat.{ℕ, ◌<◌}
use Rattle.lister.proofs.Slots.{slot_few}
use Rattle.lister.proofs.Joins.{standing_as, standing_empty}
use Rattle.lister.proofs.Starts.{signal_word, emit_none, emit_one, emit_unknown}
use Rattle.lister.proofs.reacting.emitted.Goals as goal

pub on_slot-condition-requires : goal.on_slot-condition-requires
on_slot-condition-requires c =
    let slots = c.args.signals.now.slots in
    subst (λ (z : ℕ). z < 12) (sym c.slot_of-slot.ensures) (slot_few c.args.signal slots (slots.within c.args.signal (sym c.contains.ensures ∙ c.if-contains.true)))

pub new-requires : goal.new-requires
new-requires c = (signal_word c.args.signal _ c.requires.1 c.singleton-own.ensures, omega arith)

pub returns-then-contains : goal.returns-then-contains
returns-then-contains c =
    standing_as (emit_unknown c.args.signals.now c.args.signal _ (omega (arith, c.requires.1)) c.singleton-own.ensures _ c.slot_of-slot.result _
    (sym c.contains.ensures ∙ c.if-contains.true) c.slot_of-slot.ensures c.on_slot-condition.ensures c.new.ensures) c.one.ensures

pub returns-then-not-contains : goal.returns-then-not-contains
returns-then-not-contains c =
    standing_empty c.args.area.now (emit_none c.args.signals.now c.args.signal (sym c.contains.ensures ∙ c.if-contains.false) (sym c.contains-2.ensures ∙ c.if-not-contains.true))

pub new-requires-2 : goal.new-requires-2
new-requires-2 c = (signal_word c.args.signal _ c.requires.1 c.singleton-own.ensures, omega arith)

pub returns : goal.returns
returns c =
    standing_as (emit_one c.args.signals.now c.args.signal _ (omega (arith, c.requires.1)) c.singleton-own.ensures _ _ (sym c.contains.ensures ∙ c.if-contains.false)
    (sym c.contains-2.ensures ∙ c.if-not-contains.false) c.always.ensures c.new-2.ensures) c.one-2.ensures
