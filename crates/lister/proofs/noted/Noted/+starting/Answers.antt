-- The rows of a started statement, kind by kind: the lists of the children are those that the calls left. The depth of the
-- statement falls.
use native.Mathlib.Omega.{arith}
use mathlib.Core.Path.{◌≡◌, refl, sym, ap, ◌∙◌, subst}
use mathlib.Core.List.{[], ◌∷◌, ◌++◌}
use mathlib.Core.Option.{none, some}
use Prim.Native.Nat.{ℕ, ◌+◌, ◌<◌}
use Rattle.std.proofs.Common.{Ok, Err}
use Rattle.esterel.specs.Reactions.{start as started}
use Rattle.esterel.specs.inner.Rows.{each_row}
use Rattle.esterel.specs.inner.CappedRows.{change_rows}
use Rattle.rows.specs.inner.Rules.{hide_row, given_row, going_row, caught_row, goes_on, follow_row, never, together_row, product}
use Rattle.rows.specs.inner.Area.{Standing}
use Rattle.rows.proofs.Merges.{made_as}
use Rattle.lister.specs.inner.Notes.{part_at}
use Rattle.lister.specs.inner.Joins.{room_for, present_rows, absent_rows}
use Rattle.lister.proofs.Slots.{slot_few}
use Rattle.lister.proofs.Joins.{stops, made_more, standing_as, changed, first_stops, second_stops, joined, first_stops_then, then_stays, then_goes}
use Rattle.lister.proofs.Signals.{attempted, attempt_made, attempt_none, not_tried, present_is, absent_is, start_given_up, unnamed_rows, tried_rows, passed_rows, twice_rows_here}
use Rattle.lister.proofs.Starts.{some_room, place_few, kind_few, emits_narrow, child_signal, child_present, child_else, child_sequence, child_then, child_parallel, child_beside, child_loop, child_try}
use Rattle.lister.proofs.Starts.{child_called, less_room, wide, clashless_under, rows_first, rows_second}
use Rattle.lister.proofs.Starts.{nothing_row, nothing_rows, pause_rows, gotopause_rows, emit_rows_here, exit_rows, loop_rows, try_rows, then_rows_here, else_rows, tested_rows, sequence_rows, parallel_rows}
use Rattle.lister.proofs.noted.Noted.+starting.Goals as goal
use Rattle.lister.proofs.noted.Noted.+starting.Goals.{start_signal-then-contains+else-not-gave_up, start_signal-else-contains}

pub start_at-emitted-requires : goal.start_at-emitted-requires
start_at-emitted-requires t c = (
  some_room _ (sym c.is_empty.ensures ∙ c.if-is_empty.false),
  subst (λ (z : ℕ). z < 32) (sym c.operand_of-operand.ensures)
      (emits_narrow c.args.self.now c.requires (sym c.kind_of.ensures ∙ c.in-3.is)),
)

pub start_at-start_at-requires : goal.start_at-start_at-requires
start_at-start_at-requires t c = child_called (omega (arith, c.decreases)) (child_sequence c.args.self.now c.requires (sym c.kind_of.ensures ∙ c.in-7.is))

pub start_at-returns-in_err-ended-in-7 : goal.start_at-returns-in_err-ended-in-7
start_at-returns-in_err-ended-in-7 t c =
    let e = sym c.kind_of.ensures ∙ c.in-7.is in
    stops _ _ _ c.in_err-ended-in-7.field-0.0 c.from_residual.ensures.1 (sequence_rows c.args.self.now c.requires c.args.signals.now e)
    (first_stops_then _ _ _ (rows_second c.args.self.now c.requires c.args.signals.now started) c.in_err-ended-in-7.field-0.0
    (omega (arith, less_room (child_sequence c.args.self.now c.requires e))) c.in_err-ended-in-7.ensures)

pub start_at-returns-then-not-some_ends : goal.start_at-returns-then-not-some_ends
start_at-returns-then-not-some_ends t c =
    let e = sym c.kind_of.ensures ∙ c.in-7.is in
    let m = c.in_ok-ended-in-7.ensures in
    standing_as (then_stays _ (rows_second c.args.self.now c.requires c.args.signals.now started) _ m.listed
    (sym c.some_ends.ensures ∙ c.if-not-some_ends.true) ∙ sequence_rows c.args.self.now c.requires c.args.signals.now e) m

pub start_at-bounds-self-first : goal.start_at-bounds-self-first
start_at-bounds-self-first t c = place_few c.args.self.now (child_sequence c.args.self.now c.requires (sym c.kind_of.ensures ∙ c.in-7.is)).whole

pub start_at-start_at-requires-in-7 : goal.start_at-start_at-requires-in-7
start_at-start_at-requires-in-7 t c = child_called (omega (arith, c.decreases)) (child_then c.args.self.now c.requires (sym c.kind_of.ensures ∙ c.in-7.is))

pub start_at-returns-in_err-m-in-7 : goal.start_at-returns-in_err-m-in-7
start_at-returns-in_err-m-in-7 t c =
    let e = sym c.kind_of.ensures ∙ c.in-7.is in
    let m = c.in_ok-ended-in-7.ensures in
    let v = rows_first c.args.self.now c.requires c.args.signals.now started in
    let u = rows_second c.args.self.now c.requires c.args.signals.now started in
    let is = then_goes v u _ m.listed (clashless_under c.args.signals.now (part_at c.args.self.now.nodes (c.args.at + 1)) started _ m.listed)
    (sym c.some_ends.ensures ∙ c.if-not-some_ends.false) ∙ sequence_rows c.args.self.now c.requires c.args.signals.now e in
    stops _ _ _ c.in_err-m-in-7.field-0.0 c.from_residual-in_err-m-in-7.ensures.1 is
    (second_stops _ _ _ m.fits (omega arith) (product goes_on follow_row) v u _ c.in_err-m-in-7.field-0.0 m.small (less_room (child_then c.args.self.now c.requires e)) c.in_err-m-in-7.ensures)

pub start_at-bounds-self-first-in-8 : goal.start_at-bounds-self-first-in-8
start_at-bounds-self-first-in-8 t c = place_few c.args.self.now (child_parallel c.args.self.now c.requires (sym c.kind_of.ensures ∙ c.in-8.is)).whole

pub start_at-start_at-requires-in-8 : goal.start_at-start_at-requires-in-8
start_at-start_at-requires-in-8 t c = child_called (omega (arith, c.decreases)) (child_parallel c.args.self.now c.requires (sym c.kind_of.ensures ∙ c.in-8.is))

pub start_at-returns-in_err-n-in-8 : goal.start_at-returns-in_err-n-in-8
start_at-returns-in_err-n-in-8 t c =
    let e = sym c.kind_of.ensures ∙ c.in-8.is in
    let v = rows_first c.args.self.now c.requires c.args.signals.now started in
    let u = rows_second c.args.self.now c.requires c.args.signals.now started in
    let is = parallel_rows c.args.self.now c.requires c.args.signals.now e in
    stops _ _ _ c.in_err-n-in-8.field-0.0 c.from_residual-in_err-n-in-8.ensures.1 is
    (first_stops (product never together_row) _ _ v u c.in_err-n-in-8.field-0.0 (omega (arith, less_room (child_parallel c.args.self.now c.requires e))) c.in_err-n-in-8.ensures)

pub start_at-start_at-requires-in-8-2 : goal.start_at-start_at-requires-in-8-2
start_at-start_at-requires-in-8-2 t c = child_called (omega (arith, c.decreases)) (child_beside c.args.self.now c.requires (sym c.kind_of.ensures ∙ c.in-8.is))

pub start_at-returns-in_err-m-in-8 : goal.start_at-returns-in_err-m-in-8
start_at-returns-in_err-m-in-8 t c =
    let e = sym c.kind_of.ensures ∙ c.in-8.is in
    let v = rows_first c.args.self.now c.requires c.args.signals.now started in
    let u = rows_second c.args.self.now c.requires c.args.signals.now started in
    let is = parallel_rows c.args.self.now c.requires c.args.signals.now e in
    let m = c.in_ok-n-in-8.ensures in
    stops _ _ _ c.in_err-m-in-8.field-0.0 c.from_residual-in_err-m-in-8.ensures.1 is
    (second_stops _ _ _ m.fits (omega arith) (product never together_row) v u _ c.in_err-m-in-8.field-0.0 m.small (less_room (child_beside c.args.self.now c.requires e)) c.in_err-m-in-8.ensures)

pub start_at-start_at-body-requires : goal.start_at-start_at-body-requires
start_at-start_at-body-requires t c = child_called (omega (arith, c.decreases)) (child_loop c.args.self.now c.requires (sym c.kind_of.ensures ∙ c.in-9.is))

pub start_at-start_at-body-requires-in-10 : goal.start_at-start_at-body-requires-in-10
start_at-start_at-body-requires-in-10 t c = child_called (omega (arith, c.decreases)) (child_try c.args.self.now c.requires (sym c.kind_of.ensures ∙ c.in-10.is))

pub start_at-returns-in-0 : goal.start_at-returns-in-0
start_at-returns-in-0 t c = standing_as (ap (λ r. some (r ∷ [])) nothing_row ∙ sym (nothing_rows c.args.self.now c.requires c.args.signals.now (sym c.kind_of.ensures ∙ c.in-0.is))) c.one.ensures

pub start_at-returns-in-1 : goal.start_at-returns-in-1
start_at-returns-in-1 t c =
    standing_as (ap (λ r. some (r ∷ [])) c.paused.ensures ∙ sym
    (pause_rows c.args.self.now c.requires c.args.signals.now (sym c.kind_of.ensures ∙ c.in-1.is) c.operand_of-operand.result c.operand_of-operand.ensures)) c.one-in-1.ensures

pub start_at-returns-in-2 : goal.start_at-returns-in-2
start_at-returns-in-2 t c =
    standing_as (ap (λ r. some (r ∷ [])) c.paused-in-2.ensures ∙ sym
    (gotopause_rows c.args.self.now c.requires c.args.signals.now (sym c.kind_of.ensures ∙ c.in-2.is) c.operand_of-operand.result c.operand_of-operand.ensures)) c.one-in-2.ensures

pub start_at-returns-in-3 : goal.start_at-returns-in-3
start_at-returns-in-3 t c =
    made_more _ _ (omega arith) (sym (emit_rows_here c.args.self.now c.requires c.args.signals.now (sym c.kind_of.ensures ∙ c.in-3.is) c.operand_of-operand.result c.operand_of-operand.ensures)) c.emitted.ensures

pub start_at-returns-in-4 : goal.start_at-returns-in-4
start_at-returns-in-4 t c =
    standing_as (ap (λ r. some (r ∷ [])) c.left.ensures ∙ sym
    (exit_rows c.args.self.now c.requires c.args.signals.now (sym c.kind_of.ensures ∙ c.in-4.is) c.operand_of-operand.result c.operand_of-operand.ensures)) c.one-in-4.ensures

pub start_at-returns-in_ok-m-in-7 : goal.start_at-returns-in_ok-m-in-7
start_at-returns-in_ok-m-in-7 t c =
    let e = sym c.kind_of.ensures ∙ c.in-7.is in
    let m = c.in_ok-ended-in-7.ensures in
    let v = rows_first c.args.self.now c.requires c.args.signals.now started in
    let u = rows_second c.args.self.now c.requires c.args.signals.now started in
    let is = then_goes v u _ m.listed (clashless_under c.args.signals.now (part_at c.args.self.now.nodes (c.args.at + 1)) started _ m.listed)
    (sym c.some_ends.ensures ∙ c.if-not-some_ends.false) ∙ sequence_rows c.args.self.now c.requires c.args.signals.now e in
    made_as _ _ is _ (joined _ _ _ m.fits (omega arith) (product goes_on follow_row) v u _ m c.in_ok-m-in-7.ensures _ _ (wide (child_then c.args.self.now c.requires e)) c.product.ensures)

pub start_at-returns-in_ok-m-in-8 : goal.start_at-returns-in_ok-m-in-8
start_at-returns-in_ok-m-in-8 t c =
    let e = sym c.kind_of.ensures ∙ c.in-8.is in
    let v = rows_first c.args.self.now c.requires c.args.signals.now started in
    let u = rows_second c.args.self.now c.requires c.args.signals.now started in
    let is = parallel_rows c.args.self.now c.requires c.args.signals.now e in
    let m = c.in_ok-n-in-8.ensures in
    made_as _ _ is _ (joined _ _ _ m.fits (omega arith) (product never together_row) v u _ m c.in_ok-m-in-8.ensures _ _ (wide (child_beside c.args.self.now c.requires e)) c.product-in-8.ensures)

pub start_at-returns-in-9 : goal.start_at-returns-in-9
start_at-returns-in-9 t c =
    let e = sym c.kind_of.ensures ∙ c.in-9.is in
    made_more _ _ (omega (arith, less_room (child_loop c.args.self.now c.requires e))) (loop_rows c.args.self.now c.requires c.args.signals.now e)
    (changed going_row _ _ _ _ _ _ c.altered.auto.area c.start_at-body.ensures c.altered.ensures)

pub start_at-returns-in-10 : goal.start_at-returns-in-10
start_at-returns-in-10 t c =
    let e = sym c.kind_of.ensures ∙ c.in-10.is in
    made_more _ _ (omega (arith, less_room (child_try c.args.self.now c.requires e))) (try_rows c.args.self.now c.requires c.args.signals.now started e)
    (changed caught_row _ _ _ _ _ _ c.altered-in-10.auto.area c.start_at-body-in-10.ensures c.altered-in-10.ensures)

pub start_at-returns-in-11-to-15 : goal.start_at-returns-in-11-to-15
start_at-returns-in-11-to-15 t c = absurd (omega (arith, kind_few c.args.self.now c.requires, c.kind_of.ensures))

pub start_at-returns-in_default : goal.start_at-returns-in_default
start_at-returns-in_default t c = absurd (omega (arith, kind_few c.args.self.now c.requires, c.kind_of.ensures))

-- ---- a signal statement
pub start_signal-named-requires : goal.start_signal-named-requires
start_signal-named-requires t c = (child_signal c.args.self.now c.requires.whole c.requires.kind).whole

pub start_signal-start_at-requires : goal.start_signal-start_at-requires
start_signal-start_at-requires t c = child_called (omega (arith, c.decreases)) (child_signal c.args.self.now c.requires.whole c.requires.kind)

pub start_signal-returns-then-not-named : goal.start_signal-returns-then-not-named
start_signal-returns-then-not-named t c =
    let e = c.requires.kind in
    made_more _ _ (omega (arith, less_room (child_signal c.args.self.now c.requires.whole e)))
    (unnamed_rows c.args.self.now c.requires.whole e c.args.signal c.requires.operand started c.args.signals.now
    (sym c.named.ensures ∙ c.if-not-named.true)) c.start_at.ensures

pub start_signal-start_at-once-requires : goal.start_signal-start_at-once-requires
start_signal-start_at-once-requires t c = child_called (omega (arith, c.decreases)) (child_signal c.args.self.now c.requires.whole c.requires.kind)

pub start_signal-returns-then-not-gave_up : goal.start_signal-returns-then-not-gave_up
start_signal-returns-then-not-gave_up t c =
    let e = c.requires.kind in
    let k = child_signal c.args.self.now c.requires.whole e in
    let S = c.args.signal in
    let g = c.args.signals.now in
    let x = started in
    let body = part_at c.args.self.now.nodes (c.args.at + 1) in
    let u = c.with_unknown-more.ensures in
    tried_rows c.args.self.now c.requires.whole e S c.requires.operand x g (sym c.named.ensures ∙ c.if-not-named.false) _ _ _ (sym c.gave_up.ensures ∙ c.if-not-gave_up.true)
    (made_more _ _ (omega (arith, less_room k)) refl
    (attempt_made g S body x c.with_unknown-more.result u.slotted u.assumed u.unknown (sym c.contains.ensures ∙ c.if-contains.true) c.slot_of-slot.result c.slot_of-slot.ensures _ _ _ _ _
    c.altered-tried.auto.area c.start_at-once.ensures c.altered-tried.ensures))

pub start_signal-returns-then-signals-ne0 : goal.start_signal-returns-then-signals-ne0
start_signal-returns-then-signals-ne0 t c =
    let e = c.requires.kind in
    let S = c.args.signal in
    let g = c.args.signals.now in
    let x = started in
    let body = part_at c.args.self.now.nodes (c.args.at + 1) in
    let gave : attempted g S body x ≡ none = elim c.if-contains.branch [
      | start_signal-then-contains+else-not-gave_up w ↦
          let u = w.with_unknown-more.ensures in
          attempt_none g S body x w.with_unknown-more.result u.slotted u.assumed u.unknown (sym c.contains.ensures ∙ w.if-contains.true) w.slot_of-slot.result w.slot_of-slot.ensures _ _ _ _ _
          w.altered-tried.auto.area w.start_at-once.ensures w.altered-tried.ensures (sym w.gave_up.ensures ∙ w.if-not-gave_up.false)
      | start_signal-else-contains w ↦ not_tried g S body x (sym c.contains.ensures ∙ w.if-contains.false)
    ] in
    passed_rows c.args.self.now c.requires.whole e S c.requires.operand x g (sym c.named.ensures ∙ c.if-not-named.false) gave c.if-signals-ne0.true (start_given_up body)

pub start_signal-start_twice-requires : goal.start_signal-start_twice-requires
start_signal-start_twice-requires t c = (omega (arith, c.decreases), (c.requires, c.if-signals-ne0.false))

pub start_signal-returns : goal.start_signal-returns
start_signal-returns t c =
    let e = c.requires.kind in
    let S = c.args.signal in
    let g = c.args.signals.now in
    let x = started in
    let body = part_at c.args.self.now.nodes (c.args.at + 1) in
    let gave : attempted g S body x ≡ none = elim c.if-contains.branch [
      | start_signal-then-contains+else-not-gave_up w ↦
          let u = w.with_unknown-more.ensures in
          attempt_none g S body x w.with_unknown-more.result u.slotted u.assumed u.unknown (sym c.contains.ensures ∙ w.if-contains.true) w.slot_of-slot.result w.slot_of-slot.ensures _ _ _ _ _
          w.altered-tried.auto.area w.start_at-once.ensures w.altered-tried.ensures (sym w.gave_up.ensures ∙ w.if-not-gave_up.false)
      | start_signal-else-contains w ↦ not_tried g S body x (sym c.contains.ensures ∙ w.if-contains.false)
    ] in
    made_as _ _ (twice_rows_here c.args.self.now c.requires.whole e S c.requires.operand x g (sym c.named.ensures ∙ c.if-not-named.false) gave c.if-signals-ne0.false) _ c.start_twice.ensures

-- ---- its body twice
pub start_twice-start_at-present-requires : goal.start_twice-start_at-present-requires
start_twice-start_at-present-requires t c = child_called (omega (arith, c.decreases)) (child_signal c.args.self.now c.requires.declares.whole c.requires.declares.kind)

pub start_twice-returns-in_err-n : goal.start_twice-returns-in_err-n
start_twice-returns-in_err-n t c =
    let k = child_signal c.args.self.now c.requires.declares.whole c.requires.declares.kind in
    let S = c.args.signal in
    let g = c.args.signals.now in
    let x = started in
    let body = part_at c.args.self.now.nodes (c.args.at + 1) in
    let on = c.with_present-with.ensures in
    let present = present_is g S body x c.requires.known c.with_present-with.result on.slotted on.assumed on.unknown in
    stops _ _ _ c.in_err-n.field-0.0 c.from_residual.ensures.1 refl
    (first_stops ◌++◌ _ (room_for body) _ (absent_rows g S body x) c.in_err-n.field-0.0 (omega (arith, less_room k))
    (made_as (room_for body) c.altered.new.area present (Err c.in_err-n.field-0.0) (changed (hide_row S) _ _ _ _ c.start_at-present.result (Err c.in_err-n.field-0.0) c.altered.auto.area c.start_at-present.ensures c.in_err-n.ensures)))

pub start_twice-start_at-requires : goal.start_twice-start_at-requires
start_twice-start_at-requires t c = child_called (omega (arith, c.decreases)) (child_signal c.args.self.now c.requires.declares.whole c.requires.declares.kind)

pub start_twice-returns-in_err-m : goal.start_twice-returns-in_err-m
start_twice-returns-in_err-m t c =
    let k = child_signal c.args.self.now c.requires.declares.whole c.requires.declares.kind in
    let S = c.args.signal in
    let g = c.args.signals.now in
    let x = started in
    let body = part_at c.args.self.now.nodes (c.args.at + 1) in
    let on = c.with_present-with.ensures in
    let present = present_is g S body x c.requires.known c.with_present-with.result on.slotted on.assumed on.unknown in
    let off = c.with_absent-without.ensures in
    let absent = absent_is g S body x c.requires.known c.with_absent-without.result off.slotted off.assumed off.unknown in
    let m : Standing c.altered.new.area (present_rows g S body x) c.in_ok-n.field-0 = standing_as present (changed (hide_row S) _ _ _ _ c.start_at-present.result
    (Ok c.in_ok-n.field-0) c.altered.auto.area c.start_at-present.ensures c.in_ok-n.ensures) in
    stops _ _ _ c.in_err-m.field-0.0 c.from_residual-in_err-m.ensures.1 refl
    (second_stops _ _ _ m.fits (omega arith) ◌++◌ (present_rows g S body x) (absent_rows g S body x) (room_for body) c.in_err-m.field-0.0 m.small (less_room k)
    (made_as (room_for body) c.start_at.new.area absent (Err c.in_err-m.field-0.0) c.in_err-m.ensures))

pub start_twice-returns : goal.start_twice-returns
start_twice-returns t c =
    let k = child_signal c.args.self.now c.requires.declares.whole c.requires.declares.kind in
    let S = c.args.signal in
    let g = c.args.signals.now in
    let x = started in
    let body = part_at c.args.self.now.nodes (c.args.at + 1) in
    let on = c.with_present-with.ensures in
    let present = present_is g S body x c.requires.known c.with_present-with.result on.slotted on.assumed on.unknown in
    let off = c.with_absent-without.ensures in
    let absent = absent_is g S body x c.requires.known c.with_absent-without.result off.slotted off.assumed off.unknown in
    let m : Standing c.altered.new.area (present_rows g S body x) c.in_ok-n.field-0 = standing_as present (changed (hide_row S) _ _ _ _ c.start_at-present.result
    (Ok c.in_ok-n.field-0) c.altered.auto.area c.start_at-present.ensures c.in_ok-n.ensures) in
    joined _ _ _ m.fits (omega arith) ◌++◌ (present_rows g S body x) (absent_rows g S body x) _ m (standing_as absent c.in_ok-m.ensures) _ _ (wide k) c.merge.ensures

-- ---- a present
pub start_present-bounds-self-first : goal.start_present-bounds-self-first
start_present-bounds-self-first t c = place_few c.args.self.now (child_present c.args.self.now c.requires.whole c.requires.kind).whole

pub start_present-on_slot-requires : goal.start_present-on_slot-requires
start_present-on_slot-requires t c =
    let slots = c.args.signals.now.slots in
    subst (λ (z : ℕ). z < 12) (sym c.slot_of-slot.ensures)
    (slot_few c.args.signal slots (slots.within c.args.signal (sym c.contains.ensures ∙ c.if-contains.true)))

pub start_present-off_slot-requires : goal.start_present-off_slot-requires
start_present-off_slot-requires t c =
    let slots = c.args.signals.now.slots in
    subst (λ (z : ℕ). z < 12) (sym c.slot_of-slot.ensures)
    (slot_few c.args.signal slots (slots.within c.args.signal (sym c.contains.ensures ∙ c.if-contains.true)))

pub start_present-start_at-present-requires : goal.start_present-start_at-present-requires
start_present-start_at-present-requires t c = child_called (omega (arith, c.decreases)) (child_present c.args.self.now c.requires.whole c.requires.kind)

pub start_present-returns-in_err-n : goal.start_present-returns-in_err-n
start_present-returns-in_err-n t c =
    let e = c.requires.kind in
    let k = child_present c.args.self.now c.requires.whole e in
    let v = change_rows (λ ws. each_row ws (given_row c.on_slot.result)) (rows_first c.args.self.now c.requires.whole c.args.signals.now started) in
    let u = change_rows (λ ws. each_row ws (given_row c.off_slot.result)) (rows_second c.args.self.now c.requires.whole c.args.signals.now started) in
    let is = tested_rows c.args.self.now c.requires.whole c.args.signals.now e c.args.signal c.requires.operand
    (sym c.contains.ensures ∙ c.if-contains.true) c.slot_of-slot.result c.slot_of-slot.ensures _ _ c.on_slot.ensures c.off_slot.ensures in
    stops _ _ _ c.in_err-n.field-0.0 c.from_residual.ensures.1 is
    (first_stops ◌++◌ _ (room_for (part_at c.args.self.now.nodes (c.args.at + 1))) v u c.in_err-n.field-0.0 (omega (arith, less_room k))
    (changed (given_row c.on_slot.result) _ _ _ _ c.start_at-present.result (Err c.in_err-n.field-0.0) c.altered.auto.area c.start_at-present.ensures c.in_err-n.ensures))

pub start_present-start_at-absent-requires : goal.start_present-start_at-absent-requires
start_present-start_at-absent-requires t c = child_called (omega (arith, c.decreases)) (child_else c.args.self.now c.requires.whole c.requires.kind)

pub start_present-returns-in_err-m : goal.start_present-returns-in_err-m
start_present-returns-in_err-m t c =
    let e = c.requires.kind in
    let l = child_else c.args.self.now c.requires.whole e in
    let v = change_rows (λ ws. each_row ws (given_row c.on_slot.result)) (rows_first c.args.self.now c.requires.whole c.args.signals.now started) in
    let u = change_rows (λ ws. each_row ws (given_row c.off_slot.result)) (rows_second c.args.self.now c.requires.whole c.args.signals.now started) in
    let is = tested_rows c.args.self.now c.requires.whole c.args.signals.now e c.args.signal c.requires.operand
    (sym c.contains.ensures ∙ c.if-contains.true) c.slot_of-slot.result c.slot_of-slot.ensures _ _ c.on_slot.ensures c.off_slot.ensures in
    let m : Standing c.altered.new.area v c.in_ok-n.field-0 = changed (given_row c.on_slot.result) _ _ _ _ c.start_at-present.result
    (Ok c.in_ok-n.field-0) c.altered.auto.area c.start_at-present.ensures c.in_ok-n.ensures in
    stops _ _ _ c.in_err-m.field-0.0 c.from_residual-in_err-m.ensures.1 is
    (second_stops _ _ _ m.fits (omega arith) ◌++◌ v u _ c.in_err-m.field-0.0 m.small (less_room l)
    (changed (given_row c.off_slot.result) _ _ _ _ c.start_at-absent.result (Err c.in_err-m.field-0.0) c.altered-then-contains.auto.area c.start_at-absent.ensures c.in_err-m.ensures))

pub start_present-returns-then-contains : goal.start_present-returns-then-contains
start_present-returns-then-contains t c =
    let e = c.requires.kind in
    let k = child_present c.args.self.now c.requires.whole e in
    let v = change_rows (λ ws. each_row ws (given_row c.on_slot.result)) (rows_first c.args.self.now c.requires.whole c.args.signals.now started) in
    let u = change_rows (λ ws. each_row ws (given_row c.off_slot.result)) (rows_second c.args.self.now c.requires.whole c.args.signals.now started) in
    let is = tested_rows c.args.self.now c.requires.whole c.args.signals.now e c.args.signal c.requires.operand
    (sym c.contains.ensures ∙ c.if-contains.true) c.slot_of-slot.result c.slot_of-slot.ensures _ _ c.on_slot.ensures c.off_slot.ensures in
    let m : Standing c.altered.new.area v c.in_ok-n.field-0 = changed (given_row c.on_slot.result) _ _ _ _ c.start_at-present.result
    (Ok c.in_ok-n.field-0) c.altered.auto.area c.start_at-present.ensures c.in_ok-n.ensures in
    made_as _ _ is _ (joined _ _ _ m.fits (omega arith) ◌++◌ v u _ m
    (changed (given_row c.off_slot.result) _ _ _ _ c.start_at-absent.result (Ok c.in_ok-m.field-0) c.altered-then-contains.auto.area c.start_at-absent.ensures c.in_ok-m.ensures) _ _
    (wide k) c.merge.ensures)

pub start_present-start_at-requires : goal.start_present-start_at-requires
start_present-start_at-requires t c = child_called (omega (arith, c.decreases)) (child_present c.args.self.now c.requires.whole c.requires.kind)

pub start_present-returns-then-contains-2 : goal.start_present-returns-then-contains-2
start_present-returns-then-contains-2 t c =
    let e = c.requires.kind in
    made_more _ _ (omega (arith, less_room (child_present c.args.self.now c.requires.whole e)))
    (then_rows_here c.args.self.now c.requires.whole c.args.signals.now e c.args.signal c.requires.operand (sym c.contains.ensures ∙ c.if-contains.false)
    (sym c.contains-2.ensures ∙ c.if-contains-2.true)) c.start_at.ensures

pub start_present-start_at-requires-2 : goal.start_present-start_at-requires-2
start_present-start_at-requires-2 t c = child_called (omega (arith, c.decreases)) (child_else c.args.self.now c.requires.whole c.requires.kind)

pub start_present-returns : goal.start_present-returns
start_present-returns t c =
    let e = c.requires.kind in
    made_more _ _ (omega (arith, less_room (child_else c.args.self.now c.requires.whole e)))
    (else_rows c.args.self.now c.requires.whole c.args.signals.now e c.args.signal c.requires.operand (sym c.contains.ensures ∙ c.if-contains.false)
    (sym c.contains-2.ensures ∙ c.if-contains-2.false)) c.start_at-2.ensures
