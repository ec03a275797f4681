-- The rows of a resumed statement, kind by kind: the lists of the children are those that the calls left, and a statement
-- without a label of the state has none. The depth of the statement falls.
use native.Mathlib.Omega.{arith}
use mathlib.Core.Path.{◌≡◌, refl, sym, ap, ◌∙◌}
use mathlib.Core.Bool.{true}
use mathlib.Core.List.{[], ◌∷◌, ◌++◌}
use mathlib.Core.Option.{none, some}
use Prim.Native.Nat.{◌+◌}
use Rattle.std.proofs.Common.{Ok, Err}
use Rattle.esterel.specs.Reactions.{start as started, resumed}
use Rattle.esterel.specs.inner.CappedRows.{then_rows}
use Rattle.rows.specs.inner.Rules.{hide_row, caught_row, never, together_row, product}
use Rattle.rows.specs.inner.Area.{Standing}
use Rattle.rows.proofs.Merges.{made_as}
use Rattle.lister.specs.inner.Notes.{part_at}
use Rattle.lister.specs.inner.Joins.{room_for, present_rows, absent_rows, following}
use Rattle.lister.proofs.Joins.{stops, none_stops, made_more, standing_as, standing_empty, changed, first_stops, second_stops, joined, first_stops_then, then_as, front_of}
use Rattle.lister.proofs.Signals.{attempted, attempt_made, attempt_none, not_tried, present_is, absent_is, unnamed_rows, tried_rows, passed_rows, twice_rows_here}
use Rattle.lister.proofs.Starts.{second_at, place_few, kind_few, child_signal, child_present, child_else, child_sequence, child_then, child_parallel, child_beside, child_loop, child_try}
use Rattle.lister.proofs.Starts.{child_called, less_room, wide, clashless_under, rows_first, rows_second, nothing_row, try_rows}
use Rattle.lister.proofs.Resumes.{quiet_rows, meets, meets_not, signal_given_up}
use Rattle.lister.proofs.Resumes.{resumed_nothing, resumed_pause, resumed_gotopause, resumed_emit, resumed_exit, resumed_present, resumed_sequence, resumed_right, resumed_left, resumed_both, resumed_first_none, resumed_loop}
use Rattle.lister.proofs.noted.Prepared.+resuming.Goals as goal
use Rattle.lister.proofs.noted.Prepared.+resuming.Goals.{resume_signal-then-contains+else-not-gave_up, resume_signal-else-contains}

pub resume_at-returns-then-labels-pauses_of-eq0 : goal.resume_at-returns-then-labels-pauses_of-eq0
resume_at-returns-then-labels-pauses_of-eq0 t c =
    standing_empty c.args.area.now (quiet_rows c.args.signals.now (part_at c.args.self.now.noted.nodes c.args.at) c.args.labels
    (meets_not c.args.self.now c.requires c.args.labels c.pauses_of.ensures c.if-labels-pauses_of-eq0.true))

pub resume_at-bounds-noted-first : goal.resume_at-bounds-noted-first
resume_at-bounds-noted-first t c = place_few c.args.self.now.noted (child_present c.args.self.now.noted c.requires (sym c.kind_of.ensures ∙ c.in-6.is)).whole

pub resume_at-resume_at-requires : goal.resume_at-resume_at-requires
resume_at-resume_at-requires t c = child_called (omega (arith, c.decreases)) (child_present c.args.self.now.noted c.requires (sym c.kind_of.ensures ∙ c.in-6.is))

pub resume_at-returns-in_err-n-in-6 : goal.resume_at-returns-in_err-n-in-6
resume_at-returns-in_err-n-in-6 t c =
    let e = sym c.kind_of.ensures ∙ c.in-6.is in
    let k = child_present c.args.self.now.noted c.requires e in
    let v = rows_first c.args.self.now.noted c.requires c.args.signals.now (resumed c.args.labels) in
    let u = rows_second c.args.self.now.noted c.requires c.args.signals.now (resumed c.args.labels) in
    let is = resumed_present c.args.self.now.noted c.requires c.args.labels c.args.signals.now e in
    stops _ _ _ c.in_err-n-in-6.field-0.0 c.from_residual.ensures.1 is
    (first_stops ◌++◌ _ _ v u c.in_err-n-in-6.field-0.0 (omega (arith, less_room k)) c.in_err-n-in-6.ensures)

pub resume_at-resume_at-requires-in-6 : goal.resume_at-resume_at-requires-in-6
resume_at-resume_at-requires-in-6 t c = child_called (omega (arith, c.decreases)) (child_else c.args.self.now.noted c.requires (sym c.kind_of.ensures ∙ c.in-6.is))

pub resume_at-returns-in_err-m-in-6 : goal.resume_at-returns-in_err-m-in-6
resume_at-returns-in_err-m-in-6 t c =
    let e = sym c.kind_of.ensures ∙ c.in-6.is in
    let l = child_else c.args.self.now.noted c.requires e in
    let v = rows_first c.args.self.now.noted c.requires c.args.signals.now (resumed c.args.labels) in
    let u = rows_second c.args.self.now.noted c.requires c.args.signals.now (resumed c.args.labels) in
    let is = resumed_present c.args.self.now.noted c.requires c.args.labels c.args.signals.now e in
    let m = c.in_ok-n-in-6.ensures in
    stops _ _ _ c.in_err-m-in-6.field-0.0 c.from_residual-in_err-m-in-6.ensures.1 is
    (second_stops _ _ _ m.fits (omega arith) ◌++◌ v u _ c.in_err-m-in-6.field-0.0 m.small (less_room l) c.in_err-m-in-6.ensures)

pub resume_at-bounds-noted-first-in-7 : goal.resume_at-bounds-noted-first-in-7
resume_at-bounds-noted-first-in-7 t c = place_few c.args.self.now.noted (child_sequence c.args.self.now.noted c.requires (sym c.kind_of.ensures ∙ c.in-7.is)).whole

pub resume_at-resume_at-requires-in-7 : goal.resume_at-resume_at-requires-in-7
resume_at-resume_at-requires-in-7 t c = child_called (omega (arith, c.decreases)) (child_sequence c.args.self.now.noted c.requires (sym c.kind_of.ensures ∙ c.in-7.is))

pub resume_at-returns-in_err-ended-in-7 : goal.resume_at-returns-in_err-ended-in-7
resume_at-returns-in_err-ended-in-7 t c =
    let e = sym c.kind_of.ensures ∙ c.in-7.is in
    let k = child_sequence c.args.self.now.noted c.requires e in
    let v = rows_first c.args.self.now.noted c.requires c.args.signals.now (resumed c.args.labels) in
    let w = rows_second c.args.self.now.noted c.requires c.args.signals.now started in
    let u = rows_second c.args.self.now.noted c.requires c.args.signals.now (resumed c.args.labels) in
    let is = resumed_sequence c.args.self.now.noted c.requires c.args.labels c.args.signals.now e in
    stops _ _ _ c.in_err-ended-in-7.field-0.0 c.from_residual-in_err-ended-in-7.ensures.1 is
    (first_stops ◌++◌ _ (room_for (part_at c.args.self.now.noted.nodes (c.args.at + 1))) (then_rows v w) u c.in_err-ended-in-7.field-0.0 (omega (arith, less_room k))
    (first_stops_then c.resume_at-in-7.new.area (room_for (part_at c.args.self.now.noted.nodes (c.args.at + 1))) v w c.in_err-ended-in-7.field-0.0 (omega arith) c.in_err-ended-in-7.ensures))

pub resume_at-follow-requires-clause-whole : goal.resume_at-follow-requires-clause-whole
resume_at-follow-requires-clause-whole t c = (child_then c.args.self.now.noted c.requires (sym c.kind_of.ensures ∙ c.in-7.is)).whole

pub resume_at-follow-requires-clause-standing : goal.resume_at-follow-requires-clause-standing
resume_at-follow-requires-clause-standing t c = front_of (clashless_under c.args.signals.now (part_at c.args.self.now.noted.nodes (c.args.at + 1)) (resumed c.args.labels)) c.in_ok-ended-in-7.ensures

pub resume_at-returns-in_err-n-in-7 : goal.resume_at-returns-in_err-n-in-7
resume_at-returns-in_err-n-in-7 t c =
    let e = sym c.kind_of.ensures ∙ c.in-7.is in
    let l = child_then c.args.self.now.noted c.requires e in
    let v = rows_first c.args.self.now.noted c.requires c.args.signals.now (resumed c.args.labels) in
    let w = rows_second c.args.self.now.noted c.requires c.args.signals.now started in
    let u = rows_second c.args.self.now.noted c.requires c.args.signals.now (resumed c.args.labels) in
    let is = resumed_sequence c.args.self.now.noted c.requires c.args.labels c.args.signals.now e in
    let d = c.in_ok-ended-in-7.ensures in
    stops _ _ _ c.in_err-n-in-7.field-0.0 c.from_residual-in_err-n-in-7.ensures.1 is
    (first_stops ◌++◌ _ (64 + room_for (part_at c.args.self.now.noted.nodes (second_at c.args.self.now.noted c.args.at))) (then_rows v w) u c.in_err-n-in-7.field-0.0 (less_room l)
    (made_as (64 + room_for (part_at c.args.self.now.noted.nodes (second_at c.args.self.now.noted c.args.at))) c.follow.new.area (then_as w d.listed)
    (Err c.in_err-n-in-7.field-0.0) c.in_err-n-in-7.ensures))

pub resume_at-resume_at-requires-in-7-2 : goal.resume_at-resume_at-requires-in-7-2
resume_at-resume_at-requires-in-7-2 t c = child_called (omega (arith, c.decreases)) (child_then c.args.self.now.noted c.requires (sym c.kind_of.ensures ∙ c.in-7.is))

pub resume_at-returns-in_err-m-in-7 : goal.resume_at-returns-in_err-m-in-7
resume_at-returns-in_err-m-in-7 t c =
    let e = sym c.kind_of.ensures ∙ c.in-7.is in
    let l = child_then c.args.self.now.noted c.requires e in
    let v = rows_first c.args.self.now.noted c.requires c.args.signals.now (resumed c.args.labels) in
    let w = rows_second c.args.self.now.noted c.requires c.args.signals.now started in
    let u = rows_second c.args.self.now.noted c.requires c.args.signals.now (resumed c.args.labels) in
    let is = resumed_sequence c.args.self.now.noted c.requires c.args.labels c.args.signals.now e in
    let d = c.in_ok-ended-in-7.ensures in
    let m : Standing c.follow.new.area (then_rows v w) c.in_ok-n-in-7.field-0 = standing_as (then_as w d.listed) c.in_ok-n-in-7.ensures in
    stops _ _ _ c.in_err-m-in-7.field-0.0 c.from_residual-in_err-m-in-7.ensures.1 is
    (second_stops _ _ _ m.fits (omega arith) ◌++◌ (then_rows v w) u _ c.in_err-m-in-7.field-0.0 m.small (less_room l) c.in_err-m-in-7.ensures)

pub resume_at-bounds-noted-first-in-8 : goal.resume_at-bounds-noted-first-in-8
resume_at-bounds-noted-first-in-8 t c = place_few c.args.self.now.noted (child_parallel c.args.self.now.noted c.requires (sym c.kind_of.ensures ∙ c.in-8.is)).whole

pub resume_at-pauses_of-requires-in-8 : goal.resume_at-pauses_of-requires-in-8
resume_at-pauses_of-requires-in-8 t c = (child_parallel c.args.self.now.noted c.requires (sym c.kind_of.ensures ∙ c.in-8.is)).whole

pub resume_at-resume_at-requires-then-labels-pauses_of-eq0-2 : goal.resume_at-resume_at-requires-then-labels-pauses_of-eq0-2
resume_at-resume_at-requires-then-labels-pauses_of-eq0-2 t c = child_called (omega (arith, c.decreases)) (child_beside c.args.self.now.noted c.requires (sym c.kind_of.ensures ∙ c.in-8.is))

pub resume_at-returns-then-labels-pauses_of-eq0-2 : goal.resume_at-returns-then-labels-pauses_of-eq0-2
resume_at-returns-then-labels-pauses_of-eq0-2 t c =
    let e = sym c.kind_of.ensures ∙ c.in-8.is in
    made_more _ _ (omega (arith, less_room (child_beside c.args.self.now.noted c.requires e))) (resumed_right c.args.self.now.noted c.requires c.args.labels c.args.signals.now e
    (meets_not c.args.self.now (child_parallel c.args.self.now.noted c.requires e).whole c.args.labels c.pauses_of-in-8.ensures c.if-labels-pauses_of-eq0-2.true)) c.resume_at-then-labels-pauses_of-eq0-2.ensures

pub resume_at-resume_at-requires-in-8 : goal.resume_at-resume_at-requires-in-8
resume_at-resume_at-requires-in-8 t c = child_called (omega (arith, c.decreases)) (child_parallel c.args.self.now.noted c.requires (sym c.kind_of.ensures ∙ c.in-8.is))

pub resume_at-returns-in_err-alone-in-8 : goal.resume_at-returns-in_err-alone-in-8
resume_at-returns-in_err-alone-in-8 t c =
    let e = sym c.kind_of.ensures ∙ c.in-8.is in
    let k = child_parallel c.args.self.now.noted c.requires e in
    let met = meets c.args.self.now k.whole c.args.labels c.pauses_of-in-8.ensures c.if-labels-pauses_of-eq0-2.false in
    stops _ _ _ c.in_err-alone-in-8.field-0.0 c.from_residual-in_err-alone-in-8.ensures.1 refl
    (none_stops _ c.in_err-alone-in-8.field-0.0 (omega (arith, less_room k)) (resumed_first_none c.args.self.now.noted c.requires c.args.labels c.args.signals.now e met) c.in_err-alone-in-8.ensures)

pub resume_at-pauses_of-requires-in-8-2 : goal.resume_at-pauses_of-requires-in-8-2
resume_at-pauses_of-requires-in-8-2 t c = (child_beside c.args.self.now.noted c.requires (sym c.kind_of.ensures ∙ c.in-8.is)).whole

pub resume_at-returns-then-labels-pauses_of-eq0-3 : goal.resume_at-returns-then-labels-pauses_of-eq0-3
resume_at-returns-then-labels-pauses_of-eq0-3 t c =
    let e = sym c.kind_of.ensures ∙ c.in-8.is in
    let k = child_parallel c.args.self.now.noted c.requires e in
    let l = child_beside c.args.self.now.noted c.requires e in
    let met = meets c.args.self.now k.whole c.args.labels c.pauses_of-in-8.ensures c.if-labels-pauses_of-eq0-2.false in
    standing_as (resumed_left c.args.self.now.noted c.requires c.args.labels c.args.signals.now e met
    (meets_not c.args.self.now l.whole c.args.labels c.pauses_of-in-8-2.ensures c.if-labels-pauses_of-eq0-3.true)) c.in_ok-alone-in-8.ensures

pub resume_at-resume_at-requires-in-8-2 : goal.resume_at-resume_at-requires-in-8-2
resume_at-resume_at-requires-in-8-2 t c = child_called (omega (arith, c.decreases)) (child_beside c.args.self.now.noted c.requires (sym c.kind_of.ensures ∙ c.in-8.is))

pub resume_at-returns-in_err-m-in-8 : goal.resume_at-returns-in_err-m-in-8
resume_at-returns-in_err-m-in-8 t c =
    let e = sym c.kind_of.ensures ∙ c.in-8.is in
    let k = child_parallel c.args.self.now.noted c.requires e in
    let l = child_beside c.args.self.now.noted c.requires e in
    let v = rows_first c.args.self.now.noted c.requires c.args.signals.now (resumed c.args.labels) in
    let u = rows_second c.args.self.now.noted c.requires c.args.signals.now (resumed c.args.labels) in
    let met = meets c.args.self.now k.whole c.args.labels c.pauses_of-in-8.ensures c.if-labels-pauses_of-eq0-2.false in
    let is = resumed_both c.args.self.now.noted c.requires c.args.labels c.args.signals.now e met
    (meets c.args.self.now l.whole c.args.labels c.pauses_of-in-8-2.ensures c.if-labels-pauses_of-eq0-3.false) in
    let m = c.in_ok-alone-in-8.ensures in
    stops _ _ _ c.in_err-m-in-8.field-0.0 c.from_residual-in_err-m-in-8.ensures.1 is
    (second_stops _ _ _ m.fits (omega arith) (product never together_row) v u _ c.in_err-m-in-8.field-0.0 m.small (less_room l) c.in_err-m-in-8.ensures)

pub resume_at-resume_at-requires-in-9 : goal.resume_at-resume_at-requires-in-9
resume_at-resume_at-requires-in-9 t c = child_called (omega (arith, c.decreases)) (child_loop c.args.self.now.noted c.requires (sym c.kind_of.ensures ∙ c.in-9.is))

pub resume_at-returns-in_err-ended-in-9 : goal.resume_at-returns-in_err-ended-in-9
resume_at-returns-in_err-ended-in-9 t c =
    let e = sym c.kind_of.ensures ∙ c.in-9.is in
    stops _ _ _ c.in_err-ended-in-9.field-0.0 c.from_residual-in_err-ended-in-9.ensures.1 (resumed_loop c.args.self.now.noted c.requires c.args.labels c.args.signals.now e)
    (first_stops_then _ _ _ (following c.args.signals.now true (part_at c.args.self.now.noted.nodes (c.args.at + 1))) c.in_err-ended-in-9.field-0.0
    (omega (arith, less_room (child_loop c.args.self.now.noted c.requires e))) c.in_err-ended-in-9.ensures)

pub resume_at-follow-requires-in-9-clause-whole : goal.resume_at-follow-requires-in-9-clause-whole
resume_at-follow-requires-in-9-clause-whole t c = (child_loop c.args.self.now.noted c.requires (sym c.kind_of.ensures ∙ c.in-9.is)).whole

pub resume_at-follow-requires-in-9-clause-standing : goal.resume_at-follow-requires-in-9-clause-standing
resume_at-follow-requires-in-9-clause-standing t c = front_of (clashless_under c.args.signals.now (part_at c.args.self.now.noted.nodes (c.args.at + 1)) (resumed c.args.labels)) c.in_ok-ended-in-9.ensures

pub resume_at-resume_at-body-requires : goal.resume_at-resume_at-body-requires
resume_at-resume_at-body-requires t c = child_called (omega (arith, c.decreases)) (child_try c.args.self.now.noted c.requires (sym c.kind_of.ensures ∙ c.in-10.is))

pub resume_at-returns-in-0 : goal.resume_at-returns-in-0
resume_at-returns-in-0 t c = standing_empty c.args.area.now (resumed_nothing c.args.self.now.noted c.requires c.args.labels c.args.signals.now (sym c.kind_of.ensures ∙ c.in-0.is))

pub resume_at-returns-in-2 : goal.resume_at-returns-in-2
resume_at-returns-in-2 t c = standing_empty c.args.area.now (resumed_gotopause c.args.self.now.noted c.requires c.args.labels c.args.signals.now (sym c.kind_of.ensures ∙ c.in-2.is))

pub resume_at-returns-in-3 : goal.resume_at-returns-in-3
resume_at-returns-in-3 t c = standing_empty c.args.area.now (resumed_emit c.args.self.now.noted c.requires c.args.labels c.args.signals.now (sym c.kind_of.ensures ∙ c.in-3.is))

pub resume_at-returns-in-4 : goal.resume_at-returns-in-4
resume_at-returns-in-4 t c = standing_empty c.args.area.now (resumed_exit c.args.self.now.noted c.requires c.args.labels c.args.signals.now (sym c.kind_of.ensures ∙ c.in-4.is))

pub resume_at-returns-in-1 : goal.resume_at-returns-in-1
resume_at-returns-in-1 t c =
    standing_as (ap (λ r. some (r ∷ [])) nothing_row ∙ sym
    (resumed_pause c.args.self.now.noted c.requires c.args.labels c.args.signals.now (sym c.kind_of.ensures ∙ c.in-1.is) (meets c.args.self.now c.requires c.args.labels c.pauses_of.ensures c.if-labels-pauses_of-eq0.false))) c.one.ensures

pub resume_at-returns-in_ok-m-in-6 : goal.resume_at-returns-in_ok-m-in-6
resume_at-returns-in_ok-m-in-6 t c =
    let e = sym c.kind_of.ensures ∙ c.in-6.is in
    let l = child_else c.args.self.now.noted c.requires e in
    let v = rows_first c.args.self.now.noted c.requires c.args.signals.now (resumed c.args.labels) in
    let u = rows_second c.args.self.now.noted c.requires c.args.signals.now (resumed c.args.labels) in
    let is = resumed_present c.args.self.now.noted c.requires c.args.labels c.args.signals.now e in
    let m = c.in_ok-n-in-6.ensures in
    made_as _ _ is _ (joined _ _ _ m.fits (omega arith) ◌++◌ v u _ m c.in_ok-m-in-6.ensures _ _ (wide l) c.merge.ensures)

pub resume_at-returns-in_ok-m-in-7 : goal.resume_at-returns-in_ok-m-in-7
resume_at-returns-in_ok-m-in-7 t c =
    let e = sym c.kind_of.ensures ∙ c.in-7.is in
    let l = child_then c.args.self.now.noted c.requires e in
    let v = rows_first c.args.self.now.noted c.requires c.args.signals.now (resumed c.args.labels) in
    let w = rows_second c.args.self.now.noted c.requires c.args.signals.now started in
    let u = rows_second c.args.self.now.noted c.requires c.args.signals.now (resumed c.args.labels) in
    let is = resumed_sequence c.args.self.now.noted c.requires c.args.labels c.args.signals.now e in
    let d = c.in_ok-ended-in-7.ensures in
    let m : Standing c.follow.new.area (then_rows v w) c.in_ok-n-in-7.field-0 = standing_as (then_as w d.listed) c.in_ok-n-in-7.ensures in
    made_as _ _ is _ (joined _ _ _ m.fits (omega arith) ◌++◌ (then_rows v w) u _ m c.in_ok-m-in-7.ensures _ _ (wide l) c.merge-in-7.ensures)

pub resume_at-returns-in_ok-m-in-8 : goal.resume_at-returns-in_ok-m-in-8
resume_at-returns-in_ok-m-in-8 t c =
    let e = sym c.kind_of.ensures ∙ c.in-8.is in
    let k = child_parallel c.args.self.now.noted c.requires e in
    let l = child_beside c.args.self.now.noted c.requires e in
    let v = rows_first c.args.self.now.noted c.requires c.args.signals.now (resumed c.args.labels) in
    let u = rows_second c.args.self.now.noted c.requires c.args.signals.now (resumed c.args.labels) in
    let met = meets c.args.self.now k.whole c.args.labels c.pauses_of-in-8.ensures c.if-labels-pauses_of-eq0-2.false in
    let is = resumed_both c.args.self.now.noted c.requires c.args.labels c.args.signals.now e met
    (meets c.args.self.now l.whole c.args.labels c.pauses_of-in-8-2.ensures c.if-labels-pauses_of-eq0-3.false) in
    let m = c.in_ok-alone-in-8.ensures in
    made_as _ _ is _ (joined _ _ _ m.fits (omega arith) (product never together_row) v u _ m c.in_ok-m-in-8.ensures _ _ (wide l) c.product.ensures)

pub resume_at-returns-in_ok-ended-in-9 : goal.resume_at-returns-in_ok-ended-in-9
resume_at-returns-in_ok-ended-in-9 t c =
    let e = sym c.kind_of.ensures ∙ c.in-9.is in
    let d = c.in_ok-ended-in-9.ensures in
    made_more _ _ (less_room (child_loop c.args.self.now.noted c.requires e)) (then_as
    (following c.args.signals.now true (part_at c.args.self.now.noted.nodes (c.args.at + 1))) d.listed ∙ resumed_loop c.args.self.now.noted c.requires c.args.labels c.args.signals.now e) c.follow-in-9.ensures

pub resume_at-returns-in-10 : goal.resume_at-returns-in-10
resume_at-returns-in-10 t c =
    let e = sym c.kind_of.ensures ∙ c.in-10.is in
    made_more _ _ (omega (arith, less_room (child_try c.args.self.now.noted c.requires e))) (try_rows c.args.self.now.noted c.requires c.args.signals.now
    (resumed c.args.labels) e) (changed caught_row _ _ _ _ _ _ c.altered.auto.area c.resume_at-body.ensures c.altered.ensures)

pub resume_at-returns-in-11-to-15 : goal.resume_at-returns-in-11-to-15
resume_at-returns-in-11-to-15 t c = absurd (omega (arith, kind_few c.args.self.now.noted c.requires, c.kind_of.ensures))

pub resume_at-returns-in_default : goal.resume_at-returns-in_default
resume_at-returns-in_default t c = absurd (omega (arith, kind_few c.args.self.now.noted c.requires, c.kind_of.ensures))

pub resume_at-resume_signal-requires : goal.resume_at-resume_signal-requires
resume_at-resume_signal-requires t c = (
  omega (arith, c.decreases),
  (
    record { whole = c.requires; kind = sym c.kind_of.ensures ∙ c.in-5.is; operand = c.operand_of-operand.ensures },
    meets c.args.self.now c.requires c.args.labels c.pauses_of.ensures c.if-labels-pauses_of-eq0.false,
  ),
)

-- ---- a signal statement
pub resume_signal-named-requires : goal.resume_signal-named-requires
resume_signal-named-requires t c = (child_signal c.args.self.now.noted c.requires.declares.whole c.requires.declares.kind).whole

pub resume_signal-resume_at-requires : goal.resume_signal-resume_at-requires
resume_signal-resume_at-requires t c = child_called (omega (arith, c.decreases)) (child_signal c.args.self.now.noted c.requires.declares.whole c.requires.declares.kind)

pub resume_signal-returns-then-not-named : goal.resume_signal-returns-then-not-named
resume_signal-returns-then-not-named t c =
    let e = c.requires.declares.kind in
    made_more _ _ (omega (arith, less_room (child_signal c.args.self.now.noted c.requires.declares.whole e)))
    (unnamed_rows c.args.self.now.noted c.requires.declares.whole e c.args.signal c.requires.declares.operand (resumed c.args.labels) c.args.signals.now
    (sym c.named.ensures ∙ c.if-not-named.true)) c.resume_at.ensures

pub resume_signal-resume_at-once-requires : goal.resume_signal-resume_at-once-requires
resume_signal-resume_at-once-requires t c = child_called (omega (arith, c.decreases)) (child_signal c.args.self.now.noted c.requires.declares.whole c.requires.declares.kind)

pub resume_signal-returns-then-not-gave_up : goal.resume_signal-returns-then-not-gave_up
resume_signal-returns-then-not-gave_up t c =
    let e = c.requires.declares.kind in
    let k = child_signal c.args.self.now.noted c.requires.declares.whole e in
    let S = c.args.signal in
    let g = c.args.signals.now in
    let x = resumed c.args.labels in
    let body = part_at c.args.self.now.noted.nodes (c.args.at + 1) in
    let u = c.with_unknown-more.ensures in
    tried_rows c.args.self.now.noted c.requires.declares.whole e S c.requires.declares.operand x g (sym c.named.ensures ∙ c.if-not-named.false) _ _ _ (sym c.gave_up.ensures ∙ c.if-not-gave_up.true)
    (made_more _ _ (omega (arith, less_room k)) refl
    (attempt_made g S body x c.with_unknown-more.result u.slotted u.assumed u.unknown (sym c.contains.ensures ∙ c.if-contains.true) c.slot_of-slot.result c.slot_of-slot.ensures _ _ _ _ _
    c.altered-tried.auto.area c.resume_at-once.ensures c.altered-tried.ensures))

pub resume_signal-returns-then-signals-ne0 : goal.resume_signal-returns-then-signals-ne0
resume_signal-returns-then-signals-ne0 t c =
    let e = c.requires.declares.kind in
    let S = c.args.signal in
    let g = c.args.signals.now in
    let x = resumed c.args.labels in
    let body = part_at c.args.self.now.noted.nodes (c.args.at + 1) in
    let gave : attempted g S body x ≡ none = elim c.if-contains.branch [
      | resume_signal-then-contains+else-not-gave_up w ↦
          let u = w.with_unknown-more.ensures in
          attempt_none g S body x w.with_unknown-more.result u.slotted u.assumed u.unknown (sym c.contains.ensures ∙ w.if-contains.true) w.slot_of-slot.result w.slot_of-slot.ensures _ _ _ _ _
          w.altered-tried.auto.area w.resume_at-once.ensures w.altered-tried.ensures (sym w.gave_up.ensures ∙ w.if-not-gave_up.false)
      | resume_signal-else-contains w ↦ not_tried g S body x (sym c.contains.ensures ∙ w.if-contains.false)
    ] in
    passed_rows c.args.self.now.noted c.requires.declares.whole e S c.requires.declares.operand x g (sym c.named.ensures ∙ c.if-not-named.false) gave c.if-signals-ne0.true
    (signal_given_up c.args.self.now.noted c.requires.declares.whole c.args.labels e c.requires.met)

pub resume_signal-resume_twice-requires : goal.resume_signal-resume_twice-requires
resume_signal-resume_twice-requires t c = (omega (arith, c.decreases), (c.requires.declares, c.if-signals-ne0.false))

pub resume_signal-returns : goal.resume_signal-returns
resume_signal-returns t c =
    let e = c.requires.declares.kind in
    let S = c.args.signal in
    let g = c.args.signals.now in
    let x = resumed c.args.labels in
    let body = part_at c.args.self.now.noted.nodes (c.args.at + 1) in
    let gave : attempted g S body x ≡ none = elim c.if-contains.branch [
      | resume_signal-then-contains+else-not-gave_up w ↦
          let u = w.with_unknown-more.ensures in
          attempt_none g S body x w.with_unknown-more.result u.slotted u.assumed u.unknown (sym c.contains.ensures ∙ w.if-contains.true) w.slot_of-slot.result w.slot_of-slot.ensures _ _ _ _ _
          w.altered-tried.auto.area w.resume_at-once.ensures w.altered-tried.ensures (sym w.gave_up.ensures ∙ w.if-not-gave_up.false)
      | resume_signal-else-contains w ↦ not_tried g S body x (sym c.contains.ensures ∙ w.if-contains.false)
    ] in
    made_as _ _ (twice_rows_here c.args.self.now.noted c.requires.declares.whole e S c.requires.declares.operand x g (sym c.named.ensures ∙ c.if-not-named.false) gave c.if-signals-ne0.false) _ c.resume_twice.ensures

-- ---- its body twice
pub resume_twice-resume_at-present-requires : goal.resume_twice-resume_at-present-requires
resume_twice-resume_at-present-requires t c = child_called (omega (arith, c.decreases)) (child_signal c.args.self.now.noted c.requires.declares.whole c.requires.declares.kind)

pub resume_twice-returns-in_err-n : goal.resume_twice-returns-in_err-n
resume_twice-returns-in_err-n t c =
    let k = child_signal c.args.self.now.noted c.requires.declares.whole c.requires.declares.kind in
    let S = c.args.signal in
    let g = c.args.signals.now in
    let x = resumed c.args.labels in
    let body = part_at c.args.self.now.noted.nodes (c.args.at + 1) in
    let on = c.with_present-with.ensures in
    let present = present_is g S body x c.requires.known c.with_present-with.result on.slotted on.assumed on.unknown in
    stops _ _ _ c.in_err-n.field-0.0 c.from_residual.ensures.1 refl
    (first_stops ◌++◌ _ (room_for body) _ (absent_rows g S body x) c.in_err-n.field-0.0 (omega (arith, less_room k))
    (made_as (room_for body) c.altered.new.area present (Err c.in_err-n.field-0.0) (changed (hide_row S) _ _ _ _ c.resume_at-present.result (Err c.in_err-n.field-0.0) c.altered.auto.area c.resume_at-present.ensures c.in_err-n.ensures)))

pub resume_twice-resume_at-requires : goal.resume_twice-resume_at-requires
resume_twice-resume_at-requires t c = child_called (omega (arith, c.decreases)) (child_signal c.args.self.now.noted c.requires.declares.whole c.requires.declares.kind)

pub resume_twice-returns-in_err-m : goal.resume_twice-returns-in_err-m
resume_twice-returns-in_err-m t c =
    let k = child_signal c.args.self.now.noted c.requires.declares.whole c.requires.declares.kind in
    let S = c.args.signal in
    let g = c.args.signals.now in
    let x = resumed c.args.labels in
    let body = part_at c.args.self.now.noted.nodes (c.args.at + 1) in
    let on = c.with_present-with.ensures in
    let present = present_is g S body x c.requires.known c.with_present-with.result on.slotted on.assumed on.unknown in
    let off = c.with_absent-without.ensures in
    let absent = absent_is g S body x c.requires.known c.with_absent-without.result off.slotted off.assumed off.unknown in
    let m : Standing c.altered.new.area (present_rows g S body x) c.in_ok-n.field-0 = standing_as present (changed (hide_row S) _ _ _ _ c.resume_at-present.result
    (Ok c.in_ok-n.field-0) c.altered.auto.area c.resume_at-present.ensures c.in_ok-n.ensures) in
    stops _ _ _ c.in_err-m.field-0.0 c.from_residual-in_err-m.ensures.1 refl
    (second_stops _ _ _ m.fits (omega arith) ◌++◌ (present_rows g S body x) (absent_rows g S body x) (room_for body) c.in_err-m.field-0.0 m.small (less_room k)
    (made_as (room_for body) c.resume_at.new.area absent (Err c.in_err-m.field-0.0) c.in_err-m.ensures))

pub resume_twice-returns : goal.resume_twice-returns
resume_twice-returns t c =
    let k = child_signal c.args.self.now.noted c.requires.declares.whole c.requires.declares.kind in
    let S = c.args.signal in
    let g = c.args.signals.now in
    let x = resumed c.args.labels in
    let body = part_at c.args.self.now.noted.nodes (c.args.at + 1) in
    let on = c.with_present-with.ensures in
    let present = present_is g S body x c.requires.known c.with_present-with.result on.slotted on.assumed on.unknown in
    let off = c.with_absent-without.ensures in
    let absent = absent_is g S body x c.requires.known c.with_absent-without.result off.slotted off.assumed off.unknown in
    let m : Standing c.altered.new.area (present_rows g S body x) c.in_ok-n.field-0 = standing_as present (changed (hide_row S) _ _ _ _ c.resume_at-present.result
    (Ok c.in_ok-n.field-0) c.altered.auto.area c.resume_at-present.ensures c.in_ok-n.ensures) in
    joined _ _ _ m.fits (omega arith) ◌++◌ (present_rows g S body x) (absent_rows g S body x) _ m (standing_as absent c.in_ok-m.ensures) _ _ (wide k) c.merge.ensures
