-- By the test; the list above is the one that the call left.
use native.Mathlib.Omega.{arith}
use mathlib.Core.Path.{refl, sym, ◌∙◌}
use mathlib.Core.Option.{some}
use Rattle.table.proofs.Nodes.{depth_positive}
use Rattle.rows.proofs.Merges.{made_as}
use Rattle.rows.specs.inner.Rules.{goes_on, follow_row, product}
use Rattle.rows.specs.inner.Area.{Standing, rows}
use Rattle.lister.specs.inner.Notes.{part_at}
use Rattle.lister.specs.inner.Joins.{room_for, following}
use Rattle.lister.proofs.Joins.{stops, standing_as, second_stops, joined, then_stays, then_goes}
use Rattle.lister.proofs.noted.Noted.follow.Goals as goal

pub returns-then-not-some_ends : goal.returns-then-not-some_ends
returns-then-not-some_ends c =
    let f = c.requires.standing in
    let m : Standing c.args.area.now (some (rows c.args.area.now c.args.ended)) c.args.ended = record { small = f.small; fits = f.fits; listed = refl; rising = f.rising } in
    standing_as (then_stays _ _ _ refl (sym c.some_ends.ensures ∙ c.if-not-some_ends.true)) m

pub returns-in_err-m : goal.returns-in_err-m
returns-in_err-m c =
    let f = c.requires.standing in
    let v = some (rows c.args.area.now c.args.ended) in
    let u = following c.args.signals.now c.args.again (part_at c.args.self.now.nodes c.args.at) in
    stops _ _ _ c.in_err-m.field-0.0 c.from_residual.ensures.1 (then_goes v u _ refl f.free (sym c.some_ends.ensures ∙ c.if-not-some_ends.false))
    (second_stops _ _ _ f.fits (omega arith) (product goes_on follow_row) v u (room_for (part_at c.args.self.now.nodes c.args.at)) c.in_err-m.field-0.0 f.small (omega arith) c.in_err-m.ensures)

pub returns : goal.returns
returns c =
    let f = c.requires.standing in
    let v = some (rows c.args.area.now c.args.ended) in
    let u = following c.args.signals.now c.args.again (part_at c.args.self.now.nodes c.args.at) in
    let m : Standing c.args.area.now v c.args.ended = record { small = f.small; fits = f.fits; listed = refl; rising = f.rising } in
    made_as _ _ (then_goes v u _ refl f.free (sym c.some_ends.ensures ∙ c.if-not-some_ends.false)) _
    (joined _ _ _ f.fits (omega arith) (product goes_on follow_row) v u _ m c.in_ok-m.ensures _ _ (omega (arith, depth_positive (part_at c.args.self.now.nodes c.args.at))) c.product.ensures)
