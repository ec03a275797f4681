-- The invariant: what the rows from the next on give is still to be put in.
use Rattle.std.proofs.Common.{arith, [], ◌∷◌}
use Rattle.std.proofs.lemmas.Result.{err_from_is_err_and}
use Rattle.rows.specs.inner.Layout.{unpacked}
use Rattle.rows.proofs.Filling.{filling_skip, filling_step, filling_over, filling_end, still_next, still_done}
use Rattle.rows.proofs.lists.add.Goals.{in-Some+in_ok-count, in_default}
use Rattle.rows.proofs.lists.add.Goals as goal

pub returns-in_err-count : goal.returns-in_err-count
returns-in_err-count g c =
    let p = err_from_is_err_and c.from_residual.result c.from_residual.ensures.1 in
    rw (p.1, p.2, c.in_err-count.ensures.0)
    (filling_over (unpacked c.in-Some.row ∷ []) _ _ c.loop-row.invariant
    (still_next c.args.list.now (g.C.Change.changed c.args.change.now) c.loop-row.row-index _ _ c.loop-row-test.true c.in-Some.ensures) c.in_err-count.ensures.2)

pub loop-row-preserved : goal.loop-row-preserved
loop-row-preserved g c =
    elim c.match-change.branch [
      | in-Some+in_ok-count w ↦
          rw (w.area-is, w.count-is)
          (filling_step (unpacked w.in-Some.row ∷ []) _ _ c.loop-row.invariant
          (still_next c.args.list.now (g.C.Change.changed c.args.change.now) c.loop-row.row-index _ _ c.loop-row-test.true w.in-Some.ensures) w.in_ok-count.ensures.0)
      | in_default w ↦
          rw (w.area-is, w.count-is)
          (filling_skip _ _ c.loop-row.invariant
          (still_next c.args.list.now (g.C.Change.changed c.args.change.now) c.loop-row.row-index _ _ c.loop-row-test.true w.in_default.ensures))
    ]

pub returns : goal.returns
returns g c = filling_end _ c.loop-row.invariant (still_done c.args.list.now (g.C.Change.changed c.args.change.now) c.loop-row.row-index (omega (arith, c.loop-row-test.false)))
