-- The invariant: what the rows from the i-th on give is still to be put in, and those rows are as they were.
use Rattle.std.proofs.Common.{arith}
use Rattle.std.proofs.lemmas.Result.{err_from_is_err_and}
use Rattle.rows.specs.inner.Layout.{unpacked}
use Rattle.rows.proofs.Filling.{filling_end, still_done, passing_skip, passing_put, passing_over}
use Rattle.rows.proofs.lists.alter_from.Goals.{in-Some+in_ok-n, in_default}
use Rattle.rows.proofs.lists.alter_from.Goals as goal

pub returns-in_err-n-clause-made : goal.returns-in_err-n-clause-made
returns-in_err-n-clause-made g c =
    let p = err_from_is_err_and c.from_residual.result c.from_residual.ensures.1 in
    rw (p.1, p.2, c.in_err-n.ensures.0)
    (passing_over c.args.area.now (g.C.Change.changed c.args.change.now) c.args.from c.loop-i.area c.loop-i.n c.loop-i.i c.loop-i.invariant
    (omega arith) (omega (arith, c.loop-i-test.true)) _ (unpacked c.in-Some.row) c.in-Some.ensures c.put.new.area c.in_err-n.field-0.0 c.put.auto.area c.in_err-n.ensures)

pub loop-i-preserved : goal.loop-i-preserved
loop-i-preserved g c =
    elim c.match-change.branch [
      | in-Some+in_ok-n w ↦
          rw (w.area-is, w.n-is)
          (passing_put c.args.area.now (g.C.Change.changed c.args.change.now) c.args.from c.loop-i.area c.loop-i.n c.loop-i.i c.loop-i.invariant
          (omega arith) (omega (arith, c.loop-i-test.true)) _ (unpacked w.in-Some.row) w.in-Some.ensures w.put.new.area w.in_ok-n.n w.put.auto.area w.in_ok-n.ensures)
      | in_default w ↦
          rw (w.area-is, w.n-is)
          (passing_skip c.args.area.now (g.C.Change.changed c.args.change.now) c.args.from c.loop-i.area c.loop-i.n c.loop-i.i c.loop-i.invariant
          (omega arith) (omega (arith, c.loop-i-test.true)) _ w.in_default.ensures)
    ]

pub returns-clause-made : goal.returns-clause-made
returns-clause-made g c =
    filling_end _ c.loop-i.invariant.filling (still_done c.args.area.now (g.C.Change.changed c.args.change.now) c.loop-i.i (omega (arith, c.loop-i-test.false)))
