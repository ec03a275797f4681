use Rattle.std.proofs.Common.{◌++◌, drop}
use Rattle.esterel.specs.inner.Rows.{each_row}
use Rattle.rows.specs.inner.Area.{all_rows, rows}
use Rattle.rows.proofs.Filling.{Filling}
use Rattle.rows.proofs.lists.add.Given as goal

abbrev pub invariant-loop-row : goal.invariant-loop-row
invariant-loop-row g l =
    Filling l.area l.count (each_row (all_rows (drop l.row-index l.list)) (g.C.Change.changed l.change)) (each_row (all_rows l.list) (g.C.Change.changed l.change) ++ rows l.initial.area l.n)
