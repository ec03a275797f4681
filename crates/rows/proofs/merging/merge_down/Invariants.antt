use Rattle.std.proofs.Common.{◌++◌, ◌+◌, ◌-◌, drop, length}
use Rattle.rows.specs.inner.Area.{all_rows, rows}
use Rattle.rows.proofs.Merges.{Merging}
use Rattle.rows.proofs.merging.merge_down.Given as goal

abbrev pub invariant-loop-i : goal.invariant-loop-i
invariant-loop-i l = Merging (rows l.initial.list l.kept ++ (all_rows l.firsts ++ all_rows (drop l.mid l.initial.list))) l.firsts l.list l.n l.i l.j

abbrev pub decreases-loop-i : goal.decreases-loop-i
decreases-loop-i l = length l.firsts + length l.initial.list - (l.i + l.j)
