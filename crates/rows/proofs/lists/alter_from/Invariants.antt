use Rattle.rows.proofs.Filling.{Passing}
use Rattle.rows.proofs.lists.alter_from.Given as goal

abbrev pub invariant-loop-i : goal.invariant-loop-i
invariant-loop-i g l = Passing l.initial.area (g.C.Change.changed l.change) l.from l.area l.n l.i
