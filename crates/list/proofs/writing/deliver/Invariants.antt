use Rattle.list.proofs.Fills.{Filling}
use Rattle.list.proofs.writing.deliver.Given as goal

abbrev pub invariant-loop-i : goal.invariant-loop-i
invariant-loop-i g l = Filling g.O.Place.spell g.O.Place.width g.L.Place.spell g.L.Place.width l.rows l.initial.o l.o l.initial.k l.k l.initial.l l.l l.i
