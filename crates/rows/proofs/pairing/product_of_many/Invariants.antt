use Rattle.rows.specs.inner.Rules.{pairs}
use Rattle.rows.specs.inner.Area.{all_rows}
use Rattle.rows.proofs.Filling.{Filling, still}
use Rattle.rows.proofs.pairing.product_of_many.Given as goal

abbrev pub invariant-loop-first : goal.invariant-loop-first
invariant-loop-first g l =
    Filling l.top l.n (still l.firsts (pairs g.P.Pairing.alone g.P.Pairing.joined (all_rows l.seconds)) l.first-index)
    (still l.firsts (pairs g.P.Pairing.alone g.P.Pairing.joined (all_rows l.seconds)) 0)
