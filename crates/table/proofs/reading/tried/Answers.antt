-- `table::reading::tried` meets its contract.
use borrow.Author.Tests.{eq-eqb, ne_eqb}
use Rattle.table.proofs.reading.tried.Goals as goal

pub returns-then-kind-eq-TRY : goal.returns-then-kind-eq-TRY
returns-then-kind-eq-TRY c = rw (eq-eqb _ _ c.if-kind-eq-TRY.true)

pub returns-else-kind-eq-TRY : goal.returns-else-kind-eq-TRY
returns-else-kind-eq-TRY c = rw (ne_eqb _ _ c.if-kind-eq-TRY.false)
