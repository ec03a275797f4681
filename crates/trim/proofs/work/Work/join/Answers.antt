-- `Work::join` meets its contract, by which of the parts is nothing.
use mathlib.Core.Path.{refl}
use Rattle.sets.specs.Set.{◌union◌}
use Rattle.trim.specs.inner.Parts.{laid_at}
use Rattle.trim.proofs.Parts.{no_depth, some_depth, joined_first, joined_second, joined_put}
use Rattle.trim.proofs.work.Work.join.Goals as goal

pub returns-then-is_nothing-clause-joined : goal.returns-then-is_nothing-clause-joined
returns-then-is_nothing-clause-joined c mid =
    joined_second (no_depth c.is_nothing.ensures c.if-is_nothing.true)

pub returns-then-is_nothing-2-clause-joined : goal.returns-then-is_nothing-2-clause-joined
returns-then-is_nothing-2-clause-joined c mid =
    joined_first (no_depth c.is_nothing-2.ensures c.if-is_nothing-2.true)

pub returns-clause-joined : goal.returns-clause-joined
returns-clause-joined c mid =
    rw c.max.ensures
    (joined_put {q = laid_at mid c.args.q} c.requires.room
    (some_depth c.is_nothing.ensures c.if-is_nothing.false) (some_depth c.is_nothing-2.ensures c.if-is_nothing-2.false) c.put.ensures)

pub returns-then-is_nothing-clause-named : goal.returns-then-is_nothing-clause-named
unfolding ◌union◌
returns-then-is_nothing-clause-named c = refl

pub returns-then-is_nothing-2-clause-named : goal.returns-then-is_nothing-2-clause-named
unfolding ◌union◌
returns-then-is_nothing-2-clause-named c = refl

pub returns-clause-named : goal.returns-clause-named
unfolding ◌union◌
returns-clause-named c = refl
