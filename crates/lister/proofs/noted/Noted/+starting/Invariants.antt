-- The depth of the statement falls; functions of one kind are called at the same place, and count less.
use Prim.Native.Nat.{◌+◌, ◌*◌}
use Rattle.esterel.specs.Statement.{depth}
use Rattle.lister.specs.inner.Notes.{part_at}
use Rattle.lister.proofs.noted.Noted.+starting.Given as goal

abbrev pub decreases-start_at : goal.decreases-start_at
decreases-start_at l = 3 * depth (part_at l.self.now.nodes l.at) + 2

abbrev pub decreases-start_signal : goal.decreases-start_signal
decreases-start_signal l = 3 * depth (part_at l.self.now.nodes l.at) + 1

abbrev pub decreases-start_present : goal.decreases-start_present
decreases-start_present l = 3 * depth (part_at l.self.now.nodes l.at) + 1

abbrev pub decreases-start_twice : goal.decreases-start_twice
decreases-start_twice l = 3 * depth (part_at l.self.now.nodes l.at)
