-- `trim_nodes` meets its contract: what marking notes is what trimming asks, and no pass meets a node of no kind.
use mathlib.Core.Path.{sym, ◌∙◌}
use native.Mathlib.Omega.{arith}
use Rattle.sets.proofs.Booleans.{clash}
use Rattle.trim.proofs.Root.{at_rest, root_trimmable, root_named, root_room, root_ends}
use Rattle.trim.proofs.trim_nodes.Goals as goal

pub trim_at-part-requires : goal.trim_at-part-requires
trim_at-part-requires c =
    root_trimmable (at_rest c.requires.loaded c.requires.lent c.settle.ensures c.in_ok-found.was) c.mark_at-marked.ensures

pub returns-then-is_refused-2 : goal.returns-then-is_refused-2
returns-then-is_refused-2 c =
    absurd (clash (sym c.is_refused-2.ensures ∙ c.if-is_refused-2.true) (root_named (at_rest c.requires.loaded c.requires.lent c.settle.ensures c.in_ok-found.was) c.trim_at-part.ensures))

pub fill-requires : goal.fill-requires
fill-requires c =
    root_room (at_rest c.requires.loaded c.requires.lent c.settle.ensures c.in_ok-found.was) c.trim_at-part.ensures

pub returns : goal.returns
returns c =
    root_ends (at_rest c.requires.loaded c.requires.lent c.settle.ensures c.in_ok-found.was) c.trim_at-part.ensures (omega arith) c.fill.ensures
