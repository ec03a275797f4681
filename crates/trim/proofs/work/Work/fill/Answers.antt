-- `Work::fill` meets its contract: a part is nothing exactly where its depth is 0.
use mathlib.Core.Path.{◌∙◌}
use Rattle.trim.proofs.Parts.{nothing_node, no_depth, some_depth, filled_none, filled_some}
use Rattle.trim.proofs.work.Work.fill.Goals as goal

pub returns-then-is_nothing : goal.returns-then-is_nothing
returns-then-is_nothing c =
    filled_none c.requires (no_depth c.is_nothing.ensures c.if-is_nothing.true) (rw (c.node_of.ensures ∙ nothing_node) at c.put.ensures)

pub returns : goal.returns
returns c = filled_some (some_depth c.is_nothing.ensures c.if-is_nothing.false)
