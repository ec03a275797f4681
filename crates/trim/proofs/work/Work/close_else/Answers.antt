-- `Work::close_else` meets its contract, by the four ways that it goes.
use mathlib.Core.Path.{◌∙◌}
use native.Mathlib.Omega.{arith}
use Rattle.trim.proofs.Parts.{no_depth, some_depth, exit_node, sequence_node, try_node, else_whole, else_none, else_free, else_guarded}
use Rattle.trim.proofs.work.Work.close_else.Goals as goal

pub returns-then-started : goal.returns-then-started
returns-then-started c =
    else_whole c.if-started.true c.fill.ensures

pub returns-then-is_nothing : goal.returns-then-is_nothing
returns-then-is_nothing c =
    else_none c.if-started.false (no_depth c.is_nothing.ensures c.if-is_nothing.true)

pub returns-then-not-guarded : goal.returns-then-not-guarded
returns-then-not-guarded c =
    else_free c.if-started.false c.if-not-guarded.true

pub returns : goal.returns
returns c =
    else_guarded c.if-started.false c.if-not-guarded.false
    (some_depth c.is_nothing.ensures c.if-is_nothing.false) c.requires.room
    (rw (c.node_of.ensures ∙ exit_node 1 (omega arith) (omega arith)) at c.put.ensures) (rw (c.node_of-2.ensures ∙ sequence_node) at c.put-2.ensures) (rw (c.node_of-3.ensures ∙ try_node) at c.put-3.ensures)
