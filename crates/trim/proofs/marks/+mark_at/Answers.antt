-- `marks::mark_at` meets its contract: each arm is a law of Marking, at the node that the decision over its kind found.
use mathlib.Core.Path.{refl, ap}
use lib.ListN.{set}
use native.Mathlib.Omega.{arith}
use Rattle.reach.proofs.There.{node_there, no_node_there}
use Rattle.trim.proofs.Marking.{found_nothing, mark_none, enter_first, enter_second, leaf_ready, note_fits, mark_leaf, mark_signal, mark_loop, mark_try, mark_two}
use Rattle.trim.proofs.marks.+mark_at.Goals as goal

pub returns-then-left-eq0 : goal.returns-then-left-eq0
returns-then-left-eq0 t c =
    mark_none c.args.r c.args.nodes.now c.args.left c.args.at c.args.notes.now c.leaf.result
    (no_node_there c.args.nodes.now c.told-nodes c.then-left-eq0.either)
    (found_nothing c.leaf.ensures c.args.r c.just_ended.ensures refl)

pub without_child-m-requires : goal.without_child-m-requires
without_child-m-requires t c =
    rw c.operand_of.ensures (leaf_ready c.args.r (node_there c.if-left-eq0.false c.told-nodes c.if-at-ge-MOST_NODES.false c.kind_of-kind.ensures refl) c.requires (omega arith))

pub returns-in-0-to-4 : goal.returns-in-0-to-4
returns-in-0-to-4 t c =
    let n = node_there c.if-left-eq0.false c.told-nodes c.if-at-ge-MOST_NODES.false c.kind_of-kind.ensures refl in
    mark_leaf c.args.r n c.requires (omega (arith, c.told-notes, c.if-at-ge-MOST_NODES.false)) (omega arith) (rw c.operand_of.ensures at c.without_child-m.ensures) (ap (set c.args.notes.now c.args.at) c.leaf_note.ensures)

pub mark_at-p-requires : goal.mark_at-p-requires
mark_at-p-requires t c =
    (omega (arith, c.decreases, c.if-left-eq0.false), enter_first c.args.r (node_there c.if-left-eq0.false c.told-nodes c.if-at-ge-MOST_NODES.false c.kind_of-kind.ensures refl) c.requires (omega (arith, c.in-5.is)))

pub returns-in-5 : goal.returns-in-5
returns-in-5 t c =
    let n = node_there c.if-left-eq0.false c.told-nodes c.if-at-ge-MOST_NODES.false c.kind_of-kind.ensures c.in-5.is in
    mark_signal c.args.r c.requires c.mark_at-p.ensures n (omega (arith, c.mark_at-p.array_long, c.if-at-ge-MOST_NODES.false)) (ap (set c.mark_at-p.new.notes c.args.at) c.parent_note.ensures)

pub mark_at-p-requires-in-6-to-8 : goal.mark_at-p-requires-in-6-to-8
mark_at-p-requires-in-6-to-8 t c =
    (omega (arith, c.decreases, c.if-left-eq0.false), enter_first c.args.r (node_there c.if-left-eq0.false c.told-nodes c.if-at-ge-MOST_NODES.false c.kind_of-kind.ensures refl) c.requires (omega arith))

pub mark_at-q-requires : goal.mark_at-q-requires
mark_at-q-requires t c =
    (omega (arith, c.decreases, c.if-left-eq0.false), enter_second c.args.r (node_there c.if-left-eq0.false c.told-nodes c.if-at-ge-MOST_NODES.false c.kind_of-kind.ensures refl) c.requires (omega arith) (omega arith) c.mark_at-p-in-6-to-8.ensures)

pub parent_note-requires-in-6-to-8 : goal.parent_note-requires-in-6-to-8
parent_note-requires-in-6-to-8 t c =
    note_fits c.args.r (node_there c.if-left-eq0.false c.told-nodes c.if-at-ge-MOST_NODES.false c.kind_of-kind.ensures refl) c.requires c.told-nodes c.mark_at-p-in-6-to-8.ensures.finds

pub returns-in-6-to-8 : goal.returns-in-6-to-8
returns-in-6-to-8 t c =
    let n = node_there c.if-left-eq0.false c.told-nodes c.if-at-ge-MOST_NODES.false c.kind_of-kind.ensures refl in
    mark_two c.args.r c.requires c.mark_at-p-in-6-to-8.ensures n (omega arith) (omega arith) c.mark_at-q.ensures (omega (arith, c.mark_at-q.array_long, c.if-at-ge-MOST_NODES.false)) c.with_second.ensures (ap (set c.mark_at-q.new.notes c.args.at) c.parent_note-in-6-to-8.ensures)

pub mark_at-p-requires-in-9 : goal.mark_at-p-requires-in-9
mark_at-p-requires-in-9 t c =
    (omega (arith, c.decreases, c.if-left-eq0.false), enter_first c.args.r (node_there c.if-left-eq0.false c.told-nodes c.if-at-ge-MOST_NODES.false c.kind_of-kind.ensures refl) c.requires (omega (arith, c.in-9.is)))

pub returns-in-9 : goal.returns-in-9
returns-in-9 t c =
    let n = node_there c.if-left-eq0.false c.told-nodes c.if-at-ge-MOST_NODES.false c.kind_of-kind.ensures c.in-9.is in
    mark_loop c.args.r c.requires c.mark_at-p-in-9.ensures n (omega (arith, c.mark_at-p-in-9.array_long, c.if-at-ge-MOST_NODES.false)) c.in_loop.ensures (ap (set c.mark_at-p-in-9.new.notes c.args.at) c.parent_note-in-9.ensures)

pub mark_at-p-requires-in-10 : goal.mark_at-p-requires-in-10
mark_at-p-requires-in-10 t c =
    (omega (arith, c.decreases, c.if-left-eq0.false), enter_first c.args.r (node_there c.if-left-eq0.false c.told-nodes c.if-at-ge-MOST_NODES.false c.kind_of-kind.ensures refl) c.requires (omega (arith, c.in-10.is)))

pub returns-in-10 : goal.returns-in-10
returns-in-10 t c =
    let n = node_there c.if-left-eq0.false c.told-nodes c.if-at-ge-MOST_NODES.false c.kind_of-kind.ensures c.in-10.is in
    mark_try c.args.r c.requires c.mark_at-p-in-10.ensures n (omega (arith, c.mark_at-p-in-10.array_long, c.if-at-ge-MOST_NODES.false)) c.in_try.ensures (ap (set c.mark_at-p-in-10.new.notes c.args.at) c.try_note.ensures)
