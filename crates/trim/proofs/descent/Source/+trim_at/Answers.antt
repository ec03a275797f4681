-- `Source::trim_at` meets its contract: what each call asks and what each arm gives is a law of Steps or ByKind, at the node
-- that the tests before the decision found.
use mathlib.Core.Path.{refl, ap}
use mathlib.Core.Bool.{not}
use native.Mathlib.Omega.{arith}
use Rattle.table.proofs.Places.{Node}
use Rattle.trim.specs.declared.descent.Around.{Around}
use Rattle.reach.proofs.There.{node_there, no_node_there}
use Rattle.trim.proofs.Steps.{one_room}
use Rattle.trim.proofs.ByKind.{at_none, at_dead, at_nothing, leaf_room, at_pause, at_gotopause, at_emit}
use Rattle.trim.proofs.ByKind.{exit_ready, at_exit, the_signal, signal_ready, at_signal, the_loop, loop_ready, at_loop}
use Rattle.trim.proofs.ByKind.{the_try, try_ready, at_try, then_ready, then_room, the_sequence, sequence_ready, sequence_first, at_sequence}
use Rattle.trim.proofs.ByKind.{the_parallel, parallel_ready, parallel_first, at_parallel}
use Rattle.trim.proofs.ByKind.{the_present, present_ready, else_same, second_closes, first_ready, first_closes, present_first, at_present}
use Rattle.trim.proofs.descent.Source.+trim_at.Goals as goal

pub returns-then-left-eq0 : goal.returns-then-left-eq0
returns-then-left-eq0 t c =
    at_none c.requires (no_node_there c.args.self.nodes.now c.requires.all c.then-left-eq0.either)

pub returns-then-not-may_stay : goal.returns-then-not-may_stay
returns-then-not-may_stay t c =
    at_dead c.requires (node_there c.if-left-eq0.false c.requires.all c.if-at-ge-MOST_NODES.false refl refl) c.may_stay.ensures (ap not c.if-not-may_stay.true)

pub leaf-requires : goal.leaf-requires
leaf-requires t c =
    leaf_room c.requires (node_there c.if-left-eq0.false c.requires.all c.if-at-ge-MOST_NODES.false c.kind_of.ensures c.in-1.is)

pub leaf-requires-in-2 : goal.leaf-requires-in-2
leaf-requires-in-2 t c =
    leaf_room c.requires (node_there c.if-left-eq0.false c.requires.all c.if-at-ge-MOST_NODES.false c.kind_of.ensures c.in-2.is)

pub leaf-requires-in-3 : goal.leaf-requires-in-3
leaf-requires-in-3 t c =
    leaf_room c.requires (node_there c.if-left-eq0.false c.requires.all c.if-at-ge-MOST_NODES.false c.kind_of.ensures c.in-3.is)

pub level_out-level-requires : goal.level_out-level-requires
level_out-level-requires t c =
    exit_ready c.requires (node_there c.if-left-eq0.false c.requires.all c.if-at-ge-MOST_NODES.false c.kind_of.ensures c.in-4.is) c.operand_of-operand.result c.operand_of-operand.ensures

pub leaf-requires-in-4 : goal.leaf-requires-in-4
leaf-requires-in-4 t c =
    leaf_room c.requires (node_there c.if-left-eq0.false c.requires.all c.if-at-ge-MOST_NODES.false c.kind_of.ensures c.in-4.is)

pub trim_at-p-requires : goal.trim_at-p-requires
trim_at-p-requires t c =
    (omega (arith, c.decreases, c.if-left-eq0.false), signal_ready c.requires (node_there c.if-left-eq0.false c.requires.all c.if-at-ge-MOST_NODES.false c.kind_of.ensures c.in-5.is))

pub wrap_if-requires-clause-room : goal.wrap_if-requires-clause-room
wrap_if-requires-clause-room t c =
    let n = node_there c.if-left-eq0.false c.requires.all c.if-at-ge-MOST_NODES.false c.kind_of.ensures c.in-5.is in
    one_room c.requires c.if-left-eq0.false (the_signal c.requires n) c.trim_at-p.ensures

pub trim_at-q-requires : goal.trim_at-q-requires
trim_at-q-requires t c =
    (omega (arith, c.decreases, c.if-left-eq0.false), present_ready c.requires (node_there c.if-left-eq0.false c.requires.all c.if-at-ge-MOST_NODES.false c.kind_of.ensures c.in-6.is) c.second-second.ensures c.ends-guarded.result c.in_else-inner.ensures)

pub close_else-e-requires-clause-room : goal.close_else-e-requires-clause-room
close_else-e-requires-clause-room t c =
    let n : Node c.args.left c.args.self.nodes.now c.args.at 6 = node_there c.if-left-eq0.false c.requires.all c.if-at-ge-MOST_NODES.false c.kind_of.ensures c.in-6.is in
    second_closes c.requires n (the_present c.requires n) refl c.second-second.ensures c.trim_at-q.ensures

pub trim_at-p-requires-in-6 : goal.trim_at-p-requires-in-6
trim_at-p-requires-in-6 t c =
    let n : Node c.args.left c.args.self.nodes.now c.args.at 6 = node_there c.if-left-eq0.false c.requires.all c.if-at-ge-MOST_NODES.false c.kind_of.ensures c.in-6.is in
    let same = else_same c.requires c.ends-guarded.result c.in_else-inner.ensures in
    (omega (arith, c.decreases, c.if-left-eq0.false), first_ready c.requires n (the_present c.requires n) refl c.second-second.ensures c.trim_at-q.ensures c.close_else-e.ensures (present_first c.requires n) same)

pub close_present-requires-clause-room : goal.close_present-requires-clause-room
close_present-requires-clause-room t c =
    let n : Node c.args.left c.args.self.nodes.now c.args.at 6 = node_there c.if-left-eq0.false c.requires.all c.if-at-ge-MOST_NODES.false c.kind_of.ensures c.in-6.is in
    first_closes c.requires n (the_present c.requires n) refl c.second-second.ensures c.trim_at-q.ensures c.close_else-e.ensures c.trim_at-p-in-6.ensures

pub trim_at-q-requires-in-7 : goal.trim_at-q-requires-in-7
trim_at-q-requires-in-7 t c =
    (omega (arith, c.decreases, c.if-left-eq0.false), sequence_ready c.requires (node_there c.if-left-eq0.false c.requires.all c.if-at-ge-MOST_NODES.false c.kind_of.ensures c.in-7.is) c.second-second.ensures c.ends.ensures c.started_if-inner.ensures)

pub trim_at-p-requires-in-7 : goal.trim_at-p-requires-in-7
trim_at-p-requires-in-7 t c =
    let n : Node c.args.left c.args.self.nodes.now c.args.at 7 = node_there c.if-left-eq0.false c.requires.all c.if-at-ge-MOST_NODES.false c.kind_of.ensures c.in-7.is in
    let same = ap (λ (z : Around). z.tries) c.started_if-inner.ensures in
    (omega (arith, c.decreases, c.if-left-eq0.false), then_ready c.requires n (the_sequence c.requires n) refl c.second-second.ensures c.trim_at-q-in-7.ensures (sequence_first c.requires n) same)

pub join-requires-clause-room : goal.join-requires-clause-room
join-requires-clause-room t c =
    let n : Node c.args.left c.args.self.nodes.now c.args.at 7 = node_there c.if-left-eq0.false c.requires.all c.if-at-ge-MOST_NODES.false c.kind_of.ensures c.in-7.is in
    then_room c.requires n (the_sequence c.requires n) refl c.second-second.ensures c.trim_at-q-in-7.ensures c.trim_at-p-in-7.ensures

pub trim_at-q-requires-in-8 : goal.trim_at-q-requires-in-8
trim_at-q-requires-in-8 t c =
    (omega (arith, c.decreases, c.if-left-eq0.false), parallel_ready c.requires (node_there c.if-left-eq0.false c.requires.all c.if-at-ge-MOST_NODES.false c.kind_of.ensures c.in-8.is) c.second-second.ensures)

pub trim_at-p-requires-in-8 : goal.trim_at-p-requires-in-8
trim_at-p-requires-in-8 t c =
    let n : Node c.args.left c.args.self.nodes.now c.args.at 8 = node_there c.if-left-eq0.false c.requires.all c.if-at-ge-MOST_NODES.false c.kind_of.ensures c.in-8.is in
    (omega (arith, c.decreases, c.if-left-eq0.false), then_ready c.requires n (the_parallel c.requires n) refl c.second-second.ensures c.trim_at-q-in-8.ensures (parallel_first c.requires n) refl)

pub join-requires-in-8-clause-room : goal.join-requires-in-8-clause-room
join-requires-in-8-clause-room t c =
    let n : Node c.args.left c.args.self.nodes.now c.args.at 8 = node_there c.if-left-eq0.false c.requires.all c.if-at-ge-MOST_NODES.false c.kind_of.ensures c.in-8.is in
    then_room c.requires n (the_parallel c.requires n) refl c.second-second.ensures c.trim_at-q-in-8.ensures c.trim_at-p-in-8.ensures

pub trim_at-p-requires-in-9 : goal.trim_at-p-requires-in-9
trim_at-p-requires-in-9 t c =
    (omega (arith, c.decreases, c.if-left-eq0.false), loop_ready c.requires (node_there c.if-left-eq0.false c.requires.all c.if-at-ge-MOST_NODES.false c.kind_of.ensures c.in-9.is) c.ends-again.ensures c.started_if-inner-in-9.ensures)

pub wrap_if-requires-in-9-clause-room : goal.wrap_if-requires-in-9-clause-room
wrap_if-requires-in-9-clause-room t c =
    one_room c.requires c.if-left-eq0.false (the_loop c.requires (node_there c.if-left-eq0.false c.requires.all c.if-at-ge-MOST_NODES.false c.kind_of.ensures c.in-9.is)) c.trim_at-p-in-9.ensures

pub trim_at-p-requires-in-10 : goal.trim_at-p-requires-in-10
trim_at-p-requires-in-10 t c =
    (omega (arith, c.decreases, c.if-left-eq0.false), try_ready c.requires (node_there c.if-left-eq0.false c.requires.all c.if-at-ge-MOST_NODES.false c.kind_of.ensures c.in-10.is) (omega arith) c.ends-kept.ensures c.in_try-inner.ensures.0 c.in_try-inner.ensures.1)

pub wrap_if-requires-in-10-clause-room : goal.wrap_if-requires-in-10-clause-room
wrap_if-requires-in-10-clause-room t c =
    one_room c.requires c.if-left-eq0.false (the_try c.requires (node_there c.if-left-eq0.false c.requires.all c.if-at-ge-MOST_NODES.false c.kind_of.ensures c.in-10.is)) c.trim_at-p-in-10.ensures

pub returns-in-0 : goal.returns-in-0
returns-in-0 t c =
    at_nothing c.requires (node_there c.if-left-eq0.false c.requires.all c.if-at-ge-MOST_NODES.false c.kind_of.ensures c.in-0.is)

pub returns-in-1 : goal.returns-in-1
returns-in-1 t c =
    at_pause c.requires c.may_stay.ensures (ap not c.if-not-may_stay.false) (node_there c.if-left-eq0.false c.requires.all c.if-at-ge-MOST_NODES.false c.kind_of.ensures c.in-1.is) c.leaf.ensures

pub returns-in-2 : goal.returns-in-2
returns-in-2 t c =
    at_gotopause c.requires c.may_stay.ensures (ap not c.if-not-may_stay.false) (node_there c.if-left-eq0.false c.requires.all c.if-at-ge-MOST_NODES.false c.kind_of.ensures c.in-2.is) c.leaf-in-2.ensures

pub returns-in-3 : goal.returns-in-3
returns-in-3 t c =
    at_emit c.requires c.may_stay.ensures (ap not c.if-not-may_stay.false) (node_there c.if-left-eq0.false c.requires.all c.if-at-ge-MOST_NODES.false c.kind_of.ensures c.in-3.is) c.operand_of-operand.ensures c.singleton.ensures c.leaf-in-3.ensures

pub returns-in-4 : goal.returns-in-4
returns-in-4 t c =
    at_exit c.requires (node_there c.if-left-eq0.false c.requires.all c.if-at-ge-MOST_NODES.false c.kind_of.ensures c.in-4.is) c.may_stay.ensures (ap not c.if-not-may_stay.false) c.operand_of-operand.ensures c.level_out-level.result.0 c.level_out-level.ensures c.node_of.ensures c.leaf-in-4.ensures

pub returns-in-5 : goal.returns-in-5
returns-in-5 t c =
    at_signal c.requires (node_there c.if-left-eq0.false c.requires.all c.if-at-ge-MOST_NODES.false c.kind_of.ensures c.in-5.is) c.operand_of-operand.ensures c.trim_at-p.ensures c.contains-named.ensures c.wrap_if.ensures

pub returns-in-6 : goal.returns-in-6
returns-in-6 t c =
    let n : Node c.args.left c.args.self.nodes.now c.args.at 6 = node_there c.if-left-eq0.false c.requires.all c.if-at-ge-MOST_NODES.false c.kind_of.ensures c.in-6.is in
    at_present c.requires n c.second-second.ensures c.ends-guarded.ensures c.in_else-inner.ensures
    c.trim_at-q.ensures c.close_else-e.ensures c.trim_at-p-in-6.ensures (c.close_present.ensures c.close_else-e.new.self.from)

pub returns-in-7 : goal.returns-in-7
returns-in-7 t c =
    let n : Node c.args.left c.args.self.nodes.now c.args.at 7 = node_there c.if-left-eq0.false c.requires.all c.if-at-ge-MOST_NODES.false c.kind_of.ensures c.in-7.is in
    at_sequence c.requires n c.node_of-in-7.ensures c.second-second.ensures c.ends.ensures c.started_if-inner.ensures c.trim_at-q-in-7.ensures c.trim_at-p-in-7.ensures (c.join.ensures.joined c.trim_at-q-in-7.new.room.work.from)

pub returns-in-8 : goal.returns-in-8
returns-in-8 t c =
    let n : Node c.args.left c.args.self.nodes.now c.args.at 8 = node_there c.if-left-eq0.false c.requires.all c.if-at-ge-MOST_NODES.false c.kind_of.ensures c.in-8.is in
    at_parallel c.requires n c.node_of-in-8.ensures c.second-second.ensures c.trim_at-q-in-8.ensures c.trim_at-p-in-8.ensures (c.join-in-8.ensures.joined c.trim_at-q-in-8.new.room.work.from)

pub returns-in-9 : goal.returns-in-9
returns-in-9 t c =
    at_loop c.requires (node_there c.if-left-eq0.false c.requires.all c.if-at-ge-MOST_NODES.false c.kind_of.ensures c.in-9.is) c.node_of-in-9.ensures c.ends-again.ensures c.started_if-inner-in-9.ensures c.trim_at-p-in-9.ensures c.wrap_if-in-9.ensures

pub returns-in-10 : goal.returns-in-10
returns-in-10 t c =
    at_try c.requires (node_there c.if-left-eq0.false c.requires.all c.if-at-ge-MOST_NODES.false c.kind_of.ensures c.in-10.is) (omega arith) c.node_of-in-10.ensures c.ends-kept.ensures c.in_try-inner.ensures.0 c.in_try-inner.ensures.1 c.trim_at-p-in-10.ensures c.wrap_if-in-10.ensures
