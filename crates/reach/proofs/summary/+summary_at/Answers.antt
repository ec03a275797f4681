-- `summary::summary_at` meets its contract: each arm's facts go to the law of its kind. The depth that is left falls.
use mathlib.Core.Path.{◌≡◌, sym, ap, ◌∙◌, subst}
use Prim.Native.Nat.{ℕ, ◌+◌, ◌≤◌, ◌<◌}
use native.Mathlib.Nat.{mod-lt}
use native.Mathlib.Omega.{arith}
use lib.ListN.{get_or}
use Rattle.esterel.specs.Codes.{Codes, code_of, just_at, just_code}
use Rattle.table.specs.Reading.{operand_of}
use Rattle.reach.specs.inner.Summaries.{summary}
use Rattle.reach.proofs.SummedNodes.{summarised_by, not_refused, at_none, at_nothing, at_pause, at_gotopause, at_emit, at_exit, exit_level, enter_signal, enter_loop, enter_try, as_signal}
use Rattle.reach.proofs.SummedNodes.{at_loop, at_try, present_splits, sequence_splits, parallel_splits, enter_first, enter_second, at_present, at_sequence, at_parallel}
use Rattle.reach.proofs.There.{node_there, no_node_there}
use Rattle.reach.proofs.summary.+summary_at.Goals as goal

pub returns-then-left-eq0 : goal.returns-then-left-eq0
returns-then-left-eq0 t c =
    let beyond = no_node_there c.args.nodes.now c.told-nodes c.then-left-eq0.either in
    not_refused (at_none c.args.left c.args.nodes.now c.args.at c.of_leaf.result c.args.kept.now beyond (rw c.just_ended.ensures at c.of_leaf.ensures))

pub just_code-requires : goal.just_code-requires
unfolding code_of
just_code-requires t c =
    let operand : c.operand_of-operand.result ≡ operand_of (get_or c.args.nodes.now c.args.at 0) = c.operand_of-operand.ensures in
    let narrow : c.operand_of-operand.result < 64 = subst (λ (o : ℕ). o < 64) (sym operand) (mod-lt (get_or c.args.nodes.now c.args.at 0) (omega arith)) in
    let level : 1 ≤ c.operand_of-operand.result = subst (λ (o : ℕ). 1 ≤ o) (sym operand) (exit_level c.requires (node_there c.if-left-eq0.false c.told-nodes c.if-at-ge-MOST_NODES.false c.kind_of.ensures c.in-4.is)) in
    omega (arith, narrow, level, c.from-code.ensures)

pub summary_at-requires : goal.summary_at-requires
summary_at-requires t c = (omega (arith, c.decreases, c.if-left-eq0.false), enter_signal c.requires (node_there c.if-left-eq0.false c.told-nodes c.if-at-ge-MOST_NODES.false c.kind_of.ensures c.in-5.is))

pub summary_at-requires-in-6 : goal.summary_at-requires-in-6
summary_at-requires-in-6 t c = (omega (arith, c.decreases, c.if-left-eq0.false), enter_first present_splits (node_there c.if-left-eq0.false c.told-nodes c.if-at-ge-MOST_NODES.false c.kind_of.ensures c.in-6.is) c.requires)

pub summary_at-requires-in-6-2 : goal.summary_at-requires-in-6-2
summary_at-requires-in-6-2 t c = (omega (arith, c.decreases, c.if-left-eq0.false), enter_second present_splits (node_there c.if-left-eq0.false c.told-nodes c.if-at-ge-MOST_NODES.false c.kind_of.ensures c.in-6.is) c.requires (summarised_by c.in_ok-p-in-6.ensures))

pub summary_at-requires-in-7 : goal.summary_at-requires-in-7
summary_at-requires-in-7 t c = (omega (arith, c.decreases, c.if-left-eq0.false), enter_first sequence_splits (node_there c.if-left-eq0.false c.told-nodes c.if-at-ge-MOST_NODES.false c.kind_of.ensures c.in-7.is) c.requires)

pub summary_at-requires-in-7-2 : goal.summary_at-requires-in-7-2
summary_at-requires-in-7-2 t c = (omega (arith, c.decreases, c.if-left-eq0.false), enter_second sequence_splits (node_there c.if-left-eq0.false c.told-nodes c.if-at-ge-MOST_NODES.false c.kind_of.ensures c.in-7.is) c.requires (summarised_by c.in_ok-p-in-7.ensures))

pub summary_at-requires-in-8 : goal.summary_at-requires-in-8
summary_at-requires-in-8 t c = (omega (arith, c.decreases, c.if-left-eq0.false), enter_first parallel_splits (node_there c.if-left-eq0.false c.told-nodes c.if-at-ge-MOST_NODES.false c.kind_of.ensures c.in-8.is) c.requires)

pub summary_at-requires-in-8-2 : goal.summary_at-requires-in-8-2
summary_at-requires-in-8-2 t c = (omega (arith, c.decreases, c.if-left-eq0.false), enter_second parallel_splits (node_there c.if-left-eq0.false c.told-nodes c.if-at-ge-MOST_NODES.false c.kind_of.ensures c.in-8.is) c.requires (summarised_by c.in_ok-p-in-8.ensures))

pub summary_at-requires-in-9 : goal.summary_at-requires-in-9
summary_at-requires-in-9 t c = (omega (arith, c.decreases, c.if-left-eq0.false), enter_loop c.requires (node_there c.if-left-eq0.false c.told-nodes c.if-at-ge-MOST_NODES.false c.kind_of.ensures c.in-9.is))

pub summary_at-requires-in-10 : goal.summary_at-requires-in-10
summary_at-requires-in-10 t c = (omega (arith, c.decreases, c.if-left-eq0.false), enter_try c.requires (node_there c.if-left-eq0.false c.told-nodes c.if-at-ge-MOST_NODES.false c.kind_of.ensures c.in-10.is))

pub returns-in-0 : goal.returns-in-0
returns-in-0 t c =
    not_refused (at_nothing _ _ (node_there c.if-left-eq0.false c.told-nodes c.if-at-ge-MOST_NODES.false c.kind_of.ensures c.in-0.is) (rw c.just_ended-in-0.ensures at c.of_leaf-in-0.ensures))

pub returns-in-1 : goal.returns-in-1
returns-in-1 t c =
    not_refused (at_pause c.of_pause.result c.args.kept.now _ (node_there c.if-left-eq0.false c.told-nodes c.if-at-ge-MOST_NODES.false c.kind_of.ensures c.in-1.is) _ c.operand_of-operand.ensures (c.of_pause.ensures.result_value, c.of_pause.ensures.changed))

pub returns-in-2 : goal.returns-in-2
returns-in-2 t c =
    not_refused (at_gotopause _ _ (node_there c.if-left-eq0.false c.told-nodes c.if-at-ge-MOST_NODES.false c.kind_of.ensures c.in-2.is) (c.of_leaf-in-2.ensures ∙ ap (λ (K : Codes). summary K 0 0 (c.args.at + 1)) (c.just_at.ensures ∙ ap just_at c.operand_of-operand.ensures)))

pub returns-in-3 : goal.returns-in-3
returns-in-3 t c =
    not_refused (at_emit _ _ (node_there c.if-left-eq0.false c.told-nodes c.if-at-ge-MOST_NODES.false c.kind_of.ensures c.in-3.is) (rw c.just_ended-in-3.ensures at c.of_leaf-in-3.ensures))

pub returns-in-4 : goal.returns-in-4
returns-in-4 t c =
    let n = node_there c.if-left-eq0.false c.told-nodes c.if-at-ge-MOST_NODES.false c.kind_of.ensures c.in-4.is in
    not_refused (at_exit _ _ n (c.of_leaf-in-4.ensures ∙ ap (λ (K : Codes). summary K 0 0 (c.args.at + 1)) (c.just_code.ensures ∙ ap just_code (c.from-code.ensures ∙ ap code_of c.operand_of-operand.ensures))))

pub returns-in-5 : goal.returns-in-5
returns-in-5 t c =
    as_signal (node_there c.if-left-eq0.false c.told-nodes c.if-at-ge-MOST_NODES.false c.kind_of.ensures c.in-5.is) c.summary_at.ensures

pub returns-in_ok-q-in-6 : goal.returns-in_ok-q-in-6
returns-in_ok-q-in-6 t c =
    not_refused (at_present c.requires (summarised_by c.in_ok-p-in-6.ensures) (summarised_by c.in_ok-q-in-6.ensures) _ (node_there c.if-left-eq0.false c.told-nodes c.if-at-ge-MOST_NODES.false c.kind_of.ensures c.in-6.is) (rw c.bitor.ensures at c.of_both.ensures))

pub returns-in_ok-q-in-7 : goal.returns-in_ok-q-in-7
returns-in_ok-q-in-7 t c =
    not_refused (at_sequence c.requires (summarised_by c.in_ok-p-in-7.ensures) (summarised_by c.in_ok-q-in-7.ensures) _ _ (node_there c.if-left-eq0.false c.told-nodes c.if-at-ge-MOST_NODES.false c.kind_of.ensures c.in-7.is) (c.of_sequence.ensures.result_value, c.of_sequence.ensures.follows))

pub returns-in_ok-q-in-8 : goal.returns-in_ok-q-in-8
returns-in_ok-q-in-8 t c =
    not_refused (at_parallel c.requires (summarised_by c.in_ok-p-in-8.ensures) (summarised_by c.in_ok-q-in-8.ensures) _ (node_there c.if-left-eq0.false c.told-nodes c.if-at-ge-MOST_NODES.false c.kind_of.ensures c.in-8.is) (rw c.maximum.ensures at c.of_both-in-8.ensures))

pub returns-in_ok-p-in-9 : goal.returns-in_ok-p-in-9
returns-in_ok-p-in-9 t c =
    not_refused (at_loop _ _ (node_there c.if-left-eq0.false c.told-nodes c.if-at-ge-MOST_NODES.false c.kind_of.ensures c.in-9.is) (summarised_by c.in_ok-p-in-9.ensures) (c.of_loop.ensures.result_value, c.of_loop.ensures.follows))

pub returns-in_ok-p-in-10 : goal.returns-in_ok-p-in-10
returns-in_ok-p-in-10 t c =
    not_refused (at_try _ _ (node_there c.if-left-eq0.false c.told-nodes c.if-at-ge-MOST_NODES.false c.kind_of.ensures c.in-10.is) (summarised_by c.in_ok-p-in-10.ensures) (c.of_try.ensures.result_value, c.of_try.ensures.lowered_each))
