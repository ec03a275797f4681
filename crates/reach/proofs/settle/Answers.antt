-- `reach::settle` meets its contract. The invariant: R is that of the rounds made, each of which added a label, with the labels
-- of s and of d over R. The measure is the number of labels that can still be added.
use native.Mathlib.Omega.{arith}
use borrow.Author.Rules.{rules}
use Rattle.sets.specs.Set.{◌union◌}
use Rattle.table.specs.Reading.{deepest}
use Rattle.table.specs.inner.Places.{statement_at, statement_of}
use Rattle.reach.proofs.SummedNodes.{summarised_by}
use Rattle.reach.proofs.Rounds.{few_rounds, none_yet, goes_on, falls, rests}
use Rattle.reach.proofs.settle.Goals as goal

pub loop-set-init : goal.loop-set-init
loop-set-init c = none_yet (statement_of c.args.nodes.now) _ _ c.labels-labels.ensures (summarised_by c.in_ok-found.ensures).start

pub overflow_add-rounds : goal.overflow_add-rounds
overflow_add-rounds c =
    omega (arith, few_rounds (statement_of c.args.nodes.now) c.loop-set.labels c.loop-set.set c.loop-set.rounds c.loop-set.invariant)

pub loop-set-smaller : goal.loop-set-smaller
loop-set-smaller c =
    falls (statement_at deepest c.args.nodes.now 0) c.in_ok-found.found _ _ (summarised_by c.in_ok-found.ensures) (search rules)
    c.loop-set.labels c.loop-set.set c.loop-set.rounds c.loop-set.invariant c.if-next-set.false

pub loop-set-preserved : goal.loop-set-preserved
unfolding ◌union◌
loop-set-preserved c =
    goes_on (statement_at deepest c.args.nodes.now 0) c.in_ok-found.found _ _ (summarised_by c.in_ok-found.ensures) (search rules)
    c.loop-set.labels c.loop-set.set c.loop-set.rounds c.loop-set.invariant c.if-next-set.false c.labels_from-labels.result c.labels_from-labels.ensures

pub returns : goal.returns
returns c =
    rests c.args.nodes.now c.in_ok-found.found _ _ (summarised_by c.in_ok-found.ensures) (search rules)
    c.loop-set.labels c.loop-set.set c.loop-set.rounds c.loop-set.invariant c.if-next-set.true
