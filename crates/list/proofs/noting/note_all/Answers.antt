-- The invariant: what is noted is right from the place on, and so are the pauses that were met.
use native.Mathlib.Omega.{arith}
use Rattle.list.proofs.Passing.{passed_none, few_behind, few_with, passed_pause, passed_other}
use Rattle.list.proofs.noting.note_all.Goals as goal

pub loop-at-init : goal.loop-at-init
loop-at-init c = passed_none c.requires c.args.unions.now (omega arith) (omega arith)

pub note_at-requires : goal.note_at-requires
note_at-requires c = (omega (arith, c.loop-at.invariant.at_most, c.requires.few), few_behind c.requires c.loop-at.invariant c.loop-at-test.true)

pub overflow_add-behind : goal.overflow_add-behind
overflow_add-behind c = omega (arith, few_with c.requires c.loop-at.invariant c.loop-at-test.true c.kind_of.ensures c.if-kind_of-eq-PAUSE.true)

pub bounds-unions-behind : goal.bounds-unions-behind
bounds-unions-behind c = omega (arith, few_with c.requires c.loop-at.invariant c.loop-at-test.true c.kind_of.ensures c.if-kind_of-eq-PAUSE.true)

pub loop-at-preserved-then-kind_of-eq-PAUSE : goal.loop-at-preserved-then-kind_of-eq-PAUSE
loop-at-preserved-then-kind_of-eq-PAUSE c =
    passed_pause c.requires c.loop-at.invariant c.loop-at-test.true c.in_ok-note_at.ensures c.kind_of.ensures
    c.if-kind_of-eq-PAUSE.true c.operand_of.ensures c.with-labels.ensures

pub loop-at-preserved : goal.loop-at-preserved
loop-at-preserved c =
    passed_other c.requires c.loop-at.invariant c.loop-at-test.true c.in_ok-note_at.ensures c.kind_of.ensures c.if-kind_of-eq-PAUSE.false
