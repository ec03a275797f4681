-- The invariant: what was met of each signal in the nodes so far.
use mathlib.Core.Path.{◌≡◌, sym, ◌∙◌}
use native.Mathlib.Omega.{arith}
use borrow.Author.Rules.{rules}
use Rattle.step.proofs.Scanning.{zeros_at, tracked_none, tracked_hidden, tracked_plain, tracked_emit, tracked_signal, tracked_is, tracked_all}
use Rattle.step.proofs.free.emitted_free.Goals as goal
use Rattle.step.proofs.free.emitted_free.Goals.{in-3, in-5, in_default}

pub loop-at-init : goal.loop-at-init
loop-at-init c = tracked_none _ _ _ (search rules) zeros_at

pub loop-at-preserved-then-at-until : goal.loop-at-preserved-then-at-until
loop-at-preserved-then-at-until c = tracked_hidden c.loop-at.invariant _ c.operand_of-signal.ensures c.if-at-until.true

pub loop-at-preserved : goal.loop-at-preserved
loop-at-preserved c = elim c.match-kind_of.branch [
  | in-3 w ↦ tracked_is w.free-is w.until-is
      (tracked_emit c.loop-at.invariant _ c.operand_of-signal.ensures w.with-free.ensures c.if-at-until.false (sym c.kind_of.ensures ∙ w.in-3.is))
  | in-5 w ↦ tracked_is w.free-is w.until-is
      (tracked_signal c.loop-at.invariant _ c.operand_of-signal.ensures c.if-at-until.false (sym c.kind_of.ensures ∙ w.in-5.is))
  | in_default w ↦ tracked_is w.free-is w.until-is
      (tracked_plain c.loop-at.invariant _ c.operand_of-signal.ensures (λ e. let k : c.kind_of.result ≡ 3 = c.kind_of.ensures ∙ e in omega arith) (λ e. let k : c.kind_of.result ≡ 5 = c.kind_of.ensures ∙ e in omega arith))
]

pub returns : goal.returns
returns c =
    let noted = c.args.program.now.prepared.now.noted in
    tracked_all noted.notes noted.ends c.args.program.now.whole noted.known c.loop-at.at _ c.loop-at.until (omega arith) c.loop-at.invariant
