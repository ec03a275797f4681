-- By what was prepared, the number of signals that are emitted free, and what looking comes to.
use Rattle.std.proofs.lemmas.Result.{err_from_is_err_and}
use Rattle.step.proofs.Answers.{unready_step, many_step, few_unknown, looked_step}
use Rattle.step.proofs.step.Goals as goal

pub returns-in_err-program : goal.returns-in_err-program
returns-in_err-program c =
    let p = err_from_is_err_and c.from_residual.result c.from_residual.ensures.1 in
    rw (p.1, p.2) (unready_step _ _ _ _ _ c.in_err-program.ensures.prepares)

pub returns-then-count-gt-MOST_FREE : goal.returns-then-count-gt-MOST_FREE
returns-then-count-gt-MOST_FREE c = many_step _ _ c.in_ok-program.ensures.prepares c.emitted_free-free.ensures c.count.ensures _ _ c.if-count-gt-MOST_FREE.true

pub invariant_of-among : goal.invariant_of-among
invariant_of-among c = record {
  unknowns = few_unknown _ _ c.in_ok-program.ensures.prepares c.emitted_free-free.ensures c.count.ensures c.minus-unknown.ensures c.if-count-gt-MOST_FREE.false;
}

pub returns : goal.returns
returns c =
    looked_step _ _ c.in_ok-program.ensures.prepares c.emitted_free-free.ensures c.count.ensures c.minus-unknown.ensures c.if-count-gt-MOST_FREE.false
    _ _ c.from-state.ensures c.look.ensures
