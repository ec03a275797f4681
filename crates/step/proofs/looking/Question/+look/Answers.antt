-- One list of rows, or both calls: the unknown signals are fewer by one in each.
use native.Mathlib.Omega.{arith}
use Rattle.std.proofs.lemmas.Result.{err_from_is_err_and}
use Rattle.step.proofs.Splits.{fewer_unknown, looks_present, looks_absent, looks_both}
use Rattle.step.proofs.looking.Question.+look.Goals as goal

pub look-requires : goal.look-requires
look-requires t c = (omega (arith, c.decreases, fewer_unknown _ c.least-signal.ensures.1 c.with.ensures.unknown c.args.among.unknowns), tt)

pub returns-in_err-present : goal.returns-in_err-present
returns-in_err-present t c =
    let p = err_from_is_err_and c.from_residual.result c.from_residual.ensures.1 in
    rw (p.1, p.2) (looks_present _ c.least-signal.ensures.1 c.with.ensures.unknown c.with.ensures.assumed c.in_err-present.ensures)

pub look-requires-2 : goal.look-requires-2
look-requires-2 t c = (omega (arith, c.decreases, fewer_unknown _ c.least-signal.ensures.1 c.without.ensures.unknown c.args.among.unknowns), tt)

pub returns-in_err-absent : goal.returns-in_err-absent
returns-in_err-absent t c =
    let p = err_from_is_err_and c.from_residual-in_err-absent.result c.from_residual-in_err-absent.ensures.1 in
    rw (p.1, p.2) (looks_absent _ c.least-signal.ensures.1 c.without.ensures.unknown c.without.ensures.assumed c.in_err-absent.ensures)

pub returns : goal.returns
returns t c =
    looks_both _ c.least-signal.ensures.1 c.with.ensures.unknown c.without.ensures.unknown c.with.ensures.assumed c.without.ensures.assumed
    c.args.among.unknowns c.in_ok-present.ensures c.in_ok-absent.ensures c.combined.ensures
