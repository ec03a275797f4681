-- By the answer of check, and by how many bytes suffice for so many nodes.
use mathlib.Core.Path.{refl}
use native.Mathlib.Omega.{arith}
use Rattle.std.proofs.lemmas.Result.{err_from_is_err_and}
use Rattle.writer.proofs.Answers.{answers_refused, load_readable, load_few, load_short, delivered, answers_delivered}
use Rattle.writer.proofs.write.Goals as goal

pub returns-in_err-count : goal.returns-in_err-count
returns-in_err-count c =
    let r = err_from_is_err_and c.from_residual.result c.from_residual.ensures.1 in
    rw (r.1, r.2) (answers_refused _ _ _ _ c.load.ensures _ c.in_err-count.was c.args.out.now)

pub write_nodes-requires : goal.write_nodes-requires
write_nodes-requires c =
    let short = load_short _ _ _ _ c.load.ensures c.in_ok-count.field-0 c.in_ok-count.was refl in
    (load_readable _ _ _ _ c.load.ensures c.in_ok-count.field-0 c.in_ok-count.was refl, omega (arith, short, c.if-count-out.true))

pub returns-then-count-out : goal.returns-then-count-out
returns-then-count-out c =
    answers_delivered _ _ _ _ c.load.ensures c.in_ok-count.field-0 c.in_ok-count.was refl
    (delivered (omega (arith, load_short _ _ _ _ c.load.ensures c.in_ok-count.field-0 c.in_ok-count.was refl, c.write_nodes.ensures.end, c.if-count-out.true)) c.write_nodes.ensures.end c.write_nodes.ensures.text)

pub write_apart-requires : goal.write_apart-requires
write_apart-requires c =
    let short = load_short _ _ _ _ c.load.ensures c.in_ok-count.field-0 c.in_ok-count.was refl in
    record { small = omega arith; readable = load_readable _ _ _ _ c.load.ensures c.in_ok-count.field-0 c.in_ok-count.was refl; room = omega (arith, short) }

pub write_apart-requires-in-0-to-128 : goal.write_apart-requires-in-0-to-128
write_apart-requires-in-0-to-128 c =
    let short = load_short _ _ _ _ c.load.ensures c.in_ok-count.field-0 c.in_ok-count.was refl in
    record { small = omega arith; readable = load_readable _ _ _ _ c.load.ensures c.in_ok-count.field-0 c.in_ok-count.was refl; room = omega (arith, short) }

pub write_apart-requires-in_default : goal.write_apart-requires-in_default
write_apart-requires-in_default c =
    let short = load_short _ _ _ _ c.load.ensures c.in_ok-count.field-0 c.in_ok-count.was refl in
    let few = load_few _ _ _ _ c.load.ensures c.in_ok-count.field-0 c.in_ok-count.was refl in
    record { small = omega arith; readable = load_readable _ _ _ _ c.load.ensures c.in_ok-count.field-0 c.in_ok-count.was refl; room = omega (arith, short, few) }

pub returns-in-0-to-16 : goal.returns-in-0-to-16
returns-in-0-to-16 c = answers_delivered _ _ _ _ c.load.ensures c.in_ok-count.field-0 c.in_ok-count.was refl c.write_apart.ensures

pub returns-in-0-to-128 : goal.returns-in-0-to-128
returns-in-0-to-128 c = answers_delivered _ _ _ _ c.load.ensures c.in_ok-count.field-0 c.in_ok-count.was refl c.write_apart-in-0-to-128.ensures

pub returns-in_default : goal.returns-in_default
returns-in_default c = answers_delivered _ _ _ _ c.load.ensures c.in_ok-count.field-0 c.in_ok-count.was refl c.write_apart-in_default.ensures
