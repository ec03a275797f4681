-- By what the header and the nodes gave (proofs/Loading).
use mathlib.Core.Path.{sym, ◌∙◌}
use native.Mathlib.Omega.{arith}
use Rattle.std.proofs.lemmas.Result.{err_from_is_err_and}
use Rattle.table.proofs.Header.{header_accepted}
use Rattle.table.proofs.Loading.{load_refused, load_walked}
use Rattle.table.proofs.reading.load.Goals as goal

pub returns-in_err-n : goal.returns-in_err-n
returns-in_err-n c =
    let r = err_from_is_err_and c.from_residual.result c.from_residual.ensures.1 in
    rw (r.1, r.2) (load_refused c.args.table.now c.args.nodes.now c.header.result c.in_err-n.field-0.0 c.header.ensures c.in_err-n.was)

pub decode-requires : goal.decode-requires
decode-requires c =
    let h = header_accepted c.args.table.now c.in_ok-n.field-0 (sym c.header.ensures ∙ c.in_ok-n.was) in
    (h.few, h.whole, omega (arith, h.few, c.told-nodes))

pub check_nodes-requires : goal.check_nodes-requires
check_nodes-requires c =
    let h = header_accepted c.args.table.now c.in_ok-n.field-0 (sym c.header.ensures ∙ c.in_ok-n.was) in
    (omega arith, h.few)

pub returns : goal.returns
returns c =
    load_walked c.args.table.now c.args.nodes.now c.decode.new.nodes c.in_ok-n.field-0 c.check_nodes.result
    (sym c.header.ensures ∙ c.in_ok-n.was) c.decode.ensures c.check_nodes.ensures
