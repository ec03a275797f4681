-- `reader::make_table` meets its contract: the nodes are refused as the table of their statement is, or it has no room, or it is written.
use mathlib.Core.Path.{refl, ap, ◌∙◌}
use Rattle.std.specs.Prelude.{Err}
use Rattle.std.proofs.lemmas.Result.{err_from_is_err_and}
use Rattle.table.specs.declared.Refusal.{Refusal}
use Rattle.reader.proofs.Tables.{handed, nodes_refused, nodes_short, nodes_writable, nodes_written_out}
use Rattle.reader.proofs.make_table.Goals as goal

pub returns-in_err-check_nodes : goal.returns-in_err-check_nodes
returns-in_err-check_nodes c = λ e.
    let r = err_from_is_err_and c.from_residual.result c.from_residual.ensures.1 in
    nodes_refused e c.check_nodes.result c.check_nodes.ensures _ _ c.in_err-check_nodes.was (r.1 ∙ ap (λ (z : Refusal). Err z) r.2)

pub returns-then-out-length_of : goal.returns-then-out-length_of
returns-then-out-length_of c = λ e.
    nodes_short e c.check_nodes.result c.check_nodes.ensures c.in_ok-check_nodes.was _ c.length_of.ensures c.if-out-length_of.true

pub write_nodes-requires : goal.write_nodes-requires
write_nodes-requires c = nodes_writable c.requires refl c.length_of.ensures c.if-out-length_of.false

pub returns : goal.returns
returns c = λ e.
    nodes_written_out e c.check_nodes.result c.check_nodes.ensures c.in_ok-check_nodes.was _ c.length_of.ensures c.if-out-length_of.false (handed e refl) c.write_nodes.ensures.0 c.write_nodes.ensures.1
