-- `trim_with` meets its contract: by check's answer, and on an accepted table by what stands at the end of the work area.
use Rattle.table.proofs.Loading.{load_loaded}
use Rattle.trim.proofs.Answers.{trim_refused, some_node, end_fields, trim_done}
use Rattle.trim.proofs.trim_with.Goals as goal

pub returns-in_default : goal.returns-in_default
returns-in_default c =
    trim_refused c.args.table.now c.args.nodes.now _ _ c.load-checked.ensures c.args.out.now _ c.unwrap_err.ensures

pub trim_nodes-requires-clause-loaded : goal.trim_nodes-requires-clause-loaded
trim_nodes-requires-clause-loaded c =
    load_loaded c.args.table.now c.args.nodes.now _ c.load-checked.result c.load-checked.ensures c.in-Ok.before c.in-Ok.is c.told-nodes c.requires.0

pub finish-requires : goal.finish-requires
finish-requires c = (
  some_node c.args.table.now c.args.nodes.now _ _ c.load-checked.ensures c.args.out.now c.in-Ok.before c.in-Ok.is,
  end_fields c.args.table.now c.args.nodes.now _ _ c.load-checked.ensures c.args.out.now c.in-Ok.before c.in-Ok.is _ _ c.in_ok-part.ensures c.told-nodes c.requires.0,
)

pub returns : goal.returns
returns c =
    trim_done c.args.table.now c.args.nodes.now _ _ c.load-checked.ensures c.args.out.now c.in-Ok.before c.in-Ok.is _ _ c.in_ok-part.ensures c.finish.result c.finish.new.out c.finish.ensures
