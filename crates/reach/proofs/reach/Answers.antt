-- `reach::reach` meets its contract: by the answer of check, and on an accepted table by what the rounds come to.
use borrow.Author.Rules.{rules}
use Rattle.table.proofs.Loading.{load_refuses, load_holds, load_statement, load_loaded, known_zeros}
use Rattle.reach.proofs.Answers.{reach_refused, reach_found}
use Rattle.reach.proofs.reach.Goals as goal

pub returns-in_default : goal.returns-in_default
returns-in_default c =
    reach_refused c.args.table.now _ (load_refuses c.args.table.now _ _ c.load-checked.result c.load-checked.ensures _ c.unwrap_err.ensures)

pub settle-requires : goal.settle-requires
settle-requires c =
    load_loaded c.args.table.now _ _ c.load-checked.result c.load-checked.ensures c.in-Ok.field-0 c.in-Ok.is (search rules) (known_zeros 1024)

pub returns : goal.returns
returns c =
    let (p, h) = load_holds c.args.table.now _ _ c.load-checked.result c.load-checked.ensures c.in-Ok.field-0 c.in-Ok.is in
    reach_found c.args.table.now _ c.in-Ok.field-0 p h (load_statement c.args.table.now _ _ c.load-checked.result c.load-checked.ensures c.in-Ok.field-0 c.in-Ok.is)
    c.in_ok-start.field-0 c.in_ok-start.ensures c.ends.result c.labels.result c.ends.ensures c.labels.ensures
