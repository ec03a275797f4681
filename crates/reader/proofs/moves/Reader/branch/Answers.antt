-- `reader::moves::Reader::branch` meets its contract: what is open innermost is an `end`, with an else branch or without, or the machine fails too.
use Rattle.table.specs.inner.Making.{node_of}
use Rattle.reader.specs.inner.Nodes.{put_on}
use Rattle.reader.proofs.Moving.{TestBranches, branches_closed, branch_bottom, branch_refused, branch_ending, branch_otherwise}
use Rattle.reader.proofs.moves.Reader.branch.Goals as goal
use Rattle.reader.proofs.moves.Reader.branch.Goals.{in-Ending, in-Otherwise}

pub returns-in_err-frame : goal.returns-in_err-frame
returns-in_err-frame c = rw c.from_residual.ensures (branch_bottom _ _ c.in_err-frame.ensures _)

pub returns-in-Bracket : goal.returns-in-Bracket
returns-in-Bracket c = branch_refused _ _ _ _ c.in_ok-frame.ensures.1 _ c.in-Bracket.is

pub returns : goal.returns
returns c =
    let branches : TestBranches c.args.self c.in_ok-frame.frame c.args.room.now c.args.signal c.match-frame.branches c.match-frame.room =
    elim c.match-frame.branch [
      | in-Ending w ↦ branch_ending _ _ _ c.in_ok-frame.ensures.1 _ c.requires.0 w.in-Ending.is w.room-is w.branches-is w.insert_nothing-branches.ensures
      | in-Otherwise w ↦ branch_otherwise _ _ _ c.in_ok-frame.ensures.1 _ c.requires.0 w.in-Otherwise.is w.room-is w.branches-is
    ] in
    branches_closed (put_on (node_of 6 c.args.signal)) branches (rw c.node_of-present.ensures at c.put-count.ensures) c.closed.ensures
