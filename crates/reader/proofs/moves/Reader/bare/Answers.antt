-- `reader::moves::Reader::bare` meets its contract: the machine fails where something stands behind it or something else is open; else the branches are nothing.
use Rattle.table.specs.inner.Making.{node_of}
use Rattle.reader.specs.inner.Nodes.{put_on}
use Rattle.reader.proofs.Moving.{BareBranches, branches_closed, put_behind, bare_behind, bare_bottom, bare_refused, bare_ending, bare_otherwise}
use Rattle.reader.proofs.moves.Reader.bare.Goals as goal
use Rattle.reader.proofs.moves.Reader.bare.Goals.{in-Ending, in-Otherwise}

pub returns-then-after-self : goal.returns-then-after-self
returns-then-after-self c = bare_behind _ _ _ _ _ _ (rw c.after.ensures at c.if-after-self.true)

pub returns-in_err-frame : goal.returns-in_err-frame
returns-in_err-frame c = rw c.from_residual.ensures (bare_bottom _ _ c.in_err-frame.ensures _ _ _ (rw c.after.ensures at c.if-after-self.false))

pub returns-in-Bracket : goal.returns-in-Bracket
returns-in-Bracket c = bare_refused _ _ _ _ c.in_ok-frame.ensures.1 _ _ _ (rw c.after.ensures at c.if-after-self.false) c.in-Bracket.is

pub returns : goal.returns
returns c =
    let branches : BareBranches c.args.self c.in_ok-frame.frame c.args.room.now c.args.signal c.match-frame.otherwise c.match-frame.room =
    elim c.match-frame.branch [
      | in-Ending w ↦
          bare_ending _ _ _ c.in_ok-frame.ensures.1 _ (rw c.after.ensures at c.if-after-self.false) w.in-Ending.is w.room-is w.otherwise-is
          (rw c.node_of-nothing.ensures at w.put-otherwise.ensures)
      | in-Otherwise w ↦ bare_otherwise _ _ _ c.in_ok-frame.ensures.1 _ (rw c.after.ensures at c.if-after-self.false) w.in-Otherwise.is w.room-is w.otherwise-is
    ] in
    branches_closed (λ B. put_on (node_of 6 c.args.signal) (put_on (node_of 0 0) B)) branches
    (put_behind (put_on _) (rw c.node_of-nothing.ensures at c.put-branches.ensures) (rw c.node_of-present.ensures at c.put-count.ensures)) c.closed.ensures
