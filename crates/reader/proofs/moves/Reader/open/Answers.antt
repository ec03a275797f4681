-- `reader::moves::Reader::open` meets its contract: what is put on the stack is what the machine opens, and at no place left it fails.
use mathlib.Core.Path.{◌≡◌, ◌∙◌}
use native.Mathlib.Omega.{arith}
use Rattle.reader.specs.inner.Nodes.{push_frame}
use Rattle.reader.proofs.Moving.{count_told, opened}
use Rattle.reader.proofs.moves.Reader.open.Goals as goal

pub returns-in_err-left : goal.returns-in_err-left
unfolding push_frame
returns-in_err-left c =
    let none : c.args.self.left ≡ 0 = omega (arith, c.in_err-left.ensures) in
    rw (c.from_residual.ensures, none)

pub returns : goal.returns
returns c =
    opened _ _ c.args.room.now _ _ c.due.ensures c.requires (omega (arith, c.in_ok-left.ensures)) (c.unwrap_or.ensures ∙ count_told _ _ c.requires.counted c.requires.nodes) c.after.ensures
