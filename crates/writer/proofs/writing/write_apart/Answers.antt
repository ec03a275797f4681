-- The text stands in front of the area, and is copied where the buffer is long enough.
use mathlib.Core.Path.{ap}
use mathlib.Core.List.{List, ◌++◌}
use native.Mathlib.Omega.{arith}
use Prim.Native.Nat.{ℕ}
use lib.ListN.{drop, length-replicate}
use Rattle.writer.proofs.Answers.{delivered_short, delivered_front}
use Rattle.writer.proofs.writing.write_apart.Goals as goal

pub whole_as_slice-write_nodes : goal.whole_as_slice-write_nodes
whole_as_slice-write_nodes g c = omega (arith, c.requires.small)

pub write_nodes-end-requires : goal.write_nodes-end-requires
write_nodes-end-requires g c = (c.requires.readable, simp length-replicate c.requires.room)

pub returns-then-out-end : goal.returns-then-out-end
returns-then-out-end g c = delivered_short _ c.args.out.now (omega (arith, c.if-out-end.true, c.write_nodes-end.ensures.end))

pub shared_whole_as_front-copy_from_slice : goal.shared_whole_as_front-copy_from_slice
shared_whole_as_front-copy_from_slice g c = (omega (arith, c.requires.room, c.write_nodes-end.ensures.end), omega (arith, c.requires.small))

pub returns : goal.returns
returns g c =
    delivered_front _ c.if-out-end.false c.write_nodes-end.ensures.end c.write_nodes-end.ensures.text (ap (λ (l : List ℕ). l ++ drop c.write_nodes-end.result c.args.out.now) c.copy_from_slice.ensures.after)
