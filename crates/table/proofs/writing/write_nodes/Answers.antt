-- After each turn the bytes of the nodes before the place are written.
use mathlib.Core.Path.{◌≡◌}
use Prim.Native.Nat.{ℕ, ◌+◌, ◌-◌, ◌*◌, ◌/◌, ◌%◌}
use native.Mathlib.Omega.{arith}
use lib.ListN.{length}
use Rattle.table.specs.Reading.{length_of}
use Rattle.table.proofs.Packing.{gathered_part, Written, written_none, written_start, written_from, written_four, written_all}
use Rattle.table.proofs.writing.write_nodes.Goals as goal

pub put_bytes-requires : goal.put_bytes-requires
unfolding length_of
put_bytes-requires c = (omega arith, omega arith)

-- behind the header no node is written
pub loop-four-init : goal.loop-four-init
loop-four-init c =
    let header : Written c.args.nodes.now c.args.out.now c.put_bytes.new.out 2 0 = rw c.put_bytes.ensures (written_none c.args.nodes.now c.args.out.now c.requires) in
    written_start header

pub loop-four-preserved : goal.loop-four-preserved
loop-four-preserved c =
    let header : Written c.args.nodes.now c.args.out.now c.put_bytes.new.out 2 0 = rw c.put_bytes.ensures (written_none c.args.nodes.now c.args.out.now c.requires) in
    let word = gathered_part c.args.nodes.now (4 * c.loop-four.four) 4 _ c.gather-word.result (omega arith) (omega arith) c.gather-word.ensures in
    rw c.put_bytes-in-loop-four.ensures
    (written_four c.args.nodes.now c.put_bytes.new.out c.loop-four.out c.loop-four.four c.gather-word.result (rw header.same c.requires) c.loop-four.invariant c.loop-four-test.true word)

pub returns : goal.returns
returns c =
    let count : ℕ = length c.args.nodes.now in
    let header : Written c.args.nodes.now c.args.out.now c.put_bytes.new.out 2 0 = rw c.put_bytes.ensures (written_none c.args.nodes.now c.args.out.now c.requires) in
    let fours : c.loop-four.four ≡ count / 4 = omega arith in
    let first : 4 * (count / 4) ≡ count - count % 4 = omega arith in
    let whole : Written c.args.nodes.now c.put_bytes.new.out c.loop-four.out (2 + 5 * (count / 4)) (count - count % 4) =
    rw (← first, ← fours) c.loop-four.invariant in
    let word = gathered_part c.args.nodes.now (count - count % 4) (count % 4) _ c.gather-word-2.result (omega arith) (omega arith) c.gather-word-2.ensures in
    rw c.put_bytes-2.ensures
    (written_all c.args.nodes.now c.args.out.now c.loop-four.out (2 + 5 * (count / 4)) (count - count % 4) (count % 4) c.gather-word-2.result c.length_of-total.result
    c.requires (written_from header whole) (omega arith) (omega arith) word c.length_of-total.ensures)
