-- With each turn one byte more of the word stands at `at`.
use Rattle.table.proofs.Packing.{put_byte}
use Rattle.table.proofs.writing.put_bytes.Goals as goal

pub loop-i-preserved : goal.loop-i-preserved
loop-i-preserved c =
    rw (c.loop-i.invariant, c.byte_of.ensures)
    (put_byte c.args.out.now c.args.at c.args.word c.args.count c.loop-i.i c.loop-i-test.true c.requires.1)
