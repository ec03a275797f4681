-- `finish` meets its contract: each return is an answer for whatever statement stands at the end of the work area.
use native.Mathlib.Omega.{arith}
use Rattle.trim.proofs.Root.{finish_many, finish_deep, finish_short, finish_written}
use Rattle.trim.proofs.finish.Goals as goal

pub returns-then-count-gt-MOST_NODES : goal.returns-then-count-gt-MOST_NODES
returns-then-count-gt-MOST_NODES c = finish_many _ _ _ _ c.if-count-gt-MOST_NODES.true

pub returns-then-part-gt-DEEPEST : goal.returns-then-part-gt-DEEPEST
returns-then-part-gt-DEEPEST c = finish_deep _ _ _ _ c.if-part-gt-DEEPEST.true

pub returns-then-out-bytes : goal.returns-then-out-bytes
returns-then-out-bytes c =
    finish_short _ _ _ _ (omega arith) (omega arith) c.length_of-bytes.result c.length_of-bytes.ensures c.if-out-bytes.true

pub returns : goal.returns
returns c =
    finish_written _ _ _ _ (omega arith) (omega arith) c.length_of-bytes.result c.length_of-bytes.ensures (omega arith) (omega arith)
    c.of-share.result c.of-share.ensures c.write_nodes.result c.write_nodes.new.out c.write_nodes.ensures
