-- The invariant: i of the firsts and the rows before j are taken, and what is written stays below what is left of the second.
use Rattle.std.proofs.Common.{sym, inl, inr, ◌⊎◌, arith, ◌≤◌, length}
use Rattle.std.specs.declared.cmp.Ordering.TheVariants.{Less, Equal, Greater}
use Rattle.rows.proofs.Words.{compared_as}
use Rattle.rows.proofs.Merges.{merging_first, merging_second, merging_both, merged_in_order, merged_end}
use Rattle.rows.proofs.merging.merge_down.Goals.{in-Less, in-Greater, in-Equal, then-loop-i-test+else-j-end, else-loop-i-test}
use Rattle.rows.proofs.merging.merge_down.Goals as goal

pub loop-i-preserved : goal.loop-i-preserved
loop-i-preserved c =
    elim c.match-cmp.branch [
      | in-Less w ↦
          rw (w.list-is, w.i-is, w.j-is)
          (merging_first _ c.args.firsts.now c.loop-i.list c.loop-i.n c.loop-i.i c.loop-i.j c.loop-i.invariant c.loop-i-test.true (omega (arith, c.if-j-end.true)) _ (compared_as Less _ _ (sym w.in-Less.ensures)))
      | in-Greater w ↦
          rw (w.list-is, w.i-is, w.j-is)
          (merging_second _ c.args.firsts.now c.loop-i.list c.loop-i.n c.loop-i.i c.loop-i.j c.loop-i.invariant c.loop-i-test.true (omega (arith, c.if-j-end.true)) _ (compared_as Greater _ _ (sym w.in-Greater.ensures)))
      | in-Equal w ↦
          rw (w.list-is, w.i-is, w.j-is)
          (merging_both _ c.args.firsts.now c.loop-i.list c.loop-i.n c.loop-i.i c.loop-i.j c.loop-i.invariant c.loop-i-test.true (omega (arith, c.if-j-end.true)) _ (compared_as Equal _ _ (sym w.in-Equal.ensures)))
    ]

pub counted-requires : goal.counted-requires
counted-requires c =
    let done : (length c.args.firsts.now ≤ c.loop-i.i) ⊎ (length c.loop-i.list ≤ c.loop-i.j) =
    elim c.loop-i-test.branch [
      | then-loop-i-test+else-j-end w ↦ inr (omega (arith, w.if-j-end.false))
      | else-loop-i-test w ↦ inl w.loop-i-test.false
    ] in
    merged_in_order _ c.args.firsts.now c.loop-i.list c.loop-i.n c.loop-i.i c.loop-i.j c.loop-i.invariant done _ (length c.args.list.now) (omega arith) (omega arith) c.copy_rows.new.to _
    c.copy_rows.ensures c.copy_within.ensures.after (omega arith) c.copy_within.ensures.len

pub returns : goal.returns
returns c =
    let done : (length c.args.firsts.now ≤ c.loop-i.i) ⊎ (length c.loop-i.list ≤ c.loop-i.j) =
    elim c.loop-i-test.branch [
      | then-loop-i-test+else-j-end w ↦ inr (omega (arith, w.if-j-end.false))
      | else-loop-i-test w ↦ inl w.loop-i-test.false
    ] in
    merged_end _ c.args.firsts.now c.loop-i.list c.loop-i.n c.loop-i.i c.loop-i.j c.loop-i.invariant done _ (length c.args.list.now) (omega arith) (omega arith) c.copy_rows.new.to _
    c.copy_rows.ensures c.copy_within.ensures.after (omega arith) c.copy_within.ensures.len 0 _ c.counted.result c.counted.ensures
