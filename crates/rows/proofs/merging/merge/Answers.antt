-- One behind the other, or merged.
use Rattle.std.proofs.Common.{sym, ◌∙◌, arith}
use Rattle.rows.proofs.Words.{lt_before}
use Rattle.rows.proofs.Merges.{made_need, one_first, one_second, one_behind, one_list}
use Rattle.rows.proofs.merging.merge.Goals.{then-n1-eq0-via-then-n1-eq0, then-n1-eq0-via-else-n1-eq0+then-n2-eq0, then-n1-eq0-via-else-n1-eq0+else-n2-eq0+then-lt}
use Rattle.rows.proofs.merging.merge.Goals as goal

pub counted-requires : goal.counted-requires
counted-requires c = (
  c.requires.within,
  elim c.then-n1-eq0.branch [
    | then-n1-eq0-via-then-n1-eq0 w ↦ one_first c.args.area.now c.args.n1 c.args.n2 c.requires w.if-n1-eq0.true
    | then-n1-eq0-via-else-n1-eq0+then-n2-eq0 w ↦ one_second c.args.area.now c.args.n1 c.args.n2 c.requires w.if-n2-eq0.true
    | then-n1-eq0-via-else-n1-eq0+else-n2-eq0+then-lt w ↦
        one_behind c.args.area.now c.args.n1 c.args.n2 c.requires _ (omega (arith, w.if-n1-eq0.false)) (omega (arith, w.if-n2-eq0.false)) (sym (lt_before _ _) ∙ sym w.lt.ensures ∙ w.if-lt.true)
  ],
)

pub returns-then-n1-eq0 : goal.returns-then-n1-eq0
returns-then-n1-eq0 c = one_list c.args.area.now c.args.n1 c.args.n2 c.requires c.counted.result c.counted.ensures

pub returns : goal.returns
returns c = made_need _ _ _ c.merge_both.result (omega arith) c.merge_both.ensures
