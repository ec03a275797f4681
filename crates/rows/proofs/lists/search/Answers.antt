-- Behind the last, or as the library's search finds it.
use Rattle.std.proofs.Common.{sym, ◌∙◌, arith}
use Rattle.rows.specs.inner.Layout.{unpacked}
use Rattle.rows.proofs.Words.{lt_before}
use Rattle.rows.proofs.Areas.{insert_behind, found_as}
use Rattle.rows.proofs.lists.search.Goals.{then-n-eq0-via-then-n-eq0, then-n-eq0-via-else-n-eq0+then-lt}
use Rattle.rows.proofs.lists.search.Goals as goal

pub returns-then-n-eq0 : goal.returns-then-n-eq0
returns-then-n-eq0 c = (
  omega arith,
  elim c.then-n-eq0.branch [
    | then-n-eq0-via-then-n-eq0 w ↦ insert_behind (unpacked c.args.row) c.args.list.now c.args.row c.requires (λ h. absurd (omega (arith, w.if-n-eq0.true)))
    | then-n-eq0-via-else-n-eq0+then-lt w ↦ insert_behind (unpacked c.args.row) c.args.list.now _ c.requires (λ h. sym (lt_before _ _) ∙ sym w.lt.ensures ∙ w.if-lt.true)
  ],
)

pub returns : goal.returns
returns c = found_as c.args.row c.args.list.now c.binary_search.result c.requires c.binary_search.ensures.bound c.binary_search.ensures.position
