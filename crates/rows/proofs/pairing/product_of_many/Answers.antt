-- The invariant: what the firsts from the next on give is still to be put in at the top.
use Rattle.std.proofs.Common.{sym, ap, ◌∙◌, ◌++◌}
use Rattle.std.proofs.lemmas.Result.{err_from_is_err_and}
use Rattle.esterel.specs.inner.CappedRows.{collect_rows}
use Rattle.rows.specs.declared.row.Row.{Row as Packed}
use Rattle.rows.specs.inner.Rules.{pairs}
use Rattle.rows.specs.inner.Area.{all_rows}
use Rattle.rows.proofs.Filling.{filling_end, still_done, row_in, row_over}
use Rattle.rows.proofs.Products.{made_err, products_as, lowered}
use Rattle.rows.proofs.pairing.product_of_many.Goals as goal

abbrev nothing : Packed
nothing = record { word = 0; labels = 0 }

pub returns-in_err-n : goal.returns-in_err-n
returns-in_err-n g c =
    let f = pairs g.P.Pairing.alone g.P.Pairing.joined (all_rows c.split_at.result.1.now) in
    let q = products_as g.P.Pairing.alone g.P.Pairing.joined c.args.area.now c.split_at_mut-lists.result.0.now c.split_at.result.0.now c.split_at.result.1.now c.args.n1 c.args.n2
    c.split_at_mut-lists.ensures.front c.split_at.ensures.front c.split_at.ensures.back in
    let p = err_from_is_err_and c.from_residual.result c.from_residual.ensures.1 in
    rw (p.1, p.2)
    (made_err c.add_pairs.new.area (c.split_at_mut-lists.result.0.now ++ c.add_pairs.new.area) _ _ c.in_err-n.field-0.0 c.in_err-n.ensures
    (λ h. ap collect_rows (sym q) ∙ row_over c.split_at.result.0.now f c.loop-first.first-index c.loop-first.invariant nothing c.loop-first-test.true h))

pub loop-first-preserved : goal.loop-first-preserved
loop-first-preserved g c =
    row_in c.split_at.result.0.now (pairs g.P.Pairing.alone g.P.Pairing.joined (all_rows c.split_at.result.1.now)) c.loop-first.first-index c.loop-first.invariant nothing
    c.loop-first-test.true c.in_ok-n.ensures

pub returns : goal.returns
returns g c =
    let f = pairs g.P.Pairing.alone g.P.Pairing.joined (all_rows c.split_at.result.1.now) in
    let q = products_as g.P.Pairing.alone g.P.Pairing.joined c.args.area.now c.split_at_mut-lists.result.0.now c.split_at.result.0.now c.split_at.result.1.now c.args.n1 c.args.n2
    c.split_at_mut-lists.ensures.front c.split_at.ensures.front c.split_at.ensures.back in
    rw (sym q)
    (lowered c.split_at_mut-lists.result.0.now c.loop-first.top _ c.loop-first.n _ _ (sym c.split_at_mut-lists.ensures.front_len) c.copy_within.ensures.after c.copy_within.ensures.len
    (filling_end _ c.loop-first.invariant (still_done c.split_at.result.0.now f c.loop-first.first-index c.loop-first-test.false)))
