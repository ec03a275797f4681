-- A row that stands alone is put in itself, any other is joined.
use Rattle.std.proofs.Common.{sym, ap, List, ◌++◌}
use Rattle.esterel.specs.inner.Rows.{Row}
use Rattle.esterel.specs.inner.CappedRows.{collect_rows}
use Rattle.rows.specs.inner.Layout.{unpacked}
use Rattle.rows.specs.inner.Area.{all_rows, rows}
use Rattle.rows.proofs.Merges.{made_as}
use Rattle.rows.proofs.Products.{put_made, pairs_alone, pairs_met}
use Rattle.rows.proofs.pairing.add_pairs.Goals as goal

pub returns-then-stands_alone : goal.returns-then-stands_alone
returns-then-stands_alone g c =
    made_as 0 c.put.new.area
    (ap (λ (z : List Row). collect_rows (z ++ rows c.args.area.now c.args.n))
    (sym (pairs_alone g.P.Pairing.alone g.P.Pairing.joined (all_rows c.args.seconds.now) (unpacked c.args.first) _ c.stands_alone.ensures c.if-stands_alone.true)))
    c.put.result (put_made c.args.area.now c.put.new.area c.args.n (unpacked c.args.first) c.put.result c.put.ensures)

pub returns : goal.returns
returns g c =
    made_as 0 c.add.new.area
    (ap (λ (z : List Row). collect_rows (z ++ rows c.args.area.now c.args.n))
    (sym (pairs_met g.P.Pairing.alone g.P.Pairing.joined (all_rows c.args.seconds.now) (unpacked c.args.first) _ c.stands_alone.ensures c.if-stands_alone.false)))
    c.add.result c.add.ensures
