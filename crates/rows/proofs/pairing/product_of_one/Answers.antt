-- A row that stands alone is the list, any other is joined to those above it.
use Rattle.std.proofs.Common.{sym, ap, drop}
use Rattle.esterel.specs.inner.CappedRows.{collect_rows}
use Rattle.rows.specs.inner.Area.{all_rows}
use Rattle.rows.proofs.Merges.{made_as}
use Rattle.rows.proofs.Products.{single_alone, single_met}
use Rattle.rows.proofs.pairing.product_of_one.Goals as goal

pub returns-then-stands_alone : goal.returns-then-stands_alone
returns-then-stands_alone g c =
    single_alone g.P.Pairing.alone g.P.Pairing.joined c.args.area.now (all_rows (drop 1 c.args.area.now)) _ c.requires _ c.stands_alone.ensures c.if-stands_alone.true

pub returns : goal.returns
returns g c =
    made_as 0 c.alter_from.new.area
    (ap collect_rows (sym (single_met g.P.Pairing.alone g.P.Pairing.joined c.args.area.now (all_rows (drop 1 c.args.area.now)) _ c.requires _ c.stands_alone.ensures c.if-stands_alone.false)))
    c.alter_from.result c.alter_from.ensures.made
