-- The constant table has the row of each kind, which antt computes; what has no number of a kind fixes nothing.
use mathlib.Core.Path.{refl, sym, ap}
use lib.ListN.{get_or-eq_default}
use Rattle.table.specs.Kinds.{unused, kinds, kind_of, row_of}
use Rattle.table.proofs.Rows.{row_at}
use Rattle.table.proofs.kinds.row_of.Goals as goal

pub returns-then-kind-lt16 : goal.returns-then-kind-lt16
unfolding row_of kinds
returns-then-kind-lt16 c = row_at _ refl c.args.kind

pub returns-else-kind-lt16 : goal.returns-else-kind-lt16
unfolding row_of kind_of kinds
returns-else-kind-lt16 c = ap row_of (sym (get_or-eq_default kinds unused c.if-kind-lt16.false))
