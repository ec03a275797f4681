-- `table::writing::node_of` meets its contract: the operand stays below the bits of the kind.
use Rattle.table.specs.Kinds.{kind_of}
use Rattle.table.proofs.Making.{ranged, made}
use Rattle.table.proofs.writing.node_of.Goals as goal

pub in_range-requires : goal.in_range-requires
in_range-requires c = rw c.row_of-row.ensures (ranged (kind_of c.args.kind))

pub returns : goal.returns
returns c = rw (c.in_range.ensures, c.row_of-row.ensures) (made c.args.kind c.args.operand c.requires)
