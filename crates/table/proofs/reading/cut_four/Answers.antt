-- Four nodes are five whole bytes, so each lies in a word of its own.
use mathlib.Core.Path.{refl}
use native.Mathlib.Omega.{arith}
use lib.ListN.{length-set}
use Rattle.table.specs.Reading.{length_of}
use Rattle.table.proofs.Cutting.{four_cut}
use Rattle.table.proofs.reading.cut_four.Goals as goal

pub field_at-requires : goal.field_at-requires
unfolding length_of
field_at-requires c = (omega arith, omega arith)

pub field_at-requires-2 : goal.field_at-requires-2
unfolding length_of
field_at-requires-2 c = (omega arith, omega arith)

pub bounds-nodes-i-2 : goal.bounds-nodes-i-2
bounds-nodes-i-2 c = simp length-set (omega arith)

pub field_at-requires-3 : goal.field_at-requires-3
unfolding length_of
field_at-requires-3 c = (omega arith, omega arith)

pub bounds-nodes-i-3 : goal.bounds-nodes-i-3
bounds-nodes-i-3 c = simp length-set (omega arith)

pub field_at-requires-4 : goal.field_at-requires-4
unfolding length_of
field_at-requires-4 c = (omega arith, omega arith)

pub bounds-nodes-i-4 : goal.bounds-nodes-i-4
bounds-nodes-i-4 c = simp length-set (omega arith)

pub returns : goal.returns
returns c =
    four_cut c.args.table.now _ _ (λ i. omega (arith, c.type_inv.table i)) _ _ _ _ _ c.requires.0 refl c.requires.3 c.requires.2
    c.field_at.ensures c.field_at-2.ensures c.field_at-3.ensures c.field_at-4.ensures
