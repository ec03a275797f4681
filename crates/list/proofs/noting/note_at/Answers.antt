-- By the kind: the lemma of what is noted of a statement with so many children.
use mathlib.Core.Path.{ap, ◌∙◌}
use Prim.Native.Nat.{◌+◌, min, max}
use lib.ListN.{get_or}
use Rattle.lister.specs.declared.noted.Note.{Note}
use Rattle.lister.specs.inner.Notes.{unnoted}
use native.Mathlib.Omega.{arith}
use Rattle.list.proofs.Passing.{noted, noted_nothing, noted_pause, noted_leaf, noted_signal, noted_body, noted_pair}
use Rattle.list.proofs.noting.note_at.Goals as goal

pub returns-in-0 : goal.returns-in-0
returns-in-0 c = λ n xs came. noted_nothing came c.leaf.ensures _ c.kind_of.ensures c.in-0.is

pub returns-in-1 : goal.returns-in-1
returns-in-1 c = λ n xs came. noted_pause came c.leaf-in-1.ensures _ c.kind_of.ensures c.in-1.is

pub returns-in-5 : goal.returns-in-5
returns-in-5 c =
    λ n xs came.
    noted_signal came _ c.kind_of.ensures c.in-5.is (c.nested_once.ensures ∙ ap (λ (z : Note). noted z.end z.from z.behind (min 255 (z.nest + 1))) c.at_place.ensures)

pub returns-in-2-to-4 : goal.returns-in-2-to-4
returns-in-2-to-4 c = λ n xs came. noted_leaf came c.leaf-in-2-to-4.ensures _ c.kind_of.ensures (omega arith) (omega arith)

pub returns-in-6-to-8 : goal.returns-in-6-to-8
returns-in-6-to-8 c =
    λ n xs came.
    noted_pair came _ (c.at_place-in-6-to-8.ensures ∙ ap (λ (z : Note). get_or c.args.notes.now z.end unnoted) c.at_place-one.ensures)
    _ c.kind_of.ensures (omega arith) (omega arith)
    (c.joined.ensures ∙ ap (λ (z : Note). noted c.at_place-in-6-to-8.result.end z.from c.at_place-in-6-to-8.result.behind (max z.nest c.at_place-in-6-to-8.result.nest)) c.at_place-one.ensures)

pub returns-in-9-to-10 : goal.returns-in-9-to-10
returns-in-9-to-10 c = λ n xs came. noted_body came _ c.kind_of.ensures (omega arith) (omega arith) c.at_place-in-9-to-10.ensures
