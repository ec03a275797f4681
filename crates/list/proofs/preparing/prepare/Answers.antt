-- By the answer of check and the nesting of the root. While the count is 0 nothing is said of the nodes.
use native.Mathlib.Omega.{arith}
use Rattle.lister.proofs.Nodes.{none_whole}
use Rattle.list.proofs.Limits.{loaded_known, loaded_unready, loaded_counted, noted_ends, noted_pauses, noted_deep, noted_ready}
use Rattle.list.proofs.Slotting.{none_slotted}
use Rattle.list.proofs.preparing.prepare.Goals as goal

pub invariant_of-noted : goal.invariant_of-noted
invariant_of-noted c = record { few = omega arith; ends = λ at i w. absurd (none_whole w); narrow = λ i h e. absurd (omega arith); known = λ i h. absurd (omega arith) }

pub invariant_of-room : goal.invariant_of-room
invariant_of-room c = record { labels = λ at i w. absurd (none_whole w) }

pub returns-in_default-clause-prepares : goal.returns-in_default-clause-prepares
returns-in_default-clause-prepares c = loaded_unready _ _ c.load-loaded.ensures c.unwrap_err.ensures

pub note_all-requires : goal.note_all-requires
note_all-requires c = (loaded_counted _ _ c.load-loaded.ensures c.in-Ok.is).over

pub invariant_of-noted-then-noted-gt-MOST_NESTED : goal.invariant_of-noted-then-noted-gt-MOST_NESTED
invariant_of-noted-then-noted-gt-MOST_NESTED c = record { few = omega arith; ends = λ at i w. absurd (none_whole w); narrow = λ i h e. absurd (omega arith); known = λ i h. absurd (omega arith) }

pub invariant_of-room-then-noted-gt-MOST_NESTED : goal.invariant_of-room-then-noted-gt-MOST_NESTED
invariant_of-room-then-noted-gt-MOST_NESTED c = record { labels = λ at i w. absurd (none_whole w) }

pub returns-then-noted-gt-MOST_NESTED-clause-prepares : goal.returns-then-noted-gt-MOST_NESTED-clause-prepares
returns-then-noted-gt-MOST_NESTED-clause-prepares c = noted_deep _ _ c.load-loaded.ensures c.in-Ok.is c.in_ok-note_all.ensures c.if-noted-gt-MOST_NESTED.true

pub shared_ref_as_front-slotted : goal.shared_ref_as_front-slotted
shared_ref_as_front-slotted c = (loaded_counted _ _ c.load-loaded.ensures c.in-Ok.is).over.few

pub slotted-slotted-requires : goal.slotted-slotted-requires
slotted-slotted-requires c = none_slotted

pub invariant_of-noted-2 : goal.invariant_of-noted-2
invariant_of-noted-2 c =
    let counted = loaded_counted _ _ c.load-loaded.ensures c.in-Ok.is in
    record { few = counted.over.few; ends = noted_ends _ _ c.load-loaded.ensures c.in-Ok.is c.in_ok-note_all.ensures; narrow = counted.narrow; known = counted.over.known }

pub invariant_of-room-2 : goal.invariant_of-room-2
invariant_of-room-2 c = record { labels = noted_pauses _ _ c.load-loaded.ensures c.in-Ok.is c.in_ok-note_all.ensures }

pub invariant_of-result : goal.invariant_of-result
invariant_of-result c = record { whole = (loaded_counted _ _ c.load-loaded.ensures c.in-Ok.is).whole; slots = c.slotted-slotted.ensures }

pub returns-clause-prepares : goal.returns-clause-prepares
returns-clause-prepares c = noted_ready _ _ c.load-loaded.ensures c.in-Ok.is c.in_ok-note_all.ensures c.if-noted-gt-MOST_NESTED.false

pub returns-clause-known : goal.returns-clause-known
returns-clause-known c = λ k. loaded_known _ _ c.load-loaded.ensures c.in-Ok.is k
