-- What is put one after the other is the text of the statement at the node. The depth that is left falls.
use mathlib.Core.Path.{sym, ◌∙◌}
use native.Mathlib.Omega.{arith}
use Rattle.writer.proofs.Putting.{put_length}
use Rattle.writer.proofs.Passing.{inside, deep, leaf_room, wrote_leaf, head_room, enter_first, end_room, wrote_one}
use Rattle.writer.proofs.Passing.{between_room, enter_second, tail_room, wrote_two}
use Rattle.writer.proofs.writing.+put_statement.Goals as goal

pub offset_bounds-nodes-from : goal.offset_bounds-nodes-from
offset_bounds-nodes-from t c = omega (arith, inside c.requires)

pub bounds-nodes-from : goal.bounds-nodes-from
bounds-nodes-from t c = inside c.requires

pub overflow_add-at : goal.overflow_add-at
overflow_add-at t c = omega (arith, inside c.requires)

pub put_leaf-place-requires : goal.put_leaf-place-requires
put_leaf-place-requires t c = leaf_room c.requires c.kind_of-kind.ensures c.if-kind-lt-SIGNAL.true

pub returns-then-kind-lt-SIGNAL : goal.returns-then-kind-lt-SIGNAL
returns-then-kind-lt-SIGNAL t c = wrote_leaf c.requires c.kind_of-kind.ensures c.if-kind-lt-SIGNAL.true c.put_leaf-place.ensures

pub put_head-place-requires : goal.put_head-place-requires
put_head-place-requires t c = head_room c.requires c.kind_of-kind.ensures c.if-kind-lt-SIGNAL.false c.encloses-brackets.ensures

pub overflow_sub-left : goal.overflow_sub-left
overflow_sub-left t c = deep c.requires

pub put_statement-first-requires : goal.put_statement-first-requires
put_statement-first-requires t c =
    let low = deep c.requires in
    (omega (arith, c.decreases, low), enter_first c.requires c.kind_of-kind.ensures c.if-kind-lt-SIGNAL.false c.encloses-brackets.ensures c.put_head-place.ensures c.of_first.ensures)

pub put-place-requires : goal.put-place-requires
put-place-requires t c =
    end_room c.requires c.kind_of-kind.ensures c.if-kind-lt-SIGNAL.false c.encloses-brackets.ensures c.put_head-place.ensures c.of_first.ensures
    c.put_statement-first.ensures (sym c.has_two.ensures ∙ c.if-not-has_two.true)

pub returns-then-not-has_two : goal.returns-then-not-has_two
returns-then-not-has_two t c =
    wrote_one c.requires c.kind_of-kind.ensures c.if-kind-lt-SIGNAL.false c.encloses-brackets.ensures c.put_head-place.ensures c.of_first.ensures
    c.put_statement-first.ensures (sym c.has_two.ensures ∙ c.if-not-has_two.true) c.put-place.ensures

pub put_between-place-requires : goal.put_between-place-requires
put_between-place-requires t c =
    between_room c.requires c.kind_of-kind.ensures c.if-kind-lt-SIGNAL.false c.encloses-brackets.ensures c.put_head-place.ensures c.of_first.ensures
    c.put_statement-first.ensures (sym c.has_two.ensures ∙ c.if-not-has_two.false)

pub overflow_sub-left-2 : goal.overflow_sub-left-2
overflow_sub-left-2 t c = deep c.requires

pub put_statement-second-requires : goal.put_statement-second-requires
put_statement-second-requires t c =
    let low = deep c.requires in (
      omega (arith, c.decreases, low),
      enter_second c.requires c.kind_of-kind.ensures c.if-kind-lt-SIGNAL.false c.encloses-brackets.ensures c.put_head-place.ensures c.of_first.ensures
          c.put_statement-first.ensures (sym c.has_two.ensures ∙ c.if-not-has_two.false) c.put_between-place.ensures c.of_second.ensures,
    )

pub put_tail-place-requires : goal.put_tail-place-requires
put_tail-place-requires t c =
    tail_room c.requires c.kind_of-kind.ensures c.if-kind-lt-SIGNAL.false c.encloses-brackets.ensures c.put_head-place.ensures c.of_first.ensures
    c.put_statement-first.ensures (sym c.has_two.ensures ∙ c.if-not-has_two.false) c.put_between-place.ensures c.of_second.ensures c.put_statement-second.ensures

pub returns : goal.returns
returns t c =
    wrote_two c.requires c.kind_of-kind.ensures c.if-kind-lt-SIGNAL.false c.encloses-brackets.ensures c.put_head-place.ensures c.of_first.ensures
    c.put_statement-first.ensures (sym c.has_two.ensures ∙ c.if-not-has_two.false) c.put_between-place.ensures c.of_second.ensures c.put_statement-second.ensures c.put_tail-place.ensures

pub shape_of-out : goal.shape_of-out
shape_of-out t c = put_length (returns t c).put
