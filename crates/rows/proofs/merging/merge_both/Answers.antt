-- The rows that have to move are copied, and merged with the second list.
use Rattle.std.proofs.Common.{sym, ◌∙◌, arith, drop, take, get_or, ◌-◌}
use Rattle.std.proofs.lemmas.List.{length-take, length-drop}
use Rattle.rows.specs.declared.row.Row.{Row as Packed}
use Rattle.rows.specs.inner.Layout.{unpacked}
use Rattle.rows.proofs.Merges.{Kept, kept_there, kept_place, split_made, split_end}
use Rattle.rows.proofs.merging.merge_both.Goals.{in-Ok, in-Ok-2}
use Rattle.rows.proofs.merging.merge_both.Goals as goal

abbrev nothing : Packed
nothing = record { word = 0; labels = 0 }

pub slice_bounds-firsts-end : goal.slice_bounds-firsts-end
slice_bounds-firsts-end c = omega (arith, c.requires.0.small, c.split_at_mut-lists.ensures.back_len, c.requires.2)

pub slice_bounds-firsts-end-2 : goal.slice_bounds-firsts-end-2
slice_bounds-firsts-end-2 c = sym (length-take _ c.split_at_mut-lists.result.1.now ∙ omega (arith, c.requires.0.small, c.split_at_mut-lists.ensures.back_len, c.requires.2))

pub copy_rows-requires : goal.copy_rows-requires
copy_rows-requires c =
    length-take _ c.split_at_mut-lists.result.1.now
    ∙ omega (
      arith,
      c.requires.0.small,
      c.split_at_mut-lists.ensures.back_len,
      c.split_at_mut-lists.ensures.front_len,
      c.requires.2,
      length-take (c.args.n1 - c.match-search.kept) (drop c.match-search.kept c.split_at_mut-lists.result.0.now),
      length-drop c.match-search.kept c.split_at_mut-lists.result.0.now,
    )

pub merge_down-requires : goal.merge_down-requires
merge_down-requires c =
    let k : Kept (take c.args.n1 c.args.area.now) (unpacked (get_or c.args.area.now c.args.n1 nothing)) c.match-search.kept =
    elim c.match-search.branch [
      | in-Ok w ↦ rw w.kept-is (kept_there _ _ _ c.requires.0.first w.in-Ok.ensures)
      | in-Ok-2 w ↦ rw w.kept-is (kept_place _ _ _ c.requires.0.first w.in-Ok.ensures)
    ] in
    split_made c.args.area.now c.split_at_mut-lists.result.0.now c.copy_rows.new.to c.args.n1 c.args.n2 c.match-search.kept nothing c.requires.0 c.requires.1 k
    c.split_at_mut-lists.ensures.front c.copy_rows.ensures

pub returns : goal.returns
returns c =
    let k : Kept (take c.args.n1 c.args.area.now) (unpacked (get_or c.args.area.now c.args.n1 nothing)) c.match-search.kept =
    elim c.match-search.branch [
      | in-Ok w ↦ rw w.kept-is (kept_there _ _ _ c.requires.0.first w.in-Ok.ensures)
      | in-Ok-2 w ↦ rw w.kept-is (kept_place _ _ _ c.requires.0.first w.in-Ok.ensures)
    ] in
    split_end c.args.area.now c.split_at_mut-lists.result.0.now c.copy_rows.new.to c.args.n1 c.args.n2 c.match-search.kept nothing c.requires.0 c.requires.1 k
    c.split_at_mut-lists.ensures.front c.copy_rows.ensures _ _ c.merge_down.result c.merge_down.ensures
