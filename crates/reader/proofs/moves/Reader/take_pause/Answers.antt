-- `reader::moves::Reader::take_pause` meets its contract: a pause with its label stands there, or no part that suits.
use mathlib.Core.Path.{◌≡◌, sym, ap, ◌∙◌}
use mathlib.Core.List.{◌++◌}
use Rattle.text.specs.Spelling.{colon_pause}
use Rattle.table.specs.inner.Making.{node_of}
use Rattle.reader.specs.declared.moves.Reader.{Reader}
use Rattle.reader.specs.inner.Nodes.{put_on}
use Rattle.reader.specs.inner.Held.{nodes_of, single_at, due_state}
use Rattle.reader.proofs.Moving.{moved_as}
use Rattle.reader.proofs.Figures.{no_colon, no_label, label_touched, pause_taken}
use Rattle.reader.proofs.moves.Reader.take_pause.Goals as goal

pub returns-in_err-behind : goal.returns-in_err-behind
unfolding due_state colon_pause
returns-in_err-behind c = rw c.from_residual.ensures (no_colon _ _ _ _ _ _ c.requires.0 c.in_err-behind.ensures)

pub returns-in_err-label : goal.returns-in_err-label
unfolding due_state colon_pause
returns-in_err-label c =
    let colon : c.args.text.bytes.now ≡ c.in_ok-behind.behind.bytes.now ++ colon_pause = c.in_ok-behind.ensures in
    rw c.from_residual-in_err-label.ensures (no_label _ _ _ _ _ _ c.requires.0 _ colon c.in_err-label.ensures)

pub returns-then-touches : goal.returns-then-touches
unfolding due_state colon_pause
returns-then-touches c =
    let colon : c.args.text.bytes.now ≡ c.in_ok-behind.behind.bytes.now ++ colon_pause = c.in_ok-behind.ensures in
    label_touched _ _ _ _ _ _ c.requires.0 _ colon _ c.in_ok-label.ensures (sym c.touches.ensures ∙ c.if-touches.true)

pub returns : goal.returns
unfolding due_state colon_pause
returns c =
    let colon : c.args.text.bytes.now ≡ c.in_ok-behind.behind.bytes.now ++ colon_pause = c.in_ok-behind.ensures in
    pause_taken _ _ _ _ _ _ c.requires.0 _ colon _ c.in_ok-label.ensures (sym c.touches.ensures ∙ c.if-touches.false) c.label_ranged.ensures (ap (λ (q : Reader). q.ranged) c.within-labelled.ensures)
    (moved_as (rw c.node_of-pause.ensures at c.leaf.ensures)
    (ap (λ (q : Reader). single_at q c.args.room.now (put_on (node_of 1 c.in_ok-label.label) (nodes_of q c.args.room.now))) c.within-labelled.ensures))
