-- `reader::moves::Reader::take_digits` meets its contract: a number or a signal is taken, with what stands before it; or no part that suits ends there.
use mathlib.Core.Path.{refl, sym, ◌∙◌, subst}
use Rattle.reader.specs.declared.moves.Reader.{Reader}
use Rattle.reader.specs.inner.Held.{after_of, stack_of, nodes_of, numbered_state, named_state, due_state, Took}
use Rattle.reader.proofs.Numerals.{signal_ending}
use Rattle.reader.proofs.Figures.{unnumbered, number_touched, number_taken, signal_taken}
use Rattle.reader.proofs.moves.Reader.take_digits.Goals as goal

pub returns-in_err-value : goal.returns-in_err-value
unfolding due_state
returns-in_err-value c = rw c.from_residual.ensures (unnumbered _ _ _ _ _ _ c.requires.0 c.in_err-value.ensures)

pub returns-in-Some : goal.returns-in-Some
unfolding due_state named_state
returns-in-Some c =
    signal_taken c.args.text.bytes.now c.args.self.left (after_of c.args.self.stage) c.args.self.beside (stack_of c.args.self c.args.room.now) (nodes_of c.args.self c.args.room.now) c.take_signal.result c.take_signal.new.room _ _ c.args.self.ranged _
    (signal_ending c.in_ok-value.ensures c.in-Some.ensures) c.skip.ensures c.signal_ranged.ensures refl
    (subst (λ (q : Reader). Took c.skip.result.bytes.now (named_state q c.in_ok-value.value c.args.room.now) q.ranged c.take_signal.result c.take_signal.new.room) c.within-named.ensures c.take_signal.ensures)

pub returns-then-touches : goal.returns-then-touches
unfolding due_state
returns-then-touches c = number_touched _ _ _ _ _ _ c.requires.0 _ c.in_ok-value.ensures c.in_default.ensures (sym c.touches.ensures ∙ c.if-touches.true)

pub returns : goal.returns
unfolding due_state numbered_state
returns c =
    number_taken c.args.text.bytes.now c.args.self.left (after_of c.args.self.stage) c.args.self.beside (stack_of c.args.self c.args.room.now) (nodes_of c.args.self c.args.room.now) c.take_number.result c.take_number.new.room _ _ c.args.self.ranged _
    c.in_ok-value.ensures (sym c.touches.ensures ∙ c.if-touches.false) c.skip-2.ensures c.label_ranged.ensures refl
    (subst (λ (q : Reader). Took c.skip-2.result.bytes.now (numbered_state q c.in_ok-value.value c.args.room.now) q.ranged c.take_number.result c.take_number.new.room) c.within-numbered.ensures c.take_number.ensures)
