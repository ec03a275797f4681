-- `reader::moves::Reader::take_signal` meets its contract: `emit` or `present` stands there, or no part that suits.
use mathlib.Core.Path.{refl}
use Rattle.text.specs.Parts.{Emit, Present, word}
use Rattle.text.specs.Spelling.{letters_of}
use Rattle.reader.specs.inner.Nodes.{part_ranged, work, work_named}
use Rattle.reader.specs.inner.Held.{named_state}
use Rattle.reader.proofs.Taking.{took_part, doomed_part}
use Rattle.reader.proofs.Parting.{word_ending}
use Rattle.reader.proofs.Dues.{no_test}
use Rattle.reader.proofs.moves.Reader.take_signal.Goals as goal

pub returns-in-Some : goal.returns-in-Some
unfolding named_state work work_named part_ranged letters_of
returns-in-Some c = took_part _ _ (word Emit) (word_ending Emit c.in-Some.ensures) _ refl (rw c.node_of-emit.ensures at c.leaf.ensures)

pub returns-in_err-before : goal.returns-in_err-before
unfolding named_state letters_of
returns-in_err-before c = rw c.from_residual.ensures (no_test _ _ _ _ _ _ _ c.in_default.ensures c.in_err-before.ensures)

pub returns-in_err-bare : goal.returns-in_err-bare
unfolding named_state work work_named letters_of
returns-in_err-bare c = rw c.from_residual-in_err-bare.ensures (doomed_part _ _ (word Present) (word_ending Present c.in_ok-before.ensures) _ c.in_err-bare.ensures)

pub returns : goal.returns
unfolding named_state work work_named part_ranged letters_of
returns c = took_part _ _ (word Present) (word_ending Present c.in_ok-before.ensures) _ refl c.in_ok-bare.ensures
