-- `reader::moves::Reader::take_number` meets its contract: `exit` or `gotopause` stands there, or no part that suits.
use mathlib.Core.Path.{refl}
use Rattle.text.specs.Parts.{Gotopause, Exit, word}
use Rattle.text.specs.Spelling.{letters_of}
use Rattle.reader.specs.inner.Nodes.{part_ranged, work, work_numbered}
use Rattle.reader.specs.inner.Held.{numbered_state}
use Rattle.reader.proofs.Taking.{took_part}
use Rattle.reader.proofs.Parting.{word_ending}
use Rattle.reader.proofs.Dues.{no_jump}
use Rattle.reader.proofs.moves.Reader.take_number.Goals as goal

pub returns-in-Some : goal.returns-in-Some
unfolding numbered_state work work_numbered part_ranged letters_of
returns-in-Some c = took_part _ _ (word Exit) (word_ending Exit c.in-Some.ensures) _ refl (rw c.node_of-exit.ensures at c.leaf.ensures)

pub returns-in_err-before : goal.returns-in_err-before
unfolding numbered_state letters_of
returns-in_err-before c = rw c.from_residual.ensures (no_jump _ _ _ _ _ _ _ c.in_default.ensures c.in_err-before.ensures)

pub returns : goal.returns
unfolding numbered_state work work_numbered part_ranged letters_of
returns c = took_part _ _ (word Gotopause) (word_ending Gotopause c.in_ok-before.ensures) _ refl (rw c.node_of-gotopause.ensures at c.leaf-2.ensures)
