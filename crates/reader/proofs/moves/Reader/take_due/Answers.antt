-- `reader::moves::Reader::take_due` meets its contract: by the last byte, the one part of those that suit which it can end.
use mathlib.Core.Path.{refl}
use native.Mathlib.Omega.{arith}
use borrow.Author.Tests.{ltb-true, ltb-false, eqb-false}
use Rattle.text.specs.Parts.{Nothing, End, word, closing}
use Rattle.text.specs.Spelling.{letters_of, spelling}
use Rattle.text.specs.inner.Lexer.{is_letter}
use Rattle.reader.specs.inner.Nodes.{part_ranged, work, work_due}
use Rattle.reader.specs.inner.Held.{framed_as, due_state}
use Rattle.reader.proofs.Bytes.{last_is}
use Rattle.reader.proofs.Numbers.{last_digit}
use Rattle.reader.proofs.Places.{front_apart}
use Rattle.reader.proofs.Taking.{took_part, doomed_part}
use Rattle.reader.proofs.Parting.{word_ending, byte_ending}
use Rattle.reader.proofs.Dues.{no_part, no_nothing, no_end}
use Rattle.reader.proofs.moves.Reader.take_due.Goals as goal
use Rattle.reader.proofs.moves.Reader.take_due.Goals.{in_default-via-then-text-lt1, in_default-via-else-text-lt1+in_default+then-this-lt48, in_default-via-else-text-lt1+in_default+else-this-lt48+else-this-lt58}

pub returns-in_err-before-in-103 : goal.returns-in_err-before-in-103
unfolding due_state letters_of
returns-in_err-before-in-103 c = rw c.from_residual.ensures (no_nothing _ _ _ _ _ _ (last_is _ c.in-103.len_at_least (omega arith)) c.in_err-before-in-103.ensures)

pub returns-in_err-before-in-100 : goal.returns-in_err-before-in-100
unfolding due_state letters_of
returns-in_err-before-in-100 c = rw c.from_residual-in_err-before-in-100.ensures (no_end _ _ _ _ _ _ (last_is _ c.in-100.len_at_least (omega arith)) c.in_err-before-in-100.ensures)

pub returns-in_err-open-in-100 : goal.returns-in_err-open-in-100
unfolding due_state work work_due framed_as letters_of
returns-in_err-open-in-100 c = rw c.from_residual-in_err-open-in-100.ensures (doomed_part _ _ (word End) (word_ending End c.in_ok-before-in-100.ensures) _ c.in_err-open-in-100.ensures)

pub returns-in_err-open-in-93 : goal.returns-in_err-open-in-93
unfolding due_state work work_due framed_as spelling is_letter
returns-in_err-open-in-93 c =
    rw c.from_residual-in_err-open-in-93.ensures (doomed_part c.args.text.bytes.now _ closing (byte_ending _ closing c.in-93.len_at_least (last_is _ c.in-93.len_at_least (omega arith)) refl refl) _ c.in_err-open-in-93.ensures)

pub take_digits-requires : goal.take_digits-requires
take_digits-requires c = (last_digit c.args.text.bytes.now (omega arith) (omega arith) (omega arith), c.requires)

pub returns-in_ok-before-in-103 : goal.returns-in_ok-before-in-103
unfolding due_state work work_due part_ranged letters_of
returns-in_ok-before-in-103 c = took_part _ _ (word Nothing) (word_ending Nothing c.in_ok-before-in-103.ensures) _ refl (rw c.node_of-nothing.ensures at c.leaf.ensures)

pub returns-in_ok-open-in-100 : goal.returns-in_ok-open-in-100
unfolding due_state work work_due framed_as part_ranged letters_of
returns-in_ok-open-in-100 c = took_part _ _ (word End) (word_ending End c.in_ok-before-in-100.ensures) _ refl c.in_ok-open-in-100.ensures

pub returns-in_ok-open-in-93 : goal.returns-in_ok-open-in-93
unfolding due_state work work_due framed_as part_ranged spelling is_letter
returns-in_ok-open-in-93 c =
    took_part c.args.text.bytes.now _ closing (byte_ending _ closing c.in-93.len_at_least (last_is _ c.in-93.len_at_least (omega arith)) refl refl) _ refl c.in_ok-open-in-93.ensures

pub take_pause-requires : goal.take_pause-requires
take_pause-requires c = (last_is _ c.in-101.len_at_least (omega arith), c.requires)

pub returns-in_default : goal.returns-in_default
unfolding due_state
returns-in_default c =
    let text = c.args.text.bytes.now in
    no_part text _ _ _ _ _ (λ l. elim c.in_default.branch [
      | in_default-via-then-text-lt1 w ↦ absurd (omega (arith, ltb-true, ltb-false, eqb-false))
      | in_default-via-else-text-lt1+in_default+then-this-lt48 w ↦ record {
        digits = λ h k. omega (arith, ltb-true, ltb-false, eqb-false);
        nothing = λ e. omega (arith, ltb-true, ltb-false, eqb-false);
        pause = λ e. omega (arith, ltb-true, ltb-false, eqb-false);
        ends = λ e. omega (arith, ltb-true, ltb-false, eqb-false);
        closes = λ e. omega (arith, ltb-true, ltb-false, eqb-false);
      }
      | in_default-via-else-text-lt1+in_default+else-this-lt48+else-this-lt58 w ↦ record {
        digits = λ h k. omega (arith, ltb-true, ltb-false, eqb-false);
        nothing = λ e. omega (arith, ltb-true, ltb-false, eqb-false);
        pause = λ e. omega (arith, ltb-true, ltb-false, eqb-false);
        ends = λ e. omega (arith, ltb-true, ltb-false, eqb-false);
        closes = λ e. omega (arith, ltb-true, ltb-false, eqb-false);
      }
    ])

pub invariant_of-result : goal.invariant_of-result
invariant_of-result c = record { solid = front_apart _ c.in-93.len_at_least c.args.text.solid }
