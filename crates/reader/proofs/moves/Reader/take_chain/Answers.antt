-- `reader::moves::Reader::take_chain` meets its contract: by the last byte a part stands there that suits, or none does.
use mathlib.Core.Bool.{true, false}
use Prim.Native.Nat.{◌-◌}
use mathlib.Core.Path.{refl, sym, ◌∙◌}
use native.Mathlib.Omega.{arith}
use lib.ListN.{length, get_or}
use borrow.Author.Tests.{ltb-true, eqb-false}
use Rattle.text.specs.Parts.{Else, Loop, Try, word, bars, opening}
use Rattle.text.specs.Spelling.{letters_of, spelling}
use Rattle.text.specs.inner.Lexer.{is_letter}
use Rattle.reader.specs.inner.Nodes.{Kept, part_ranged, due, open_frame, else_frame, work, work_met}
use Rattle.reader.specs.inner.Held.{stack_of}
use Rattle.reader.proofs.Bytes.{last_at, last_is}
use Rattle.reader.proofs.Places.{front_apart}
use Rattle.reader.proofs.Taking.{took_part, doomed_part}
use Rattle.reader.proofs.Parting.{word_ending, byte_ending}
use Rattle.reader.proofs.Chains.{Unmet, bars_ending, no_bars, no_loop, no_try, no_else, no_chain, moved_aside, failed_aside, moved_body, failed_body}
use Rattle.reader.proofs.moves.Reader.take_chain.Goals as goal
use Rattle.reader.proofs.moves.Reader.take_chain.Goals.{in_default-via-then-text-lt1, in_default-via-else-text-lt1+in_default-1}

pub returns-in_err-before-in-124 : goal.returns-in_err-before-in-124
returns-in_err-before-in-124 c = λ b B e. rw c.from_residual.ensures (no_bars _ c.requires.0 _ b _ B (last_is _ c.in-124.len_at_least (omega arith)) (λ w f. c.in_err-before-in-124.ensures w f))

pub returns-in_ok-before-in-124 : goal.returns-in_ok-before-in-124
unfolding work work_met part_ranged
returns-in_ok-before-in-124 c = λ b B e.
    took_part _ _ bars (bars_ending (c.in_ok-before-in-124.ensures)) _ refl (moved_aside (λ (A : Kept). due c.args.self.left false true (stack_of c.args.self c.args.room.now) A) b B e (c.bars.ensures _ c.requires.2))

pub returns-in_err-bracket-in-91 : goal.returns-in_err-bracket-in-91
unfolding work work_met spelling is_letter
returns-in_err-bracket-in-91 c = λ b B e.
    rw c.from_residual-in_err-bracket-in-91.ensures (doomed_part c.args.text.bytes.now _ opening (byte_ending _ opening c.requires.0 (last_is _ c.in-91.len_at_least (omega arith)) refl refl) _
    (failed_aside (λ (A : Kept). open_frame c.args.self.left A (stack_of c.args.self c.args.room.now)) b B e c.in_err-bracket-in-91.ensures))

pub returns-in_ok-bracket-in-91 : goal.returns-in_ok-bracket-in-91
unfolding work work_met part_ranged spelling is_letter
returns-in_ok-bracket-in-91 c = λ b B e.
    took_part c.args.text.bytes.now _ opening (byte_ending _ opening c.requires.0 (last_is _ c.in-91.len_at_least (omega arith)) refl refl) _ refl
    (moved_aside (λ (A : Kept). open_frame c.args.self.left A (stack_of c.args.self c.args.room.now)) b B e c.in_ok-bracket-in-91.ensures)

pub returns-in_err-before-in-112 : goal.returns-in_err-before-in-112
unfolding letters_of
returns-in_err-before-in-112 c = λ b B e. rw c.from_residual-in_err-before-in-112.ensures (no_loop _ c.requires.0 _ b _ B (last_is _ c.in-112.len_at_least (omega arith)) c.in_err-before-in-112.ensures)

pub returns-in_err-body-in-112 : goal.returns-in_err-body-in-112
unfolding work work_met letters_of
returns-in_err-body-in-112 c = λ b B e.
    rw c.from_residual-in_err-body-in-112.ensures (doomed_part _ _ (word Loop) (word_ending Loop c.in_ok-before-in-112.ensures) _ (failed_body c.args.self c.args.room.now c.node_of-node.ensures b B e c.in_err-body-in-112.ensures))

pub returns-in_ok-body-in-112 : goal.returns-in_ok-body-in-112
unfolding work work_met part_ranged letters_of
returns-in_ok-body-in-112 c = λ b B e.
    took_part _ _ (word Loop) (word_ending Loop c.in_ok-before-in-112.ensures) _ refl (moved_body c.args.self c.args.room.now c.node_of-node.ensures b B e c.in_ok-body-in-112.ensures)

pub returns-in_err-before-in-121 : goal.returns-in_err-before-in-121
unfolding letters_of
returns-in_err-before-in-121 c = λ b B e. rw c.from_residual-in_err-before-in-121.ensures (no_try _ c.requires.0 _ b _ B (last_is _ c.in-121.len_at_least (omega arith)) c.in_err-before-in-121.ensures)

pub returns-in_err-body-in-121 : goal.returns-in_err-body-in-121
unfolding work work_met letters_of
returns-in_err-body-in-121 c = λ b B e.
    rw c.from_residual-in_err-body-in-121.ensures (doomed_part _ _ (word Try) (word_ending Try c.in_ok-before-in-121.ensures) _ (failed_body c.args.self c.args.room.now c.node_of-node-in-121.ensures b B e c.in_err-body-in-121.ensures))

pub returns-in_ok-body-in-121 : goal.returns-in_ok-body-in-121
unfolding work work_met part_ranged letters_of
returns-in_ok-body-in-121 c = λ b B e.
    took_part _ _ (word Try) (word_ending Try c.in_ok-before-in-121.ensures) _ refl (moved_body c.args.self c.args.room.now c.node_of-node-in-121.ensures b B e c.in_ok-body-in-121.ensures)

pub returns-in_err-before-in-101 : goal.returns-in_err-before-in-101
unfolding letters_of
returns-in_err-before-in-101 c = λ b B e. rw c.from_residual-in_err-before-in-101.ensures (no_else _ c.requires.0 _ b _ B (last_is _ c.in-101.len_at_least (omega arith)) c.in_err-before-in-101.ensures)

pub returns-in_err-otherwise-in-101 : goal.returns-in_err-otherwise-in-101
unfolding work work_met letters_of
returns-in_err-otherwise-in-101 c = λ b B e.
    rw c.from_residual-in_err-otherwise-in-101.ensures (doomed_part _ _ (word Else) (word_ending Else c.in_ok-before-in-101.ensures) _ (failed_aside (λ (A : Kept). else_frame c.args.self.left A (stack_of c.args.self c.args.room.now)) b B e c.in_err-otherwise-in-101.ensures))

pub returns-in_ok-otherwise-in-101 : goal.returns-in_ok-otherwise-in-101
unfolding work work_met part_ranged letters_of
returns-in_ok-otherwise-in-101 c = λ b B e.
    took_part _ _ (word Else) (word_ending Else c.in_ok-before-in-101.ensures) _ refl (moved_aside (λ (A : Kept). else_frame c.args.self.left A (stack_of c.args.self c.args.room.now)) b B e c.in_ok-otherwise-in-101.ensures)

pub take_heading-requires : goal.take_heading-requires
take_heading-requires c = (last_is _ c.in-110.len_at_least (omega arith), c.requires.2)

pub returns-in_default : goal.returns-in_default
returns-in_default c = λ b B e.
    let text = c.args.text.bytes.now in
    let some = c.requires.0 in
    let other : Unmet (get_or text (length text - 1) 0) = elim c.in_default.branch [
      | in_default-via-then-text-lt1 w ↦ absurd (omega (arith, ltb-true, eqb-false))
      | in_default-via-else-text-lt1+in_default-1 w ↦ record {
        heads = λ e. omega (arith, ltb-true, eqb-false);
        elses = λ e. omega (arith, ltb-true, eqb-false);
        loops = λ e. omega (arith, ltb-true, eqb-false);
        tries = λ e. omega (arith, ltb-true, eqb-false);
        bars = λ e. omega (arith, ltb-true, eqb-false);
        opens = λ e. omega (arith, ltb-true, eqb-false);
      }
    ] in
    no_chain text some _ b _ B (sym (last_at text some)) other (λ e. c.requires.1 (sym (last_at text some) ∙ e))

pub invariant_of-result : goal.invariant_of-result
invariant_of-result c = record { solid = front_apart _ c.in-91.len_at_least c.args.text.solid }
