-- `reader::moves::Reader::take` meets its contract: a statement is due, or a `;` stands there, or the chain is whole and what stands before it is taken.
use mathlib.Core.Path.{refl}
use native.Mathlib.Omega.{arith}
use borrow.Author.Tests.{ltb-true, eqb-false}
use Rattle.text.specs.Parts.{semicolon}
use Rattle.text.specs.Spelling.{spelling}
use Rattle.text.specs.inner.Lexer.{is_letter}
use Rattle.reader.specs.inner.Nodes.{part_ranged, work, work_met}
use Rattle.reader.specs.inner.Held.{met_state}
use Rattle.reader.proofs.Bytes.{last_is, last_other}
use Rattle.reader.proofs.Places.{front_apart}
use Rattle.reader.proofs.Moving.{state_due, state_met}
use Rattle.reader.proofs.Taking.{took_part}
use Rattle.reader.proofs.Parting.{byte_ending}
use Rattle.reader.proofs.Chains.{whole_ready, took_whole}
use Rattle.reader.proofs.moves.Reader.take.Goals as goal
use Rattle.reader.proofs.moves.Reader.take.Goals.{then-text-lt1, else-text-lt1+in_default-1}

pub returns-in_default : goal.returns-in_default
returns-in_default c = rw (state_due c.args.self c.args.room.now c.in_default.not-Met) c.take_due.ensures

pub invariant_of-result : goal.invariant_of-result
invariant_of-result c = record { solid = front_apart _ c.in-59.len_at_least c.args.text.solid }

pub returns-in-59 : goal.returns-in-59
unfolding met_state work work_met part_ranged spelling is_letter
returns-in-59 c =
    rw (state_met c.args.self c.args.room.now c.in-Met.is)
    (took_part c.args.text.bytes.now _ semicolon (byte_ending _ semicolon c.requires.0 (last_is _ c.in-59.len_at_least (omega arith)) refl refl) _ refl (c.semicolon.ensures _ c.requires.1))

pub take_chain-requires : goal.take_chain-requires
take_chain-requires c =
    let other = last_other c.args.text.bytes.now 59 (omega arith)
    (λ l e. elim c.if-text-lt1.branch [ then-text-lt1 w ↦ omega (arith, ltb-true, eqb-false) | else-text-lt1+in_default-1 w ↦ omega (arith, ltb-true, eqb-false) ]) in
    (c.requires.0, other, whole_ready c.requires.1 c.chain-whole.ensures.0 c.chain-whole.ensures.1 c.chain-whole.ensures.2)

pub returns : goal.returns
returns c =
    rw (state_met c.args.self c.args.room.now c.in-Met.is)
    (took_whole _ _ _ c.args.room.now c.chain-whole.new.room c.chain-whole.ensures.0 c.chain-whole.ensures.1 c.chain-whole.ensures.2 c.take_chain.result c.take_chain.new.room c.take_chain.ensures)
