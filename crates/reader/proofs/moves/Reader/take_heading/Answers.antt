-- `reader::moves::Reader::take_heading` meets its contract: `then` or `in` stands there with its signal and word, or no parts that suit.
use mathlib.Core.Path.{refl, ap}
use mathlib.Core.List.{[], ◌∷◌}
use native.Mathlib.Omega.{arith}
use Rattle.reader.proofs.Bytes.{last_some}
use Rattle.table.specs.inner.Making.{node_of}
use Rattle.text.specs.Parts.{Signal, Present, word, signal_of}
use Rattle.text.specs.Spelling.{letters_of}
use Rattle.reader.specs.declared.moves.Reader.{Reader}
use Rattle.reader.specs.inner.Nodes.{put_on, end_frame, then_frame, work_all}
use Rattle.reader.specs.inner.Held.{stack_of, nodes_of}
use Rattle.reader.proofs.Moving.{moved_as, ready_within}
use Rattle.reader.proofs.Chains.{no_in}
use Rattle.reader.proofs.Heads.{value_most, then_doomed, then_failed, took_then, in_doomed, in_failed, took_in}
use Rattle.reader.proofs.moves.Reader.take_heading.Goals as goal

pub returns-in_err-signal : goal.returns-in_err-signal
unfolding letters_of
returns-in_err-signal c = λ b B e. rw c.from_residual.ensures (then_doomed _ b _ B c.in-Some.ensures c.skip.ensures (c.in_err-signal.ensures Present refl))

pub branch-tested-requires : goal.branch-tested-requires
unfolding letters_of
branch-tested-requires c = (value_most Present (c.in_ok-signal.ensures Present refl), ready_within c.within-tested.ensures c.requires.1)

pub returns-in_err-branch : goal.returns-in_err-branch
unfolding letters_of
returns-in_err-branch c = λ b B e.
    rw c.from_residual-in_err-branch.ensures (then_failed _ b _ B c.in-Some.ensures c.skip.ensures (c.in_ok-signal.ensures Present refl) e
    (rw c.within-tested.ensures at c.in_err-branch.ensures))

pub returns-in-Some : goal.returns-in-Some
unfolding letters_of
returns-in-Some c = λ b B e.
    took_then _ b _ B c.in-Some.ensures c.skip.ensures (c.in_ok-signal.ensures Present refl) e c.signal_ranged.ensures (ap (λ (q : Reader). q.ranged) c.within-tested.ensures)
    (moved_as c.in_ok-branch.ensures (ap (λ (q : Reader). work_all (word Present ∷ signal_of c.in_ok-signal.signal ∷ []) (then_frame q.left (nodes_of q c.args.room.now) (stack_of q c.args.room.now))) c.within-tested.ensures))

pub returns-in_err-behind : goal.returns-in_err-behind
unfolding letters_of
returns-in_err-behind c = λ b B e. rw c.from_residual-in_err-behind.ensures (no_in _ (last_some _ (omega arith) c.requires.0) _ b _ B c.requires.0 c.in_default.ensures c.in_err-behind.ensures)

pub returns-in_err-signal-2 : goal.returns-in_err-signal-2
unfolding letters_of
returns-in_err-signal-2 c = λ b B e. rw c.from_residual-in_err-signal-2.ensures (in_doomed _ b _ B c.in_ok-behind.ensures c.skip-2.ensures (c.in_err-signal-2.ensures Signal refl))

pub returns-in_err-body : goal.returns-in_err-body
unfolding letters_of
returns-in_err-body c = λ b B e.
    rw c.from_residual-in_err-body.ensures (in_failed _ b _ B c.in_ok-behind.ensures c.skip-2.ensures (c.in_ok-signal-2.ensures Signal refl) e
    (rw (c.node_of-node.ensures, c.within-declared.ensures) at c.in_err-body.ensures))

pub returns : goal.returns
unfolding letters_of
returns c = λ b B e.
    took_in _ b _ B c.in_ok-behind.ensures c.skip-2.ensures (c.in_ok-signal-2.ensures Signal refl) e c.signal_ranged-2.ensures (ap (λ (q : Reader). q.ranged) c.within-declared.ensures)
    (moved_as (rw c.node_of-node.ensures at c.in_ok-body.ensures)
    (ap (λ (q : Reader). end_frame q.left (put_on (node_of 5 c.in_ok-signal-2.signal) (nodes_of q c.args.room.now)) (stack_of q c.args.room.now)) c.within-declared.ensures))
