-- What writing a table answers and leaves in the buffer, by check's answer and whether the text fits.
use Prim.Native.Nat.{ℕ, ◌+◌, ◌*◌, ◌≤◌, ◌<◌}
use mathlib.Core.Path.{◌≡◌, refl, sym, ap, ap₂, ◌∙◌}
use mathlib.Core.List.{List, [], ◌∷◌, ◌++◌}
use native.Mathlib.Omega.{arith}
use lib.ListN.{length, take, drop, length-append, length-drop}
use lib.Seq.{take_at}
use borrow.Author.Tests.{lt-ltb, le-ltb}
use Rattle.esterel.specs.Statement.{Statement}
use Rattle.std.specs.Prelude.{Result, Ok, Err}
use Rattle.table.specs.declared.Refusal.{Refusal}
use Rattle.table.specs.declared.Refusal.TheVariants.{Room}
use Rattle.table.specs.Outcomes.{values, fitted, buffer_after}
use Rattle.table.specs.Reading.{Table, holds, nodes_of, deepest, table_of, checked_outcome, check_of}
use Rattle.table.specs.Writing.{nodes}
use Rattle.table.specs.inner.Loading.{loaded_after, loaded_of}
use Rattle.table.proofs.Cutting.{length_nodes_of}
use Rattle.table.proofs.Accepted.{Holds, accepted}
use Rattle.table.proofs.Loading.{load_refuses, load_holds, load_statement, load_size}
use Rattle.text.specs.Grammar.{whole}
use Rattle.text.specs.Writing.{write_text}
use Rattle.text.specs.Answers.{answer_outcome, answer_for, buffer_for, write_of, write_buffer}
use Rattle.writer.specs.inner.Texts.{text_at}
use Rattle.writer.specs.inner.Putting.{Standing, Readable, text_there, Delivered}
use Rattle.writer.proofs.Standing.{readable}
use Rattle.writer.proofs.Texts.{text_whole_is}
use Rattle.writer.proofs.Lengths.{text_short}

-- what the contract of writing says of an answer
abbrev pub Answers : List ℕ → List ℕ → Result ℕ Refusal → List ℕ → Type 0
Answers t out a out' = (answer_outcome a ≡ write_of t (length out)) × (out' ≡ write_buffer t out)

-- ---- A text that fits, and one that does not

pub delivered_short : (text out : List ℕ) → length out < length text → Delivered text out (Err Room) out
unfolding fitted buffer_after
delivered_short text out s = record { answered = rw (lt-ltb (length out) (length text) s); left = rw (lt-ltb (length out) (length text) s) }

delivered_fits : (text out : List ℕ) (r : ℕ) (out' : List ℕ) → length text ≤ length out → r ≡ length text → out' ≡ text ++ drop (length text) out
    → Delivered text out (Ok r) out'
unfolding fitted buffer_after
delivered_fits text out r out' s e f = record {
  answered = rw (le-ltb (length out) (length text) s) (ap (λ (x : ℕ). values (x ∷ [])) e);
  left = rw (le-ltb (length out) (length text) s) f;
}

-- the text is put into the buffer at once, or into an area and copied
pub delivered : {text out : List ℕ} {r : ℕ} {out' : List ℕ} → r ≤ length out → r ≡ length text → out' ≡ text ++ drop r out → Delivered text out (Ok r) out'
delivered {text} {out} {r} {out'} s e f = delivered_fits text out r out' (omega arith) e (f ∙ ap (λ (m : ℕ). text ++ drop m out) e)

pub delivered_front : {text area' out : List ℕ} {r : ℕ} {out' : List ℕ} (area : List ℕ) → r ≤ length out → r ≡ length text → area' ≡ text ++ drop r area
    → out' ≡ take r area' ++ drop r out → Delivered text out (Ok r) out'
delivered_front {text} {area'} {out} {r} area s e f g =
    let front : take r area' ≡ text = ap (take r) f ∙ take_at text (drop r area) r (sym e) in
    delivered s e (g ∙ ap (λ (bs : List ℕ). bs ++ drop r out) front)

-- ---- By what load gave

module _ (t old new : List ℕ) (c : Result ℕ Refusal) (h : (checked_outcome c ≡ check_of t) × (new ≡ loaded_of t old)) where
  pub answers_refused : (e : Refusal) → c ≡ Err e → (out : List ℕ) → Answers t out (Err e) out
  unfolding write_of write_buffer answer_for buffer_for
  answers_refused e is out = let r = load_refuses t old new c h e is in (rw r, rw r)

  module _ (n : ℕ) (e : c ≡ Ok n) (all : length old ≡ 1024) where
    abbrev held : Statement
    held = (load_holds t old new c h n e).0

    is_held : table_of t ≡ holds n held
    is_held = (load_holds t old new c h n e).1

    abbrev kept : Holds t n held
    kept = accepted t n held is_held

    -- its nodes stand in front of the buffer
    front : new ≡ nodes held ++ drop n old
    unfolding loaded_of loaded_after
    front = h.1 ∙ (rw kept.counted refl) ∙ ap (λ (xs : List ℕ). xs ++ drop n old) kept.nodes_are

    standing : Standing deepest new 0 held
    standing = record {
      all =
          ap length (front ∙ ap (λ (xs : List ℕ). xs ++ drop n old) (sym kept.nodes_are)) ∙ length-append (nodes_of t n) (drop n old)
          ∙ ap₂ ◌+◌ (length_nodes_of t n) (length-drop n old) ∙ omega (arith, kept.header.few);
      rest = drop n old;
      here = front;
      shallow = kept.deep;
      tries = 0;
      valid = kept.valid;
    }

    pub load_readable : Readable deepest new 0
    load_readable = readable standing

    pub load_few : n ≤ 1024
    load_few = kept.header.few

    -- 20 bytes suffice for each of its nodes
    pub load_short : length (text_there whole deepest new 0) ≤ 20 * n
    load_short = omega (arith, text_short _ whole _ load_readable.valid, load_size t old new c h n e)

    text_is : text_there whole deepest new 0 ≡ write_text held
    text_is = ap (text_at whole) (load_statement t old new c h n e) ∙ text_whole_is held

    pub answers_delivered : {out : List ℕ} {a : Result ℕ Refusal} {out' : List ℕ} → Delivered (text_there whole deepest new 0) out a out' → Answers t out a out'
    unfolding write_of write_buffer answer_for buffer_for
    answers_delivered {out} D = (
      D.answered ∙ ap (λ (bs : List ℕ). fitted bs (length out)) text_is ∙ sym (ap (λ (T : Table). answer_for write_text T (length out)) is_held),
      D.left ∙ ap (λ (bs : List ℕ). buffer_after (fitted bs (length out)) bs out) text_is ∙ sym (ap (λ (T : Table). buffer_for write_text T out) is_held),
    )
