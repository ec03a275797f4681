-- What the functions that put bytes into a buffer ask and leave, and what those ask that go over the nodes of a statement.
use Rattle.std.specs.Prelude.{Result, ℕ, ◌+◌, ◌≤◌, ◌≡◌, List, ◌++◌, length, take, drop}
use Rattle.esterel.specs.Statement.{Statement, depth, Valid}
use Rattle.table.specs.Outcomes.{fitted, buffer_after}
use Rattle.table.specs.Writing.{nodes}
use Rattle.table.specs.inner.Places.{statement_at}
use Rattle.table.specs.declared.Refusal.{Refusal}
use Rattle.text.specs.Answers.{answer_outcome}
use Rattle.text.specs.Grammar.{Level}
use Rattle.writer.specs.inner.Texts.{text_at}

-- ---- Bytes in a buffer

-- a buffer, and the place in it at which the next byte is put
pub record Pen : Type 0 where
  pub place : ℕ
  pub out : List ℕ

abbrev pub pen : ℕ → List ℕ → Pen
pen place out = record { place = place; out = out }

-- there is room for the bytes
pub record Room (p : Pen) (bs : List ℕ) : Type 0 where
  pub fits : p.place + length bs ≤ length p.out

-- a buffer with the bytes put at a place
unfoldable pub put_at : ℕ → List ℕ → List ℕ → List ℕ
put_at place bs out = take place out ++ (bs ++ drop (place + length bs) out)

-- the bytes were put, and the next place is behind them
pub record Put (p : Pen) (bs : List ℕ) (p' : Pen) : Type 0 where
  pub room : Room p bs
  pub behind : p'.place ≡ p.place + length bs
  pub holds : p'.out ≡ put_at p.place bs p.out

-- ---- The statement at a place of decoded nodes

-- the nodes of a valid statement stand from a place on, no deeper than the depth that is left
pub record Standing (left : ℕ) (xs : List ℕ) (at : ℕ) (p : Statement) : Type 0 where
  pub all : length xs ≡ 1024
  pub rest : List ℕ
  pub here : drop at xs ≡ nodes p ++ rest
  pub shallow : depth p ≤ left
  pub tries : ℕ
  pub valid : Valid tries p

abbrev pub Readable : ℕ → List ℕ → ℕ → Type 0
Readable left xs at = Standing left xs at (statement_at left xs at).statement

-- the text of the statement at a place
abbrev pub text_there : Level → ℕ → List ℕ → ℕ → List ℕ
text_there l left xs at = text_at l (statement_at left xs at).statement

-- there is a statement, and room for its text
pub record Writable (l : Level) (left : ℕ) (xs : List ℕ) (at : ℕ) (p : Pen) : Type 0 where
  pub readable : Readable left xs at
  pub room : Room p (text_there l left xs at)

-- it was written, and the pass has come to the node behind it
pub record Wrote (l : Level) (left : ℕ) (xs : List ℕ) (at next : ℕ) (p p' : Pen) : Type 0 where
  pub passed : next ≡ (statement_at left xs at).next
  pub put : Put p (text_there l left xs at) p'

-- a text was delivered: the answer and the buffer are those of what fits or does not
pub record Delivered (text out : List ℕ) (answer : Result ℕ Refusal) (out' : List ℕ) : Type 0 where
  pub answered : answer_outcome answer ≡ fitted text (length out)
  pub left : out' ≡ buffer_after (fitted text (length out)) text out
