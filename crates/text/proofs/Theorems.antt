-- The theorems on texts: a proof of each statement of specs/Theorems.
use mathlib.Core.Path.{◌≡◌, refl, sym, ap, ◌∙◌}
use Prim.Native.Nat.{ℕ, ◌≤◌}
use mathlib.Core.Option.{Option, none, some, some-injective}
use native.Mathlib.Omega.{arith}
use Rattle.esterel.specs.Statement.{Statement}
use Rattle.table.specs.Reading.{Table, holds}
use Rattle.table.specs.Writing.{Allowed}
use Rattle.table.proofs.Accepted.{accepted}
use Rattle.table.proofs.RoundTrip.{write_read}
use Rattle.text.specs.Spelling.{TextOf}
use Rattle.text.specs.Writing.{parts_of, write_text}
use Rattle.text.specs.inner.Lexer.{read_text}
use Rattle.text.specs.Reading.{table_for, table_in}
use Rattle.text.specs.Theorems.{Unambiguous, ExactReading, ExactAccepting, ExactBreaking, RefusedAs, WrittenDepth, ReadBack, FewestBrackets, ReadWriteRead}
use Rattle.text.proofs.Written.{written_text}
use Rattle.text.proofs.Fewest.{fewest}
use Rattle.text.proofs.Lexer.{spelled_all}
use Rattle.text.proofs.Texts.{text_read, read_text_lem, text_written}
use Rattle.text.proofs.Reading.{text_accepted, accepted_text}
use Rattle.text.proofs.Refusals.{text_refused, read_unbroken}

pub exact_reading : ExactReading
exact_reading bs p = (read_text_lem bs p, text_read bs p)

pub unambiguous : Unambiguous
unambiguous bs p q t u = some-injective p q (sym (text_read bs p t) ∙ text_read bs q u)

pub exact_accepting : ExactAccepting
exact_accepting bs n p = (accepted_text bs n p, λ h. text_accepted bs p h.0 h.1 ∙ ap (λ (m : ℕ). holds m p) (sym h.2))

pub exact_breaking : ExactBreaking
unfolding table_in table_for
exact_breaking bs = (λ e p t. read_unbroken bs p (text_read bs p t) e, λ none_has. go (read_text bs) refl none_has)
  where
    go : (r : Option Statement) → read_text bs ≡ r → ((p : Statement) → TextOf bs p → ⊥) → table_for (read_text bs) ≡ Table.refused 18
    go none e h = ap table_for e
    go (some p) e h = absurd (h p (read_text_lem bs p e))

pub refused_as : RefusedAs
refused_as bs w e = text_refused bs w e

pub written_depth : WrittenDepth
unfolding write_text
written_depth p h = (spelled_all (parts_of p), written_text p h)

pub read_back : ReadBack
read_back t n p bytes e =
    let H = accepted t n p e in
    let few : n ≤ 1024 = H.header.few in
    let a : Allowed p = record { valid = H.valid; few = omega (arith, H.count); deep = H.deep } in
    (text_accepted (write_text p) p (text_written p a.deep) a ∙ ap (λ (m : ℕ). holds m p) H.count, write_read t n p bytes e)

pub fewest_brackets : FewestBrackets
fewest_brackets n ts p t = fewest t

pub read_write_read : ReadWriteRead
read_write_read bs n p e =
    let A = accepted_text bs n p e in
    text_accepted (write_text p) p (text_written p A.1.deep) A.1 ∙ ap (λ (m : ℕ). holds m p) (sym A.2)
