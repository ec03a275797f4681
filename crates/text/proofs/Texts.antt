-- Texts: read exactly where they are the text of a statement, and what is written is one.
use Prim.Native.Nat.{ℕ, ◌≤◌}
use mathlib.Core.Path.{◌≡◌, refl, ap, ◌∙◌}
use mathlib.Core.Option.{Option, none, some, none-ne-some}
use mathlib.Core.List.{List}
use Rattle.esterel.specs.Statement.{Statement, depth}
use Rattle.text.specs.Parts.{Part}
use Rattle.text.specs.Grammar.{deepest_open}
use Rattle.text.specs.Spelling.{TextOf}
use Rattle.text.specs.Writing.{parts_of, write_text}
use Rattle.text.specs.inner.Machine.{read_parts}
use Rattle.text.specs.inner.Lexer.{parts_in, read_some, read_text}
use Rattle.text.proofs.Complete.{reads}
use Rattle.text.proofs.Sound.{derives}
use Rattle.text.proofs.Written.{written_text, weaken}
use Rattle.text.proofs.Lexer.{parts_spelled, parts_found, spelled_all}

-- a text is read where the grammar derives it
pub text_read : (bs : List ℕ) (p : Statement) → TextOf bs p → read_text bs ≡ some p
unfolding read_text read_some read_parts
text_read bs p t = ap read_some (parts_found t.spelled) ∙ reads t.text

-- and nowhere else
pub read_text_lem : (bs : List ℕ) (p : Statement) → read_text bs ≡ some p → TextOf bs p
unfolding read_text read_some read_parts
read_text_lem bs p e = go (parts_in bs) refl e
  where
    go : (r : Option (List Part)) → parts_in bs ≡ r → read_some r ≡ some p → TextOf bs p
    go none f g = absurd (none-ne-some p g)
    go (some ts) f g = record { parts = ts; spelled = parts_spelled bs ts f; text = derives deepest_open ts p g }

-- what is written of a statement is a text of it
pub text_written : (p : Statement) → depth p ≤ 60 → TextOf (write_text p) p
unfolding write_text
text_written p h = record { parts = parts_of p; spelled = spelled_all (parts_of p); text = weaken (written_text p h) }
