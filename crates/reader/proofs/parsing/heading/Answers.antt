-- `reader::parsing::heading` meets its contract: a signal stands there and the word before it, or no parts that suit.
use mathlib.Core.Path.{subst}
use mathlib.Core.List.{List}
use Prim.Native.Nat.{ℕ}
use Rattle.std.specs.Prelude.{None}
use Rattle.reader.specs.inner.Ending.{Worded, Words}
use Rattle.reader.proofs.Heads.{no_heading, other_word, heading_there}
use Rattle.reader.proofs.parsing.heading.Goals as goal

pub returns-in_err-value : goal.returns-in_err-value
returns-in_err-value c = λ w e. rw c.from_residual.ensures (no_heading _ w c.in_err-value.ensures)

pub returns-in_err-before : goal.returns-in_err-before
returns-in_err-before c = λ w e.
    rw c.from_residual-in_err-before.ensures (other_word _ _ _ w c.in_ok-value.ensures c.skip.ensures (subst (λ (ls : List ℕ). Words c.skip.result.bytes.now ls None) e c.in_err-before.ensures))

pub returns : goal.returns
returns c = λ w e.
    heading_there _ _ _ w c.in_ok-value.ensures c.skip.ensures c.in_ok-before.before.bytes.now (subst (λ (ls : List ℕ). Worded c.skip.result.bytes.now ls c.in_ok-before.before.bytes.now) e c.in_ok-before.ensures)
