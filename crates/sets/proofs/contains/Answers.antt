-- `sets::contains` meets its contract: a shift and a mask are the test of `has`, and no number past the width is a member.
use mathlib.Core.Path.{sym}
use borrow.Author.Rules.{rules}
use Rattle.sets.proofs.Members.{has_word, past_width}
use Rattle.sets.proofs.contains.Goals as goal

pub returns-then-number-lt64 : goal.returns-then-number-lt64
returns-then-number-lt64 c = has_word c.args.set c.args.number

pub returns-else-number-lt64 : goal.returns-else-number-lt64
returns-else-number-lt64 c = sym (past_width 64 c.args.set c.args.number (search rules) (search rules))
