-- `sets::singleton` meets its contract: a number past the width is in no word.
use mathlib.Core.Path.{sym}
use borrow.Author.Rules.{rules}
use Rattle.sets.specs.Set.{only}
use Rattle.sets.proofs.Members.{only_past}
use Rattle.sets.proofs.singleton.Goals as goal

pub returns-then-number-lt64 : goal.returns-then-number-lt64
unfolding only
returns-then-number-lt64 c = search rules

pub returns-else-number-lt64 : goal.returns-else-number-lt64
returns-else-number-lt64 c = sym (only_past 64 c.args.number (search rules))
