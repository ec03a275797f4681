-- The ones of a word are the members of the set.
use native.Mathlib.Omega.{arith}
use lib.Count.{ones-le}
use borrow.Author.Rules.{rules}
use Rattle.sets.proofs.Counts.{count_ones}
use Rattle.sets.proofs.count.Goals as goal

pub overflow_cast-result : goal.overflow_cast-result
overflow_cast-result c = omega (arith, ones-le 64 c.args.set (search rules))

pub returns : goal.returns
returns c = count_ones 64 c.args.set (search rules)
