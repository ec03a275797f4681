-- `sets::least` meets its contract.
use native.Mathlib.Omega.{arith}
use borrow.Author.Rules.{rules}
use Rattle.sets.proofs.Members.{least_within, least_member, least_first}
use Rattle.sets.proofs.least.Goals as goal

pub overflow_cast-result : goal.overflow_cast-result
overflow_cast-result c = omega (arith, least_within 64 c.args.set (search rules) c.requires)

pub returns : goal.returns
returns c = (
  least_within 64 c.args.set (search rules) c.requires,
  least_member 64 c.args.set (search rules) c.requires,
  least_first 64 c.args.set (search rules) c.requires,
)
