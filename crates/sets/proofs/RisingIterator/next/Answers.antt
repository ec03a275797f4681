-- With each member that is given one is left less.
use Prim.Native.Nat.{◌-◌, ◌<◌}
use borrow.Author.Rules.{rules}
use lib.Bits.{bit_and}
use Rattle.sets.specs.Set.{count}
use Rattle.sets.proofs.Counts.{count_without}
use Rattle.sets.proofs.Lowest.{without_least}
use Rattle.sets.proofs.RisingIterator.next.Goals as goal

pub returns-clause-steps : goal.returns-clause-steps
returns-clause-steps c =
    let less = without_least c.least-member.result c.args.self.now.rest c.least-member.ensures.1 c.least-member.ensures.2 in
    search (rules, less)

pub returns-clause-goes : goal.returns-clause-goes
returns-clause-goes c =
    let less = without_least c.least-member.result c.args.self.now.rest c.least-member.ensures.1 c.least-member.ensures.2 in
    let fewer : count 64 (bit_and c.args.self.now.rest (c.args.self.now.rest - 1)) < count 64 c.args.self.now.rest =
    rw less (count_without 64 c.args.self.now.rest c.least-member.result c.least-member.ensures.0 c.least-member.ensures.1) in
    search rules
