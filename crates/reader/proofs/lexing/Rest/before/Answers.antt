-- `reader::lexing::Rest::before` meets its contract.
use Rattle.reader.proofs.Bytes.{split_none, split_some}
use Rattle.reader.proofs.Places.{front_solid}
use Rattle.reader.proofs.lexing.Rest.before.Goals as goal

pub returns-in_err-before : goal.returns-in_err-before
returns-in_err-before c = rw c.from_residual.ensures (λ v e. split_none _ _ v c.in_err-before.ensures.cases e)

pub invariant_of-result : goal.invariant_of-result
invariant_of-result c = record { solid = front_solid _ c.in_ok-before.before.now c.args.bytes.now (split_some _ _ c.in_ok-before.before c.in_ok-before.ensures.cases) c.args.self.solid }

pub returns : goal.returns
returns c = split_some _ _ c.in_ok-before.before c.in_ok-before.ensures.cases
