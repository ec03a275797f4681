-- `Code::from` meets its contract.
use borrow.Author.Rules.{rules}
use Rattle.esterel.specs.Codes.{code_of}
use Rattle.esterel.proofs.CodeFromLevel.from.Goals as goal

pub returns : goal.returns
unfolding code_of
returns c = search rules
