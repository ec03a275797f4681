-- `Code::through_try` meets its contract.
use native.Mathlib.Omega.{arith}
use Rattle.esterel.proofs.Passing.{as_cast, first_fits, second_fits}
use Rattle.esterel.proofs.Code.through_try.Goals as goal

pub overflow_sub-result : goal.overflow_sub-result
overflow_sub-result c = first_fits _ c.args.self.0 (omega arith)

pub overflow_sub-result-2 : goal.overflow_sub-result-2
overflow_sub-result-2 c = second_fits _ _ c.args.self.0 (omega arith)

pub returns : goal.returns
returns c = as_cast c.args.self.0
