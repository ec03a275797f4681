-- `reader::lexing::ends_in_nothing` meets its contract.
use borrow.Author.Tests.{eqb-true, eq-eqb}
use Rattle.std.proofs.Common.{rules}
use Rattle.reader.proofs.Eights.{number_spelt, spelt_number}
use Rattle.reader.proofs.lexing.ends_in_nothing.Goals as goal

pub returns : goal.returns
returns c = (
  λ e. number_spelt c.args.bytes.now _ (search rules) c.from_le_bytes.ensures (search rules) (eqb-true _ _ e),
  λ e. eq-eqb _ _ (spelt_number c.args.bytes.now _ (search rules) c.from_le_bytes.ensures e),
)
