-- `reader::lexing::Rest::signal` meets its contract: a number stands there, S before it and no letter before that.
use Rattle.reader.proofs.Numerals.{no_signal, no_mark, signal_ending}
use Rattle.reader.proofs.lexing.Rest.signal.Goals as goal

pub returns-in_err-value : goal.returns-in_err-value
returns-in_err-value c = rw c.from_residual.ensures (no_signal _ c.in_err-value.ensures)

pub returns-in_err-before : goal.returns-in_err-before
returns-in_err-before c = rw c.from_residual-in_err-before.ensures (no_mark _ _ c.in_ok-value.ensures c.in_err-before.ensures)

pub returns : goal.returns
returns c = signal_ending c.in_ok-value.ensures c.in_ok-before.ensures
