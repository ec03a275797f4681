-- One of the nodes up to the end of the statement names the signal.
use mathlib.Core.Path.{◌∙◌}
use Rattle.lister.proofs.Naming.{named_here}
use Rattle.lister.proofs.noted.Noted.named.Goals as goal

pub returns : goal.returns
returns c = c.some_names.ensures ∙ named_here c.args.self.now c.requires c.args.signal
