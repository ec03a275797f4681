-- Each number is its bytes.
use Rattle.list.proofs.Deliveries.{as_bytes}
use Rattle.list.proofs.list_bytes.Goals as goal

pub returns : goal.returns
returns c = as_bytes c.listed.ensures
