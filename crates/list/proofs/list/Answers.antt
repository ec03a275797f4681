-- Each number is an element.
use mathlib.Core.Path.{ap₂}
use Prim.Native.Nat.{ℕ}
use lib.ListN.{length}
use Rattle.list.specs.Answers.{list_of}
use Rattle.list.proofs.Deliveries.{delivered_as, as_numbers, whole}
use Rattle.list.proofs.list.Goals as goal

pub returns : goal.returns
returns c =
    as_numbers (delivered_as c.listed.ensures (ap₂ (λ (o l : ℕ). list_of c.args.table.now c.args.assumed c.args.mark c.args.labels o (length c.args.k.now) l) (whole (length c.args.o.now)) (whole (length c.args.l.now))))
