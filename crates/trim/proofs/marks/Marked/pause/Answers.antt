-- `Marked::pause` meets its contract.
use mathlib.Core.Path.{refl}
use Rattle.trim.proofs.Marking.{found_pause}
use Rattle.trim.proofs.marks.Marked.pause.Goals as goal

pub returns : goal.returns
returns c =
    found_pause c.args.r c.args.label.0 c.args.next _ c.just_at.ensures c.ended_if.ensures refl c.contains-live.ensures refl
