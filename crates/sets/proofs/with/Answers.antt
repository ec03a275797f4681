-- `sets::with` meets its contract: a number below 64 is in a word of 64 bits.
use mathlib.Core.Path.{◌∙◌, ap}
use lib.Bits.{bit_or}
use Rattle.sets.specs.Set.{◌union◌}
use Rattle.sets.proofs.Members.{only_fits}
use Rattle.sets.proofs.with.Goals as goal

pub returns : goal.returns
unfolding ◌union◌
returns c = ap (bit_or c.args.set) (c.singleton.ensures ∙ only_fits 64 c.args.number c.requires)
