-- `table::writing::length_of` meets its contract: its definition.
use mathlib.Core.Path.{refl}
use Rattle.table.specs.Reading.{length_of}
use Rattle.table.proofs.writing.length_of.Goals as goal

pub returns : goal.returns
unfolding length_of
returns c = refl
