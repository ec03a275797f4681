-- A shift and a mask are a quotient and a remainder.
use lib.Bits.{and_mask}
use mathlib.Core.Path.{◌∙◌, ap}
use Prim.Native.Nat.{ℕ, ◌/◌, ◌%◌, ◌^◌}
use Rattle.table.proofs.reading.field_at.Goals as goal

pub returns : goal.returns
returns c = and_mask _ 10 ∙ ap (λ (w : ℕ). w / 2 ^ c.args.behind % 1024) c.word_at.ensures
