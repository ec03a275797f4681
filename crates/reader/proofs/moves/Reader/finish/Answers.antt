-- `reader::moves::Reader::finish` meets its contract: the verdict is that of the machine: something is due or open, a number is outside, there are too many nodes, or it is whole.
use mathlib.Core.Path.{refl}
use native.Mathlib.Omega.{arith}
use Rattle.reader.proofs.Loops.{found_as, finished_due, finished_open, finished_outside, finished_whole}
use Rattle.reader.proofs.moves.Reader.finish.Goals as goal

pub returns-in_default : goal.returns-in_default
returns-in_default c = found_as _ _ (finished_due _ _ c.in_default.not-Met) refl

pub returns-then-self-ne-DEEPEST : goal.returns-then-self-ne-DEEPEST
returns-then-self-ne-DEEPEST c = found_as _ _ (finished_open _ _ c.in-Met.is c.requires c.if-self-ne-DEEPEST.true) refl

pub returns-then-not-self : goal.returns-then-not-self
returns-then-not-self c = found_as _ _ (finished_outside _ _ c.in-Met.is c.requires (omega arith) c.if-not-self.true) refl

pub returns : goal.returns
returns c =
    finished_whole _ _ c.in-Met.is c.requires (omega arith) c.if-not-self.false _ _ c.chain-whole.ensures.1 _ c.ok_or.ensures.value
