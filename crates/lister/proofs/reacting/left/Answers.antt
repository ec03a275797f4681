-- The code of an exit fits a word.
use native.Mathlib.Omega.{arith}
use Rattle.esterel.specs.Codes.{code_of}
use Rattle.lister.proofs.reacting.left.Goals as goal

pub new-requires : goal.new-requires
unfolding code_of
new-requires c = (omega arith, omega (arith, c.from.ensures, c.requires))
