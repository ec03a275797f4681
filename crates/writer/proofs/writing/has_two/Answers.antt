-- The range is that of the definition.
use native.Mathlib.Omega.{arith}
use Rattle.std.proofs.lemmas.Bool.Decides.{nat_tests}
use Rattle.writer.specs.inner.Texts.{has_two}
use Rattle.writer.proofs.writing.has_two.Goals as goal

pub returns-in-6-to-8 : goal.returns-in-6-to-8
unfolding has_two
returns-in-6-to-8 c = grind (arith, nat_tests)

pub returns-in_default : goal.returns-in_default
unfolding has_two
returns-in_default c = grind (arith, nat_tests)

pub returns-in_default-2 : goal.returns-in_default-2
unfolding has_two
returns-in_default-2 c = grind (arith, nat_tests)
