-- By what is asked for.
use native.Mathlib.Omega.{arith}
use Rattle.std.proofs.lemmas.Bool.Decides.{nat_tests}
use Rattle.writer.specs.inner.Texts.{level_asked, enclosed_at}
use Rattle.writer.proofs.writing.Asked.encloses.Goals as goal

pub returns-in-7 : goal.returns-in-7
unfolding level_asked enclosed_at
returns-in-7 c = rw c.in-Single.is (grind (arith, nat_tests))

pub returns-in_default : goal.returns-in_default
unfolding level_asked enclosed_at
returns-in_default c = rw c.in-Single.is (grind (arith, nat_tests))

pub returns-in_default-2 : goal.returns-in_default-2
unfolding level_asked enclosed_at
returns-in_default-2 c = rw c.in-Single.is (grind (arith, nat_tests))

pub returns-in-Chain : goal.returns-in-Chain
unfolding level_asked enclosed_at
returns-in-Chain c = rw c.in-Chain.is

pub returns-in-Whole : goal.returns-in-Whole
unfolding level_asked enclosed_at
returns-in-Whole c = rw c.in-Whole.is
