-- By the kind.
use borrow.Author.Tests.{ne_eqb}
use native.Mathlib.Omega.{arith}
use Rattle.writer.specs.inner.Texts.{level_asked, second_level}
use Rattle.writer.proofs.writing.Asked.of_second.Goals as goal

pub returns-in-7 : goal.returns-in-7
unfolding level_asked second_level
returns-in-7 c = rw c.in-7.is

pub returns-in_default : goal.returns-in_default
unfolding level_asked second_level
returns-in_default c = rw (ne_eqb c.args.kind 7 (omega arith))
