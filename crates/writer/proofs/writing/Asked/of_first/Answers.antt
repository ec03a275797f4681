-- By the kind.
use borrow.Author.Tests.{ne_eqb}
use native.Mathlib.Omega.{arith}
use Rattle.writer.specs.inner.Texts.{level_asked, first_level}
use Rattle.writer.proofs.writing.Asked.of_first.Goals as goal

pub returns-in-7 : goal.returns-in-7
unfolding level_asked first_level
returns-in-7 c = rw c.in-7.is

pub returns-in-8 : goal.returns-in-8
unfolding level_asked first_level
returns-in-8 c = rw c.in-8.is

pub returns-in_default : goal.returns-in_default
unfolding level_asked first_level
returns-in_default c = rw (ne_eqb c.args.kind 7 (omega arith), ne_eqb c.args.kind 8 (omega arith))
