-- The text stands in front.
use mathlib.Core.Path.{refl}
use native.Mathlib.Omega.{arith}
use Rattle.writer.specs.inner.Texts.{level_asked}
use Rattle.writer.proofs.Putting.{put_front}
use Rattle.writer.proofs.writing.write_nodes.Goals as goal

pub put_statement-requires : goal.put_statement-requires
unfolding level_asked
put_statement-requires c = record { readable = c.requires.0; room = record { fits = omega (arith, c.requires.1) } }

pub returns-clause-end : goal.returns-clause-end
unfolding level_asked
returns-clause-end c = (put_front c.put_statement.ensures.put refl).0

pub returns-clause-text : goal.returns-clause-text
unfolding level_asked
returns-clause-text c = (put_front c.put_statement.ensures.put refl).1
