-- `Around::level_out` meets its contract: no place is further in than the exit, so the difference is one.
use mathlib.Core.Path.{refl}
use Rattle.trim.specs.inner.Levels.{level_out}
use Rattle.trim.proofs.descent.Around.level_out.Goals as goal

pub returns : goal.returns
unfolding level_out
returns c = refl
