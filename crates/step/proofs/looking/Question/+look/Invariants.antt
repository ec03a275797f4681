use Rattle.sets.specs.Set.{count}
use Rattle.esterel.specs.Stepping.{signals}
use Rattle.step.proofs.looking.Question.+look.Given as goal

abbrev pub decreases-look : goal.decreases-look
decreases-look l = count signals l.among.unknown
